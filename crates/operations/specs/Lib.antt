pub mod Operation
pub mod Action
