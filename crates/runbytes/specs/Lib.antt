pub mod RunBytes
pub mod Space
