pub mod Inside
pub mod Left
pub mod Promise
pub mod Slots
pub mod Turns
