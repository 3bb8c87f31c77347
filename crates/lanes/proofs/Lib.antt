pub mod Halves
pub mod Bounds
pub mod Stores
pub mod Columns
