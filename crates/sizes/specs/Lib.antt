pub mod Sizes
pub mod Lent
