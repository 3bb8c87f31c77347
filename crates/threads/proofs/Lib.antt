pub mod Own
pub mod Marks
pub mod Project
pub mod Sorted
pub mod Alone
pub mod Theorem
pub mod Exists
