pub mod Spelling
pub mod Rows
pub mod Exactly
pub mod Again
pub mod Calls
