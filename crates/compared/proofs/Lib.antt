pub mod Complete
pub mod First
pub mod Together
pub mod Means
pub mod Exchange
pub mod Listed
pub mod Lines
