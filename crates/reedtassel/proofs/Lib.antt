pub mod Encoding
pub mod Again
