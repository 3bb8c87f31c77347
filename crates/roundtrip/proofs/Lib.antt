pub mod Operands
pub mod Words
pub mod Told
pub mod Back
pub mod Round
pub mod Placing
pub mod Again
pub mod Why
