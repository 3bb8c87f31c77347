pub mod Digits
pub mod Program
