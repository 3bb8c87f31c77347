pub mod Encoded
pub mod Run
pub mod Returned
