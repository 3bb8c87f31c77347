pub mod Cache
pub mod Ran
