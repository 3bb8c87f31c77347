pub mod Flags
pub mod Write
pub mod Layout
