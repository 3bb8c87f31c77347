pub mod Row
pub mod Reads
