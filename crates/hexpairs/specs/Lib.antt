pub mod Pairs
pub mod Reads
