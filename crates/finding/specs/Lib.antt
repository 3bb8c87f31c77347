pub mod First
pub mod Candidates
