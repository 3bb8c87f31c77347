pub mod First
pub mod Forms
pub mod Steps
pub mod Candidates
pub mod Found
pub mod Loop
