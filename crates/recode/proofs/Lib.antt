pub mod Same
pub mod Steps
