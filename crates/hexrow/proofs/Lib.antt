pub mod Numbers
pub mod Lines
pub mod Rows
pub mod Told
