pub mod Modulo
pub mod Shifts
pub mod Inserts
