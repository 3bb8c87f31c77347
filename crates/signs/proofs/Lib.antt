pub mod Modulo
pub mod Shifts
