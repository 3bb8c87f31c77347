pub mod Modulo
pub mod Distance
pub mod Caps
pub mod Factors
pub mod Results
