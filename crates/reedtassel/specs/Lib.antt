pub mod EncodeForm
pub mod Run
