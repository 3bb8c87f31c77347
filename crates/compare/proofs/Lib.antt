pub mod Going
pub mod Begin
