pub mod Form
pub mod Bytes
pub mod Examples
pub mod Typed
pub mod Back
pub mod Spelling
pub mod Decoded
