pub mod Left
pub mod Apart
pub mod Seen
pub mod Room
pub mod Alike
