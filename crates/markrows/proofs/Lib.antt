pub mod Setting
mod Parts
