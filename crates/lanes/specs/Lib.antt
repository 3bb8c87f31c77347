pub mod Sources
pub mod Results
