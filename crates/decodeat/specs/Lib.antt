pub mod DecodeAt
