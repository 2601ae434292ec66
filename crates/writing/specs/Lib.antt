pub mod Types
pub mod Writing
