pub mod Types
pub mod Following
