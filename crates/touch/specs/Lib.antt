pub mod Types
pub mod Touch
pub mod Marked
pub mod Ready
