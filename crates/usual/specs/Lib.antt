pub mod Done
pub mod Types
pub mod Ready
