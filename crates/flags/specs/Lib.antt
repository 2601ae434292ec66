pub mod Types
pub mod Flags
pub mod Follow
pub mod Outcome
pub mod Ready
pub mod Claims
