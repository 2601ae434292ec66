pub mod Types
pub mod Access
pub mod Outcome
