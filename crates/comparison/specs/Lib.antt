pub mod Types
pub mod Apart
pub mod Verdict
pub mod Ready
pub mod Claims
