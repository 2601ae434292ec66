pub mod Types
pub mod Access
pub mod Run
pub mod Split
pub mod Skip
pub mod SplitOn
pub mod Ready
