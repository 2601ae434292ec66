pub mod Types
pub mod Pairs
pub mod Noted
pub mod Blocked
