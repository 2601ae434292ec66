pub mod Answered
pub mod Located
pub mod Types
pub mod Seen
pub mod Position
pub mod Sight
pub mod Ready
pub mod Steps
