pub mod Types
pub mod Watched
pub mod Runs
pub mod Claims
