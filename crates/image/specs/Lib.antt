pub mod Entries
pub mod Types
pub mod Image
pub mod Door
pub mod Registered
