pub mod Types
pub mod Exports
