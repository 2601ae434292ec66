pub mod Decoded
pub mod Types
pub mod Command
pub mod Numbers
pub mod Pairs
