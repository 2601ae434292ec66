pub mod Acts
pub mod Settled
