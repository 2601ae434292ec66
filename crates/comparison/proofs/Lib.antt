pub mod Aparts
pub mod Verdicts
pub mod Claimed
