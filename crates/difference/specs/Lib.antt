pub mod Short
pub mod Change
pub mod Differing
pub mod Drawing
