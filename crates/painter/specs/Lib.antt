pub mod Ready
pub mod Drawn
