pub mod Spreads
pub mod Asks
