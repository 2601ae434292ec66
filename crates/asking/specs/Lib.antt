pub mod Asking
pub mod Spread
