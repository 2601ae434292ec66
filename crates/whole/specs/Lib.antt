pub mod Whole
pub mod Played
