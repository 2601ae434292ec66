pub mod Listed
pub mod Entered
