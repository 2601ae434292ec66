pub mod Printing
pub mod Ready
