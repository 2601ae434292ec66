pub mod Puts
pub mod Decimals
pub mod Texts
pub mod Prints
pub mod Screens
pub mod Pieces
