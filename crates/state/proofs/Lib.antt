pub mod Halves
pub mod LeftOver
pub mod Rounds
pub mod Sizes
pub mod Tables
pub mod Valid
pub mod Widths
pub mod RefusalNumbers
