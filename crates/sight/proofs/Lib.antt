pub mod Lines
pub mod Positions
pub mod Readied
pub mod Sights
pub mod Cells
