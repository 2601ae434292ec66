pub mod Homes
pub mod Stream
pub mod Counts
pub mod Written
pub mod Put
