pub mod Orders
pub mod Doors
pub mod Claimed
