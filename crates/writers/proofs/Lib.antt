pub mod Holding
pub mod Holds
pub mod Throughs
pub mod Follows
pub mod Claimed
