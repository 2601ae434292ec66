pub mod Derived
pub mod Follows
pub mod Refreshes
pub mod Rights
pub mod Settled
pub mod Stills
