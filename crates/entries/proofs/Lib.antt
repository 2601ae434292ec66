pub mod Listings
pub mod Enterings
pub mod Settled
