pub mod Storing
pub mod Planes
pub mod Bodies
pub mod Plannings
pub mod Settled
