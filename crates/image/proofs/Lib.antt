pub mod Images
pub mod Doors
pub mod Registries
pub mod Settled
