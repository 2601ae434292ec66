pub mod Stretches
pub mod Turning
pub mod RunDoors
pub mod RunRights
