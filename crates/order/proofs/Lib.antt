pub mod Rules
pub mod Seeks
pub mod Parts
pub mod Commutes
pub mod Settled
