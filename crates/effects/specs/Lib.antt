pub mod Types
pub mod Effect
pub mod Machine
