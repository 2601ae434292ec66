pub mod Laid
pub mod Picture
pub mod Layers
pub mod Ready
pub mod Planned
pub mod Drawn
