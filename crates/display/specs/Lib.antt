pub mod Types
pub mod Displayed
pub mod Frame
pub mod Drawable
pub mod Shaded
pub mod Layers
pub mod OneRow
pub mod Flagged
