pub mod Types
pub mod Stretch
pub mod Noted
pub mod Notes
pub mod Laid
pub mod Said
