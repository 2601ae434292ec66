pub mod Plays
pub mod Frees
pub mod Parted
