pub mod Watches
pub mod Owns
pub mod Firsts
pub mod PairsPlace
