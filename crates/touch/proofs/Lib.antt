pub mod Anys
pub mod Meets
pub mod Searched
pub mod Marks
