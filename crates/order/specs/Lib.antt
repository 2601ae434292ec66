pub mod Order
pub mod Replies
pub mod Swapping
