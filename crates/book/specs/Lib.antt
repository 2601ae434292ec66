pub mod Replies
pub mod Operation
pub mod Pairs
pub mod Range
pub mod Screen
pub mod Checked
pub mod Numbers
