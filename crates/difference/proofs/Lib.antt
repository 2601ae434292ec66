pub mod Comparing
pub mod Ends
pub mod Shorts
pub mod Screens
pub mod Answers
