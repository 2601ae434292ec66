pub mod Lengths
pub mod Puts
pub mod Loops
pub mod Apart
pub mod Bodies
pub mod Answers
