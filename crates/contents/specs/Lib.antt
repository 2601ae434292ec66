pub mod Contents
pub mod Inside
pub mod Replies
pub mod Spans
pub mod Asked
pub mod Numbers
