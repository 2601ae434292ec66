pub mod Asking
pub mod Entries
pub mod Numbers
pub mod Opening
pub mod Soundness
