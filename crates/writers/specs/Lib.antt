pub mod Types
pub mod Replied
pub mod Listing
pub mod Listed
pub mod Ready
pub mod Claims
