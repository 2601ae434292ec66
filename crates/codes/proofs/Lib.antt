pub mod Computed
pub mod Heights
pub mod Numbers
pub mod Settled
