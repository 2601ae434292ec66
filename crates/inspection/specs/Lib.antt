pub mod Types
pub mod Named
pub mod Look
pub mod Inspected
pub mod Claims
pub mod First
