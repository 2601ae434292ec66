pub mod Notes
pub mod Laying
pub mod Singly
