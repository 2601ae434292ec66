pub mod Rehearsings
