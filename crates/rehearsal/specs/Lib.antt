pub mod Demand3
pub mod Reorders
pub mod Changes
pub mod Asks
pub mod Rehearsed
pub mod BenchPoints
