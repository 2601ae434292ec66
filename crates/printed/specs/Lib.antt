pub mod Text
pub mod Put
pub mod Printed
pub mod Screen
pub mod Parts
pub mod Ready
