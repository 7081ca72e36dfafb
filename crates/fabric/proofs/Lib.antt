pub mod Coding
pub mod Geometry
pub mod Indices
pub mod Readings
pub mod Refusing
pub mod Settling
pub mod States
pub mod Sweeps
