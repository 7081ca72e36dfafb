pub mod Arithmetic
pub mod Locality
