pub mod Code
pub mod Fabrics
pub mod Implements
pub mod Laws
pub mod Numbers
pub mod Sides
pub mod Ticks
