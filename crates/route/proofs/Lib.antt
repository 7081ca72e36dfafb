pub mod Ways
pub mod Laid
