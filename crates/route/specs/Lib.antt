pub mod Layouts
pub mod Plain
pub mod Nets
