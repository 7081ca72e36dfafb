pub mod Netlists
pub mod NotYet
pub mod Building
pub mod Rows
pub mod Works
pub mod Lowerings
pub mod Starts
