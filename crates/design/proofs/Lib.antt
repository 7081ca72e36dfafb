pub mod First
pub mod Reading
pub mod Exprs
pub mod Summing
pub mod Passing
pub mod Sound
pub mod Filled
