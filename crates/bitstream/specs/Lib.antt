pub mod Fitting
pub mod Plans
pub mod Puts
pub mod Theorem
