mod Digits
mod Ends
pub mod Walks
