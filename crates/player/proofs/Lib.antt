pub mod Building
pub mod Expressions
pub mod Fetching
pub mod Passing
pub mod Listing
pub mod Ticking
pub mod Streaming
pub mod Failing
