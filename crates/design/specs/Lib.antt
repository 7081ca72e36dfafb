pub mod Designs
pub mod Numbers
pub mod Refusals
pub mod Summaries
pub mod Encodings
