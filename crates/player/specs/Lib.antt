pub mod Operations
pub mod Players
pub mod Plays
pub mod Tables
