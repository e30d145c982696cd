pub mod Bounded
pub mod Counts
pub mod Ones
pub mod Polls
pub mod Raising
