pub mod Bounded
pub mod Answering
pub mod Votes
pub mod Known
pub mod Outcomes
pub mod Stamps
pub mod Performs
pub mod Replacing
