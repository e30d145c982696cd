pub mod Tables
pub mod Making
pub mod Replies
pub mod Runs
pub mod Replacing
pub mod Recorded
