pub mod Model
pub mod Index
pub mod Batch
pub mod Runs
