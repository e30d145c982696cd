pub mod Listed
pub mod Batches
pub mod Histories
