pub mod Passing
pub mod Joins
pub mod Least
