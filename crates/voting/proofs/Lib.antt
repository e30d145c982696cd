pub mod Back
pub mod Blocking
pub mod Least
pub mod Lowest
pub mod Puts
