pub mod Refusals
pub mod Requests
pub mod Text
