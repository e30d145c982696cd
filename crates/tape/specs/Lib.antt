pub mod Kinds
pub mod Layout
pub mod Reading
pub mod Records
pub mod Trips
pub mod Writing
