pub mod Table
pub mod Protocol
pub mod History
pub mod Statements
pub mod Example
