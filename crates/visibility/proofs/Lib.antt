pub mod Clocks
pub mod Chains
