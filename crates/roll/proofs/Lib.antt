pub mod Links
pub mod Walk
