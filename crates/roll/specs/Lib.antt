pub mod Totals
pub mod Entries
pub mod Links
pub mod Table
pub mod Moves
pub mod Entering
pub mod Sums
