pub mod Counts
pub mod Halves
pub mod Packed
pub mod Voters
