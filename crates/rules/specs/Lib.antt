pub mod Bins
pub mod Rules
pub mod Averages
pub mod FixedNumbers
pub mod Positions
pub mod Counts
