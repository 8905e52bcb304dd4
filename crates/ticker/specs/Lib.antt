pub mod Laws
pub mod Range
pub mod Runs
pub mod Step
