pub mod Samples
pub mod Runs
