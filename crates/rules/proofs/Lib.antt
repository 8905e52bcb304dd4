pub mod Bins
pub mod Bounds
pub mod Shifting
