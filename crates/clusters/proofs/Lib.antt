pub mod Windows
pub mod Following
pub mod Hits
pub mod Spacing
pub mod Longests
