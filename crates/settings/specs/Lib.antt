pub mod Examples
pub mod Fields
pub mod Force
pub mod Modes
pub mod Order
pub mod Questions
pub mod Settings
pub mod Words
