pub mod Asked
pub mod Examples
pub mod Items
pub mod Laws
pub mod Parts
pub mod Questions
pub mod Surveys
pub mod Walks
