pub mod Patterns
pub mod Clusters
pub mod Laws
pub mod Quiet
