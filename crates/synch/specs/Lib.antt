pub mod Laws
pub mod Packed
pub mod Status
pub mod Vote
