pub mod Order
pub mod Values
pub mod Fibre
pub mod Laws
pub mod Examples
