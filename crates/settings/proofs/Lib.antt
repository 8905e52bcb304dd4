pub mod Applying
pub mod Asked
pub mod Decoding
pub mod Masks
pub mod Ranges
pub mod Roundtrip
pub mod Staying
