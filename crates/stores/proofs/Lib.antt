pub mod Calls
pub mod Lists
pub mod Pieces
pub mod Rings
pub mod Runs
pub mod Words
