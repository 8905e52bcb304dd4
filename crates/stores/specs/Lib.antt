pub mod Cells
pub mod Places
pub mod Queues
pub mod Runs
pub mod Sound
pub mod Store
