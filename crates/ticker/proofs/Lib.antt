pub mod Follows
pub mod Hears
pub mod Judged
pub mod Locks
