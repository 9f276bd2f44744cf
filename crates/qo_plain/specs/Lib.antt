pub mod Detached
pub mod Detaching
pub mod Gone
pub mod Taken
pub mod Unrolled
pub mod Plugged
pub mod Places
