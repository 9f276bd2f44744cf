pub mod Addresses
pub mod Recount
pub mod Rings
