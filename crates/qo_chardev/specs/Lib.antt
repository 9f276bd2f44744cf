pub mod Failures
pub mod Laws
pub mod Parts
pub mod Rings
pub mod Texts
