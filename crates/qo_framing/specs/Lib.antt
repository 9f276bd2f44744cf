pub mod Classes
pub mod Cut
pub mod Framers
pub mod Fronts
pub mod Laws
pub mod Parts
pub mod Scanning
