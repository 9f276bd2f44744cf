pub mod Unparenting
pub mod BoardParts
pub mod Feeding
pub mod RealizedClaims
pub mod Unrealizing
