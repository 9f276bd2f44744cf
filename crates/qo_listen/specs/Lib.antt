pub mod Ears
pub mod Sought
pub mod Texts
