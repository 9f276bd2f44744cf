pub mod Beside
pub mod Given
pub mod Told
