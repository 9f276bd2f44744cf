pub mod Reads
pub mod Said
pub mod Texts
