pub mod ShapesKept
pub mod ShapeFacts
pub mod SoundShape
pub mod OwnersKept
pub mod SoundOwners
