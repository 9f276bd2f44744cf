pub mod OrderKept
pub mod SoundOrder
pub mod SoundValues
pub mod TypesKept
pub mod ValuesKept
