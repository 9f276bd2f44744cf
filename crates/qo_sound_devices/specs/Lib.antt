pub mod DeviceRuns
pub mod DevicesKept
pub mod DeviceFacts
pub mod ListsKept
pub mod PlacesKept
pub mod SoundDevices
pub mod SoundLists
pub mod SoundPlaces
