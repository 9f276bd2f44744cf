pub mod DeviceScope
pub mod TreeKept
pub mod NotesKept
pub mod PlugOutcomes
pub mod NoTimers
