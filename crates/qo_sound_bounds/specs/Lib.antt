pub mod BoundsKept
pub mod HoldsKept
pub mod SegmentsKept
pub mod SoundBounds
pub mod SoundHolds
pub mod SoundSegments
pub mod SoundSources
pub mod SourcesKept
