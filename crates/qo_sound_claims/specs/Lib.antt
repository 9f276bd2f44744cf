pub mod ClaimsKept
pub mod ClaimsStay
pub mod SoundBackends
pub mod SoundClaims
pub mod SoundRings
