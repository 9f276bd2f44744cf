-- When the backends of a board are sound: its rings, and what its devices claim of rings, memory and addresses.
use Rattle.qo_model.specs.Board.{Board}
use Rattle.qo_sound_claims.specs.SoundClaims.{SoundClaims}
use Rattle.qo_sound_claims.specs.SoundRings.{SoundRings}

-- its rings are sound, and so are the claims of its devices
pub record SoundBackends (b : Board) : Type 0 where
  pub rings : SoundRings b
  pub claims : SoundClaims b
