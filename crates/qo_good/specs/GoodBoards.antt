-- For a law alone. Whose descriptions are good.
use Rattle.std.specs.Prelude.{◌≡◌, Some}
use Rattle.qo_model.specs.Board.{Board}
use Rattle.qo_save.specs.Described.{described}
use Rattle.qo_save.specs.Description.{Description}
use Rattle.qo_sound_bounds.specs.SoundBounds.{SoundBounds}
use Rattle.qo_sound_bounds.specs.SoundSources.{SoundSources}
use Rattle.qo_sound_claims.specs.SoundBackends.{SoundBackends}
use Rattle.qo_sound_clocks.specs.SoundClocks.{SoundClocks}
use Rattle.qo_sound_clocks.specs.SoundNumbers.{SoundNumbers}
use Rattle.qo_ways.specs.Ways.{IsInOrder}
use Rattle.qo_good.specs.Good.{Good}

-- a board is in order, and sound in all that its description is of
pub record IsWhole (b : Board) : Type 0 where
  pub order : IsInOrder b
  pub backends : SoundBackends b
  pub clocks : SoundClocks b
  pub numbers : SoundNumbers b
  pub sources : SoundSources b
  pub bounds : SoundBounds b

-- the description of such a board, where it has one, is good
pub record GoodLaw : Type 0 where
  pub good : (b : Board) (d : Description) → IsWhole b → described b ≡ Some d → Good d
