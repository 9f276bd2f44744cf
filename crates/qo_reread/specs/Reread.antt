-- For a law alone. The description of a board is read back from its text (RFC 8259).
use Rattle.std.specs.Prelude.{◌≡◌, Some}
use Rattle.qo_model.specs.Board.{Board}
use Rattle.qo_save.specs.Described.{described}
use Rattle.qo_save.specs.Description.{Description, description_text}
use Rattle.qo_save.specs.Shape.{description_from}
use Rattle.qo_sound_claims.specs.SoundRings.{SoundRings}
use Rattle.qo_sound_order.specs.SoundValues.{SoundValues}
use Rattle.qo_ways.specs.Ways.{IsInOrder}

-- where a board has a description, that is what its text says
abbrev pub RereadLaw : Type 0
RereadLaw = (b : Board) (d : Description) → IsInOrder b → SoundValues b → SoundRings b → described b ≡ Some d → description_from (description_text d) ≡ Some d
