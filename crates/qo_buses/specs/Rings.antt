-- The ring that a device has claimed (docs/PROFILE.md, rings).
use Rattle.std.specs.Prelude.{ℕ, List, [], ◌∷◌, codes, Option, Some, None, if◌then◌else◌}
use Rattle.std.specs.Option.{option_and_then}
use Rattle.qo_model.specs.Board.{Board}
use Rattle.qo_model.specs.Devices.{is_realized, text_at}

-- the empty text names no ring
abbrev pub named_ring : List ℕ → Option (List ℕ)
named_ring [] = None
named_ring (c ∷ cs) = Some (c ∷ cs)

-- the id that its chardev names, where it is realized
abbrev pub claimed_ring : Board → ℕ → Option (List ℕ)
claimed_ring b d = if is_realized b d then option_and_then named_ring (text_at b d (codes "chardev")) else None
