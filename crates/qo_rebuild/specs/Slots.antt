-- For proofs alone. Where the slot of a device stands among its properties.
use Rattle.std.specs.Prelude.{Bool, if◌then◌else◌, List, [], ◌∷◌, codes}
use Rattle.std.specs.Cmp.Lexicographic.{slice_cmp}
use Rattle.std.specs.Ordering.{is_le, nat_cmp}
use Rattle.std.specs.Str.{bytes_eq}
use Rattle.qo_model.specs.Objects.{Given}

-- whether the name of a property is no earlier than that of the slot
abbrev pub is_from_slot : Given → Bool
is_from_slot p = is_le (slice_cmp nat_cmp (codes "slot") p.0)

-- properties of which the first, where it is a slot, is left out
abbrev pub behind_slot : List Given → List Given
behind_slot [] = []
behind_slot (p ∷ props) = if bytes_eq (codes "slot") p.0 then props else p ∷ props
