-- For proofs alone. A device that is made with its further objects and no values, for an attempt that is given up at once.
use Rattle.std.specs.Prelude.{◌≡◌, ℕ, Bool, filter, is_some, take, slice_get, Some}
use Rattle.qo_values.specs.declared.kinds.TypeId.{TypeId}
use Rattle.qo_model.specs.Board.{Board}
use Rattle.qo_model.specs.Objects.{with_attempt}
use Rattle.qo_model.specs.Plug.{further_in, properties_made}
use Rattle.qo_model.specs.Types.{slots_of}
use Rattle.qo_model.specs.declared.properties.Property.{Property}
use Rattle.qo_model.specs.declared.properties.PropertyRole.TheVariants.{Child}
use Rattle.qo_heap.specs.Objects.{Objects}
use Rattle.qo_plug.specs.Drafts.{Makes}

-- whether a property is a further object
abbrev pub is_further : Property → Bool
is_further p = is_some (further_in p)

-- of the first properties of a device, the further objects were made
abbrev pub further_made : ℕ → TypeId → ℕ → Board → Board
further_made n t k b = properties_made n t (filter is_further (take k (slots_of t))) b

-- how far it came: those of the first properties were made; or the next one was made too, and has ended
pub data FurtherFell (n : ℕ) (t : TypeId) (v w : Objects) : Type 0 where
  ceased : (k : ℕ) → Makes (further_made n t k) v w → FurtherFell n t v w
  loose : (k : ℕ) (p : Property) (further : TypeId) → slice_get (slots_of t) k ≡ Some p → p.role ≡ Child further
      → Makes (λ c. with_attempt (further_made n t k c) further) v w → FurtherFell n t v w
