-- For proofs alone. How two lists of layers are merged.
use Rattle.std.specs.Prelude.{◌≡◌, ℕ, ◌+◌, ◌≤◌, ◌<◌, List, [], ◌∷◌, Option, Some, None}
use Rattle.std.specs.Option.{option_map}
use Rattle.qo_memmap.specs.declared.merge.Layer.{Layer}
use Rattle.qo_memmap.specs.declared.merge.Order.{Order}
use Rattle.qo_memmap.specs.declared.merge.Run.{Run}
use Rattle.qo_memmap.specs.declared.region.TheConstants.{ADDRESS_LIMIT}
use Rattle.qo_memmap.specs.Spans.{OffsetsFit}
use Rattle.qo_memmap.specs.Windows.{layers_show, layer_seen, spans_of, AreSpans, over_by, LieBetween}

abbrev pub layer_end : Layer → ℕ
layer_end layer = layer.span.at + layer.span.size

-- layers that are left at an address: the first ends behind it
abbrev pub IsAhead : ℕ → ℕ → List Layer → Type 0
IsAhead at high [] = Unit {0}
IsAhead at high (layer ∷ layers) = (at < layer_end layer) × (1 ≤ layer.span.size) × LieBetween (layer_end layer) high (spans_of layers)

-- the first of the layers that are left ends no earlier than an address
abbrev pub ReachesTo : ℕ → List Layer → Type 0
ReachesTo until [] = Unit {0}
ReachesTo until (layer ∷ layers) = until ≤ layer_end layer

abbrev pub HoldsSome : ℕ → ℕ → Option Layer → Type 0
HoldsSome at until None = Unit {0}
HoldsSome at until (Some layer) = (layer.span.at ≤ at) × (until ≤ layer_end layer) × (layer.span.offset + layer.span.size ≤ ADDRESS_LIMIT)

-- up to where layers show the same as at an address
pub record IsRun (left : List Layer) (at end : ℕ) (run : Run) : Type 0 where
  pub some : at < run.until
  pub within : run.until ≤ end
  pub reaches : ReachesTo run.until left
  pub held : HoldsSome at run.until run.shown
  pub same : (a : ℕ) → at ≤ a → a < run.until → layers_show left a ≡ option_map (layer_seen a) run.shown

-- the layers that are left from a later address on show the same from there on
abbrev pub IsPassed : List Layer → ℕ → List Layer → Type 0
IsPassed old until new = (at high : ℕ) → at < until → IsAhead at high old → ReachesTo until old → OffsetsFit (spans_of old)
    → IsAhead until high new × OffsetsFit (spans_of new) × ((a : ℕ) → until ≤ a → layers_show new a ≡ layers_show old a)

-- two lists of layers as one
pub record IsMerged (first later : List Layer) (order : Order) (end : ℕ) (merged : List Layer) : Type 0 where
  pub are : AreSpans end (spans_of merged)
  pub exact : (a : ℕ) → layers_show merged a ≡ over_by order (layers_show first a) (layers_show later a)

-- they are one up to an address; from there on these are left of each
pub record IsMerging (first later : List Layer) (order : Order) (end : ℕ) (first_left later_left merged : List Layer) (at : ℕ) : Type 0 where
  pub within : at ≤ end
  pub first_ahead : IsAhead at end first_left
  pub first_fit : OffsetsFit (spans_of first_left)
  pub first_same : (a : ℕ) → at ≤ a → layers_show first_left a ≡ layers_show first a
  pub later_ahead : IsAhead at end later_left
  pub later_fit : OffsetsFit (spans_of later_left)
  pub later_same : (a : ℕ) → at ≤ a → layers_show later_left a ≡ layers_show later a
  pub are : AreSpans at (spans_of merged)
  pub done : (a : ℕ) → a < at → layers_show merged a ≡ over_by order (layers_show first a) (layers_show later a)
