-- For proofs alone. How a flat view is made.
use Rattle.std.specs.Prelude.{◌≡◌, ℕ, ◌+◌, ◌-◌, ◌≤◌, ◌<◌, ◌⊎◌, Bool, ◌&&◌, nat_lt, nat_le, if◌then◌else◌, ℤ, true, List, [], ◌∷◌, map, length, slice_index, Option, Some, None}
use Rattle.qo_memmap.specs.declared.map.TheConstants.{MAX_RANK, MAX_REGIONS}
use Rattle.qo_memmap.specs.declared.region.Place.{Place}
use Rattle.qo_memmap.specs.declared.region.Region.{Region}
use Rattle.qo_memmap.specs.declared.region.TheConstants.{ADDRESS_LIMIT}
use Rattle.qo_memmap.specs.declared.span.Span.{Span}
use Rattle.qo_memmap.specs.declared.merge.Layer.{Layer}
use Rattle.qo_memmap.specs.declared.merge.Order.{Order}
use Rattle.qo_memmap.specs.declared.merge.Order.TheVariants.{ByPriority, LaterFirst}
use Rattle.qo_memmap.specs.declared.window.Window.{Window}
use Rattle.qo_memmap.specs.Regions.{Target, Seen, over, Area, area_of, area_at, names_below, is_in_range, area_rank}
use Rattle.qo_memmap.specs.Spans.{in_span, span_shows, spans_show, AreWhole, OffsetsFit}

-- windows

-- a window is not empty, lies in a region of so many bytes, and stands below the limit
pub record WindowFits (w : Window) (size : ℕ) : Type 0 where
  pub some : 1 ≤ w.size
  pub inside : w.from + w.size ≤ size
  pub below : w.at + w.size ≤ ADDRESS_LIMIT

abbrev pub in_window : Window → ℕ → Bool
in_window w a = nat_le w.at a && nat_lt a (w.at + w.size)

-- what is seen through a window on what is shown
abbrev pub through : {X : Type 0} → Window → (ℕ → Option X) → ℕ → Option X
through w shows a = if in_window w a then shows (w.from + (a - w.at)) else None

-- a window on a child: it stands in the parent's window, and what lies outside of it is outside of the child
pub record IsPart (w part : Window) (at size : ℕ) : Type 0 where
  pub fits : WindowFits part size
  pub begin : w.at ≤ part.at
  pub end : part.at + part.size ≤ w.at + w.size
  pub same : part.from + at ≡ w.from + (part.at - w.at)
  pub outside : (x : ℕ) → w.from ≤ x → x < w.from + w.size → (x < part.from + at) ⊎ (part.from + at + part.size ≤ x) → (x < at) ⊎ (at + size ≤ x)

abbrev pub IsChildWindow : Window → ℕ → ℕ → Option Window → Type 0
IsChildWindow w at size None = (x : ℕ) → w.from ≤ x → x < w.from + w.size → (x < at) ⊎ (at + size ≤ x)
IsChildWindow w at size (Some part) = IsPart w part at size

-- a window on what an alias shows: what lies outside of it is behind the other region's end
pub record IsShifted (w part : Window) (offset size : ℕ) : Type 0 where
  pub fits : WindowFits part size
  pub begin : part.at ≡ w.at
  pub end : part.size ≤ w.size
  pub same : part.from ≡ w.from + offset
  pub outside : part.size < w.size → part.from + part.size ≡ size

abbrev pub IsAliasWindow : Window → ℕ → ℕ → Option Window → Type 0
IsAliasWindow w offset size None = size ≤ w.from + offset
IsAliasWindow w offset size (Some part) = IsShifted w part offset size

-- layers

abbrev pub span_of : Layer → Span
span_of layer = layer.span

abbrev pub spans_of : List Layer → List Span
spans_of layers = map span_of layers

abbrev pub layer_of : ℤ → Span → Layer
layer_of priority span = record { priority = priority; span = span }

-- what a layer shows at an address that it holds
abbrev pub layer_seen : ℕ → Layer → Seen
layer_seen a layer = record { priority = layer.priority; target = span_shows a layer.span }

-- what layers show at an address
abbrev pub layers_show : List Layer → ℕ → Option Seen
layers_show [] a = None
layers_show (layer ∷ layers) a = if in_span layer.span a then Some (layer_seen a layer) else layers_show layers a

-- spans from one address on, and up to another: they rise, lie apart, and none is empty
abbrev pub LieBetween : ℕ → ℕ → List Span → Type 0
LieBetween low high [] = low ≤ high
LieBetween low high (span ∷ spans) = (low ≤ span.at) × (1 ≤ span.size) × LieBetween (span.at + span.size) high spans

-- spans up to an address, whose offsets are in range
pub record AreSpans (high : ℕ) (spans : List Span) : Type 0 where
  pub between : LieBetween 0 high spans
  pub fit : OffsetsFit spans

-- how layers are merged: by priority, or the later ones first
abbrev pub over_by : Order → Option Seen → Option Seen → Option Seen
over_by ByPriority first later = over first later
over_by LaterFirst first None = first
over_by LaterFirst first (Some later) = Some later

-- spans that show exactly what is shown, up to an address
pub record SpansShow (shows : ℕ → Option Target) (high : ℕ) (spans : List Span) : Type 0 where
  pub are : AreSpans high spans
  pub whole : AreWhole spans
  pub exact : (a : ℕ) → spans_show spans a ≡ shows a

-- layers that show exactly what is shown, up to an address
pub record LayersShow (shows : ℕ → Option Seen) (high : ℕ) (layers : List Layer) : Type 0 where
  pub are : AreSpans high (spans_of layers)
  pub exact : (a : ℕ) → layers_show layers a ≡ shows a

abbrev pub areas_of : List Region → List Area
areas_of regions = map area_of regions

-- each region names lower ones, and its numbers are in range
pub record AreSound (areas : List Area) : Type 0 where
  pub lower : (r : ℕ) → r < length areas → names_below r (area_at areas r) ≡ true
  pub ranged : (r : ℕ) → r < length areas → is_in_range (area_at areas r) ≡ true

-- children are below a number, and their places are in range
abbrev pub PlacesFit : ℕ → List Place → Type 0
PlacesFit n [] = Unit {0}
PlacesFit n (place ∷ places) = (place.region < n) × (place.at ≤ ADDRESS_LIMIT) × PlacesFit n places

-- all that a map keeps
pub record IsMap (regions : List Region) (ranks : List ℕ) : Type 0 where
  pub sound : AreSound (areas_of regions)
  pub ranks_all : length ranks ≡ length regions
  pub ranked : (r : ℕ) → r < length regions → slice_index ranks r ≡ area_rank (λ x. slice_index ranks x) (area_at (areas_of regions) r)
  pub shallow : (r : ℕ) → slice_index ranks r ≤ MAX_RANK
  pub bounded : length regions ≤ MAX_REGIONS
