-- Flat views as lists, address by address (docs/devel/memory.rst, "Visibility").
use Rattle.std.specs.Prelude.{◌≡◌, ℕ, zero, suc, ◌+◌, ◌≤◌, if◌then◌else◌, List, [], ◌∷◌, Option, Some, None}
use Rattle.qo_memmap.specs.declared.span.Span.{Span}
use Rattle.qo_memmap.specs.Regions.{Target}
use Rattle.qo_memmap.specs.Spans.{IsFlat, goes_on}

-- the span of one address, at which this shows
abbrev pub one_byte : ℕ → Target → Span
one_byte at t = record { at = at; size = 1; leaf = t.leaf; offset = t.offset }

-- that span before others: it is one with the first of them where that goes on from it
abbrev pub joined_before : Span → List Span → List Span
joined_before first [] = first ∷ []
joined_before first (next ∷ spans) = if goes_on first next then record first { size = next.size + 1 } ∷ spans else first ∷ next ∷ spans

-- what shows at an address, before the spans of the addresses behind it
abbrev pub shown_before : ℕ → Option Target → List Span → List Span
shown_before at None spans = spans
shown_before at (Some t) spans = joined_before (one_byte at t) spans

-- the spans of so many addresses, from one on
unfoldable pub flat_from : (ℕ → Option Target) → ℕ → ℕ → List Span
flat_from shows at zero = []
flat_from shows at (suc count) = shown_before at (shows at) (flat_from shows (suc at) count)

-- there is one flat view alone of what is shown below an address
abbrev pub OneFlatLaw : Type 0
OneFlatLaw =
    (shows : ℕ → Option Target) (count : ℕ) (spans : List Span) → ((a : ℕ) → count ≤ a → shows a ≡ None) → IsFlat shows spans
    → spans ≡ flat_from shows 0 count
