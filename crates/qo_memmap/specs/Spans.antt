-- Flat views: lists of spans.
use Rattle.std.specs.Prelude.{◌≡◌, ℕ, ◌+◌, ◌-◌, ◌≤◌, Bool, ◌&&◌, ◌==◌, false, nat_lt, nat_le, if◌then◌else◌, List, [], ◌∷◌, Option, Some, None}
use Rattle.std.specs.Option.{option_map}
use Rattle.qo_memmap.specs.declared.region.TheConstants.{ADDRESS_LIMIT}
use Rattle.qo_memmap.specs.declared.span.Span.{Span}
use Rattle.qo_memmap.specs.Regions.{Target}

-- a span holds an address
abbrev pub in_span : Span → ℕ → Bool
in_span span a = nat_le span.at a && nat_lt a (span.at + span.size)

-- the first span that holds an address
abbrev pub span_holding : List Span → ℕ → Option Span
span_holding [] a = None
span_holding (span ∷ spans) a = if in_span span a then Some span else span_holding spans a

-- what a span shows at an address that it holds
abbrev pub span_shows : ℕ → Span → Target
span_shows a span = record { leaf = span.leaf; offset = span.offset + (a - span.at) }

-- what spans show at an address
abbrev pub spans_show : List Span → ℕ → Option Target
spans_show spans a = option_map (span_shows a) (span_holding spans a)

-- spans from an address on that rise and lie apart
abbrev pub RiseFrom : ℕ → List Span → Type 0
RiseFrom low [] = Unit {0}
RiseFrom low (span ∷ spans) = (low ≤ span.at) × RiseFrom (span.at + span.size) spans

-- no span is empty
abbrev pub AreSome : List Span → Type 0
AreSome [] = Unit {0}
AreSome (span ∷ spans) = (1 ≤ span.size) × AreSome spans

-- a span goes on where another ends, in the same leaf: the two could be one
abbrev pub goes_on : Span → Span → Bool
goes_on first next = (next.at == first.at + first.size) && (next.leaf == first.leaf) && (next.offset == first.offset + first.size)

-- no two neighbours could be one
abbrev pub AreWhole : List Span → Type 0
AreWhole [] = Unit {0}
AreWhole (span ∷ []) = Unit {0}
AreWhole (span ∷ next ∷ spans) = (goes_on span next ≡ false) × AreWhole (next ∷ spans)

-- what spans show of their leaves is in range, also at their ends
abbrev pub OffsetsFit : List Span → Type 0
OffsetsFit [] = Unit {0}
OffsetsFit (span ∷ spans) = (span.offset + span.size ≤ ADDRESS_LIMIT) × OffsetsFit spans

-- a flat view: spans that show exactly what is shown, and no more of them than are needed
pub record IsFlat (shows : ℕ → Option Target) (spans : List Span) : Type 0 where
  pub apart : RiseFrom 0 spans
  pub some : AreSome spans
  pub whole : AreWhole spans
  pub exact : (a : ℕ) → spans_show spans a ≡ shows a
