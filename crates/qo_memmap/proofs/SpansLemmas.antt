-- Spans and layers that rise and lie apart.
use Rattle.std.proofs.Common.{◌≡◌, ℕ, ◌+◌, ◌<◌, ◌≤◌, Bool, true, false, cond, List, [], ◌∷◌, ◌++◌, Some, None, map, ℤ, ltb, leb, refl, ap, arith, ⊎_elim}
use Rattle.std.proofs.lemmas.Bool.{cases_lt, lt-ltb, le-ltb, le-leb, lt-leb, ltb-true, leb-true, and_parts, and_from, and_left, and_right}
use Rattle.std.specs.Option.{option_map}
use Rattle.qo_memmap.specs.declared.span.Span.{Span}
use Rattle.qo_memmap.specs.declared.merge.Layer.{Layer}
use Rattle.qo_memmap.specs.declared.region.TheConstants.{ADDRESS_LIMIT}
use Rattle.qo_memmap.specs.Regions.{Target, Seen}
use Rattle.qo_memmap.specs.Spans.{RiseFrom, AreSome, in_span, span_holding, span_shows, spans_show, OffsetsFit}
use Rattle.qo_memmap.specs.Windows.{spans_of, layer_of, layer_seen, layers_show, LieBetween}

-- whether a span holds an address

pub in-yes : (s : Span) (a : ℕ) → s.at ≤ a → a < s.at + s.size → in_span s a ≡ true
in-yes s a from below = and_from (leb s.at a) (ltb a (s.at + s.size)) (le-leb s.at a from) (lt-ltb a (s.at + s.size) below)

pub in-before : (s : Span) (a : ℕ) → a < s.at → in_span s a ≡ false
in-before s a before = and_left (leb s.at a) (ltb a (s.at + s.size)) (lt-leb s.at a before)

pub in-behind : (s : Span) (a : ℕ) → s.at + s.size ≤ a → in_span s a ≡ false
in-behind s a behind = and_right (leb s.at a) (ltb a (s.at + s.size)) (le-ltb a (s.at + s.size) behind)

pub in-parts : (s : Span) (a : ℕ) → in_span s a ≡ true → (s.at ≤ a) × (a < s.at + s.size)
in-parts s a holds =
    let parts = and_parts (leb s.at a) (ltb a (s.at + s.size)) holds in (leb-true s.at a parts.0, ltb-true a (s.at + s.size) parts.1)

-- before the span, in it, or behind it
pub data Stands (s : Span) (a : ℕ) : Type 0 where
  before : a < s.at → Stands s a
  within : s.at ≤ a → a < s.at + s.size → Stands s a
  behind : s.at + s.size ≤ a → s.at ≤ a → Stands s a

pub stands : (s : Span) (a : ℕ) → Stands s a
stands s a = ⊎_elim before (λ from. ⊎_elim (λ below. within from below) (λ past. behind past from) (cases_lt a (s.at + s.size))) (cases_lt a s.at)

-- where spans lie

pub between-le : (low high : ℕ) (spans : List Span) → LieBetween low high spans → low ≤ high
between-le low high [] between = between
between-le low high (s ∷ spans) between = let rest = between-le (s.at + s.size) high spans between.2 in omega (arith, between.0, rest)

pub between-higher : (low high more : ℕ) (spans : List Span) → high ≤ more → LieBetween low high spans → LieBetween low more spans
between-higher low high more [] higher between = omega arith
between-higher low high more (s ∷ spans) higher between = (between.0, between.1, between-higher (s.at + s.size) high more spans higher between.2)

pub between-lower : (less low high : ℕ) (spans : List Span) → less ≤ low → LieBetween low high spans → LieBetween less high spans
between-lower less low high [] lower between = omega arith
between-lower less low high (s ∷ spans) lower between = (omega (arith, between.0), between.1, between.2)

pub between-front : (low high : ℕ) (xs ys : List Span) → LieBetween low high (xs ++ ys) → LieBetween low high xs
between-front low high [] ys between = between-le low high ys between
between-front low high (x ∷ xs) ys between = (between.0, between.1, between-front (x.at + x.size) high xs ys between.2)

pub between-push : (low high more : ℕ) (xs : List Span) (s : Span) → LieBetween low high xs → high ≤ s.at → 1 ≤ s.size → s.at + s.size ≤ more
    → LieBetween low more (xs ++ s ∷ [])
between-push low high more [] s between from some below = (omega arith, some, below)
between-push low high more (x ∷ xs) s between from some below = (between.0, between.1, between-push (x.at + x.size) high more xs s between.2 from some below)

pub fit-front : (xs ys : List Span) → OffsetsFit (xs ++ ys) → OffsetsFit xs
fit-front [] ys fit = tt
fit-front (x ∷ xs) ys fit = (fit.0, fit-front xs ys fit.1)

pub fit-push : (xs : List Span) (s : Span) → OffsetsFit xs → s.offset + s.size ≤ ADDRESS_LIMIT → OffsetsFit (xs ++ s ∷ [])
fit-push [] s fit fits = (fits, tt)
fit-push (x ∷ xs) s fit fits = (fit.0, fit-push xs s fit.1 fits)

pub spans-push : (layers : List Layer) (l : Layer) → spans_of (layers ++ l ∷ []) ≡ spans_of layers ++ l.span ∷ []
spans-push [] l = refl
spans-push (x ∷ layers) l = ap (λ spans. x.span ∷ spans) (spans-push layers l)

-- an address before or behind all of them

pub layers-before : (low high : ℕ) (layers : List Layer) (a : ℕ) → LieBetween low high (spans_of layers) → a < low → layers_show layers a ≡ None
layers-before low high [] a between less = refl
layers-before low high (l ∷ layers) a between less =
    let first : a < l.span.at = omega (arith, between.0) in
    let later : a < l.span.at + l.span.size = omega arith in
    rw (in-before l.span a first) (layers-before (l.span.at + l.span.size) high layers a between.2 later)

pub layers-behind : (low high : ℕ) (layers : List Layer) (a : ℕ) → LieBetween low high (spans_of layers) → high ≤ a → layers_show layers a ≡ None
layers-behind low high [] a between past = refl
layers-behind low high (l ∷ layers) a between past =
    let end = between-le (l.span.at + l.span.size) high (spans_of layers) between.2 in
    let first : l.span.at + l.span.size ≤ a = omega arith in
    rw (in-behind l.span a first) (layers-behind (l.span.at + l.span.size) high layers a between.2 past)

pub rises-before : (low : ℕ) (spans : List Span) (a : ℕ) → RiseFrom low spans → a < low → span_holding spans a ≡ None
rises-before low [] a rises less = refl
rises-before low (s ∷ spans) a rises less =
    let first : a < s.at = omega (arith, rises.0) in
    let later : a < s.at + s.size = omega arith in
    rw (in-before s a first) (rises-before (s.at + s.size) spans a rises.1 later)

-- spans between two addresses rise, and none is empty
pub between-rises : (low high : ℕ) (spans : List Span) → LieBetween low high spans → RiseFrom low spans
between-rises low high [] between = tt
between-rises low high (s ∷ spans) between = (between.0, between-rises (s.at + s.size) high spans between.2)

pub between-some : (low high : ℕ) (spans : List Span) → LieBetween low high spans → AreSome spans
between-some low high [] between = tt
between-some low high (s ∷ spans) between = (between.1, between-some (s.at + s.size) high spans between.2)

-- one more layer behind the others
pub push-shows : (low : ℕ) (layers : List Layer) (l : Layer) (a : ℕ) → LieBetween low l.span.at (spans_of layers)
    → layers_show (layers ++ l ∷ []) a ≡ cond (in_span l.span a) (Some (layer_seen a l)) (layers_show layers a)
push-shows low [] l a between = refl
push-shows low (x ∷ layers) l a between = elim (stands x.span a) [
  | before less ↦ rw (in-before x.span a less) (push-shows (x.span.at + x.span.size) layers l a between.2)
  | within from below ↦
      (let end = between-le (x.span.at + x.span.size) l.span.at (spans_of layers) between.2 in
      let less : a < l.span.at = omega arith in
      rw (in-yes x.span a from below, in-before l.span a less) refl)
  | behind past from ↦ rw (in-behind x.span a past) (push-shows (x.span.at + x.span.size) layers l a between.2)
]

-- what layers show without their priorities
pub layers-spans : (layers : List Layer) (a : ℕ) → spans_show (spans_of layers) a ≡ option_map (λ (s : Seen). s.target) (layers_show layers a)
layers-spans [] a = refl
layers-spans (l ∷ layers) a = by (in_span l.span a) (layers-spans layers a)
  where
    by : (b : Bool) → spans_show (spans_of layers) a ≡ option_map (λ (s : Seen). s.target) (layers_show layers a)
        → option_map (span_shows a) (cond b (Some l.span) (span_holding (spans_of layers) a))
        ≡ option_map (λ (s : Seen). s.target) (cond b (Some (layer_seen a l)) (layers_show layers a))
    by true rest = refl
    by false rest = rest

-- layers of one priority
pub layered-shows : (priority : ℤ) (spans : List Span) (a : ℕ)
    → layers_show (map (layer_of priority) spans) a ≡ option_map (λ (t : Target). record { priority = priority; target = t }) (spans_show spans a)
layered-shows priority [] a = refl
layered-shows priority (s ∷ spans) a = by (in_span s a) (layered-shows priority spans a)
  where
    by : (b : Bool)
        → layers_show (map (layer_of priority) spans) a ≡ option_map (λ (t : Target). record { priority = priority; target = t }) (spans_show spans a)
        → cond b (Some (layer_seen a (layer_of priority s))) (layers_show (map (layer_of priority) spans) a)
        ≡ option_map (λ (t : Target). record { priority = priority; target = t }) (option_map (span_shows a) (cond b (Some s) (span_holding spans a)))
    by true rest = refl
    by false rest = rest

pub layered-spans : (priority : ℤ) (spans : List Span) → spans_of (map (layer_of priority) spans) ≡ spans
layered-spans priority [] = refl
layered-spans priority (s ∷ spans) = ap (λ rest. s ∷ rest) (layered-spans priority spans)
