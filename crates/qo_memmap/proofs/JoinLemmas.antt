-- How spans are joined.
use Rattle.std.proofs.Common.{◌≡◌, ℕ, suc, ◌+◌, ◌-◌, ◌<◌, ◌≤◌, Bool, true, false, cond, ◌&&◌, List, [], ◌∷◌, ◌++◌, Some, length, drop, get_or, eqb, refl, ap, arith, sym, ◌∙◌, append_assoc}
use Rattle.std.proofs.lemmas.Bool.{eqb-true, and_parts}
use Rattle.std.proofs.Math.Seq.{drop-cons}
use Rattle.std.specs.Option.{option_map}
use Rattle.qo_memmap.specs.declared.merge.Layer.{Layer}
use Rattle.qo_memmap.specs.declared.span.Span.{Span}
use Rattle.qo_memmap.specs.declared.region.TheConstants.{ADDRESS_LIMIT}
use Rattle.qo_memmap.specs.Spans.{in_span, span_holding, span_shows, spans_show, goes_on, AreWhole, OffsetsFit}
use Rattle.qo_memmap.specs.Windows.{AreSpans, spans_of, LieBetween}
use Rattle.qo_memmap.specs.Joins.{IsPushed}
use Rattle.qo_memmap.proofs.SpansLemmas.{in-yes, in-before, in-behind, Stands, before, within, behind, stands, between-front, fit-front}

-- a span with the bytes of another behind it
abbrev pub grown : Span → Span → Span
grown last next = record last { size = last.size + next.size }

goes-parts : (last next : Span) → goes_on last next ≡ true → (next.at ≡ last.at + last.size) × (next.leaf ≡ last.leaf) × (next.offset ≡ last.offset + last.size)
goes-parts last next on =
    let first = and_parts (eqb next.at (last.at + last.size) && eqb next.leaf last.leaf) (eqb next.offset (last.offset + last.size)) on in
    let front = and_parts (eqb next.at (last.at + last.size)) (eqb next.leaf last.leaf) first.0 in
    (eqb-true next.at (last.at + last.size) front.0, eqb-true next.leaf last.leaf front.1, eqb-true next.offset (last.offset + last.size) first.1)

grown-between : (low high : ℕ) (front : List Span) (last next : Span) (after : List Span) → next.at ≡ last.at + last.size
    → LieBetween low high ((front ++ last ∷ []) ++ next ∷ after) → LieBetween low high ((front ++ grown last next ∷ []) ++ after)
grown-between low high [] last next after on between =
    let same : next.at + next.size ≡ last.at + (last.size + next.size) = omega arith in
    (between.0, omega (arith, between.1), rw (← same) (next_after between.2))
  where
    next_after : LieBetween (last.at + last.size) high (next ∷ after) → LieBetween (next.at + next.size) high after
    next_after lie = lie.2
grown-between low high (x ∷ front) last next after on between = (between.0, between.1, grown-between (x.at + x.size) high front last next after on between.2)

grown-fit : (front : List Span) (last next : Span) (after : List Span) → next.offset ≡ last.offset + last.size
    → OffsetsFit ((front ++ last ∷ []) ++ next ∷ after) → OffsetsFit ((front ++ grown last next ∷ []) ++ after)
grown-fit [] last next after on fit = (omega (arith, fit.1.0), fit.1.1)
grown-fit (x ∷ front) last next after on fit = (fit.0, grown-fit front last next after on fit.1)

grown-shows : (low high : ℕ) (front : List Span) (last next : Span) (after : List Span) (a : ℕ) → goes_on last next ≡ true
    → LieBetween low high ((front ++ last ∷ []) ++ next ∷ after)
    → spans_show ((front ++ grown last next ∷ []) ++ after) a ≡ spans_show ((front ++ last ∷ []) ++ next ∷ after) a
grown-shows low high [] last next after a on between = by (stands last a) (stands next a)
  where
    parts : (next.at ≡ last.at + last.size) × (next.leaf ≡ last.leaf) × (next.offset ≡ last.offset + last.size)
    parts = goes-parts last next on

    by : Stands last a → Stands next a → spans_show (grown last next ∷ after) a ≡ spans_show (last ∷ next ∷ after) a
    by (before less) (before less') = rw (in-before (grown last next) a less, in-before last a less, in-before next a less') refl
    by (before less) (within from below) = absurd (omega (arith, parts.0))
    by (before less) (behind past from) = absurd (omega (arith, parts.0))
    by (within from below) at_next =
        let under : a < last.at + (last.size + next.size) = omega arith in
        rw (in-yes (grown last next) a from under, in-yes last a from below) refl
    by (behind past from) (before less) = absurd (omega (arith, parts.0))
    by (behind past from) (within from' below) =
        let under : a < last.at + (last.size + next.size) = omega (arith, parts.0) in
        let offset : last.offset + (a - last.at) ≡ next.offset + (a - next.at) = omega (arith, parts.0, parts.2) in
        rw (in-yes (grown last next) a from under, in-behind last a past, in-yes next a from' below, parts.1, offset) refl
    by (behind past from) (behind past' from') =
        let end : last.at + (last.size + next.size) ≤ a = omega (arith, parts.0) in
        rw (in-behind (grown last next) a end, in-behind last a past, in-behind next a past') refl
grown-shows low high (x ∷ front) last next after a on between = by (in_span x a) (grown-shows (x.at + x.size) high front last next after a on between.2)
  where
    by : (b : Bool) → spans_show ((front ++ grown last next ∷ []) ++ after) a ≡ spans_show ((front ++ last ∷ []) ++ next ∷ after) a
        → option_map (span_shows a) (cond b (Some x) (span_holding ((front ++ grown last next ∷ []) ++ after) a))
        ≡ option_map (span_shows a) (cond b (Some x) (span_holding ((front ++ last ∷ []) ++ next ∷ after) a))
    by true rest = refl
    by false rest = rest

-- no two could be one

whole-grown : (front : List Span) (last next : Span) → AreWhole (front ++ last ∷ []) → AreWhole (front ++ grown last next ∷ [])
whole-grown [] last next whole = tt
whole-grown (x ∷ []) last next whole = (whole.0, tt)
whole-grown (x ∷ y ∷ front) last next whole = (whole.0, whole-grown (y ∷ front) last next whole.1)

whole-push : (front : List Span) (last next : Span) → AreWhole (front ++ last ∷ []) → goes_on last next ≡ false
    → AreWhole ((front ++ last ∷ []) ++ next ∷ [])
whole-push [] last next whole apart = (apart, tt)
whole-push (x ∷ []) last next whole apart = (whole.0, (apart, tt))
whole-push (x ∷ y ∷ front) last next whole apart = (whole.0, whole-push (y ∷ front) last next whole.1 apart)

-- a span was added to the last one
pub pushed-grown : (front : List Span) (last next : Span) → goes_on last next ≡ true → IsPushed (front ++ last ∷ []) next (front ++ grown last next ∷ [])
pushed-grown front last next on =
    let parts = goes-parts last next on in
    record {
      are = λ high after are. record {
        between = grown-between 0 high front last next after parts.0 are.between;
        fit = grown-fit front last next after parts.2 are.fit;
      };
      same = λ high after are a. grown-shows 0 high front last next after a on are.between;
      whole = λ whole. whole-grown front last next whole;
    }

-- or behind it
pub pushed-behind : (front : List Span) (last next : Span) → goes_on last next ≡ false
    → IsPushed (front ++ last ∷ []) next ((front ++ last ∷ []) ++ next ∷ [])
pushed-behind front last next apart = record {
  are = λ high after are. rw append_assoc are;
  same = λ high after are a. rw append_assoc refl;
  whole = λ whole. whole-push front last next whole apart;
}

pub pushed-first : (next : Span) → IsPushed [] next (next ∷ [])
pushed-first next = record { are = λ high after are. are; same = λ high after are a. refl; whole = λ whole. tt }

-- the last two of some spans
pub last-two : (high : ℕ) (front : List Span) (last next : Span) → AreSpans high ((front ++ last ∷ []) ++ next ∷ []) → AreSpans high (last ∷ next ∷ [])
last-two high front last next are = record { between = between 0 front are.between; fit = fit front are.fit }
  where
    between : (low : ℕ) (xs : List Span) → LieBetween low high ((xs ++ last ∷ []) ++ next ∷ []) → LieBetween 0 high (last ∷ next ∷ [])
    between low [] lie = (omega arith, lie.1, lie.2)
    between low (x ∷ xs) lie = between (x.at + x.size) xs lie.2

    fit : (xs : List Span) → OffsetsFit ((xs ++ last ∷ []) ++ next ∷ []) → OffsetsFit (last ∷ next ∷ [])
    fit [] fits = fits
    fit (x ∷ xs) fits = fit xs fits.1

-- spans before others
pub are-front : (high : ℕ) (xs ys : List Span) → AreSpans high (xs ++ ys) → AreSpans high xs
are-front high xs ys are = record { between = between-front 0 high xs ys are.between; fit = fit-front xs ys are.fit }

-- the sizes of two spans
pub sizes-fit : (last next : Span) → AreSpans ADDRESS_LIMIT (last ∷ next ∷ []) → last.size + next.size ≤ ADDRESS_LIMIT
sizes-fit last next are = omega (arith, are.between.2.0, are.between.2.2)

-- the next of the layers that are left
pub join-front : (high : ℕ) (spans : List Span) (layers : List Layer) (i : ℕ) (d : Layer) → i < length layers
    → AreSpans high (spans ++ spans_of (drop i layers)) → AreSpans high (spans ++ (get_or layers i d).span ∷ [])
join-front high spans layers i d there are =
    let next : spans ++ spans_of (drop i layers) ≡ (spans ++ (get_or layers i d).span ∷ []) ++ spans_of (drop (suc i) layers) =
    ap (λ ls. spans ++ spans_of ls) (drop-cons layers i d there) ∙ sym (append_assoc spans ((get_or layers i d).span ∷ []) (spans_of (drop (suc i) layers))) in
    are-front high (spans ++ (get_or layers i d).span ∷ []) (spans_of (drop (suc i) layers)) (rw (← next) are)
