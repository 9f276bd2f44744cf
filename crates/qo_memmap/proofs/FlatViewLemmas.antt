-- The law: a flat view is the list that is made address by address.
use Rattle.std.proofs.Common.{◌≡◌, refl, sym, ap, subst, ◌∙◌, ℕ, zero, suc, ◌+◌, ◌-◌, ◌≤◌, ◌<◌, Bool, true, false, cond, ◌&&◌, ◌==◌, nat_lt, nat_le, List, [], ◌∷◌, Option, Some, None, arith, rules, ⊎_elim}
use Rattle.std.specs.Option.{option_map}
use Rattle.std.proofs.lemmas.Bool.{cases_lt}
use Rattle.std.proofs.lemmas.Bool.Decides.{nat_tests}
use Rattle.qo_memmap.specs.declared.span.Span.{Span}
use Rattle.qo_memmap.specs.FlatViews.{OneFlatLaw, flat_from, joined_before, one_byte, shown_before}
use Rattle.qo_memmap.specs.Regions.{Target}
use Rattle.qo_memmap.specs.Spans.{AreSome, AreWhole, IsFlat, RiseFrom, goes_on, in_span, span_holding, span_shows, spans_show}

-- spans from an address on that show what is shown from there on
record ShowFrom (shows : ℕ → Option Target) (low : ℕ) (spans : List Span) : Type 0 where
  apart : RiseFrom low spans
  some : AreSome spans
  whole : AreWhole spans
  exact : (a : ℕ) → low ≤ a → spans_show spans a ≡ shows a

-- where the first span holds an address, and where it does not
shows-first : (span : Span) (spans : List Span) (a : ℕ) → in_span span a ≡ true → spans_show (span ∷ spans) a ≡ Some (span_shows a span)
shows-first span spans a holds = ap (λ (t : Bool). option_map (span_shows a) (cond t (Some span) (span_holding spans a))) holds

shows-later : (span : Span) (spans : List Span) (a : ℕ) → in_span span a ≡ false → spans_show (span ∷ spans) a ≡ spans_show spans a
shows-later span spans a not = ap (λ (t : Bool). option_map (span_shows a) (cond t (Some span) (span_holding spans a))) not

-- nothing shows before the first span
shows-none : (spans : List Span) (low a : ℕ) → RiseFrom low spans → a < low → spans_show spans a ≡ None
shows-none [] low a rise before = refl
shows-none (span ∷ spans) low a rise before =
    let at = rise.0 in
    let not : in_span span a ≡ false = grind (arith, nat_tests) in
    shows-later span spans a not ∙ shows-none spans (span.at + span.size) a rise.1 (omega arith)

rise-less : (spans : List Span) (low less : ℕ) → less ≤ low → RiseFrom low spans → RiseFrom less spans
rise-less [] low less le rise = tt
rise-less (span ∷ spans) low less le rise = let at = rise.0 in (omega arith, rise.1)

whole-rest : (span : Span) (spans : List Span) → AreWhole (span ∷ spans) → AreWhole spans
whole-rest span [] whole = tt
whole-rest span (next ∷ spans) whole = whole.1

same-span : (a b : Span) → a.at ≡ b.at → a.size ≡ b.size → a.leaf ≡ b.leaf → a.offset ≡ b.offset → a ≡ b
same-span a b at size leaf offset =
    ap (λ (n : ℕ). record a { at = n }) at
    ∙ (ap (λ (n : ℕ). record a { at = b.at; size = n }) size
    ∙ (ap (λ (n : ℕ). record b { leaf = n; offset = a.offset }) leaf ∙ ap (λ (n : ℕ). record b { offset = n }) offset))

-- nothing is left
empty-at : (shows : ℕ → Option Target) (low : ℕ) (spans : List Span) → ((a : ℕ) → low ≤ a → shows a ≡ None) → ShowFrom shows low spans → spans ≡ []
empty-at shows low [] none from = refl
empty-at shows low (span ∷ spans) none from =
    let size = from.some.0 in
    let at = from.apart.0 in
    let holds : in_span span span.at ≡ true = grind (arith, nat_tests) in
    let clash : Some (span_shows span.at span) ≡ None = sym (shows-first span spans span.at holds) ∙ from.exact span.at at ∙ none span.at at in
    cc

-- an address at which nothing shows
pass-none : (shows : ℕ → Option Target) (low : ℕ) (spans : List Span) → shows low ≡ None → ShowFrom shows low spans → ShowFrom shows (suc low) spans
pass-none shows low [] none from = record { apart = tt; some = tt; whole = tt; exact = λ a le. from.exact a (omega arith) }
pass-none shows low (span ∷ spans) none from =
    let at = from.apart.0 in
    let size = from.some.0 in
    let behind : low < span.at =
    ⊎_elim (λ before. before)
    (λ most.
    let holds : in_span span low ≡ true = grind (arith, nat_tests) in
    let clash : Some (span_shows low span) ≡ None = sym (shows-first span spans low holds) ∙ from.exact low (omega arith) ∙ none in
    absurd (let no : Some (span_shows low span) ≡ None = clash in cc)) (cases_lt low span.at)
    in
    record { apart = (omega arith, from.apart.1); some = from.some; whole = from.whole; exact = λ a le. from.exact a (omega arith) }

-- an address at which something shows: the first span begins there
begins-there : (shows : ℕ → Option Target) (low : ℕ) (t : Target) (span : Span) (spans : List Span) → shows low ≡ Some t
    → ShowFrom shows low (span ∷ spans) → span.at ≡ low
begins-there shows low t span spans shown from =
    let at = from.apart.0 in
    let size = from.some.0 in
    ⊎_elim
    (λ before.
    let not : in_span span low ≡ false = grind (arith, nat_tests) in
    let none : spans_show (span ∷ spans) low ≡ None =
    shows-later span spans low not ∙ shows-none spans (span.at + span.size) low from.apart.1 (omega arith)
    in
    let clash : None ≡ Some t = sym none ∙ from.exact low (omega arith) ∙ shown in
    absurd (let no : None ≡ Some t = clash in cc)) (λ most. omega arith) (cases_lt low span.at)

-- a span of one address stands alone before what follows it
alone : (span : Span) (spans : List Span) → AreWhole (span ∷ spans) → joined_before span spans ≡ span ∷ spans
alone span [] whole = refl
alone span (next ∷ spans) whole = rw whole.0 refl

-- a span without its first address
abbrev shrunk : Span → Span
shrunk span = record { at = span.at + 1; size = span.size - 1; leaf = span.leaf; offset = span.offset + 1 }

shrunk-whole : (span : Span) (spans : List Span) → 1 < span.size → AreWhole (span ∷ spans) → AreWhole (shrunk span ∷ spans)
shrunk-whole span [] large whole = tt
shrunk-whole span (next ∷ spans) large whole =
    let end : span.at + 1 + (span.size - 1) ≡ span.at + span.size = omega arith in
    let far : span.offset + 1 + (span.size - 1) ≡ span.offset + span.size = omega arith in
    (rw (end, far) whole.0, whole.1)

shrunk-shows : (span : Span) (spans : List Span) (a : ℕ) → 1 < span.size → span.at < a → spans_show (shrunk span ∷ spans) a ≡ spans_show (span ∷ spans) a
shrunk-shows span spans a large behind = go (in_span span a) refl
  where
    go : (t : Bool) → in_span span a ≡ t → spans_show (shrunk span ∷ spans) a ≡ spans_show (span ∷ spans) a
    go true holds =
        let still : in_span (shrunk span) a ≡ true = grind (arith, nat_tests, holds) in
        let offset : span.offset + 1 + (a - (span.at + 1)) ≡ span.offset + (a - span.at) = omega arith in
        shows-first (shrunk span) spans a still
        ∙ (ap (λ (n : ℕ). Some (record { leaf = span.leaf; offset = n })) offset ∙ sym (shows-first span spans a holds))
    go false not =
        let still : in_span (shrunk span) a ≡ false = grind (arith, nat_tests, not) in
        shows-later (shrunk span) spans a still ∙ sym (shows-later span spans a not)

-- what shows at one address, before the spans of those behind it
begun : (shows : ℕ → Option Target) (low : ℕ) (t : Target) (spans rest : List Span) → shows low ≡ Some t → ShowFrom shows low spans
    → ((s : List Span) → ShowFrom shows (suc low) s → s ≡ rest) → spans ≡ joined_before (one_byte low t) rest
begun shows low t [] rest shown from behind = let clash : None ≡ Some t = from.exact low (omega arith) ∙ shown in cc
begun shows low t (span ∷ spans) rest shown from behind =
    ⊎_elim
    (λ large.
    let same : one ≡ record span { size = 1 } = same-span one (record span { size = 1 }) (sym at) refl leaf offset in
    let after : ShowFrom shows (suc low) (shrunk span ∷ spans) = record {
      apart = (omega (arith, at), rise-less spans (span.at + span.size) (span.at + 1 + (span.size - 1)) (omega arith) from.apart.1);
      some = (omega arith, from.some.1);
      whole = shrunk-whole span spans large from.whole;
      exact = λ a le. shrunk-shows span spans a large (omega (arith, at)) ∙ from.exact a (omega arith);
    } in
    let joins : goes_on (record span { size = 1 }) (shrunk span) ≡ true = grind (arith, nat_tests) in
    let back : record span { size = span.size - 1 + 1 } ≡ span =
    same-span (record span { size = span.size - 1 + 1 }) span refl (omega arith) refl refl
    in
    let made : joined_before (record span { size = 1 }) (shrunk span ∷ spans) ≡ span ∷ spans =
    rw joins (ap (λ (s : Span). s ∷ spans) back)
    in
    sym made ∙ ap (λ (s : Span). joined_before s (shrunk span ∷ spans)) (sym same) ∙ ap (joined_before one) (behind (shrunk span ∷ spans) after))
    (λ small.
    let same : one ≡ span = same-span one span (sym at) (omega (arith, from.some.0)) leaf offset in
    let after : ShowFrom shows (suc low) spans = record {
      apart = rise-less spans (span.at + span.size) (suc low) (omega (arith, at, from.some.0)) from.apart.1;
      some = from.some.1;
      whole = whole-rest span spans from.whole;
      exact =
          λ a le.
          let not : in_span span a ≡ false = grind (arith, nat_tests, at, small) in
          sym (shows-later span spans a not) ∙ from.exact a (omega arith);
    } in
    sym (alone span spans from.whole) ∙ ap (λ (s : Span). joined_before s spans) (sym same) ∙ ap (joined_before one) (behind spans after)) (cases_lt 1 span.size)
  where
    one : Span
    one = one_byte low t

    at : span.at ≡ low
    at = begins-there shows low t span spans shown from

    is : span_shows low span ≡ t
    is =
        let size = from.some.0 in
        let holds : in_span span low ≡ true = grind (arith, nat_tests, at) in
        let same : Some (span_shows low span) ≡ Some t = sym (shows-first span spans low holds) ∙ from.exact low (omega arith) ∙ shown in
        cc

    leaf : t.leaf ≡ span.leaf
    leaf = sym (ap (λ (x : Target). x.leaf) is)

    offset : t.offset ≡ span.offset
    offset = let shows-it : span.offset + (low - span.at) ≡ t.offset = ap (λ (x : Target). x.offset) is in omega (arith, at, shows-it)

flat-is : (shows : ℕ → Option Target) (count low : ℕ) (spans : List Span) → ((a : ℕ) → low + count ≤ a → shows a ≡ None) → ShowFrom shows low spans
    → spans ≡ flat_from shows low count
unfolding flat_from
flat-is shows zero low spans none from = empty-at shows low spans (λ a le. none a (omega arith)) from
flat-is shows (suc count) low spans none from =
    go (λ s after. flat-is shows count (suc low) s (λ a le. none a (omega arith)) after) (shows low) refl
  where
    go : ((s : List Span) → ShowFrom shows (suc low) s → s ≡ flat_from shows (suc low) count) → (o : Option Target) → shows low ≡ o
        → spans ≡ shown_before low o (flat_from shows (suc low) count)
    go behind None shown = behind spans (pass-none shows low spans shown from)
    go behind (Some t) shown = begun shows low t spans (flat_from shows (suc low) count) shown from behind

pub one_flat_lem : OneFlatLaw
one_flat_lem shows count spans none flat =
    flat-is shows count 0 spans (λ a le. none a (omega (arith, le))) (record { apart = flat.apart; some = flat.some; whole = flat.whole; exact = λ a le. flat.exact a })
