-- How two lists of layers are merged.
use Rattle.std.proofs.Common.{◌≡◌, ℕ, ◌+◌, ◌-◌, ◌<◌, ◌≤◌, Bool, true, false, cond, ◌&&◌, List, [], ◌∷◌, ◌++◌, Option, Some, None, length, take, drop, take_all, get_or, ltb, leb, refl, ap, ap₂, arith, sym, ◌∙◌, ⊎_elim}
use Rattle.std.proofs.lemmas.Bool.{cases_lt, true≢false, lt-ltb, le-ltb, le-leb, lt-leb, leb-true, and_parts, and_left, and_right}
use Rattle.std.specs.Option.{option_map}
use Rattle.qo_memmap.specs.declared.merge.Layer.{Layer}
use Rattle.qo_memmap.specs.declared.merge.Order.{Order}
use Rattle.qo_memmap.specs.declared.merge.Order.TheVariants.{ByPriority, LaterFirst}
use Rattle.qo_memmap.specs.declared.merge.Run.{Run}
use Rattle.qo_memmap.specs.Regions.{Seen}
use Rattle.qo_memmap.specs.Spans.{in_span, OffsetsFit}
use Rattle.qo_memmap.specs.Windows.{spans_of, layer_seen, layers_show, AreSpans, over_by, LieBetween}
use Rattle.qo_memmap.specs.Merges.{layer_end, IsAhead, ReachesTo, HoldsSome, IsRun, IsPassed, IsMerged, IsMerging}
use Rattle.qo_memmap.proofs.SpansLemmas.{in-yes, in-before, in-behind, Stands, before, within, behind, stands, between-le, between-higher, between-push, fit-push, spans-push, layers-before, layers-behind, push-shows}

-- the first of the layers that are left holds the address
pub run-holds : (l : Layer) (layers : List Layer) (at end : ℕ) → IsAhead at end (l ∷ layers) → OffsetsFit (spans_of (l ∷ layers)) → l.span.at ≤ at
    → IsRun (l ∷ layers) at end (record { shown = Some l; until = layer_end l })
run-holds l layers at end ahead fit from = record {
  some = ahead.0;
  within = between-le (layer_end l) end (spans_of layers) ahead.2;
  reaches = omega arith;
  held = (from, omega arith, fit.0);
  same = λ a above below. (let start : l.span.at ≤ a = omega arith in rw (in-yes l.span a start below) refl);
}

-- or it begins behind it
pub run-gap : (l : Layer) (layers : List Layer) (at end : ℕ) → IsAhead at end (l ∷ layers) → at < l.span.at
    → IsRun (l ∷ layers) at end (record { shown = None; until = l.span.at })
run-gap l layers at end ahead from = record {
  some = from;
  within = (let last = between-le (layer_end l) end (spans_of layers) ahead.2 in omega arith);
  reaches = omega arith;
  held = tt;
  same = λ a above below. (let later : a < layer_end l = omega arith in
      rw (in-before l.span a below) (layers-before (layer_end l) end layers a ahead.2 later));
}

-- or none is left
pub run-none : (at end : ℕ) → at < end → IsRun [] at end (record { shown = None; until = end })
run-none at end some = record { some = some; within = omega arith; reaches = tt; held = tt; same = λ a above below. refl }

-- the first is passed
pub pass-first : (l : Layer) (layers : List Layer) (until : ℕ) → l.span.size ≤ until - l.span.at → IsPassed (l ∷ layers) until layers
pass-first l layers until passed at high less ahead reaches fit =
    let end : layer_end l ≤ until = omega (arith, ahead.1) in
    (next layers ahead.2, fit.1, λ a from. (let past : layer_end l ≤ a = omega arith in sym (rw (in-behind l.span a past) refl)))
  where
    next : (rest : List Layer) → LieBetween (layer_end l) high (spans_of rest) → IsAhead until high rest
    next [] between = tt
    next (x ∷ rest) between = (omega (arith, between.0, between.1, reaches), between.1, between.2)

-- or it reaches on
pub pass-none : (l : Layer) (layers : List Layer) (until : ℕ) → until - l.span.at < l.span.size → IsPassed (l ∷ layers) until (l ∷ layers)
pass-none l layers until on at high less ahead reaches fit = ((omega (arith, ahead.0), ahead.1, ahead.2), fit, λ a from. refl)

pub pass-empty : (until : ℕ) → IsPassed [] until []
pass-empty until at high less ahead reaches fit = (tt, tt, λ a from. refl)

-- a part of a layer, between two addresses that it reaches
abbrev pub part : Layer → ℕ → ℕ → Layer
part l at until = record {
  priority = l.priority;
  span = record { at = at; size = until - at; leaf = l.span.leaf; offset = l.span.offset + (at - l.span.at) };
}

pub part-are : (layers : List Layer) (l : Layer) (at until : ℕ) → AreSpans at (spans_of layers) → at < until → HoldsSome at until (Some l)
    → AreSpans until (spans_of (layers ++ part l at until ∷ []))
part-are layers l at until are some held =
    rw (spans-push layers (part l at until)) (record {
      between = between-push 0 at until (spans_of layers) (part l at until).span are.between (omega arith) (omega arith) (omega arith);
      fit = fit-push (spans_of layers) (part l at until).span are.fit (omega (arith, held.0, held.1, held.2));
    })

pub part-shows : (layers : List Layer) (l : Layer) (at until a : ℕ) → AreSpans at (spans_of layers) → at < until → HoldsSome at until (Some l)
    → layers_show (layers ++ part l at until ∷ []) a ≡ cond (leb at a && ltb a until) (Some (layer_seen a l)) (layers_show layers a)
part-shows layers l at until a are some held =
    push-shows 0 layers (part l at until) a are.between ∙ by (stands (part l at until).span a)
  where
    by : Stands (part l at until).span a
        → cond (in_span (part l at until).span a) (Some (layer_seen a (part l at until))) (layers_show layers a)
        ≡ cond (leb at a && ltb a until) (Some (layer_seen a l)) (layers_show layers a)
    by (before less) = rw (lt-leb at a less) refl
    by (within from below) =
        let under : a < until = omega arith in
        let offset : l.span.offset + (at - l.span.at) + (a - at) ≡ l.span.offset + (a - l.span.at) = omega (arith, held.0) in
        rw (in-yes (part l at until).span a from below, le-leb at a from, lt-ltb a until under)
        (ap (λ o. Some (record { priority = l.priority; target = record { leaf = l.span.leaf; offset = o } })) offset)
    by (behind past from) =
        let over_end : until ≤ a = omega arith in
        rw (in-behind (part l at until).span a past, and_right (leb at a) (ltb a until) (le-ltb a until over_end)) refl

-- nothing shows from an address on where all layers end by it
pub none-shown : (layers : List Layer) (at until a : ℕ) → AreSpans at (spans_of layers)
    → layers_show layers a ≡ cond (leb at a && ltb a until) None (layers_show layers a)
none-shown layers at until a are = by (leb at a && ltb a until) refl
  where
    by : (b : Bool) → (leb at a && ltb a until) ≡ b → layers_show layers a ≡ cond b None (layers_show layers a)
    by true is = let parts = and_parts (leb at a) (ltb a until) is in layers-behind 0 at layers a are.between (leb-true at a parts.0)
    by false is = refl

pub are-higher : (at until : ℕ) (layers : List Layer) → at ≤ until → AreSpans at (spans_of layers) → AreSpans until (spans_of layers)
are-higher at until layers higher are = record { between = between-higher 0 at until (spans_of layers) higher are.between; fit = are.fit }

-- two lists of layers, from address 0 on
pub merging-first : (first later : List Layer) (order : Order) (end : ℕ) → AreSpans end (spans_of first) → AreSpans end (spans_of later)
    → IsMerging first later order end first later [] 0
merging-first first later order end firsts laters = record {
  within = omega arith;
  first_ahead = ahead first firsts.between;
  first_fit = firsts.fit;
  first_same = λ a from. refl;
  later_ahead = ahead later laters.between;
  later_fit = laters.fit;
  later_same = λ a from. refl;
  are = record { between = omega arith; fit = tt };
  done = λ a less. absurd (omega arith);
}
  where
    ahead : (layers : List Layer) → LieBetween 0 end (spans_of layers) → IsAhead 0 end layers
    ahead [] between = tt
    ahead (l ∷ layers) between = (omega (arith, between.1), between.1, between.2)

-- a turn
pub merging-next : (first later : List Layer) (order : Order) (end : ℕ) (first_left later_left merged first_left' later_left' merged' : List Layer) (at until : ℕ)
    (first_run later_run : Run) (shown : Option Layer)
    → IsMerging first later order end first_left later_left merged at → at < end
    → IsRun first_left at end first_run → IsRun later_left at end later_run → at < until → until ≤ first_run.until → until ≤ later_run.until
    → ((a : ℕ) → option_map (layer_seen a) shown ≡ over_by order (option_map (layer_seen a) first_run.shown) (option_map (layer_seen a) later_run.shown))
    → AreSpans until (spans_of merged')
    → ((a : ℕ) → layers_show merged' a ≡ cond (leb at a && ltb a until) (option_map (layer_seen a) shown) (layers_show merged a))
    → IsPassed first_left until first_left' → IsPassed later_left until later_left'
    → IsMerging first later order end first_left' later_left' merged' until
merging-next first later order end first_left later_left merged first_left' later_left' merged' at until first_run later_run shown
    merging some firsts laters less first_least later_least seen are shows first_passed later_passed =
    let first_next = first_passed at end less merging.first_ahead (reach first_left first_run.until first_least firsts.reaches) merging.first_fit in
    let later_next = later_passed at end less merging.later_ahead (reach later_left later_run.until later_least laters.reaches) merging.later_fit in
    record {
      within = omega (arith, firsts.within);
      first_ahead = first_next.0;
      first_fit = first_next.1;
      first_same = λ a from. first_next.2 a from ∙ merging.first_same a (omega arith);
      later_ahead = later_next.0;
      later_fit = later_next.1;
      later_same = λ a from. later_next.2 a from ∙ merging.later_same a (omega arith);
      are = are;
      done = λ a below. ⊎_elim
          (λ old. rw (shows a, and_left (leb at a) (ltb a until) (lt-leb at a old)) (merging.done a old))
          (λ from. rw (shows a, le-leb at a from, lt-ltb a until below) (here a from below))
          (cases_lt a at);
    }
  where
    reach : (layers : List Layer) (further : ℕ) → until ≤ further → ReachesTo further layers → ReachesTo until layers
    reach [] further least reaches = tt
    reach (l ∷ layers) further least reaches = omega arith

    here : (a : ℕ) → at ≤ a → a < until → option_map (layer_seen a) shown ≡ over_by order (layers_show first a) (layers_show later a)
    here a from below =
        seen a ∙ ap₂ (over_by order)
        (sym (firsts.same a from (omega arith)) ∙ merging.first_same a from)
        (sym (laters.same a from (omega arith)) ∙ merging.later_same a from)

none-over : (order : Order) → over_by order None None ≡ None
none-over ByPriority = refl
none-over LaterFirst = refl

-- the end is reached
pub merging-all : (first later : List Layer) (order : Order) (end : ℕ) (first_left later_left merged : List Layer) (at : ℕ)
    → AreSpans end (spans_of first) → AreSpans end (spans_of later)
    → IsMerging first later order end first_left later_left merged at → end ≤ at → IsMerged first later order end merged
merging-all first later order end first_left later_left merged at firsts laters merging past = record {
  are = are-higher at end merged merging.within merging.are;
  exact = λ a. ⊎_elim
      (λ below. merging.done a below)
      (λ behind. (let over_end : end ≤ a = omega arith in
      rw (layers-behind 0 at merged a merging.are.between behind, layers-behind 0 end first a firsts.between over_end, layers-behind 0 end later a laters.between over_end)
      (sym (none-over order))))
      (cases_lt a at);
}

-- one of the two is empty
first-over : (order : Order) (seen : Option Seen) → over_by order seen None ≡ seen
first-over ByPriority None = refl
first-over ByPriority (Some seen) = refl
first-over LaterFirst None = refl
first-over LaterFirst (Some seen) = refl

later-over : (order : Order) (seen : Option Seen) → over_by order None seen ≡ seen
later-over ByPriority None = refl
later-over ByPriority (Some seen) = refl
later-over LaterFirst None = refl
later-over LaterFirst (Some seen) = refl

pub merged-first : (first : List Layer) (order : Order) (end : ℕ) → AreSpans end (spans_of first) → IsMerged first [] order end first
merged-first first order end are = record { are = are; exact = λ a. sym (first-over order (layers_show first a)) }

pub merged-later : (later : List Layer) (order : Order) (end : ℕ) → AreSpans end (spans_of later) → IsMerged [] later order end later
merged-later later order end are = record { are = are; exact = λ a. sym (later-over order (layers_show later a)) }

-- the first of the layers that are left, as it is read

pub run-holds-at : (left : List Layer) (l : Layer) (at end : ℕ) → IsAhead at end left → OffsetsFit (spans_of left) → true ≡ ltb 0 (length left)
    → l ≡ get_or left 0 l → l.span.at ≤ at → IsRun left at end (record { shown = Some l; until = layer_end l })
run-holds-at [] l at end ahead fit some is from = absurd (true≢false some)
run-holds-at (x ∷ left) l at end ahead fit some is from = rw is (run-holds x left at end ahead fit (rw is at from))

pub run-gap-at : (left : List Layer) (l : Layer) (at end : ℕ) → IsAhead at end left → true ≡ ltb 0 (length left)
    → l ≡ get_or left 0 l → at < l.span.at → IsRun left at end (record { shown = None; until = l.span.at })
run-gap-at [] l at end ahead some is from = absurd (true≢false some)
run-gap-at (x ∷ left) l at end ahead some is from = rw is (run-gap x left at end ahead (rw is at from))

pub ahead-end : (left : List Layer) (l : Layer) (at end : ℕ) → IsAhead at end left → true ≡ ltb 0 (length left) → l ≡ get_or left 0 l → layer_end l ≤ end
ahead-end [] l at end ahead some is = absurd (true≢false some)
ahead-end (x ∷ left) l at end ahead some is = rw is (between-le (layer_end x) end (spans_of left) ahead.2)

pub pass-first-at : (left : List Layer) (l : Layer) (until : ℕ) → true ≡ ltb 0 (length left) → l ≡ get_or left 0 l → l.span.size ≤ until - l.span.at
    → IsPassed left until (take (length left - 1) (drop 1 left))
pass-first-at [] l until some is passed = absurd (true≢false some)
pass-first-at (x ∷ left) l until some is passed =
    let n : length (x ∷ left) - 1 ≡ length left = omega arith in
    let all : take (length (x ∷ left) - 1) (drop 1 (x ∷ left)) ≡ left = rw n (take_all (length left) left (omega arith)) in
    rw all (pass-first x left until (rw is at passed))

-- what reaches to an address reaches to an earlier one
pub held-less : (shown : Option Layer) (at until more : ℕ) → until ≤ more → HoldsSome at more shown → HoldsSome at until shown
held-less None at until more less held = tt
held-less (Some l) at until more less held = (held.0, omega (arith, held.1), held.2)
