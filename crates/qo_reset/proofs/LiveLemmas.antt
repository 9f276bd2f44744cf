-- All below an object that is there is there, so what is kept of each is right; and what is kept of objects does not show on boards.
use Rattle.std.proofs.Common.{◌≡◌, refl, ap, ap₂, sym, subst, ◌∙◌, ℕ, zero, suc, ◌+◌, ◌≤◌, Bool, true, false, not, ◌&&◌, ◌||◌, cond, eqb, nat_lt, nat_eq, List, [], ◌∷◌, ◌++◌, length, filter_map, min, codes, Option, Some, None, is_some, IfSome, arith}
use Rattle.std.specs.List.{AllByRecursion, cons_option, flat_map, list_any}
use Rattle.std.specs.Option.{option_map_or}
use Rattle.std.specs.Str.{bytes_eq}
use Rattle.std.proofs.lemmas.Bool.{eqb-true}
use Rattle.std.proofs.lemmas.Bool.Decides.{nat_tests}
use Rattle.qo_values.specs.declared.kinds.Act.{Act}
use Rattle.qo_kinds.specs.Bodies.{reads_moment}
use Rattle.qo_values.specs.declared.limits.TheConstants.{HOLD_COUNT_MAX}
use Rattle.qo_slots.specs.declared.keys.Key.{Key}
use Rattle.qo_heap.specs.Rows.{IsLive}
use Rattle.qo_model.specs.Board.{Board}
use Rattle.qo_model.specs.Depth.{among}
use Rattle.qo_model.specs.Devices.{clock_name}
use Rattle.qo_object.specs.declared.room.Side.{Side}
use Rattle.qo_object.specs.declared.slots.Slot.TheVariants.{Plain, Child, Link, Alias}
use Rattle.qo_object.specs.Content.{Content}
use Rattle.qo_object.specs.BoardObject.{birth_of}
use Rattle.qo_object.specs.Slots.{Named, target_of}
use Rattle.qo_heap.specs.Acts.{KeepsCounts}
use Rattle.qo_heap.specs.Board.{Shows}
use Rattle.qo_heap.specs.Objects.{IsHeap, Objects, content_of, slots_of, with_edit}
use Rattle.qo_heap.proofs.BoardEdits.{edit-unseen, pins-edited}
use Rattle.qo_heap.proofs.BoardObjects.{live-content}
use Rattle.qo_heap.proofs.HeapLemmas.{each-names, linked-at}
use Rattle.qo_reset.specs.declared.turns.Tally.{Tally}
use Rattle.qo_reset.specs.declared.turns.Tally.TheVariants.{Unmark}
use Rattle.qo_reset.specs.declared.turns.TheConstants.{HOLDS_MAX}
use Rattle.qo_reset.specs.declared.turns.Turn.TheVariants.{Run, RunOut, Count, Recount}
use Rattle.qo_reset.specs.Counts.{CountedBelow, CountsKept, HasRoom, is_full, kept_count}
use Rattle.qo_reset.specs.Phases.{below_on, count_on, exceeds_depth_at, is_bus, is_under, kids_in, walked, phase_on, picks, post_by, turned_to}
use Rattle.qo_reset.specs.Turns.{IsTimeless, counted, sided, tallied, tallied_on, visited, walk_on, turned}
use Rattle.qo_reset.proofs.CountLemmas.{AreThere, all-counts, all_below, kept-is, run-all, run-picked}
use Rattle.qo_reset.proofs.BoardLemmas.{filter-all}

-- what is below an object is there

pub live-there : (v : Objects) (key : Key) → IsLive v.rows key → is_some (content_of v key.birth) ≡ true
live-there v key live = let c = live-content v key live in rw c.1 refl

abbrev IfLive : Objects → Option Key → Type 0
IfLive v o = IfSome o (IsLive v.rows)

kid-live : (v : Objects) (bus : ℕ → Bool) (at : Bool) (s : Named) → IfLive v (target_of s.1) → IfLive v (turned_to bus at s)
kid-live v bus true (name, Plain val) e = tt
kid-live v bus true (name, Child key) e = tt
kid-live v bus true (name, Link ty true target) e = e
kid-live v bus true (name, Link ty false target) e = tt
kid-live v bus true (name, Alias key of) e = tt
kid-live v bus false (name, Plain val) e = tt
kid-live v bus false (name, Child key) e = go (bus key.birth && not (bytes_eq name clock_name))
  where
    go : (t : Bool) → IfLive v (cond t (Some key) None)
    go true = e
    go false = tt
kid-live v bus false (name, Link ty true target) e = tt
kid-live v bus false (name, Link ty false target) e = tt
kid-live v bus false (name, Alias key of) e = tt

kids-there : (v : Objects) (bus : ℕ → Bool) (at : Bool) (slots : List Named) → AllByRecursion (λ (s : Named). IfLive v (target_of s.1)) slots
    → AreThere v (kids_in bus at slots)
kids-there v bus at [] all = tt
kids-there v bus at (s ∷ slots) all = go (turned_to bus at s) (kid-live v bus at s all.0) (kids-there v bus at slots all.1)
  where
    go : (o : Option Key) → IfLive v o → AreThere v (kids_in bus at slots) → AreThere v (cons_option (birth_of o) (kids_in bus at slots))
    go None live rest = rest
    go (Some key) live rest = (live-there v key live, rest)

below-there : (v : Objects) → IsHeap v → (n : ℕ) → AreThere v (below_on v n)
below-there v good n = kids-there v (is_bus v) (is_bus v n) (slots_of v n) (go (content_of v n) refl)
  where
    go : (o : Option Content) → content_of v n ≡ o
        → AllByRecursion (λ (s : Named). IfLive v (target_of s.1)) (option_map_or (λ (c : Content). c.slots) o [])
    go None is = tt
    go (Some c) is = each-names (IsLive v.rows) c.slots (linked-at v good n c is)

all-append : (P : ℕ → Type 0) (xs ys : List ℕ) → AllByRecursion P xs → AllByRecursion P ys → AllByRecursion P (xs ++ ys)
all-append P [] ys all more = more
all-append P (x ∷ xs) ys all more = (all.0, all-append P xs ys all.1 more)

each-there : (v : Objects) (f : ℕ → List ℕ) (ns : List ℕ) → ((n : ℕ) → is_some (content_of v n) ≡ true → AreThere v (f n)) → AreThere v ns
    → AreThere v (flat_map f ns)
each-there v f [] one all = tt
each-there v f (n ∷ ns) one all =
    all-append (λ (m : ℕ). is_some (content_of v m) ≡ true) (f n) (flat_map f ns) (one n all.0) (each-there v f ns one all.1)

pub post-there : (v : Objects) → IsHeap v → (levels n : ℕ) → is_some (content_of v n) ≡ true → AreThere v (post_by (below_on v) levels n)
unfolding post_by
post-there v good zero n there = tt
post-there v good (suc levels) n there =
    all-append (λ (m : ℕ). is_some (content_of v m) ≡ true) (flat_map (post_by (below_on v) levels) (below_on v n)) (n ∷ [])
    (each-there v (post_by (below_on v) levels) (below_on v n) (λ m at. post-there v good levels m at) (below-there v good n))
    (there, tt)

-- a walk of acts is a phase

pub phase-timeless : (act : Act) (only : Bool) → reads_moment act ≡ false → IsTimeless (cond only (RunOut act) (Run act))
phase-timeless act true e = e
phase-timeless act false e = e

pub walk-phase : (act : Act) (only : Bool) (holds : List ℕ) (n : ℕ) (v : Objects) → IsHeap v → is_some (content_of v n) ≡ true → CountedBelow n holds v
    → walk_on (cond only (RunOut act) (Run act)) holds n v ≡ phase_on act only holds n v
unfolding visited picks
walk-phase act true holds n v good there kept = run-picked act holds holds n v kept (post-there v good (suc (length v.rows)) n there)
walk-phase act false holds n v good there kept =
    run-all act holds (all_below v n) v ∙ ap (λ (l : List ℕ). walked act l v) (sym (filter-all (all_below v n)))

pub phase-still : (act : Act) (only : Bool) (holds : List ℕ) (n : ℕ) (v : Objects) → KeepsCounts v (phase_on act only holds n v)
phase-still act only holds n v = all-counts act (picks only holds n v) v

-- the limit, by what is kept

full-agree : (v : Objects) (holds ns : List ℕ) → CountsKept holds v → AreThere v ns → list_any (is_full v) ns ≡ list_any (exceeds_depth_at v holds) ns
full-agree v holds [] kept all = refl
full-agree v holds (n ∷ ns) kept all =
    ap₂ (λ (k : ℕ) (t : Bool). nat_lt HOLD_COUNT_MAX k || t) (kept-is v holds kept n all.0) (full-agree v holds ns kept all.1)

none-among : (p : ℕ → Bool) (ns : List ℕ) → list_any p ns ≡ false → (m : ℕ) → among ns m ≡ true → p m ≡ false
none-among p [] none m some = cc
none-among p (n ∷ ns) none m some = go (p n) refl (eqb m n) refl none some (λ off on. none-among p ns off m on)
  where
    go : (t : Bool) → p n ≡ t → (u : Bool) → eqb m n ≡ u → (t || list_any p ns) ≡ false → (u || among ns m) ≡ true
        → (list_any p ns ≡ false → among ns m ≡ true → p m ≡ false) → p m ≡ false
    go true is u e off on rest = cc
    go false is true e off on rest = ap p (eqb-true m n e) ∙ is
    go false is false e off on rest = rest off on

pub full-below : (v : Objects) → IsHeap v → (holds : List ℕ) (n levels : ℕ) → is_some (content_of v n) ≡ true → CountsKept holds v
    → list_any (is_full v) (post_by (below_on v) levels n) ≡ list_any (exceeds_depth_at v holds) (post_by (below_on v) levels n)
full-below v good holds n levels there kept =
    full-agree v holds (post_by (below_on v) levels n) kept (post-there v good levels n there)

pub has-room : (v : Objects) (holds : List ℕ) (n : ℕ) → list_any (exceeds_depth_at v holds) (all_below v n) ≡ false → HasRoom n holds v
has-room v holds n none m under =
    let low : nat_lt HOLD_COUNT_MAX (count_on v holds m) ≡ false = none-among (exceeds_depth_at v holds) (all_below v n) none m under in
    grind (arith, nat_tests, low)

-- what is kept of objects does not show

pub shows-sided : (b : Board) (v : Objects) (n : ℕ) (f : Side → Side) → Shows b v → Shows b (with_edit n (sided f) v)
shows-sided b v n f s =
    record {
      records = s.records ∙ sym (edit-unseen n (sided f) (λ m c. refl) v.rows);
      born = s.born;
      pins = s.pins ∙ sym (pins-edited n (sided f) (λ c. refl) v.rows);
      notes = s.notes;
      events = s.events;
      now = s.now;
    }

shows-tallies : (tally : Tally) (holds ns : List ℕ) (b : Board) (v : Objects) → Shows b v → Shows b (turned (Count tally) holds ns v)
unfolding turned
shows-tallies tally holds [] b v s = s
shows-tallies tally holds (n ∷ ns) b v s = shows-tallies tally holds ns b (with_edit n (sided (tallied tally)) v) (shows-sided b v n (tallied tally) s)

pub shows-tallied : (tally : Tally) (n : ℕ) (b : Board) (v : Objects) → Shows b v → Shows b (tallied_on tally n v)
unfolding visited
shows-tallied tally n b v s =
    let w : Objects = turned (Count tally) [] (all_below v n) v in
    shows-tallies Unmark [] (all_below w n) b w (shows-tallies tally [] (all_below v n) b v s)

shows-counted : (holds ns : List ℕ) (b : Board) (v : Objects) → Shows b v → Shows b (turned Recount holds ns v)
unfolding turned
shows-counted holds [] b v s = s
shows-counted holds (n ∷ ns) b v s =
    let change : Side → Side = counted (min (count_on v holds n) HOLDS_MAX) in
    shows-counted holds ns b (with_edit n (sided change) v) (shows-sided b v n change s)

pub shows-recounted : (holds : List ℕ) (n : ℕ) (b : Board) (v : Objects) → Shows b v → Shows b (walk_on Recount holds n v)
unfolding visited
shows-recounted holds n b v s = shows-counted holds (all_below v n) b v s
