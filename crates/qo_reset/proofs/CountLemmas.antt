-- Counts that are kept: what walks leave of them, and what a hold that comes or goes makes of them.
use Rattle.std.proofs.Common.{◌≡◌, refl, ap, ap₂, sym, subst, ◌∙◌, ℕ, zero, suc, ◌+◌, ◌-◌, ◌≤◌, ◌<◌, min, Bool, true, false, not, ◌||◌, cond, eqb, nat_lt, nat_eq, List, [], ◌∷◌, ◌++◌, length, filter, filter_map, count_by, Option, Some, None, option_map, is_some, IfSome, arith}
use Rattle.std.specs.List.{AllByRecursion, cons_option, flat_map, list_any}
use Rattle.std.specs.Option.{option_map_or}
use Rattle.std.proofs.lemmas.Bool.{eq-eqb, eqb-true}
use Rattle.std.proofs.lemmas.Bool.Decides.{nat_tests}
use Rattle.std.proofs.lemmas.List.Sums.{count_by-le-length, sum_by-append, sum_by-cons}
use Rattle.std.proofs.lemmas.Option.{same_Some}
use Rattle.qo_values.specs.declared.kinds.Act.{Act}
use Rattle.qo_values.specs.declared.limits.TheConstants.{HOLD_COUNT_MAX}
use Rattle.qo_slots.specs.declared.keys.Key.{Key}
use Rattle.qo_model.specs.Depth.{among}
use Rattle.qo_model.specs.Release.{without_first}
use Rattle.qo_model.proofs.AmongLemmas.{among-all}
use Rattle.qo_object.specs.declared.room.Side.{Side}
use Rattle.qo_object.specs.Content.{Content, acted_at, with_side}
use Rattle.qo_heap.specs.Acts.{Acts, KeepsCounts, counted_in, counts_of}
use Rattle.qo_heap.specs.Objects.{IsHeap, Objects, content_of, with_edit}
use Rattle.qo_heap.proofs.ActsLemmas.{acts-none, acts-then}
use Rattle.qo_heap.proofs.ActsReads.{acts-length}
use Rattle.qo_heap.proofs.HeapLemmas.{edit-is}
use Rattle.qo_reset.specs.declared.turns.Tally.{Tally}
use Rattle.qo_reset.specs.declared.turns.Tally.TheVariants.{Raise, Lower, Unmark}
use Rattle.qo_reset.specs.declared.turns.TheConstants.{HOLDS_MAX}
use Rattle.qo_reset.specs.declared.turns.Turn.{Turn}
use Rattle.qo_reset.specs.declared.turns.Turn.TheVariants.{Run, RunOut, Count, Recount}
use Rattle.qo_reset.specs.Counts.{CountedBelow, CountsKept, CountsKeptBut, HasRoom, IsCounted, KeepsOthers, kept_count}
use Rattle.qo_reset.specs.Phases.{acted_on, walked, below_on, count_on, is_under, out_on, post_by}
use Rattle.qo_reset.specs.Turns.{counted, done, sided, tallied, tallied_on, visited, walk_on, turned}
use Rattle.qo_reset.proofs.WalkLemmas.{acts-below, acts-count, content-after, done-acts, read-after, turned-acts}

-- how many pass a test, with a hold more and a hold less

abbrev one_if : Bool → ℕ
one_if t = cond {A = ℕ} t 1 0

count-cons : (p : ℕ → Bool) (x : ℕ) (xs : List ℕ) → count_by p (x ∷ xs) ≡ one_if (p x) + count_by p xs
count-cons p x xs = sum_by-cons (λ (y : ℕ). one_if (p y)) x xs

pub count-more : (p : ℕ → Bool) (n : ℕ) (holds : List ℕ) → count_by p (holds ++ n ∷ []) ≡ count_by p holds + one_if (p n)
count-more p n holds = omega (arith, sum_by-append (λ (x : ℕ). one_if (p x)) holds (n ∷ []), sum_by-cons (λ (x : ℕ). one_if (p x)) n [])

pub count-less : (p : ℕ → Bool) (n : ℕ) (holds : List ℕ) → among holds n ≡ true → count_by p (without_first n holds) + one_if (p n) ≡ count_by p holds
count-less p n [] e = cc
count-less p n (h ∷ holds) e = go (eqb h n) refl (count-less p n holds)
  where
    back : eqb n h ≡ eqb h n
    back = grind (arith, nat_tests)

    go : (t : Bool) → eqb h n ≡ t → (among holds n ≡ true → count_by p (without_first n holds) + one_if (p n) ≡ count_by p holds)
        → count_by p (cond t holds (h ∷ without_first n holds)) + one_if (p n) ≡ count_by p (h ∷ holds)
    go true is rest =
        let same : one_if (p n) ≡ one_if (p h) = ap (λ (k : ℕ). one_if (p k)) (sym (eqb-true h n is)) in
        omega (arith, same, count-cons p h holds)
    go false is rest =
        let there : among holds n ≡ true = sym (ap (λ (t : Bool). t || among holds n) (back ∙ is)) ∙ e in
        omega (arith, rest there, count-cons p h holds, count-cons p h (without_first n holds))

among-last : (n : ℕ) (holds : List ℕ) → among (holds ++ n ∷ []) n ≡ true
among-last n [] = rw (eq-eqb n n refl) refl
among-last n (h ∷ holds) = go (eqb n h) (among-last n holds)
  where
    go : (t : Bool) → among (holds ++ n ∷ []) n ≡ true → (t || among (holds ++ n ∷ []) n) ≡ true
    go true e = refl
    go false e = e

-- a hold that is taken and released at once leaves all counts
pub count-same : (v : Objects) (n : ℕ) (holds : List ℕ) (m : ℕ) → count_on v (without_first n (holds ++ n ∷ [])) m ≡ count_on v holds m
unfolding count_on
count-same v n holds m =
    let less : count_by (is_under v m) (without_first n (holds ++ n ∷ [])) + one_if (is_under v m n) ≡ count_by (is_under v m) (holds ++ n ∷ []) =
    count-less (is_under v m) n (holds ++ n ∷ []) (among-last n holds) in
    let more : count_by (is_under v m) (holds ++ n ∷ []) ≡ count_by (is_under v m) holds + one_if (is_under v m n) =
    count-more (is_under v m) n holds in
    omega (arith, less, more)

pub kept-same : (v : Objects) (n : ℕ) (holds : List ℕ) → CountsKept holds v → CountsKept (without_first n (holds ++ n ∷ [])) v
kept-same v n holds kept m c there =
    let k : IsCounted v holds m c = kept m c there in
    record { count = k.count ∙ sym (count-same v n holds m); unmarked = k.unmarked }

-- who is there with what is kept

there-of : {A : Type 0} (o : Option Content) (f : Content → A) (d : A) → option_map f o ≡ Some d → (c : Content) × (o ≡ Some c) × (f c ≡ d)
there-of None f d e = cc
there-of (Some c) f d e = (c, refl, same_Some (f c) d e)

kept-at : (v : Objects) (holds : List ℕ) (n : ℕ) → ((c : Content) → content_of v n ≡ Some c → IsCounted v holds n c) → is_some (content_of v n) ≡ true
    → kept_count v n ≡ count_on v holds n
kept-at v holds n kept there = go (content_of v n) refl there
  where
    go : (o : Option Content) → content_of v n ≡ o → is_some o ≡ true → option_map_or (λ (c : Content). c.side.count) o 0 ≡ count_on v holds n
    go None is some = cc
    go (Some c) is some = (kept c is).count

pub kept-is : (v : Objects) (holds : List ℕ) → CountsKept holds v → (n : ℕ) → is_some (content_of v n) ≡ true → kept_count v n ≡ count_on v holds n
kept-is v holds kept n there = kept-at v holds n (kept n) there

-- what is kept of an object is written, as it was read
pub sided-as : (v : Objects) → IsHeap v → (n : ℕ) (f : Side → Side) (s : Side) → option_map (λ (c : Content). c.side) (content_of v n) ≡ Some s
    → with_edit n (with_side (f s)) v ≡ with_edit n (sided f) v
sided-as v good n f s e =
    let found = there-of (content_of v n) (λ c. c.side) s e in
    sym (edit-is v good n (with_side (f s)) found.0 (with_side (f s) found.0) found.1 refl)
    ∙ edit-is v good n (sided f) found.0 (with_side (f s) found.0) found.1 (ap (λ (x : Side). with_side (f x) found.0) (sym found.2))

-- acts that leave the counts keep them right

acts-at : (v w : Objects) (holds : List ℕ) → Acts v w → KeepsCounts v w → (m : ℕ) → ((c : Content) → content_of v m ≡ Some c → IsCounted v holds m c)
    → (d : Content) → content_of w m ≡ Some d → IsCounted w holds m d
acts-at v w holds acts same m kept d there = go (content_of v m) refl (sym (same m) ∙ ap (option_map counts_of) there)
  where
    go : (o : Option Content) → content_of v m ≡ o → option_map counts_of o ≡ Some (counts_of d) → IsCounted w holds m d
    go None is e = cc
    go (Some c) is e =
        let both : counts_of c ≡ counts_of d = same_Some _ _ e in
        let k : IsCounted v holds m c = kept c is in
        record {
          count = sym (ap (λ (p : ℕ × ℕ). p.0) both) ∙ k.count ∙ sym (ap (λ (f : ℕ → ℕ). f m) (acts-count holds v w acts));
          unmarked = sym (ap (λ (p : ℕ × ℕ). p.1) both) ∙ k.unmarked;
        }

pub acts-kept : (v w : Objects) (holds : List ℕ) → Acts v w → KeepsCounts v w → CountsKept holds v → CountsKept holds w
acts-kept v w holds acts same kept m d there = acts-at v w holds acts same m (kept m) d there

pub all_below-acts : (v w : Objects) → Acts v w → (n m : ℕ) → is_under w m n ≡ is_under v m n
all_below-acts v w acts n m =
    ap₂ (λ (next : ℕ → List ℕ) (d : ℕ). among (post_by next (suc d) n) m) (acts-below v w acts) (acts-length v w acts)

pub below-kept : (v w : Objects) (holds : List ℕ) (root : ℕ) → Acts v w → KeepsCounts v w → CountedBelow root holds v → CountedBelow root holds w
below-kept v w holds root acts same kept m d there under =
    acts-at v w holds acts same m (λ c is. kept m c is (sym (all_below-acts v w acts root m) ∙ under)) d there

pub kept-below : (v : Objects) (holds : List ℕ) (root : ℕ) → CountsKept holds v → CountedBelow root holds v
kept-below v holds root kept m c there under = kept m c there

-- and leave room
pub room-acts : (v w : Objects) (holds : List ℕ) (root : ℕ) → Acts v w → HasRoom root holds v → HasRoom root holds w
room-acts v w holds root acts room m under =
    subst (λ (k : ℕ). k ≤ HOLD_COUNT_MAX) (sym (ap (λ (f : ℕ → ℕ). f m) (acts-count holds v w acts))) (room m (sym (all_below-acts v w acts root m) ∙ under))

-- acts of those below

acted-counts : (act : Act) (n : ℕ) (v : Objects) → KeepsCounts v (acted_on act n v)
acted-counts act n v m = read-after counts_of n (acted_at act v.time 0) (λ c. refl) v m

pub all-counts : (act : Act) (ns : List ℕ) (v : Objects) → KeepsCounts v (walked act ns v)
unfolding walked
all-counts act [] v m = refl
all-counts act (n ∷ ns) v m = all-counts act ns (acted_on act n v) m ∙ acted-counts act n v m

same-count : (v w : Objects) → KeepsCounts v w → (m : ℕ) → kept_count w m ≡ kept_count v m
same-count v w same m = sym (first (content_of w m)) ∙ ap (λ (o : Option (ℕ × ℕ)). option_map_or (λ (p : ℕ × ℕ). p.0) o 0) (same m) ∙ first (content_of v m)
  where
    first : (o : Option Content)
        → option_map_or (λ (p : ℕ × ℕ). p.0) (option_map counts_of o) 0
        ≡ option_map_or (λ (c : Content). c.side.count) o 0
    first None = refl
    first (Some c) = refl

pub run-all : (act : Act) (holds ns : List ℕ) (v : Objects) → turned (Run act) holds ns v ≡ walked act ns v
unfolding turned walked
run-all act holds [] v = refl
run-all act holds (n ∷ ns) v = run-all act holds ns (acted_on act n v)

abbrev is_out : Objects → ℕ → Bool
is_out v n = eqb (kept_count v n) 0

run-out : (act : Act) (holds ns : List ℕ) (u v : Objects) → KeepsCounts u v → turned (RunOut act) holds ns v ≡ walked act (filter (is_out u) ns) v
unfolding turned walked
run-out act holds [] u v same = refl
run-out act holds (n ∷ ns) u v same =
    ap (λ (t : Bool). turned (RunOut act) holds ns (cond t (acted_on act n v) v)) (ap (λ (k : ℕ). eqb k 0) (same-count u v same n))
    ∙ go (is_out u n) (run-out act holds ns u (acted_on act n v) (λ m. acted-counts act n v m ∙ same m)) (run-out act holds ns u v same)
  where
    go : (t : Bool) → turned (RunOut act) holds ns (acted_on act n v) ≡ walked act (filter (is_out u) ns) (acted_on act n v)
        → turned (RunOut act) holds ns v ≡ walked act (filter (is_out u) ns) v
        → turned (RunOut act) holds ns (cond t (acted_on act n v) v) ≡ walked act (cond t (n ∷ filter (is_out u) ns) (filter (is_out u) ns)) v
    go true some none = some
    go false some none = none

filter-agree : (p q : ℕ → Bool) (ns : List ℕ) → AllByRecursion (λ n. p n ≡ q n) ns → filter p ns ≡ filter q ns
filter-agree p q [] all = refl
filter-agree p q (n ∷ ns) all = ap₂ (λ (t : Bool) (rest : List ℕ). cond t (n ∷ rest) rest) all.0 (filter-agree p q ns all.1)

abbrev pub AreThere : Objects → List ℕ → Type 0
AreThere v ns = AllByRecursion (λ n. is_some (content_of v n) ≡ true) ns

-- what is so of each number among some is so of all of them
all-among : (P : ℕ → Type 0) (ns : List ℕ) → ((n : ℕ) → among ns n ≡ true → P n) → AllByRecursion P ns
all-among P [] each = tt
all-among P (n ∷ ns) each = (each n (rw (eq-eqb n n refl) refl), all-among P ns (λ m some. each m (go m (eqb m n) some)))
  where
    go : (m : ℕ) (t : Bool) → among ns m ≡ true → (t || among ns m) ≡ true
    go m true e = refl
    go m false e = e

abbrev pub all_below : Objects → ℕ → List ℕ
all_below v n = post_by (below_on v) (suc (length v.rows)) n

out-agree : (v : Objects) (holds : List ℕ) (root : ℕ) → CountedBelow root holds v → AreThere v (all_below v root)
    → AllByRecursion (λ n. is_out v n ≡ out_on v holds n) (all_below v root)
out-agree v holds root kept there =
    all-among (λ n. is_out v n ≡ out_on v holds n) (all_below v root)
    (λ n some. ap (λ (k : ℕ). eqb k 0)
    (kept-at v holds n (λ c is. kept n c is some) (among-all (λ m. is_some (content_of v m) ≡ true) (all_below v root) there n some)))

pub run-picked : (act : Act) (any holds : List ℕ) (root : ℕ) (v : Objects) → CountedBelow root holds v → AreThere v (all_below v root)
    → turned (RunOut act) any (all_below v root) v ≡ walked act (filter (out_on v holds) (all_below v root)) v
run-picked act any holds root v kept there =
    run-out act any (all_below v root) v v (λ m. refl)
    ∙ ap (λ (l : List ℕ). walked act l v) (filter-agree (is_out v) (out_on v holds) (all_below v root) (out-agree v holds root kept there))

-- what is kept of an object after a walk over others, each as often as it is listed

edits : (ℕ → Content → Content) → List ℕ → Objects → Objects
edits f [] v = v
edits f (n ∷ ns) v = edits f ns (with_edit n (f n) v)

abbrev after : (ℕ → Content → Content) → List ℕ → ℕ → Content → Content
after f ns m c = cond (among ns m) (f m c) c

module _ (f : ℕ → Content → Content) (once : (m : ℕ) (c : Content) → f m (f m c) ≡ f m c) where
  after-more : (n : ℕ) (ns : List ℕ) (m : ℕ) (c : Content) → after f ns m (cond (eqb m n) (f n c) c) ≡ cond (eqb m n || among ns m) (f m c) c
  after-more n ns m c = go (eqb m n) refl
    where
      twice : (t : Bool) → cond t (f m (f m c)) (f m c) ≡ f m c
      twice true = once m c
      twice false = refl

      go : (t : Bool) → eqb m n ≡ t → after f ns m (cond t (f n c) c) ≡ cond (t || among ns m) (f m c) c
      go true e = ap (λ (k : ℕ). after f ns m (f k c)) (sym (eqb-true m n e)) ∙ twice (among ns m)
      go false e = refl

  content-edits : (ns : List ℕ) (v : Objects) (m : ℕ) → content_of (edits f ns v) m ≡ option_map (after f ns m) (content_of v m)
  unfolding edits
  content-edits [] v m = same (content_of v m)
    where
      same : (o : Option Content) → o ≡ option_map (λ (c : Content). c) o
      same None = refl
      same (Some c) = refl
  content-edits (n ∷ ns) v m =
      content-edits ns (with_edit n (f n) v) m
      ∙ ap (option_map (after f ns m)) (content-after n m (f n) v)
      ∙ go (content_of v m)
    where
      go : (o : Option Content)
          → option_map (after f ns m) (option_map (λ (c : Content). cond (eqb m n) (f n c) c) o) ≡ option_map (λ (c : Content). cond (eqb m n || among ns m) (f m c) c) o
      go None = refl
      go (Some c) = ap Some (after-more n ns m c)

-- counts that change once

tallied-once : (tally : Tally) (s : Side) → tallied tally (tallied tally s) ≡ tallied tally s
tallied-once Raise s = go (eqb s.marks 0) refl
  where
    one : Side
    one = record s { count = min (s.count + 1) HOLDS_MAX; marks = 1 }

    go : (t : Bool) → eqb s.marks 0 ≡ t → tallied Raise (cond t one s) ≡ cond t one s
    go true e = refl
    go false e = rw e refl
tallied-once Lower s = go (eqb s.marks 0) refl
  where
    one : Side
    one = record s { count = s.count - 1; marks = 1 }

    go : (t : Bool) → eqb s.marks 0 ≡ t → tallied Lower (cond t one s) ≡ cond t one s
    go true e = refl
    go false e = rw e refl
tallied-once Unmark s = refl

turned-tallies : (tally : Tally) (holds ns : List ℕ) (v : Objects) → turned (Count tally) holds ns v ≡ edits (λ _. sided (tallied tally)) ns v
unfolding turned edits
turned-tallies tally holds [] v = refl
turned-tallies tally holds (n ∷ ns) v = turned-tallies tally holds ns (with_edit n (sided (tallied tally)) v)

content-tallies : (tally : Tally) (holds ns : List ℕ) (v : Objects) (m : ℕ)
    → content_of (turned (Count tally) holds ns v) m ≡ option_map (after (λ _. sided (tallied tally)) ns m) (content_of v m)
content-tallies tally holds ns v m =
    ap (λ (x : Objects). content_of x m) (turned-tallies tally holds ns v)
    ∙ content-edits (λ _. sided (tallied tally)) (λ k c. ap (λ (s : Side). record c { side = s }) (tallied-once tally c.side)) ns v m

acts-all : (v w : Objects) → Acts v w → (n : ℕ) → all_below w n ≡ all_below v n
acts-all v w acts n = ap₂ (λ (next : ℕ → List ℕ) (d : ℕ). post_by next (suc d) n) (acts-below v w acts) (acts-length v w acts)

abbrev unmarked : Tally → Content → Content
unmarked tally c = sided (tallied Unmark) (sided (tallied tally) c)

content-tallied : (tally : Tally) (n : ℕ) (v : Objects) (m : ℕ)
    → content_of (tallied_on tally n v) m ≡ option_map (λ (c : Content). cond (is_under v m n) (unmarked tally c) c) (content_of v m)
unfolding visited
content-tallied tally n v m =
    let w : Objects = turned (Count tally) [] (all_below v n) v in
    content-tallies Unmark [] (all_below w n) w m
    ∙ ap (λ (l : List ℕ). option_map (after (λ _. sided (tallied Unmark)) l m) (content_of w m)) (acts-all v w (turned-acts (Count tally) [] (all_below v n) v) n)
    ∙ ap (option_map (after (λ _. sided (tallied Unmark)) (all_below v n) m)) (content-tallies tally [] (all_below v n) v m)
    ∙ go (content_of v m)
  where
    both : (t : Bool) (c : Content)
        → cond t (sided (tallied Unmark) (cond t (sided (tallied tally) c) c)) (cond t (sided (tallied tally) c) c) ≡ cond t (unmarked tally c) c
    both true c = refl
    both false c = refl

    go : (o : Option Content)
        → option_map (after (λ _. sided (tallied Unmark)) (all_below v n) m) (option_map (after (λ _. sided (tallied tally)) (all_below v n) m) o)
        ≡ option_map (λ (c : Content). cond (is_under v m n) (unmarked tally c) c) o
    go None = refl
    go (Some c) = ap Some (both (is_under v m n) c)

tallied_on-acts : (tally : Tally) (n : ℕ) (v : Objects) → Acts v (tallied_on tally n v)
unfolding visited
tallied_on-acts tally n v =
    let w : Objects = turned (Count tally) [] (all_below v n) v in
    acts-then v w (turned (Count Unmark) [] (all_below w n) w) (turned-acts (Count tally) [] (all_below v n) v) (turned-acts (Count Unmark) [] (all_below w n) w)

-- a hold comes

raised-count : (c : Content) → c.side.marks ≡ 0 → c.side.count ≤ HOLD_COUNT_MAX
    → ((unmarked Raise c).side.count ≡ c.side.count + 1) × ((unmarked Raise c).side.marks ≡ 0)
raised-count c bare low =
    let one : Side = record c.side { count = min (c.side.count + 1) HOLDS_MAX; marks = 1 } in
    let few : min (c.side.count + 1) HOLDS_MAX ≡ c.side.count + 1 = grind (arith, low) in
    (ap (λ (k : ℕ). (cond (eqb k 0) one c.side).count) bare ∙ few, refl)

pub kept-raised : (v : Objects) (holds : List ℕ) (n : ℕ) → CountsKept holds v → HasRoom n holds v → CountsKept (holds ++ n ∷ []) (tallied_on Raise n v)
unfolding count_on
kept-raised v holds n kept room m d there =
    let found = there-of (content_of v m) (λ c. cond (is_under v m n) (unmarked Raise c) c) d (sym (content-tallied Raise n v m) ∙ there) in
    go (is_under v m n) refl found.0 (kept m found.0 found.1) d found.2
  where
    w : Objects
    w = tallied_on Raise n v

    same : (m : ℕ) → count_on w (holds ++ n ∷ []) m ≡ count_on v (holds ++ n ∷ []) m
    same m = ap (λ (f : ℕ → ℕ). f m) (acts-count (holds ++ n ∷ []) v w (tallied_on-acts Raise n v))

    go : (t : Bool) → is_under v m n ≡ t → (c : Content) → IsCounted v holds m c → (d : Content) → cond t (unmarked Raise c) c ≡ d → IsCounted w (holds ++ n ∷ []) m d
    go true e c k d is =
        let low : c.side.count ≤ HOLD_COUNT_MAX = rw k.count (room m e) in
        let more : count_on v (holds ++ n ∷ []) m ≡ count_on v holds m + 1 =
        count-more (is_under v m) n holds ∙ ap (λ (t : Bool). count_by (is_under v m) holds + one_if t) e in
        let raised = raised-count c k.unmarked low in
        subst (IsCounted w (holds ++ n ∷ []) m) is
        (record { count = raised.0 ∙ ap (λ (x : ℕ). x + 1) k.count ∙ sym more ∙ sym (same m); unmarked = raised.1 })
    go false e c k d is =
        let more : count_on v (holds ++ n ∷ []) m ≡ count_on v holds m =
        count-more (is_under v m) n holds ∙ ap (λ (t : Bool). count_by (is_under v m) holds + one_if t) e ∙ (omega arith) in
        subst (IsCounted w (holds ++ n ∷ []) m) is (record { count = k.count ∙ sym more ∙ sym (same m); unmarked = k.unmarked })

-- a hold goes

pub kept-lowered : (v : Objects) (holds : List ℕ) (n : ℕ) → CountsKept holds v → among holds n ≡ true
    → CountsKept (without_first n holds) (tallied_on Lower n v)
unfolding count_on
kept-lowered v holds n kept some m d there =
    let found = there-of (content_of v m) (λ c. cond (is_under v m n) (unmarked Lower c) c) d (sym (content-tallied Lower n v m) ∙ there) in
    go (is_under v m n) refl found.0 (kept m found.0 found.1) d found.2
  where
    w : Objects
    w = tallied_on Lower n v

    same : (m : ℕ) → count_on w (without_first n holds) m ≡ count_on v (without_first n holds) m
    same m = ap (λ (f : ℕ → ℕ). f m) (acts-count (without_first n holds) v w (tallied_on-acts Lower n v))

    less : count_by (is_under v m) (without_first n holds) + one_if (is_under v m n) ≡ count_by (is_under v m) holds
    less = count-less (is_under v m) n holds some

    go : (t : Bool) → is_under v m n ≡ t → (c : Content) → IsCounted v holds m c → (d : Content) → cond t (unmarked Lower c) c ≡ d
        → IsCounted w (without_first n holds) m d
    go true e c k d is =
        let one : one_if (is_under v m n) ≡ 1 = ap one_if e in
        let low : (unmarked Lower c).side.count ≡ c.side.count - 1 = ap (λ (x : ℕ). (cond (eqb x 0) (record c.side { count = c.side.count - 1; marks = 1 }) c.side).count) k.unmarked in
        let count : c.side.count - 1 ≡ count_by (is_under v m) (without_first n holds) = let kept_is = k.count in omega (arith, one, less, kept_is) in
        subst (IsCounted w (without_first n holds) m) is (record { count = low ∙ count ∙ sym (same m); unmarked = refl })
    go false e c k d is =
        let none : one_if (is_under v m n) ≡ 0 = ap one_if e in
        let count : c.side.count ≡ count_by (is_under v m) (without_first n holds) = let kept_is = k.count in omega (arith, none, less, kept_is) in
        subst (IsCounted w (without_first n holds) m) is (record { count = count ∙ sym (same m); unmarked = k.unmarked })

-- counted afresh

abbrev recounted : Objects → List ℕ → ℕ → Content → Content
recounted v holds n = sided (counted (min (count_on v holds n) HOLDS_MAX))

turned-recount : (holds ns : List ℕ) (u v : Objects) → Acts u v → turned Recount holds ns v ≡ edits (recounted u holds) ns v
unfolding turned edits
turned-recount holds [] u v acts = refl
turned-recount holds (n ∷ ns) u v acts =
    let next : Objects = done Recount holds n v in
    turned-recount holds ns u next (acts-then u v next acts (done-acts Recount holds n v))
    ∙ ap (λ (k : ℕ). edits (recounted u holds) ns (with_edit n (sided (counted (min k HOLDS_MAX))) v)) (ap (λ (f : ℕ → ℕ). f n) (acts-count holds u v acts))

module _ (v : Objects) (holds : List ℕ) (n : ℕ) where
  abbrev recounted_heap : Objects
  recounted_heap = turned Recount holds (all_below v n) v

  content-recounted : (m : ℕ) → content_of recounted_heap m ≡ option_map (after (recounted v holds) (all_below v n) m) (content_of v m)
  content-recounted m =
      ap (λ (x : Objects). content_of x m) (turned-recount holds (all_below v n) v v (acts-none v))
      ∙ content-edits (recounted v holds) (λ k c. refl) (all_below v n) v m

  pub counted-below : length holds ≤ HOLDS_MAX → CountedBelow n holds (walk_on Recount holds n v)
  unfolding visited count_on
  counted-below few m d there under =
      let found = there-of (content_of v m) (after (recounted v holds) (all_below v n) m) d (sym (content-recounted m) ∙ there) in
      subst (IsCounted w holds m) (sym (ap (λ (t : Bool). cond t (recounted v holds m found.0) found.0) here) ∙ found.2)
      (record { count = low ∙ sym same; unmarked = refl })
    where
      w : Objects
      w = turned Recount holds (all_below v n) v

      acts : Acts v w
      acts = turned-acts Recount holds (all_below v n) v

      here : is_under v m n ≡ true
      here = sym (all_below-acts v w acts n m) ∙ under

      same : count_on w holds m ≡ count_on v holds m
      same = ap (λ (f : ℕ → ℕ). f m) (acts-count holds v w acts)

      low : min (count_on v holds m) HOLDS_MAX ≡ count_on v holds m
      low = let fits : count_by (is_under v m) holds ≤ length holds = count_by-le-length (is_under v m) holds in grind (arith, fits, few)

  pub others-kept : KeepsOthers n v (walk_on Recount holds n v)
  unfolding visited
  others-kept m other =
      ap (option_map counts_of) (content-recounted m) ∙ go (content_of v m)
    where
      go : (o : Option Content)
          → option_map counts_of (option_map (after (recounted v holds) (all_below v n) m) o)
          ≡ option_map counts_of o
      go None = refl
      go (Some c) = ap (λ (t : Bool). Some (counts_of (cond t (recounted v holds m c) c))) other

-- a device is plugged: what was right of all others is right of all
pub plugged-kept : (v w : Objects) (holds : List ℕ) (n : ℕ) → Acts v w → CountedBelow n holds w → KeepsOthers n v w → CountsKeptBut n holds v → CountsKept holds w
plugged-kept v w holds n acts below others kept m d there = by (is_under v m n) refl
  where
    same : is_under w m n ≡ is_under v m n
    same = all_below-acts v w acts n m

    by : (t : Bool) → is_under v m n ≡ t → IsCounted w holds m d
    by true e = below m d there (same ∙ e)
    by false e = go (content_of v m) refl (sym (others m e) ∙ ap (option_map counts_of) there)
      where
        go : (o : Option Content) → content_of v m ≡ o → option_map counts_of o ≡ Some (counts_of d)
            → IsCounted w holds m d
        go None is q = cc
        go (Some c) is q =
            let both : counts_of c ≡ counts_of d = same_Some _ _ q in
            let k : IsCounted v holds m c = kept m c is e in
            record {
              count = sym (ap (λ (p : ℕ × ℕ). p.0) both) ∙ k.count ∙ sym (ap (λ (f : ℕ → ℕ). f m) (acts-count holds v w acts));
              unmarked = sym (ap (λ (p : ℕ × ℕ). p.1) both) ∙ k.unmarked;
            }
