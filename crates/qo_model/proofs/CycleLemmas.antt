-- A detached object of a sound board is held from a cycle or from an attached object: its holders are followed until one is met again.
use Rattle.std.proofs.Common.{◌≡◌, ◌≢◌, refl, ap, sym, ◌∙◌, ℕ, zero, suc, ◌+◌, ◌<◌, ◌≤◌, Bool, true, false, ◌==◌, eqb, List, [], ◌∷◌, map, length, filter_map, sum_by, count_by, Option, Some, None, is_some, arith}
use Rattle.qo_model.proofs.Common.{AllByRecursion, IsDistinct, nat_eq_equiv, Board, Record, Slot, plain, child, strong, weak, alias, among, leads, Leads, one, more, held_by, HeldFrom, a_cycle, an_attached, CycleLaw, births, attached, attached_turn, refs, refs_in, holds_it, graph_of, without_value, without_values, Rises, SoundGraph}
use Rattle.std.proofs.lemmas.Bool.{eq-eqb}
use Rattle.std.proofs.lemmas.List.Sums.{sum_by-cons}
use Rattle.std.proofs.lemmas.Map.Made.{length-le_from_is_member}
use Rattle.std.proofs.Math.Bool.{or-true}
use Rattle.qo_model.specs.Board.{referent}
use Rattle.qo_model.proofs.AmongLemmas.{among-all, among-apart}
use Rattle.qo_model.proofs.EditLemmas.{sum-held, one_is}
use Rattle.qo_model.proofs.GraphLemmas.{among-above, births-graph_of, births_at}
use Rattle.qo_model.proofs.StepLemmas.{found_at, found-among, live-among, one_of}

-- without plain values the references stay
pub refs-graph_of : (b : Board) (n : ℕ) → refs (graph_of b) n ≡ refs b n
unfolding graph_of
refs-graph_of b n = let same : sum_by (refs_in n) (map without_values b.records) ≡ sum_by (refs_in n) b.records = go b.records in omega (arith, same)
  where
    slot : (s : Slot) → referent (without_value s) ≡ referent s
    slot (plain v) = refl
    slot (child m) = refl
    slot (strong t target) = refl
    slot (weak t target) = refl
    slot (alias m name) = refl

    go : (rs : List Record) → sum_by (refs_in n) (map without_values rs) ≡ sum_by (refs_in n) rs
    go [] = refl
    go (r ∷ rs) = omega (
      arith,
      go rs,
      sum-held (one_is n) without_value slot r.slots,
      sum_by-cons (refs_in n) (without_values r) (map without_values rs),
      sum_by-cons (refs_in n) r rs,
    )

-- the objects that slots hold
abbrev held_in : List (List ℕ × Slot) → List ℕ
held_in slots = filter_map (λ (s : List ℕ × Slot). referent s.1) slots

-- where slots hold n so often, n is among what they hold
counted-held : (n : ℕ) (slots : List (List ℕ × Slot)) → 0 < sum_by (one_of n) slots → among (held_in slots) n ≡ true
counted-held n [] h = absurd (omega arith)
counted-held n (s ∷ slots) h = go (referent s.1) refl (counted-held n slots)
  where
    go : (o : Option ℕ) → referent s.1 ≡ o → (0 < sum_by (one_of n) slots → among (held_in slots) n ≡ true) → among (held_in (s ∷ slots)) n ≡ true
    go None p rest =
        let none : one_of n s ≡ 0 = rw (holds_it, p) refl in
        rw p (rest (omega (arith, sum_by-cons (one_of n) s slots)))
    go (Some m) p rest = rw p (choose (m == n) refl)
      where
        flip : (m == n) ≡ eqb n m
        flip = grind arith

        choose : (t : Bool) → (m == n) ≡ t → among (m ∷ held_in slots) n ≡ true
        choose true q = rw (sym flip ∙ q) refl
        choose false q =
            let none : one_of n s ≡ 0 = rw (holds_it, p, q) refl in
            rw (rest (omega (arith, sum_by-cons (one_of n) s slots))) (or-true (eqb n m))

-- a record among those of different births, found by its own, that holds n
record HolderAt (rs : List Record) (n : ℕ) : Type 0 where
  holder : Record
  found : found_at holder.birth rs ≡ Some holder
  holding : among (held_in holder.slots) n ≡ true

holder-at : (rs : List Record) → Rises (births_at rs) → (n : ℕ) → 0 < sum_by (refs_in n) rs → HolderAt rs n
holder-at [] h n some = absurd (omega arith)
holder-at (r ∷ rs) h n some = go (refs_in n r) refl (holder-at rs h.1 n)
  where
    go : (k : ℕ) → refs_in n r ≡ k → (0 < sum_by (refs_in n) rs → HolderAt rs n) → HolderAt (r ∷ rs) n
    go zero p rest =
        let x : HolderAt rs n = rest (omega (arith, sum_by-cons (refs_in n) r rs)) in
        let there : among (births_at rs) x.holder.birth ≡ true = sym (found-among x.holder.birth rs) ∙ ap is_some x.found in
        let above : r.birth < x.holder.birth = among-above r.birth x.holder.birth (births_at rs) h.0 there in
        let differs : (r.birth == x.holder.birth) ≡ false = grind arith in
        record { holder = x.holder; found = rw differs x.found; holding = x.holding }
    go (suc k) p rest = record { holder = r; found = rw (eq-eqb r.birth r.birth refl) refl; holding = counted-held n r.slots (omega arith) }

-- an object that is there and not attached has a holder that is there
record HasHolder (b : Board) (n : ℕ) : Type 0 where
  holder : ℕ
  there : among (births b) holder ≡ true
  holds : leads (held_by b) holder n ≡ true

detached-other : (b : Board) (n : ℕ) → attached b n ≡ false → n ≢ 1
unfolding attached
detached-other b n e is =
    let one : (n == 1) ≡ true = eq-eqb n 1 is in
    let here : attached b n ≡ true = rw (one, attached_turn) refl in
    let clash : true ≡ false = sym here ∙ e in
    cc

has-holder : (b : Board) → SoundGraph b → (n : ℕ) → among (births b) n ≡ true → attached b n ≡ false → HasHolder b n
unfolding graph_of
has-holder b sound n there e =
    let other : n ≢ 1 = detached-other b n e in
    let some : 0 < refs (graph_of b) n =
    among-all (λ (m : ℕ). m ≢ 1 → 0 < refs (graph_of b) m) (births (graph_of b)) sound.referred n (rw births-graph_of there) other in
    let pins : b.pins ≡ 1 ∷ [] = sound.pinned in
    let not_one : (1 == n) ≡ false = grind arith in
    let unpinned : count_by (λ (m : ℕ). m == n) b.pins ≡ 0 = rw (pins, not_one) refl in
    let rising : Rises (births b) = rw births-graph_of at sound.rising in
    let x : HolderAt b.records n = holder-at b.records rising n (omega (arith, refs-graph_of b n)) in
    record {
      holder = x.holder.birth;
      there = sym (live-among b x.holder.birth) ∙ ap is_some x.found;
      holds = rw x.found x.holding;
    }

-- the objects passed on the way back to m: they differ, they are there, and m leads to each of them
record IsBack (b : Board) (passed : List ℕ) (m : ℕ) : Type 0 where
  distinct : IsDistinct eqb passed
  there : AllByRecursion (λ x. among (births b) x ≡ true) passed
  ahead : AllByRecursion (λ x. Leads (held_by b) m x) passed

-- one step further back
all-back : (b : Board) (k m : ℕ) (passed : List ℕ) → leads (held_by b) k m ≡ true → AllByRecursion (λ x. Leads (held_by b) m x) passed
    → AllByRecursion (λ x. Leads (held_by b) k x) passed
all-back b k m [] e h = tt
all-back b k m (x ∷ xs) e h = (more e h.0, all-back b k m xs e h.1)

back-more : (b : Board) (k m : ℕ) (passed : List ℕ) → IsBack b passed m → among passed m ≡ false → among (births b) m ≡ true → leads (held_by b) k m ≡ true
    → IsBack b (m ∷ passed) k
unfolding IsDistinct
back-more b k m passed w new there e =
    record { distinct = (among-apart m passed new, w.distinct); there = (there, w.there); ahead = (one e, all-back b k m passed e w.ahead) }

-- with a new one they are no more than all objects
back-length : (b : Board) (m : ℕ) (passed : List ℕ) → IsBack b passed m → among passed m ≡ false → among (births b) m ≡ true
    → length passed + 1 ≤ length (births b)
unfolding IsDistinct
back-length b m passed w new there =
    let short : length (m ∷ passed) ≤ length (births b) =
    length-le_from_is_member nat_eq_equiv (m ∷ passed) (births b) (among-apart m passed new, w.distinct)
    (among-all (λ (x : ℕ). among (births b) x ≡ true) (m ∷ passed) (there, w.there)) in
    omega arith

-- an object that was passed closes a cycle
closed : (b : Board) (n m : ℕ) (passed : List ℕ) → IsBack b passed m → among passed m ≡ true → Leads (held_by b) m n → HeldFrom b n
closed b n m passed w met way = a_cycle m (among-all (λ (x : ℕ). Leads (held_by b) m x) passed w.ahead m met) way

-- from m, which leads to n, back along holders, as long as there is room for objects that were not passed
follow : (b : Board) → SoundGraph b → (n : ℕ) (room : ℕ) (m : ℕ) (passed : List ℕ) → length (births b) ≤ length passed + room → IsBack b passed m
    → among (births b) m ≡ true → attached b m ≡ false → Leads (held_by b) m n → HeldFrom b n
follow b sound n zero m passed enough w there e way = go (among passed m) refl
  where
    go : (t : Bool) → among passed m ≡ t → HeldFrom b n
    go true p = closed b n m passed w p way
    go false p = absurd (let short : length passed + 1 ≤ length (births b) = back-length b m passed w p there in omega arith)
follow b sound n (suc room) m passed enough w there e way = go (among passed m) refl (follow b sound n room)
  where
    step : (x : HasHolder b m) → among passed m ≡ false → (t : Bool) → attached b x.holder ≡ t → ((k : ℕ) (ks : List ℕ) → length (births b) ≤ length ks + room
        → IsBack b ks k → among (births b) k ≡ true → attached b k ≡ false → Leads (held_by b) k n → HeldFrom b n) → HeldFrom b n
    step x p true q rest = an_attached x.holder q (more x.holds way)
    step x p false q rest = rest x.holder (m ∷ passed) (omega arith) (back-more b x.holder m passed w p there x.holds) x.there q (more x.holds way)

    go : (t : Bool) → among passed m ≡ t → ((k : ℕ) (ks : List ℕ) → length (births b) ≤ length ks + room → IsBack b ks k → among (births b) k ≡ true
        → attached b k ≡ false → Leads (held_by b) k n → HeldFrom b n) → HeldFrom b n
    go true p rest = closed b n m passed w p way
    go false p rest = let x : HasHolder b m = has-holder b sound m there e in step x p (attached b x.holder) refl rest

pub cycle_lem : CycleLaw
unfolding IsDistinct
cycle_lem b sound n live e =
    let there : among (births b) n ≡ true = sym (live-among b n) ∙ live in
    let x : HasHolder b n = has-holder b sound n there e in
    let none : IsBack b [] x.holder = record { distinct = tt; there = tt; ahead = tt } in
    go x (attached b x.holder) refl none
  where
    go : (x : HasHolder b n) (t : Bool) → attached b x.holder ≡ t → IsBack b [] x.holder → HeldFrom b n
    go x true q none = an_attached x.holder q (one x.holds)
    go x false q none = follow b sound n (length (births b)) x.holder [] (omega arith) none x.there q (one x.holds)
