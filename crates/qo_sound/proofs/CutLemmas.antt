-- A slot of one object that is removed, an object whose slots stay, and lists of a board beside the tree.
use Rattle.std.proofs.Common.{◌≡◌, refl, ap, sym, subst, ◌∙◌, ℕ, zero, suc, ◌+◌, ◌≤◌, Bool, true, false, cond, ◌==◌, List, [], ◌∷◌, map, remove, slice_get, sum_by, Option, Some, None, arith}
use Rattle.qo_model.proofs.Common.{AllByRecursion, IsDistinct, cons_option, bytes_eq, Board, Notice, Record, Slot, record_of, kind_of, is_live, slot_at, cut, with_cut, among, child_of, children_in, refs, refs_in, holds_it, edit, edited, is_clock_slot, is_open, lasting, PassesTo}
use Rattle.qo_model.specs.declared.notes.Note.{Note}
use Rattle.std.proofs.lemmas.Option.{same_Some}
use Rattle.std.proofs.lemmas.List.Sums.{sum_by-cons}
use Rattle.qo_model.specs.Board.{referent, Removal}
use Rattle.qo_model.proofs.EditLemmas.{StandsAt, stands-at}
use Rattle.qo_model.proofs.StepLemmas.{live-among, one_of}
use Rattle.qo_sound.proofs.RecordLemmas.{all-edited, sum-edited}
use Rattle.qo_sound.proofs.SlotLemmas.{clocks_in, names_in, one_child}
use Rattle.qo_sound.proofs.FirmBoardLemmas.{Linked, parents_in, WellFormed, edited-births, firm-edit, firm-beside}
use Rattle.qo_sound.proofs.WorkLemmas.{HasOwn, InvariantBut}

-- lists without the member at a place

pub all-removed : {A : Type 0} (P : A → Type 0) (i : ℕ) (xs : List A) → AllByRecursion P xs → AllByRecursion P (remove xs i)
all-removed P zero [] h = tt
all-removed P (suc i) [] h = tt
all-removed P zero (x ∷ xs) h = h.1
all-removed P (suc i) (x ∷ xs) h = (h.0, all-removed P i xs h.1)

sum-removed : (f : List ℕ × Slot → ℕ) (i : ℕ) (slots : List (List ℕ × Slot)) (s : List ℕ × Slot) → slice_get slots i ≡ Some s
    → sum_by f (remove slots i) + f s ≡ sum_by f slots
sum-removed f i [] s e = cc
sum-removed f zero (x ∷ slots) s e = let same : f x ≡ f s = ap f (same_Some x s e) in omega (arith, same, sum_by-cons f x slots)
sum-removed f (suc i) (x ∷ slots) s e = omega (arith, sum-removed f i slots s e, sum_by-cons f x (remove slots i), sum_by-cons f x slots)

names-removed : (P : List ℕ → Type 0) (i : ℕ) (slots : List (List ℕ × Slot)) → AllByRecursion P (names_in slots) → AllByRecursion P (names_in (remove slots i))
names-removed P zero [] h = tt
names-removed P (suc i) [] h = tt
names-removed P zero (s ∷ slots) h = h.1
names-removed P (suc i) (s ∷ slots) h = (h.0, names-removed P i slots h.1)

distinct-removed : (i : ℕ) (slots : List (List ℕ × Slot)) → IsDistinct bytes_eq (names_in slots) → IsDistinct bytes_eq (names_in (remove slots i))
unfolding IsDistinct
distinct-removed zero [] h = tt
distinct-removed (suc i) [] h = tt
distinct-removed zero (s ∷ slots) h = h.1
distinct-removed (suc i) (s ∷ slots) h = (names-removed (λ name. bytes_eq s.0 name ≡ false) i slots h.0, distinct-removed i slots h.1)

children-removed : (i : ℕ) (slots : List (List ℕ × Slot)) (s : List ℕ × Slot) → slice_get slots i ≡ Some s → child_of s.1 ≡ None
    → children_in (remove slots i) ≡ children_in slots
children-removed i [] s e none = cc
children-removed zero (x ∷ slots) s e none =
    ap (λ (o : Option ℕ). cons_option o (children_in slots)) (sym (ap (λ (y : List ℕ × Slot). child_of y.1) (same_Some x s e) ∙ none))
children-removed (suc i) (x ∷ slots) s e none = ap (cons_option (child_of x.1)) (children-removed i slots s e none)

clocks-removed : (i : ℕ) (slots : List (List ℕ × Slot)) (s : List ℕ × Slot) → slice_get slots i ≡ Some s → child_of s.1 ≡ None
    → clocks_in (remove slots i) ≡ clocks_in slots
clocks-removed i [] s e none = cc
clocks-removed zero (x ∷ slots) s e none = go (is_clock_slot x) refl
  where
    no : child_of x.1 ≡ None
    no = ap (λ (y : List ℕ × Slot). child_of y.1) (same_Some x s e) ∙ none

    go : (t : Bool) → is_clock_slot x ≡ t → clocks_in slots ≡ clocks_in (x ∷ slots)
    go true p = rw p (ap (λ (o : Option ℕ). cons_option o (clocks_in slots)) (sym no))
    go false p = rw p refl
clocks-removed (suc i) (x ∷ slots) s e none = go (is_clock_slot x) refl (clocks-removed i slots s e none)
  where
    go : (t : Bool) → is_clock_slot x ≡ t → clocks_in (remove slots i) ≡ clocks_in slots → clocks_in (x ∷ remove slots i) ≡ clocks_in (x ∷ slots)
    go true p rest = rw p (ap (cons_option (child_of x.1)) rest)
    go false p rest = rw p rest

-- what is shown of an edit that adds no reference and takes none, and keeps children and aliases
module _ (n : ℕ) (change : Record → Record) (same_birth : (r : Record) → (change r).birth ≡ r.birth) (same_kind : (r : Record) → (change r).kind ≡ r.kind) where
  pub near-edit : (o : Option ℕ) (b : Board) → WellFormed (edit n change b) → ((r : Record) → record_of b n ≡ Some r → HasOwn r → HasOwn (change r))
      → ((k : ℕ) → refs b k ≤ refs (edit n change b) k) → InvariantBut o b → InvariantBut o (edit n change b)
  near-edit o b firm owns more h =
      record {
        firm = firm;
        aliases = all-edited HasOwn HasOwn n change b.records h.firm.rising (λ r p k. k) owns h.aliases;
        used = λ m there none. h.used m (same-live m ∙ there) (omega (arith, none, more m));
      }
    where
      same-live : (m : ℕ) → is_live b m ≡ is_live (edit n change b) m
      same-live m = live-among b m ∙ ap (λ (ns : List ℕ). among ns m) (sym (edited-births n change same_birth same_kind b.records))
          ∙ sym (live-among (edit n change b) m)

-- a slot that holds nothing and names no child is removed
pub near-cut : (o : Option ℕ) (b : Board) (n i : ℕ) (s : Slot) → slot_at b n i ≡ Some s → referent s ≡ None → child_of s ≡ None → InvariantBut o b
    → InvariantBut o (cut n i b)
unfolding cut
near-cut o b n i s e empty none h = near-edit n (with_cut i) (λ r. refl) (λ r. refl) o b firm owns more h
  where
    here : StandsAt b n i s
    here = stands-at b n i s e

    entry : (r : Record) → record_of b n ≡ Some r → slice_get r.slots i ≡ Some here.entry
    entry r q = let is : here.owner ≡ r = same_Some here.owner r (sym here.found ∙ q) in
        subst (λ (x : Record). slice_get x.slots i ≡ Some here.entry) is here.at

    no : child_of here.entry.1 ≡ None
    no = ap child_of here.is ∙ none

    firm : WellFormed (edit n (with_cut i) b)
    firm =
        firm-edit n (with_cut i) (λ r. refl) (λ r. refl) b h.firm
        (λ r q k. distinct-removed i r.slots k)
        (λ r q k. all-removed (λ (x : List ℕ × Slot). Linked (kind_of b) x.1) i r.slots k)
        (λ x r. fewer (one_child x) i r.slots)
        (λ r y q k. rw (children-removed i r.slots here.entry (entry r q) no) at k)
      where
        fewer : (f : List ℕ × Slot → ℕ) (j : ℕ) (slots : List (List ℕ × Slot)) → sum_by f (remove slots j) ≤ sum_by f slots
        fewer f zero [] = omega arith
        fewer f (suc j) [] = omega arith
        fewer f zero (x ∷ slots) = omega (arith, sum_by-cons f x slots)
        fewer f (suc j) (x ∷ slots) = omega (arith, fewer f j slots, sum_by-cons f x (remove slots j), sum_by-cons f x slots)

    owns : (r : Record) → record_of b n ≡ Some r → HasOwn r → HasOwn (with_cut i r)
    owns r q k =
        let same : lasting (with_cut i r) ≡ lasting r =
        ap (λ (ns : List ℕ). cond (is_open r.birth) [] ns) (clocks-removed i r.slots here.entry (entry r q) no) in
        subst (λ (ns : List ℕ). AllByRecursion (λ (x : List ℕ × Slot). PassesTo ns x.1) (remove r.slots i)) (sym same)
        (all-removed (λ (x : List ℕ × Slot). PassesTo (lasting r) x.1) i r.slots k)

    more : (k : ℕ) → refs b k ≤ refs (edit n (with_cut i) b) k
    more k =
        let nothing : one_of k here.entry ≡ 0 = rw (here.is, holds_it, empty) refl in
        omega (
          arith,
          nothing,
          sum-removed (one_of k) i here.owner.slots here.entry here.at,
          sum-edited (refs_in k) n (with_cut i) b.records h.firm.rising here.owner here.found,
        )

-- an object is changed, and its slots stay
pub near-same_slots : (n : ℕ) (change : Record → Record) → ((r : Record) → (change r).birth ≡ r.birth) → ((r : Record) → (change r).kind ≡ r.kind)
    → ((r : Record) → (change r).slots ≡ r.slots) → (o : Option ℕ) (b : Board) → InvariantBut o b → InvariantBut o (edit n change b)
near-same_slots n change same_birth same_kind same_slots o b h = near-edit n change same_birth same_kind o b firm owns more h
  where
    firm : WellFormed (edit n change b)
    firm =
        firm-edit n change same_birth same_kind b h.firm
        (λ r q k. subst (λ (slots : List (List ℕ × Slot)). IsDistinct bytes_eq (names_in slots)) (sym (same_slots r)) k)
        (λ r q k. subst (λ (slots : List (List ℕ × Slot)). AllByRecursion (λ (x : List ℕ × Slot). Linked (kind_of b) x.1) slots) (sym (same_slots r)) k)
        (λ x r. let same : parents_in x (change r) ≡ parents_in x r = ap (sum_by (one_child x)) (same_slots r) in omega (arith, same))
        (λ r y q k. subst (λ (slots : List (List ℕ × Slot)). among (children_in slots) y ≡ true) (same_slots r) k)

    owns : (r : Record) → record_of b n ≡ Some r → HasOwn r → HasOwn (change r)
    owns r q k =
        subst (λ (m : ℕ). OwnIn m (change r).slots) (sym (same_birth r)) (subst (λ (slots : List (List ℕ × Slot)). OwnIn r.birth slots) (sym (same_slots r)) k)
      where
        OwnIn : ℕ → List (List ℕ × Slot) → Type 0
        OwnIn m slots = AllByRecursion (λ (x : List ℕ × Slot). PassesTo (cond (is_open m) [] (clocks_in slots)) x.1) slots

    sum-same : (k : ℕ) (rs : List Record) → sum_by (refs_in k) (map (edited n change) rs) ≡ sum_by (refs_in k) rs
    sum-same k [] = refl
    sum-same k (r ∷ rs) = go (r.birth == n) refl (sum-same k rs)
      where
        go : (t : Bool) → (r.birth == n) ≡ t → sum_by (refs_in k) (map (edited n change) rs) ≡ sum_by (refs_in k) rs
            → sum_by (refs_in k) (map (edited n change) (r ∷ rs)) ≡ sum_by (refs_in k) (r ∷ rs)
        go true p rest =
            let same : refs_in k (change r) ≡ refs_in k r = ap (sum_by (one_of k)) (same_slots r) in
            rw (edited, p) (omega (arith, same, rest, sum_by-cons (refs_in k) (change r) (map (edited n change) rs), sum_by-cons (refs_in k) r rs))
        go false p rest = rw (edited, p) (omega (arith, rest, sum_by-cons (refs_in k) r (map (edited n change) rs), sum_by-cons (refs_in k) r rs))

    more : (k : ℕ) → refs b k ≤ refs (edit n change b) k
    more k = omega (arith, sum-same k b.records)

-- the lists beside the tree, and notes
pub near-beside : (o : Option ℕ) (b : Board) (holds : List ℕ) (pending : List Removal) (notices : List Notice) (notes : List Note) → InvariantBut o b
    → InvariantBut o (record b { holds = holds; pending = pending; notices = notices; notes = notes })
near-beside o b holds pending notices notes h =
    record {
      firm = firm-beside b (record b { holds = holds; pending = pending; notices = notices; notes = notes }) h.firm;
      aliases = h.aliases;
      used = h.used;
    }
