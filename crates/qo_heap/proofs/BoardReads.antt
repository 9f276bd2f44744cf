-- What a board has, where it shows a heap.
use Rattle.std.proofs.Common.{◌≡◌, refl, ap, sym, ◌∙◌, ℕ, suc, ◌+◌, ◌*◌, ◌<◌, ◌≤◌, Bool, true, false, not, ◌||◌, cond, eqb, nat_eq, List, [], ◌∷◌, ◌++◌, map, length, find, slice_get, sum_by, count_by, replicate, Option, Some, None, is_some, option_map, IsSomeAnd, arith}
use Rattle.std.specs.Prelude.{option_and_then}
use Rattle.std.specs.List.{list_any}
use Rattle.std.specs.Option.{option_map_or}
use Rattle.std.specs.Str.{bytes_eq}
use Rattle.std.proofs.lemmas.Bool.{eqb-true}
use Rattle.std.proofs.lemmas.Cmp.{nat_list_eq_equiv}
use Rattle.std.proofs.lemmas.List.{length-map}
use Rattle.std.proofs.lemmas.List.Sums.{sum_by-cons, sum_by-append}
use Rattle.std.proofs.lemmas.List.Folds.{sum_by-replicate}
use Rattle.qo_values.specs.declared.kinds.TypeId.{TypeId}
use Rattle.qo_slots.specs.declared.keys.Key.{Key}
use Rattle.qo_heap.specs.Rows.{IsLive, Rises, births, row_at, object_at}
use Rattle.qo_model.specs.Board as board
use Rattle.qo_model.specs.References as references
use Rattle.qo_model.specs.Paths as paths
use Rattle.qo_model.specs.Types.{is_a}
use Rattle.qo_model.specs.Release as release
use Rattle.qo_model.proofs.StepLemmas.{is_some-map}
use Rattle.qo_object.specs.declared.slots.Slot.{Slot}
use Rattle.qo_object.specs.declared.slots.Slot.TheVariants.{Plain, Child, Link, Alias}
use Rattle.qo_object.specs.Slots.{Named, slot_in, target_of, child_of, referent, names_child}
use Rattle.qo_object.specs.Content.{Content, holding, is_parent, named_at}
use Rattle.qo_object.specs.BoardObject.{birth_of, shown_slot, shown_slots, shown}
use Rattle.qo_object.proofs.BoardObjectLemmas.{shown-target, shown-held, slice_get-shown, refs-shown, parent-shown}
use Rattle.qo_heap.specs.Objects.{IsHeap, Objects, content_of, slots_of, pins_of, refs_of, parent_of}
use Rattle.qo_heap.specs.Board.{Shows, record_of, pins_in}
use Rattle.qo_values.proofs.ListLemmas.{found-passes}

-- the records that show rows
abbrev pub records_of : List (Key × Content) → List board.Record
records_of rows = map record_of rows

-- the record of a birth

found-shown : (n : ℕ) (rows : List (Key × Content)) → find (λ (r : board.Record). eqb r.birth n) (records_of rows) ≡ option_map (shown n) (object_at rows n)
found-shown n [] = refl
found-shown n (row ∷ rows) = go (eqb row.0.birth n) refl (found-shown n rows)
  where
    go : (b : Bool) → eqb row.0.birth n ≡ b → find (λ (r : board.Record). eqb r.birth n) (records_of rows) ≡ option_map (shown n) (object_at rows n)
        → find (λ (r : board.Record). eqb r.birth n) (records_of (row ∷ rows)) ≡ option_map (shown n) (object_at (row ∷ rows) n)
    go true is rest = rw is (ap (λ (k : ℕ). Some (shown k row.1)) (eqb-true row.0.birth n is))
    go false is rest = rw is rest

pub shows-record : (b : board.Board) (v : Objects) → Shows b v → (n : ℕ) → board.record_of b n ≡ option_map (shown n) (content_of v n)
shows-record b v s n = ap (λ (rs : List board.Record). find (λ (r : board.Record). eqb r.birth n) rs) s.records ∙ found-shown n v.rows

pub shows-live : (b : board.Board) (v : Objects) → Shows b v → (n : ℕ) → board.is_live b n ≡ is_some (content_of v n)
shows-live b v s n = ap is_some (shows-record b v s n) ∙ is_some-map (shown n) (content_of v n)

-- a name that is live has its object
live-there : (rows : List (Key × Content)) (key : Key) → IsLive rows key → is_some (object_at rows key.birth) ≡ true
live-there rows key live = go (row_at rows key.birth) live
  where
    go : (o : Option (Key × Content)) → IsSomeAnd o (λ row. row.0.index ≡ key.index) → is_some (option_map (λ (row : Key × Content). row.1) o) ≡ true
    go None none = absurd none
    go (Some row) some = refl

pub shows-live_key : (b : board.Board) (v : Objects) → Shows b v → (key : Key) → IsLive v.rows key → board.is_live b key.birth ≡ true
shows-live_key b v s key live = shows-live b v s key.birth ∙ live-there v.rows key live

pub shows-kind : (b : board.Board) (v : Objects) → Shows b v → (n : ℕ) → board.kind_of b n ≡ option_map (λ (c : Content). c.kind) (content_of v n)
shows-kind b v s n = ap (option_map (λ (r : board.Record). r.kind)) (shows-record b v s n) ∙ go (content_of v n)
  where
    go : (o : Option Content) → option_map (λ (r : board.Record). r.kind) (option_map (shown n) o) ≡ option_map (λ (c : Content). c.kind) o
    go None = refl
    go (Some c) = refl

-- whether it is of a type
pub shows-of : (b : board.Board) (v : Objects) → Shows b v → (wanted : List ℕ) (n : ℕ)
    → paths.is_of b wanted n ≡ option_map_or (λ (c : Content). is_a c.kind wanted) (content_of v n) false
shows-of b v s wanted n = ap (λ (o : Option TypeId). option_map_or (λ (t : TypeId). is_a t wanted) o false) (shows-kind b v s n) ∙ go (content_of v n)
  where
    go : (o : Option Content)
        → option_map_or (λ (t : TypeId). is_a t wanted) (option_map (λ (c : Content). c.kind) o) false
        ≡ option_map_or (λ (c : Content). is_a c.kind wanted) o false
    go None = refl
    go (Some c) = refl

births-shown : (rows : List (Key × Content)) → map (λ (r : board.Record). r.birth) (records_of rows) ≡ births rows
births-shown [] = refl
births-shown (row ∷ rows) = ap (λ (l : List ℕ). row.0.birth ∷ l) (births-shown rows)

pub shows-births : (b : board.Board) (v : Objects) → Shows b v → paths.births b ≡ births v.rows
shows-births b v s = ap (map (λ (r : board.Record). r.birth)) s.records ∙ births-shown v.rows

-- as many births as objects
pub shows-size : (b : board.Board) (v : Objects) → Shows b v → length (paths.births b) ≡ length v.rows
shows-size b v s = ap (λ (l : List ℕ). length l) (shows-births b v s) ∙ length-map v.rows (λ row. row.0.birth)

-- slots

pub shows-slots : (b : board.Board) (v : Objects) → Shows b v → (n : ℕ) → board.slots_at b n ≡ shown_slots (slots_of v n)
shows-slots b v s n = ap (λ (o : Option board.Record). option_map_or (λ (r : board.Record). r.slots) o []) (shows-record b v s n) ∙ go (content_of v n)
  where
    go : (o : Option Content)
        → option_map_or (λ (r : board.Record). r.slots) (option_map (shown n) o) [] ≡ shown_slots (option_map_or (λ (c : Content). c.slots) o [])
    go None = refl
    go (Some c) = refl

-- what stands in a slot that was found
found-slot : (o : Option Named) → option_map (λ (t : List ℕ × board.Slot). t.1) (option_map (λ (t : Named). (t.0, shown_slot t.1)) o)
    ≡ option_map shown_slot (option_map (λ (t : Named). t.1) o)
found-slot None = refl
found-slot (Some t) = refl

pub shows-slot_at : (b : board.Board) (v : Objects) → Shows b v → (n i : ℕ) → board.slot_at b n i ≡ option_map shown_slot (slot_in (slots_of v n) i)
shows-slot_at b v s n i =
    ap (λ (slots : List (List ℕ × board.Slot)). option_map (λ (t : List ℕ × board.Slot). t.1) (slice_get slots i)) (shows-slots b v s n)
    ∙ ap (option_map (λ (t : List ℕ × board.Slot). t.1)) (slice_get-shown (slots_of v n) i)
    ∙ found-slot (slice_get (slots_of v n) i)

-- the first that passes a test, among what members give
find-given : {A B : Type 0} (f : A → B) (p : B → Bool) (q : A → Bool) → ((x : A) → p (f x) ≡ q x) → (xs : List A) → find p (map f xs) ≡ option_map f (find q xs)
find-given f p q same [] = refl
find-given {A} {B} f p q same (x ∷ xs) = rw (same x) (go (q x) (find-given f p q same xs))
  where
    go : (b : Bool) → find p (map f xs) ≡ option_map f (find q xs) → cond b (Some (f x)) (find p (map f xs)) ≡ option_map f (cond b (Some x) (find q xs))
    go true rest = refl
    go false rest = rest

pub shows-slot_named : (b : board.Board) (v : Objects) → Shows b v → (n : ℕ) (name : List ℕ)
    → board.slot_named b n name ≡ option_map shown_slot (option_map (λ (t : Named). t.1) (find (λ (t : Named). bytes_eq name t.0) (slots_of v n)))
shows-slot_named b v s n name =
    ap (λ (slots : List (List ℕ × board.Slot)). option_map (λ (t : List ℕ × board.Slot). t.1) (find (λ t. bytes_eq t.0 name) slots)) (shows-slots b v s n)
    ∙ ap (option_map (λ (t : List ℕ × board.Slot). t.1)) (find-given (λ (t : Named). (t.0, shown_slot t.1)) (λ (t : List ℕ × board.Slot). bytes_eq t.0 name)
    (λ (t : Named). bytes_eq name t.0) (λ t. nat_list_eq_equiv.symm t.0 name) (slots_of v n))
    ∙ found-slot (find (λ (t : Named). bytes_eq name t.0) (slots_of v n))

-- what the slots of an object name

-- of an object that is there
pub shows-slot_in : (b : board.Board) (v : Objects) → Shows b v → (n i : ℕ) (c : Content) → content_of v n ≡ Some c
    → board.slot_at b n i ≡ option_map shown_slot (slot_in c.slots i)
shows-slot_in b v s n i c there = shows-slot_at b v s n i
    ∙ ap (λ (o : Option Content). option_map shown_slot (slot_in (option_map_or (λ (d : Content). d.slots) o []) i)) there

-- what a slot at a place names, and what it holds
named-shown : (o : Option Slot) → option_and_then board.target_of (option_map shown_slot o) ≡ birth_of (option_and_then target_of o)
named-shown None = refl
named-shown (Some s) = shown-target s

held-shown : (o : Option Slot) → option_and_then board.referent (option_map shown_slot o) ≡ birth_of (option_and_then referent o)
held-shown None = refl
held-shown (Some s) = shown-held s

pub shows-named : (b : board.Board) (v : Objects) → Shows b v → (n i : ℕ) (c : Content) → content_of v n ≡ Some c
    → option_and_then board.target_of (board.slot_at b n i) ≡ birth_of (named_at c i)
shows-named b v s n i c there = ap (option_and_then board.target_of) (shows-slot_in b v s n i c there) ∙ named-shown (slot_in c.slots i)

pub shows-held : (b : board.Board) (v : Objects) → Shows b v → (n i : ℕ) (c : Content) → content_of v n ≡ Some c
    → option_and_then board.referent (board.slot_at b n i) ≡ birth_of (option_and_then referent (slot_in c.slots i))
shows-held b v s n i c there = ap (option_and_then board.referent) (shows-slot_in b v s n i c there) ∙ held-shown (slot_in c.slots i)

-- where the next slot stands, after one that was let go: at the same place after a child
pub next-shown : (s : Slot) (i : ℕ) → release.next_index (shown_slot s) i ≡ cond (is_some (child_of s)) i (suc i)
next-shown (Plain val) i = refl
next-shown (Child key) i = refl
next-shown (Link ty true target) i = refl
next-shown (Link ty false target) i = refl
next-shown (Alias key name) i = refl

-- references

holding-shown : (n : ℕ) (rows : List (Key × Content)) → sum_by (references.refs_in n) (records_of rows) ≡ sum_by (λ (row : Key × Content). holding n row.1) rows
holding-shown n [] = refl
holding-shown n (row ∷ rows) =
    omega (
      arith,
      holding-shown n rows,
      refs-shown row.0.birth n row.1,
      sum_by-cons (references.refs_in n) (record_of row) (records_of rows),
      sum_by-cons (λ (r : Key × Content). holding n r.1) row rows,
    )

-- how often a number stands in a list
abbrev pub times : ℕ → List ℕ → ℕ
times n xs = count_by (λ m. eqb m n) xs

pub times-replicate : (n k m : ℕ) (xs : List ℕ) → times n (replicate k m ++ xs) ≡ k * cond {A = ℕ} (eqb m n) 1 0 + times n xs
times-replicate n k m xs =
    sum_by-append (λ (x : ℕ). cond {A = ℕ} (eqb x n) 1 0) (replicate k m) xs
    ∙ ap (λ (a : ℕ). a + times n xs) (sum_by-replicate (λ (x : ℕ). cond {A = ℕ} (eqb x n) 1 0) k m)

times-high : (n above last : ℕ) (rows : List (Key × Content)) → n ≤ above → Rises above (births rows) last → times n (pins_in rows) ≡ 0
times-high n above last [] le rises = refl
times-high n above last (row ∷ rows) le rises =
    let up : above < row.0.birth = rises.0 in
    let other : eqb row.0.birth n ≡ false = grind arith in
    let none : cond {A = ℕ} (eqb row.0.birth n) 1 0 ≡ 0 = rw other refl in
    let rest = times-high n row.0.birth last rows (omega arith) rises.1 in
    times-replicate n row.1.pins row.0.birth (pins_in rows) ∙ rw (none, rest) (omega arith)

-- pins of the board are those of the objects
pub times-pins : (n above last : ℕ) (rows : List (Key × Content)) → Rises above (births rows) last
    → times n (pins_in rows) ≡ option_map_or (λ (c : Content). c.pins) (object_at rows n) 0
times-pins n above last [] rises = refl
times-pins n above last (row ∷ rows) rises = times-replicate n row.1.pins row.0.birth (pins_in rows)
    ∙ go (eqb row.0.birth n) refl (times-pins n row.0.birth last rows rises.1)
  where
    go : (b : Bool) → eqb row.0.birth n ≡ b → times n (pins_in rows) ≡ option_map_or (λ (c : Content). c.pins) (object_at rows n) 0
        → row.1.pins * cond {A = ℕ} (eqb row.0.birth n) 1 0 + times n (pins_in rows) ≡ option_map_or (λ (c : Content). c.pins) (object_at (row ∷ rows) n) 0
    go true is rest =
        let none = times-high n row.0.birth last rows (omega (arith, eqb-true row.0.birth n is)) rises.1 in
        rw (is, none) (omega arith)
    go false is rest = rw is (omega (arith, rest))

pub shows-refs : (b : board.Board) (v : Objects) → Shows b v → IsHeap v → (n : ℕ) → references.refs b n ≡ refs_of v n
shows-refs b v s good n =
    let held_by : sum_by (references.refs_in n) b.records ≡ sum_by (λ (row : Key × Content). holding n row.1) v.rows =
    ap (sum_by (references.refs_in n)) s.records ∙ holding-shown n v.rows in
    let pinned : times n b.pins ≡ pins_of v n = ap (times n) s.pins ∙ times-pins n 0 v.born v.rows good.rising in
    λ j. held_by j + pinned j

-- whether it is pinned
among-times : (n : ℕ) (xs : List ℕ) → list_any (nat_eq n) xs ≡ not (eqb (times n xs) 0)
among-times n [] = refl
among-times n (x ∷ xs) = rw (sum_by-cons (λ (m : ℕ). cond {A = ℕ} (eqb m n) 1 0) x xs, flip) (go (eqb x n) (among-times n xs))
  where
    flip : nat_eq n x ≡ eqb x n
    flip = grind arith

    go : (b : Bool) → list_any (nat_eq n) xs ≡ not (eqb (times n xs) 0) → (b || list_any (nat_eq n) xs) ≡ not (eqb (cond {A = ℕ} b 1 0 + times n xs) 0)
    go true rest = let more : eqb (1 + times n xs) 0 ≡ false = grind arith in rw more refl
    go false rest = let same : 0 + times n xs ≡ times n xs = omega arith in rw same rest

pub shows-pinned : (b : board.Board) (v : Objects) → Shows b v → IsHeap v → (n : ℕ) → list_any (nat_eq n) b.pins ≡ not (eqb (pins_of v n) 0)
shows-pinned b v s good n = among-times n b.pins ∙ ap (λ (k : ℕ). not (eqb k 0)) (ap (times n) s.pins ∙ times-pins n 0 v.born v.rows good.rising)

-- parents

-- the place of an object under another: that other's birth, and the name of its first child slot that names the object
abbrev pub place_under : ℕ → Key × Content → Option (ℕ × List ℕ)
place_under n row = option_map (λ (t : Named). (row.0.birth, t.0)) (find (λ (t : Named). names_child n t.1) row.1.slots)

child-slot : (n : ℕ) (s : Slot) → paths.is_child n (shown_slot s) ≡ names_child n s
child-slot n (Plain val) = refl
child-slot n (Child key) = refl
child-slot n (Link ty true target) = refl
child-slot n (Link ty false target) = refl
child-slot n (Alias key name) = refl

place-shown : (n : ℕ) (row : Key × Content) → paths.place_in n (record_of row) ≡ place_under n row
place-shown n row =
    ap (option_map {U = ℕ × List ℕ} (λ (t : List ℕ × board.Slot). (row.0.birth, t.0))) (find-given (λ (t : Named). (t.0, shown_slot t.1))
    (λ (t : List ℕ × board.Slot). paths.is_child n t.1) (λ (t : Named). names_child n t.1) (λ t. child-slot n t.1) row.1.slots)
    ∙ go (find (λ (t : Named). names_child n t.1) row.1.slots)
  where
    go : (o : Option Named) → option_map {U = ℕ × List ℕ} (λ (t : List ℕ × board.Slot). (row.0.birth, t.0))
        (option_map (λ (t : Named). (t.0, shown_slot t.1)) o) ≡ option_map {U = ℕ × List ℕ} (λ (t : Named). (row.0.birth, t.0)) o
    go None = refl
    go (Some t) = refl

pub shows-place : (b : board.Board) (v : Objects) → Shows b v → (n : ℕ)
    → paths.place_of b n ≡ option_and_then (place_under n) (find (λ (row : Key × Content). is_parent n row.1) v.rows)
shows-place b v s n =
    ap (λ (rs : List board.Record). option_and_then (paths.place_in n) (find (λ r. is_some (paths.place_in n r)) rs)) s.records
    ∙ ap (option_and_then (paths.place_in n)) (find-given record_of (λ (r : board.Record). is_some (paths.place_in n r))
    (λ (row : Key × Content). is_parent n row.1) (λ row. parent-shown row.0.birth n row.1) v.rows)
    ∙ go (find (λ (row : Key × Content). is_parent n row.1) v.rows)
  where
    go : (o : Option (Key × Content)) → option_and_then (paths.place_in n) (option_map record_of o) ≡ option_and_then (place_under n) o
    go None = refl
    go (Some row) = place-shown n row

-- a parent is the owner of its place
place-owner : (n : ℕ) (row : Key × Content) → is_parent n row.1 ≡ true → option_map (λ (p : ℕ × List ℕ). p.0) (place_under n row) ≡ Some row.0.birth
place-owner n row is = go (find (λ (t : Named). names_child n t.1) row.1.slots) (ap is_some (sym (place-shown n row)) ∙ parent-shown row.0.birth n row.1 ∙ is)
  where
    go : (o : Option Named) → is_some (option_map {U = ℕ × List ℕ} (λ (t : Named). (row.0.birth, t.0)) o) ≡ true
        → option_map (λ (p : ℕ × List ℕ). p.0) (option_map {U = ℕ × List ℕ} (λ (t : Named). (row.0.birth, t.0)) o) ≡ Some row.0.birth
    go None none = cc
    go (Some t) some = refl

pub shows-parent : (b : board.Board) (v : Objects) → Shows b v → (n : ℕ) → paths.parent_of b n ≡ birth_of (parent_of v n)
shows-parent b v s n = ap (option_map (λ (p : ℕ × List ℕ). p.0)) (shows-place b v s n)
    ∙ go (find (λ (row : Key × Content). is_parent n row.1) v.rows) (found-passes (λ (row : Key × Content). is_parent n row.1) v.rows)
  where
    go : (o : Option (Key × Content)) → ((row : Key × Content) → o ≡ Some row → is_parent n row.1 ≡ true)
        → option_map (λ (p : ℕ × List ℕ). p.0) (option_and_then (place_under n) o) ≡ birth_of (option_map (λ (row : Key × Content). row.0) o)
    go None passes = refl
    go (Some row) passes = place-owner n row (passes row refl)

-- how much the objects hold
