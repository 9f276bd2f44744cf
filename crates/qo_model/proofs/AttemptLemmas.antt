-- A new device with its further objects that comes free: it ends with them, the further ones first, and all else is as before.
use Rattle.std.proofs.Common.{◌≡◌, refl, ap, sym, subst, ◌∙◌, ℕ, suc, ◌<◌, ◌≤◌, Bool, true, false, cond, not, ◌==◌, List, [], ◌∷◌, ◌++◌, map, filter, length, slice_get, sum_by, count_by, append_assoc, append-nil, Option, Some, None, option_map, arith}
use Rattle.qo_model.proofs.Common.{⊤, AllByRecursion, option_map_or, option_or, Board, Record, Slot, DeviceEvent, plain, child, strong, weak, alias, record_of, slots_at, slot_at, target_of, refs, refs_in, holds_it, after, deleted_event, drop_slot, edited, emptied, final_notes, finalize, finish, forgotten, forgotten_in, next_index, with_dropped, without_hold}
use Rattle.qo_model.specs.declared.notes.Note.{Note}
use Rattle.std.specs.Prelude.{option_and_then, option_to_list}
use Rattle.std.specs.List.{flat_map}
use Rattle.std.proofs.lemmas.Bool.{eq-eqb}
use Rattle.std.proofs.lemmas.List.{map-append}
use Rattle.std.proofs.lemmas.List.Elements.{filter-append}
use Rattle.std.proofs.lemmas.List.Folds.{find-append}
use Rattle.std.proofs.lemmas.List.Sums.{sum_by-cons, sum_by-append}
use Rattle.qo_model.specs.Board.{referent}
use Rattle.qo_model.proofs.ReleaseLemmas.{end_of, end_of-first, end_of-none, end_of-some}
use Rattle.qo_model.proofs.ReleaseRulesLemmas.{after-free}
use Rattle.qo_model.proofs.StepLemmas.{drop-record, found-birth, found_at, found-edited}

-- what a slot names is below a number
abbrev pub LowSlot : ℕ → Slot → Type 0
LowSlot n s = elim (target_of s) as (λ _. Type 0) [ None ↦ ⊤ | Some m ↦ m < n ]

-- an object of before: its birth is below a number, and what its slots name is
pub record LowRecord (n : ℕ) (r : Record) : Type 0 where
  pub birth : r.birth < n
  pub slots : AllByRecursion (λ (s : List ℕ × Slot). LowSlot n s.1) r.slots

-- a slot that holds nothing, and sees at most what was there before
pub record BareSlot (n : ℕ) (s : Slot) : Type 0 where
  pub empty : referent s ≡ None
  pub low : LowSlot n s

-- a further object
pub record BareKid (n : ℕ) (k : Record) : Type 0 where
  pub slots : AllByRecursion (λ (s : List ℕ × Slot). BareSlot n s.1) k.slots
  pub no_path : k.kept_path ≡ None

-- the slots of the device and its further objects side by side: each child slot names the next further object, and no slot holds another
abbrev pub HasFurtherObjects : ℕ → ℕ → List (List ℕ × Slot) → List Record → Type 0
HasFurtherObjects n lo [] [] = ⊤
HasFurtherObjects n lo [] (k ∷ ls) = ⊥
HasFurtherObjects n lo ((name, child m) ∷ ss) [] = ⊥
HasFurtherObjects n lo ((name, child m) ∷ ss) (k ∷ ls) = (lo < m) × (k.birth ≡ m) × (BareKid n k × HasFurtherObjects n m ss ls)
HasFurtherObjects n lo ((name, strong t None) ∷ ss) ls = HasFurtherObjects n lo ss ls
HasFurtherObjects n lo ((name, strong t (Some m)) ∷ ss) ls = ⊥
HasFurtherObjects n lo ((name, weak t target) ∷ ss) ls = LowSlot n (weak t target) × HasFurtherObjects n lo ss ls
HasFurtherObjects n lo ((name, plain v) ∷ ss) ls = HasFurtherObjects n lo ss ls
HasFurtherObjects n lo ((name, alias m p) ∷ ss) ls = HasFurtherObjects n lo ss ls

-- slots that name nothing
abbrev pub AreQuiet : List (List ℕ × Slot) → Type 0
AreQuiet ss = AllByRecursion (λ (s : List ℕ × Slot). target_of s.1 ≡ None) ss

-- the board with the device, these slots left of it, and the further objects
abbrev pub star : Board → Record → List (List ℕ × Slot) → List Record → List Note → Board
star b d ss ls notes = record b { records = b.records ++ record d { slots = ss } ∷ ls; notes = notes }

-- lists

here-at : (pre ss : List (List ℕ × Slot)) (s : List ℕ × Slot) → slice_get (pre ++ s ∷ ss) (length pre) ≡ Some s
here-at [] ss s = refl
here-at (x ∷ pre) ss s = here-at pre ss s

none-at : (pre : List (List ℕ × Slot)) → slice_get (pre ++ []) (length pre) ≡ None
none-at [] = refl
none-at (x ∷ pre) = none-at pre

drop-here : (pre ss : List (List ℕ × Slot)) (s : List ℕ × Slot) (left : Slot) → emptied s.1 ≡ Some left
    → without_hold (length pre) (pre ++ s ∷ ss) ≡ pre ++ (s.0, left) ∷ ss
drop-here [] ss s left e = rw (without_hold, e) refl
drop-here (x ∷ pre) ss s left e = ap (λ (xs : List (List ℕ × Slot)). x ∷ xs) (drop-here pre ss s left e)

take-here : (pre ss : List (List ℕ × Slot)) (s : List ℕ × Slot) → emptied s.1 ≡ None → without_hold (length pre) (pre ++ s ∷ ss) ≡ pre ++ ss
take-here [] ss s e = rw (without_hold, e) refl
take-here (x ∷ pre) ss s e = ap (λ (xs : List (List ℕ × Slot)). x ∷ xs) (take-here pre ss s e)

length-more : (pre : List (List ℕ × Slot)) (x : List ℕ × Slot) → length (pre ++ x ∷ []) ≡ suc (length pre)
length-more [] x = refl
length-more (y ∷ pre) x = ap suc (length-more pre x)

quiet-more : (pre : List (List ℕ × Slot)) (x : List ℕ × Slot) → target_of x.1 ≡ None → AreQuiet pre → AreQuiet (pre ++ x ∷ [])
quiet-more [] x q h = (q, tt)
quiet-more (y ∷ pre) x q h = (h.0, quiet-more pre x q h.1)

-- the end of an object, whatever was done to its slots before

others-edit : (m : ℕ) (f : Record → Record) → ((r : Record) → (f r).birth ≡ r.birth) → (rs : List Record)
    → filter (λ (r : Record). not (r.birth == m)) (map (edited m f) rs) ≡ filter (λ (r : Record). not (r.birth == m)) rs
others-edit m f same [] = refl
others-edit m f same (r ∷ rs) = go (r.birth == m) refl (others-edit m f same rs)
  where
    go : (t : Bool) → (r.birth == m) ≡ t → filter (λ (x : Record). not (x.birth == m)) (map (edited m f) rs) ≡ filter (λ (x : Record). not (x.birth == m)) rs
        → filter (λ (x : Record). not (x.birth == m)) (map (edited m f) (r ∷ rs)) ≡ filter (λ (x : Record). not (x.birth == m)) (r ∷ rs)
    go true p rest = let here : ((f r).birth == m) ≡ true = ap (λ (k : ℕ). k == m) (same r) ∙ p in rw (edited, p, here) rest
    go false p rest = rw (edited, p, p) (ap (λ (xs : List Record). r ∷ xs) rest)

finish-drop : (c : Board) (m i : ℕ) → finish (drop_slot c m i) m ≡ finish c m
unfolding finish drop_slot
finish-drop c m i =
    λ j. record c {
      records = map (forgotten m) (others-edit m (with_dropped i) (λ r. refl) c.records j);
      notes = c.notes ++ notes j;
      events = c.events ++ events j;
    }
  where
    own : (r : Record) → option_map_or final_notes (Some (edited m (with_dropped i) r)) [] ≡ final_notes r
    own r = go (r.birth == m) refl
      where
        go : (t : Bool) → (r.birth == m) ≡ t → final_notes (edited m (with_dropped i) r) ≡ final_notes r
        go true p = rw (edited, p) refl
        go false p = rw (edited, p) refl

    told : (r : Record) → deleted_event (edited m (with_dropped i) r) ≡ deleted_event r
    told r = go (r.birth == m) refl
      where
        go : (t : Bool) → (r.birth == m) ≡ t → deleted_event (edited m (with_dropped i) r) ≡ deleted_event r
        go true p = rw (edited, p) refl
        go false p = rw (edited, p) refl

    found : found_at m (map (edited m (with_dropped i)) c.records) ≡ option_map (edited m (with_dropped i)) (record_of c m)
    found = found-edited m (with_dropped i) (λ r. refl) m c.records

    notes : option_map_or final_notes (found_at m (map (edited m (with_dropped i)) c.records)) [] ≡ option_map_or final_notes (record_of c m) []
    notes = ap (λ (o : Option Record). option_map_or final_notes o []) found ∙ go (record_of c m)
      where
        go : (o : Option Record) → option_map_or final_notes (option_map (edited m (with_dropped i)) o) [] ≡ option_map_or final_notes o []
        go None = refl
        go (Some r) = own r

    events : option_to_list (option_and_then deleted_event (found_at m (map (edited m (with_dropped i)) c.records)))
        ≡ option_to_list (option_and_then deleted_event (record_of c m))
    events = ap (λ (o : Option Record). option_to_list (option_and_then deleted_event o)) found ∙ go (record_of c m)
      where
        go : (o : Option Record)
            → option_to_list (option_and_then deleted_event (option_map (edited m (with_dropped i)) o)) ≡ option_to_list (option_and_then deleted_event o)
        go None = refl
        go (Some r) = ap (λ (o : Option DeviceEvent). option_to_list o) (told r)

-- the slots of an object that lets one go, and those of the others
pub drop-own : (c : Board) (m i : ℕ) → slots_at (drop_slot c m i) m ≡ without_hold i (slots_at c m)
drop-own c m i = ap (λ (o : Option Record). option_map_or (λ (r : Record). r.slots) o []) (drop-record c m i m) ∙ go (record_of c m) refl
  where
    go : (o : Option Record) → record_of c m ≡ o
        → option_map_or (λ (r : Record). r.slots) (option_map (edited m (with_dropped i)) o) [] ≡ without_hold i (option_map_or (λ (r : Record). r.slots) o [])
    go None p = refl
    go (Some r) p = let same : (r.birth == m) ≡ true = eq-eqb r.birth m (found-birth m c.records r p) in rw (edited, same) refl

pub drop-other : (c : Board) (m i k : ℕ) → (k == m) ≡ false → slots_at (drop_slot c m i) k ≡ slots_at c k
drop-other c m i k apart = ap (λ (o : Option Record). option_map_or (λ (r : Record). r.slots) o []) (drop-record c m i k) ∙ go (record_of c k) refl
  where
    go : (o : Option Record) → record_of c k ≡ o
        → option_map_or (λ (r : Record). r.slots) (option_map (edited m (with_dropped i)) o) [] ≡ option_map_or (λ (r : Record). r.slots) o []
    go None p = refl
    go (Some r) p = let other : (r.birth == m) ≡ false = rw (found-birth k c.records r p) apart in rw (edited, other) refl

slot-here : (c : Board) (m i : ℕ) (ss : List (List ℕ × Slot)) (o : Option (List ℕ × Slot)) → slots_at c m ≡ ss → slice_get ss i ≡ o
    → slot_at c m i ≡ option_map (λ (s : List ℕ × Slot). s.1) o
slot-here c m i ss o is e = ap (λ (xs : List (List ℕ × Slot)). option_map (λ (s : List ℕ × Slot). s.1) (slice_get xs i)) is
    ∙ ap (option_map (λ (s : List ℕ × Slot). s.1)) e

-- an object that holds nothing ends
bare-end : (ss : List (List ℕ × Slot)) (c : Board) (m : ℕ) (pre : List (List ℕ × Slot)) → slots_at c m ≡ pre ++ ss
    → AllByRecursion (λ (s : List ℕ × Slot). referent s.1 ≡ None) ss → end_of c m (length pre) ≡ finish c m
bare-end [] c m pre is bare = end_of-none c m (length pre) (slot-here c m (length pre) (pre ++ []) None is (none-at pre))
bare-end (s ∷ ss) c m pre is bare = step (λ c' pre' e. bare-end ss c' m pre' e bare.1) s.1 refl bare.0
  where
    at : slot_at c m (length pre) ≡ Some s.1
    at = slot-here c m (length pre) (pre ++ s ∷ ss) (Some s) is (here-at pre ss s)

    Rest : Type 0
    Rest = (c' : Board) (pre' : List (List ℕ × Slot)) → slots_at c' m ≡ pre' ++ ss → end_of c' m (length pre') ≡ finish c' m

    go : Rest → (x left : Slot) → s.1 ≡ x → referent x ≡ None → emptied x ≡ Some left → next_index x (length pre) ≡ suc (length pre)
        → end_of c m (length pre) ≡ finish c m
    go rest x left e none leaves next =
        let c' : Board = drop_slot c m (length pre) in
        let pre' : List (List ℕ × Slot) = pre ++ (s.0, left) ∷ [] in
        let slots : slots_at c' m ≡ pre' ++ ss = drop-own c m (length pre) ∙ ap (without_hold (length pre)) is ∙ drop-here pre ss s left (ap emptied e ∙ leaves)
        ∙ sym (append_assoc pre ((s.0, left) ∷ []) ss) in
        let place : next_index s.1 (length pre) ≡ length pre' = ap (λ (y : Slot). next_index y (length pre)) e ∙ next ∙ sym (length-more pre (s.0, left)) in
        let after_it : after finalize c' (referent s.1) ≡ c' = ap (after finalize c') (ap referent e ∙ none) in
        end_of-some c m (length pre) s.1 at
        ∙ ap (λ (x : Board). end_of x m (next_index s.1 (length pre))) after_it
        ∙ ap (λ (i : ℕ). end_of c' m i) place
        ∙ rest c' pre' slots
        ∙ finish-drop c m (length pre)

    step : Rest → (x : Slot) → s.1 ≡ x → referent s.1 ≡ None → end_of c m (length pre) ≡ finish c m
    step rest (plain v) e none = go rest (plain v) (plain v) e refl refl refl
    step rest (child k) e none = absurd (let clash : Some k ≡ None = sym (ap referent e) ∙ none in cc)
    step rest (strong t target) e none = go rest (strong t target) (strong t None) e (sym (ap referent e) ∙ none) refl refl
    step rest (weak t target) e none = go rest (weak t target) (weak t None) e refl refl refl
    step rest (alias k name) e none = go rest (alias k name) (alias k name) e refl refl refl

-- what is low or quiet sees nothing that is newer

module _ (n m : ℕ) (le : n ≤ m) where
  low-forgotten : (s : Slot) → LowSlot n s → forgotten_in m s ≡ s
  low-forgotten (plain v) h = refl
  low-forgotten (child k) h = refl
  low-forgotten (strong t target) h = refl
  low-forgotten (weak t None) h = refl
  low-forgotten (weak t (Some k)) h = let other : (k == m) ≡ false = grind (arith, le, h) in rw other refl
  low-forgotten (alias k p) h = refl

  low-unheld : (s : Slot) → LowSlot n s → holds_it m s ≡ false
  low-unheld (plain v) h = refl
  low-unheld (child k) h = let other : (k == m) ≡ false = grind (arith, le, h) in rw other refl
  low-unheld (strong t None) h = refl
  low-unheld (strong t (Some k)) h = let other : (k == m) ≡ false = grind (arith, le, h) in rw other refl
  low-unheld (weak t target) h = refl
  low-unheld (alias k p) h = refl

  slots-forgotten : (ss : List (List ℕ × Slot)) → AllByRecursion (λ (s : List ℕ × Slot). LowSlot n s.1) ss
      → map (λ (s : List ℕ × Slot). (s.0, forgotten_in m s.1)) ss ≡ ss
  slots-forgotten [] h = refl
  slots-forgotten (s ∷ ss) h = let here = low-forgotten s.1 h.0 in let rest = slots-forgotten ss h.1 in λ j. (s.0, here j) ∷ rest j

  slots-unheld : (ss : List (List ℕ × Slot)) → AllByRecursion (λ (s : List ℕ × Slot). LowSlot n s.1) ss
      → count_by (λ (s : List ℕ × Slot). holds_it m s.1) ss ≡ 0
  slots-unheld [] h = refl
  slots-unheld (s ∷ ss) h =
      let none : cond {A = ℕ} (holds_it m s.1) 1 0 ≡ 0 = rw (low-unheld s.1 h.0) refl in
      omega (arith, none, slots-unheld ss h.1, sum_by-cons (λ (x : List ℕ × Slot). cond {A = ℕ} (holds_it m x.1) 1 0) s ss)

  record-forgotten : (r : Record) → LowRecord n r → forgotten m r ≡ r
  record-forgotten r h = ap (λ (ss : List (List ℕ × Slot)). record r { slots = ss }) (slots-forgotten r.slots h.slots)

  low-apart : (r : Record) → LowRecord n r → (r.birth == m) ≡ false
  low-apart r h = let low : r.birth < n = h.birth in grind (arith, le, low)

  records-others : (rs : List Record) → AllByRecursion (LowRecord n) rs → map (forgotten m) (filter (λ (r : Record). not (r.birth == m)) rs) ≡ rs
  records-others [] h = refl
  records-others (r ∷ rs) h =
      let here = record-forgotten r h.0 in
      let rest = records-others rs h.1 in
      rw (low-apart r h.0) (λ j. here j ∷ rest j)

  records-found : (rs : List Record) → AllByRecursion (LowRecord n) rs → found_at m rs ≡ None
  records-found [] h = refl
  records-found (r ∷ rs) h = rw (low-apart r h.0) (records-found rs h.1)

  pub records-edited : (f : Record → Record) (rs : List Record) → AllByRecursion (LowRecord n) rs → map (edited m f) rs ≡ rs
  records-edited f [] h = refl
  records-edited f (r ∷ rs) h = let rest = records-edited f rs h.1 in rw (edited, low-apart r h.0) (ap (λ (xs : List Record). r ∷ xs) rest)

  pub records-unheld : (rs : List Record) → AllByRecursion (LowRecord n) rs → sum_by (refs_in m) rs ≡ 0
  records-unheld [] h = refl
  records-unheld (r ∷ rs) h = let here : refs_in m r ≡ 0 = slots-unheld r.slots h.0.slots in
      omega (arith, here, records-unheld rs h.1, sum_by-cons (refs_in m) r rs)

  pub pins-apart : (ps : List ℕ) → AllByRecursion (λ p. p < n) ps → count_by (λ p. p == m) ps ≡ 0
  pins-apart [] h = refl
  pins-apart (p ∷ ps) h =
      let low : p < n = h.0 in
      let other : (p == m) ≡ false = grind (arith, le, low) in
      let none : cond {A = ℕ} (p == m) 1 0 ≡ 0 = rw other refl in
      omega (arith, none, pins-apart ps h.1, sum_by-cons (λ (q : ℕ). cond {A = ℕ} (q == m) 1 0) p ps)

-- quiet slots are low
quiet-low : (n : ℕ) (ss : List (List ℕ × Slot)) → AreQuiet ss → AllByRecursion (λ (s : List ℕ × Slot). LowSlot n s.1) ss
quiet-low n [] h = tt
quiet-low n (s ∷ ss) h = (by (target_of s.1) h.0, quiet-low n ss h.1)
  where
    by : (o : Option ℕ) → o ≡ None → elim o as (λ _. Type 0) [ None ↦ ⊤ | Some m ↦ m < n ]
    by None e = tt
    by (Some m) e = cc

bare-low : (n : ℕ) (ss : List (List ℕ × Slot)) → AllByRecursion (λ (s : List ℕ × Slot). BareSlot n s.1) ss
    → AllByRecursion (λ (s : List ℕ × Slot). LowSlot n s.1) ss
bare-low n [] h = tt
bare-low n (s ∷ ss) h = (h.0.low, bare-low n ss h.1)

bare-empty : (n : ℕ) (ss : List (List ℕ × Slot)) → AllByRecursion (λ (s : List ℕ × Slot). BareSlot n s.1) ss
    → AllByRecursion (λ (s : List ℕ × Slot). referent s.1 ≡ None) ss
bare-empty n [] h = tt
bare-empty n (s ∷ ss) h = (h.0.empty, bare-empty n ss h.1)

-- what is left of a star names nothing at or below the further objects that are gone

star-forgotten : (n m lo : ℕ) (ss : List (List ℕ × Slot)) (ls : List Record) → n ≤ m → HasFurtherObjects n lo ss ls
    → map (λ (s : List ℕ × Slot). (s.0, forgotten_in m s.1)) ss ≡ ss
star-forgotten n m lo [] [] le h = refl
star-forgotten n m lo [] (k ∷ ls) le h = absurd h
star-forgotten n m lo ((name, child x) ∷ ss) [] le h = absurd h
star-forgotten n m lo ((name, child x) ∷ ss) (k ∷ ls) le h = ap (λ (xs : List (List ℕ × Slot)). (name, child x) ∷ xs) (star-forgotten n m x ss ls le h.2.1)
star-forgotten n m lo ((name, strong t None) ∷ ss) ls le h = ap (λ (xs : List (List ℕ × Slot)). (name, strong t None) ∷ xs) (star-forgotten n m lo ss ls le h)
star-forgotten n m lo ((name, strong t (Some x)) ∷ ss) ls le h = absurd h
star-forgotten n m lo ((name, weak t target) ∷ ss) ls le h =
    let here = low-forgotten n m le (weak t target) h.0 in
    let rest = star-forgotten n m lo ss ls le h.1 in
    λ j. (name, here j) ∷ rest j
star-forgotten n m lo ((name, plain v) ∷ ss) ls le h = ap (λ (xs : List (List ℕ × Slot)). (name, plain v) ∷ xs) (star-forgotten n m lo ss ls le h)
star-forgotten n m lo ((name, alias x p) ∷ ss) ls le h = ap (λ (xs : List (List ℕ × Slot)). (name, alias x p) ∷ xs) (star-forgotten n m lo ss ls le h)

pub star-unheld : (n m lo : ℕ) (ss : List (List ℕ × Slot)) (ls : List Record) → m ≤ lo → HasFurtherObjects n lo ss ls
    → count_by (λ (s : List ℕ × Slot). holds_it m s.1) ss ≡ 0
star-unheld n m lo [] [] le h = refl
star-unheld n m lo [] (k ∷ ls) le h = absurd h
star-unheld n m lo ((name, child x) ∷ ss) [] le h = absurd h
star-unheld n m lo ((name, child x) ∷ ss) (k ∷ ls) le h =
    let up : lo < x = h.0 in
    let other : (x == m) ≡ false = grind (arith, le, up) in
    let none : cond {A = ℕ} (holds_it m (child x)) 1 0 ≡ 0 = rw other refl in
    omega (arith, none, star-unheld n m x ss ls (omega arith) h.2.1, sum_by-cons (λ (y : List ℕ × Slot). cond {A = ℕ} (holds_it m y.1) 1 0) (name, child x) ss)
star-unheld n m lo ((name, strong t None) ∷ ss) ls le h =
    omega (arith, star-unheld n m lo ss ls le h, sum_by-cons (λ (y : List ℕ × Slot). cond {A = ℕ} (holds_it m y.1) 1 0) (name, strong t None) ss)
star-unheld n m lo ((name, strong t (Some x)) ∷ ss) ls le h = absurd h
star-unheld n m lo ((name, weak t target) ∷ ss) ls le h =
    omega (arith, star-unheld n m lo ss ls le h.1, sum_by-cons (λ (y : List ℕ × Slot). cond {A = ℕ} (holds_it m y.1) 1 0) (name, weak t target) ss)
star-unheld n m lo ((name, plain v) ∷ ss) ls le h =
    omega (arith, star-unheld n m lo ss ls le h, sum_by-cons (λ (y : List ℕ × Slot). cond {A = ℕ} (holds_it m y.1) 1 0) (name, plain v) ss)
star-unheld n m lo ((name, alias x p) ∷ ss) ls le h =
    omega (arith, star-unheld n m lo ss ls le h, sum_by-cons (λ (y : List ℕ × Slot). cond {A = ℕ} (holds_it m y.1) 1 0) (name, alias x p) ss)

-- the further objects that are left: each above a number, and bare
abbrev pub AreKids : ℕ → ℕ → List Record → Type 0
AreKids n lo [] = ⊤
AreKids n lo (k ∷ ls) = (lo < k.birth) × (BareKid n k × AreKids n k.birth ls)

pub star-kids : (n lo : ℕ) (ss : List (List ℕ × Slot)) (ls : List Record) → HasFurtherObjects n lo ss ls → AreKids n lo ls
star-kids n lo [] [] h = tt
star-kids n lo [] (k ∷ ls) h = absurd h
star-kids n lo ((name, child x) ∷ ss) [] h = absurd h
star-kids n lo ((name, child x) ∷ ss) (k ∷ ls) h =
    let up : lo < x = h.0 in
    let is : k.birth ≡ x = h.1 in
    (omega (arith, up, is), (h.2.0, subst (λ (y : ℕ). AreKids n y ls) (sym is) (star-kids n x ss ls h.2.1)))
star-kids n lo ((name, strong t None) ∷ ss) ls h = star-kids n lo ss ls h
star-kids n lo ((name, strong t (Some x)) ∷ ss) ls h = absurd h
star-kids n lo ((name, weak t target) ∷ ss) ls h = star-kids n lo ss ls h.1
star-kids n lo ((name, plain v) ∷ ss) ls h = star-kids n lo ss ls h
star-kids n lo ((name, alias x p) ∷ ss) ls h = star-kids n lo ss ls h

module _ (n m : ℕ) (le : n ≤ m) where
  kids-others : (lo : ℕ) (ls : List Record) → m ≤ lo → AreKids n lo ls → map (forgotten m) (filter (λ (r : Record). not (r.birth == m)) ls) ≡ ls
  kids-others lo [] low h = refl
  kids-others lo (k ∷ ls) low h =
      let up : lo < k.birth = h.0 in
      let other : (k.birth == m) ≡ false = grind (arith, low, up) in
      let here : forgotten m k ≡ k =
      ap (λ (ss : List (List ℕ × Slot)). record k { slots = ss }) (slots-forgotten n m le k.slots (bare-low n k.slots h.1.0.slots)) in
      let rest = kids-others k.birth ls (omega arith) h.1.1 in
      rw other (λ j. here j ∷ rest j)

  kids-edited : (f : Record → Record) (lo : ℕ) (ls : List Record) → m ≤ lo → AreKids n lo ls → map (edited m f) ls ≡ ls
  kids-edited f lo [] low h = refl
  kids-edited f lo (k ∷ ls) low h =
      let up : lo < k.birth = h.0 in
      let other : (k.birth == m) ≡ false = grind (arith, low, up) in
      rw (edited, other) (ap (λ (xs : List Record). k ∷ xs) (kids-edited f k.birth ls (omega arith) h.1.1))

  pub kids-unheld : (lo : ℕ) (ls : List Record) → AreKids n lo ls → sum_by (refs_in m) ls ≡ 0
  kids-unheld lo [] h = refl
  kids-unheld lo (k ∷ ls) h =
      let here : refs_in m k ≡ 0 = slots-unheld n m le k.slots (bare-low n k.slots h.1.0.slots) in
      omega (arith, here, kids-unheld k.birth ls h.1.1, sum_by-cons (refs_in m) k ls)

kids-low : (n lo : ℕ) (ls : List Record) → n ≤ lo → AreKids n lo ls → AreKids n n ls
kids-low n lo [] low h = tt
kids-low n lo (k ∷ ls) low h = let up : lo < k.birth = h.0 in (omega (arith, low, up), h.1)

-- the device and its further objects

module _ (b : Board) (d : Record) (olds : AllByRecursion (LowRecord d.birth) b.records) (pins : AllByRecursion (λ p. p < d.birth) b.pins)
    (no_path : d.kept_path ≡ None) where
  abbrev pub n : ℕ
  n = d.birth

  own : (n == n) ≡ true
  own = eq-eqb n n refl

  star-found : (ss : List (List ℕ × Slot)) (ls : List Record) (notes : List Note) (x : ℕ) → n ≤ x
      → record_of (star b d ss ls notes) x ≡ found_at x (record d { slots = ss } ∷ ls)
  star-found ss ls notes x le =
      find-append (λ (r : Record). r.birth == x) b.records (record d { slots = ss } ∷ ls)
      ∙ ap (λ (o : Option Record). option_or o (found_at x (record d { slots = ss } ∷ ls))) (records-found n x le b.records olds)

  star-own : (ss : List (List ℕ × Slot)) (ls : List Record) (notes : List Note) → record_of (star b d ss ls notes) n ≡ Some (record d { slots = ss })
  star-own ss ls notes = star-found ss ls notes n (omega arith) ∙ rw own refl

  star-slots : (ss : List (List ℕ × Slot)) (ls : List Record) (notes : List Note) → slots_at (star b d ss ls notes) n ≡ ss
  star-slots ss ls notes = ap (λ (o : Option Record). option_map_or (λ (r : Record). r.slots) o []) (star-own ss ls notes)

  -- a slot of the device is let go
  star-drop : (ss rest : List (List ℕ × Slot)) (ls : List Record) (notes : List Note) (i : ℕ) → AreKids n n ls → without_hold i ss ≡ rest
      → drop_slot (star b d ss ls notes) n i ≡ star b d rest ls notes
  unfolding drop_slot
  star-drop ss rest ls notes i kids is =
      let parts = map-append (edited n (with_dropped i)) b.records (record d { slots = ss } ∷ ls) in
      let old = records-edited n n (omega arith) (with_dropped i) b.records olds in
      let new = kids-edited n n (omega arith) (with_dropped i) n ls (omega arith) kids in
      let dev : edited n (with_dropped i) (record d { slots = ss }) ≡ record d { slots = rest } =
      rw (edited, own) (ap (λ (xs : List (List ℕ × Slot)). record d { slots = xs }) is) in
      let records : map (edited n (with_dropped i)) (b.records ++ record d { slots = ss } ∷ ls) ≡ b.records ++ record d { slots = rest } ∷ ls =
      parts ∙ (λ j. old j ++ dev j ∷ new j) in
      ap (λ (rs : List Record). record b { records = rs; notes = notes }) records

  -- a further object ends
  kid-ends : (ss : List (List ℕ × Slot)) (k : Record) (ls : List Record) (notes : List Note) → n < k.birth → k.kept_path ≡ None
      → map (λ (s : List ℕ × Slot). (s.0, forgotten_in k.birth s.1)) ss ≡ ss → AreKids n k.birth ls
      → finish (star b d ss (k ∷ ls) notes) k.birth ≡ star b d ss ls (notes ++ final_notes k)
  unfolding finish
  kid-ends ss k ls notes up no_event stays kids =
      λ j. record b { records = records j; notes = notes ++ said j; events = silent j }
    where
      m : ℕ
      m = k.birth

      le : n ≤ m
      le = omega arith

      apart : (n == m) ≡ false
      apart = grind (arith, up)

      itself : (m == m) ≡ true
      itself = eq-eqb m m refl

      dev : Record
      dev = record d { slots = ss }

      found : record_of (star b d ss (k ∷ ls) notes) m ≡ Some k
      found = star-found ss (k ∷ ls) notes m le ∙ rw (apart, itself) refl

      said : option_map_or final_notes (record_of (star b d ss (k ∷ ls) notes) m) [] ≡ final_notes k
      said = ap (λ (o : Option Record). option_map_or final_notes o []) found

      silent : b.events ++ option_to_list (option_and_then deleted_event (record_of (star b d ss (k ∷ ls) notes) m)) ≡ b.events
      silent =
          ap (λ (o : Option Record). b.events ++ option_to_list (option_and_then deleted_event o)) found
          ∙ ap (λ (path : Option (List ℕ)). b.events
          ++ option_to_list (option_map (λ (p : List ℕ). record { deleted = true; id = k.device_id; path = p }) path)) no_event
          ∙ append-nil b.events

      rest : map (forgotten m) (filter (λ (r : Record). not (r.birth == m)) (dev ∷ k ∷ ls)) ≡ dev ∷ ls
      rest = rw (apart, itself) (λ j. record d { slots = stays j } ∷ kids-others n m le m ls (omega arith) kids j)

      records : map (forgotten m) (filter (λ (r : Record). not (r.birth == m)) (b.records ++ dev ∷ k ∷ ls)) ≡ b.records ++ dev ∷ ls
      records =
          ap (map (forgotten m)) (filter-append (λ (r : Record). not (r.birth == m)) b.records (dev ∷ k ∷ ls))
          ∙ map-append (forgotten m) (filter (λ (r : Record). not (r.birth == m)) b.records) (filter (λ (r : Record). not (r.birth == m)) (dev ∷ k ∷ ls))
          ∙ (λ j. records-others n m le b.records olds j ++ rest j)

  -- the device ends
  device-ends : (ss : List (List ℕ × Slot)) (notes : List Note) → finish (star b d ss [] notes) n ≡ record b { notes = notes ++ final_notes d }
  unfolding finish
  device-ends ss notes = λ j. record b { records = records j; notes = notes ++ said j; events = silent j }
    where
      dev : Record
      dev = record d { slots = ss }

      said : option_map_or final_notes (record_of (star b d ss [] notes) n) [] ≡ final_notes d
      said = ap (λ (o : Option Record). option_map_or final_notes o []) (star-own ss [] notes)

      silent : b.events ++ option_to_list (option_and_then deleted_event (record_of (star b d ss [] notes) n)) ≡ b.events
      silent =
          ap (λ (o : Option Record). b.events ++ option_to_list (option_and_then deleted_event o)) (star-own ss [] notes)
          ∙ ap (λ (path : Option (List ℕ)). b.events
          ++ option_to_list (option_map (λ (p : List ℕ). record { deleted = true; id = d.device_id; path = p }) path)) no_path
          ∙ append-nil b.events

      rest : map (forgotten n) (filter (λ (r : Record). not (r.birth == n)) (dev ∷ [])) ≡ []
      rest = rw own refl

      records : map (forgotten n) (filter (λ (r : Record). not (r.birth == n)) (b.records ++ dev ∷ [])) ≡ b.records
      records =
          ap (map (forgotten n)) (filter-append (λ (r : Record). not (r.birth == n)) b.records (dev ∷ []))
          ∙ map-append (forgotten n) (filter (λ (r : Record). not (r.birth == n)) b.records) (filter (λ (r : Record). not (r.birth == n)) (dev ∷ []))
          ∙ (λ j. records-others n n (omega arith) b.records olds j ++ rest j)
          ∙ append-nil b.records

  -- nothing refers to a further object whose child slot was let go
  kid-free : (pre ss : List (List ℕ × Slot)) (k : Record) (ls : List Record) (notes : List Note) → n < k.birth → AreQuiet pre → BareKid n k
      → HasFurtherObjects n k.birth ss ls → refs (star b d (pre ++ ss) (k ∷ ls) notes) k.birth ≡ 0
  kid-free pre ss k ls notes up quiet bare is =
      let le : n ≤ k.birth = omega arith in
      let f : Record → ℕ = refs_in k.birth in
      let dev : Record = record d { slots = pre ++ ss } in
      let g : List ℕ × Slot → ℕ = λ (s : List ℕ × Slot). cond {A = ℕ} (holds_it k.birth s.1) 1 0 in
      let old : sum_by f b.records ≡ 0 = records-unheld n k.birth le b.records olds in
      let front : sum_by g pre ≡ 0 = slots-unheld n k.birth le pre (quiet-low n pre quiet) in
      let back : sum_by g ss ≡ 0 = star-unheld n k.birth k.birth ss ls (omega arith) is in
      let kid : sum_by g k.slots ≡ 0 = slots-unheld n k.birth le k.slots (bare-low n k.slots bare.slots) in
      let more : sum_by f ls ≡ 0 = kids-unheld n k.birth le k.birth ls (star-kids n k.birth ss ls is) in
      let held : count_by (λ p. p == k.birth) b.pins ≡ 0 = pins-apart n k.birth le b.pins pins in
      omega (
        arith,
        old,
        front,
        back,
        kid,
        more,
        held,
        sum_by-append f b.records (dev ∷ k ∷ ls),
        sum_by-cons f dev (k ∷ ls),
        sum_by-cons f k ls,
        sum_by-append g pre ss,
      )

  abbrev Ends : List (List ℕ × Slot) → Type 0
  Ends ss = (lo : ℕ) (ls : List Record) (pre : List (List ℕ × Slot)) (notes : List Note) → n ≤ lo → AreQuiet pre → HasFurtherObjects n lo ss ls
      → end_of (star b d (pre ++ ss) ls notes) n (length pre) ≡ record b { notes = notes ++ flat_map final_notes ls ++ final_notes d }

  at-first : (s : List ℕ × Slot) (ss : List (List ℕ × Slot)) (ls : List Record) (pre : List (List ℕ × Slot)) (notes : List Note)
      → slot_at (star b d (pre ++ s ∷ ss) ls notes) n (length pre) ≡ Some s.1
  at-first s ss ls pre notes =
      slot-here (star b d (pre ++ s ∷ ss) ls notes) n (length pre) (pre ++ s ∷ ss) (Some s) (star-slots (pre ++ s ∷ ss) ls notes) (here-at pre ss s)

  -- a slot that holds nothing
  past-slot : (s : List ℕ × Slot) (ss : List (List ℕ × Slot)) (left : Slot) → Ends ss → referent s.1 ≡ None → emptied s.1 ≡ Some left
      → target_of left ≡ None → ((i : ℕ) → next_index s.1 i ≡ suc i) → (lo : ℕ) (ls : List Record) (pre : List (List ℕ × Slot)) (notes : List Note)
      → n ≤ lo → AreQuiet pre → AreKids n n ls → HasFurtherObjects n lo ss ls
      → end_of (star b d (pre ++ s ∷ ss) ls notes) n (length pre) ≡ record b { notes = notes ++ flat_map final_notes ls ++ final_notes d }
  past-slot s ss left ends none leaves quiet_left next lo ls pre notes low quiet kids is =
      let c : Board = star b d (pre ++ s ∷ ss) ls notes in
      let pre' : List (List ℕ × Slot) = pre ++ (s.0, left) ∷ [] in
      let dropped : drop_slot c n (length pre) ≡ star b d (pre' ++ ss) ls notes =
      star-drop (pre ++ s ∷ ss) (pre' ++ ss) ls notes (length pre) kids (drop-here pre ss s left leaves ∙ sym (append_assoc pre ((s.0, left) ∷ []) ss)) in
      end_of-some c n (length pre) s.1 (at-first s ss ls pre notes)
      ∙ ap (λ (o : Option ℕ). end_of (after finalize (drop_slot c n (length pre)) o) n (next_index s.1 (length pre))) none
      ∙ (λ j. end_of (dropped j) n ((next (length pre) ∙ sym (length-more pre (s.0, left))) j))
      ∙ ends lo ls pre' notes low (quiet-more pre (s.0, left) quiet_left quiet) is

  -- a child
  past-child : (name : List ℕ) (m : ℕ) (ss : List (List ℕ × Slot)) → Ends ss
      → (lo : ℕ) (k : Record) (ls : List Record) (pre : List (List ℕ × Slot)) (notes : List Note)
      → n ≤ lo → AreQuiet pre → HasFurtherObjects n lo ((name, child m) ∷ ss) (k ∷ ls)
      → end_of (star b d (pre ++ (name, child m) ∷ ss) (k ∷ ls) notes) n (length pre)
      ≡ record b { notes = notes ++ flat_map final_notes (k ∷ ls) ++ final_notes d }
  past-child name m ss ends lo k ls pre notes low quiet is =
      let s : List ℕ × Slot = (name, child m) in
      let c : Board = star b d (pre ++ s ∷ ss) (k ∷ ls) notes in
      let up : lo < m = is.0 in
      let born : k.birth ≡ m = is.1 in
      let bare : BareKid n k = is.2.0 in
      let star_left : HasFurtherObjects n k.birth ss ls = subst (λ (x : ℕ). HasFurtherObjects n x ss ls) (sym born) is.2.1 in
      let above : n < k.birth = omega (arith, up, born, low) in
      let kids : AreKids n k.birth ls = star-kids n k.birth ss ls star_left in
      let all : AreKids n n (k ∷ ls) = (above, (bare, kids)) in
      let c' : Board = star b d (pre ++ ss) (k ∷ ls) notes in
      let dropped : drop_slot c n (length pre) ≡ c' = star-drop (pre ++ s ∷ ss) (pre ++ ss) (k ∷ ls) notes (length pre) all (take-here pre ss s refl) in
      let free : refs c' k.birth ≡ 0 = kid-free pre ss k ls notes above quiet bare star_left in
      let apart : (n == k.birth) ≡ false = grind (arith, above) in
      let itself : (k.birth == k.birth) ≡ true = eq-eqb k.birth k.birth refl in
      let there : record_of c' k.birth ≡ Some k = star-found (pre ++ ss) (k ∷ ls) notes k.birth (omega arith) ∙ rw (apart, itself) refl in
      let slots : slots_at c' k.birth ≡ k.slots = ap (λ (o : Option Record). option_map_or (λ (r : Record). r.slots) o []) there in
      let gone : finalize c' k.birth ≡ finish c' k.birth = end_of-first c' k.birth ∙ bare-end k.slots c' k.birth [] slots (bare-empty n k.slots bare.slots) in
      let stays : map (λ (x : List ℕ × Slot). (x.0, forgotten_in k.birth x.1)) (pre ++ ss) ≡ pre ++ ss =
      map-append (λ (x : List ℕ × Slot). (x.0, forgotten_in k.birth x.1)) pre ss
      ∙ (λ j. slots-forgotten n k.birth (omega arith) pre (quiet-low n pre quiet) j ++ star-forgotten n k.birth k.birth ss ls (omega arith) star_left j)
      in
      end_of-some c n (length pre) (child m) (at-first s ss (k ∷ ls) pre notes)
      ∙ (λ j. end_of (after finalize (dropped j) (Some (sym born j))) n (length pre))
      ∙ ap (λ (x : Board). end_of x n (length pre)) (after-free c' k.birth free ∙ gone ∙ kid-ends (pre ++ ss) k ls notes above bare.no_path stays kids)
      ∙ ends k.birth ls pre (notes ++ final_notes k) (omega arith) quiet star_left
      ∙ ap (λ (ns : List Note). record b { notes = ns ++ final_notes d }) (append_assoc notes (final_notes k) (flat_map final_notes ls))

  ends-all : (ss : List (List ℕ × Slot)) → Ends ss
  ends-all [] lo [] pre notes low quiet is =
      end_of-none (star b d (pre ++ []) [] notes) n (length pre)
      (slot-here (star b d (pre ++ []) [] notes) n (length pre) (pre ++ []) None (star-slots (pre ++ []) [] notes) (none-at pre))
      ∙ device-ends (pre ++ []) notes
      ∙ ap (λ (ns : List Note). record b { notes = ns ++ final_notes d }) (sym (append-nil notes))
  ends-all [] lo (k ∷ ls) pre notes low quiet is = absurd is
  ends-all ((name, child m) ∷ ss) lo [] pre notes low quiet is = absurd is
  ends-all ((name, child m) ∷ ss) lo (k ∷ ls) pre notes low quiet is = past-child name m ss (ends-all ss) lo k ls pre notes low quiet is
  ends-all ((name, strong t (Some m)) ∷ ss) lo ls pre notes low quiet is = absurd is
  ends-all ((name, strong t None) ∷ ss) lo ls pre notes low quiet is = past-slot (name, strong t None) ss (strong t None) (ends-all ss) refl refl refl
      (λ i. refl) lo ls pre notes low quiet (kids-low n lo ls low (star-kids n lo ss ls is)) is
  ends-all ((name, weak t target) ∷ ss) lo ls pre notes low quiet is = past-slot (name, weak t target) ss (weak t None) (ends-all ss) refl refl refl (λ i. refl)
      lo ls pre notes low quiet (kids-low n lo ls low (star-kids n lo ss ls is.1)) is.1
  ends-all ((name, plain v) ∷ ss) lo ls pre notes low quiet is = past-slot (name, plain v) ss (plain v) (ends-all ss) refl refl refl (λ i. refl) lo ls pre notes
      low quiet (kids-low n lo ls low (star-kids n lo ss ls is)) is
  ends-all ((name, alias m p) ∷ ss) lo ls pre notes low quiet is = past-slot (name, alias m p) ss (alias m p) (ends-all ss) refl refl refl (λ i. refl) lo ls pre
      notes low quiet (kids-low n lo ls low (star-kids n lo ss ls is)) is

  -- a device that comes free ends, with its further objects before it, in slot order, and all else is as before
  pub attempt-ends : (ss : List (List ℕ × Slot)) (ls : List Record) (notes : List Note) → HasFurtherObjects n n ss ls
      → finalize (star b d ss ls notes) n ≡ record b { notes = notes ++ flat_map final_notes ls ++ final_notes d }
  attempt-ends ss ls notes is = end_of-first (star b d ss ls notes) n ∙ ends-all ss n ls [] notes (omega arith) tt is
