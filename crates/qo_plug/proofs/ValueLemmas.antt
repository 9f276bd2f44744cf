-- The values that were given for a device, while it is made.
use Rattle.std.proofs.Common.{◌≡◌, refl, ap, sym, ◌∙◌, ℕ, ◌+◌, ◌≤◌, Bool, true, false, List, [], ◌∷◌, ◌++◌, map, find, Option, Some, None, option_map, arith}
use Rattle.std.specs.Prelude.{◌==◌, option_and_then}
use Rattle.std.specs.Option.{option_map_or}
use Rattle.std.specs.Str.{bytes_eq}
use Rattle.std.proofs.lemmas.List.{map-append}
use Rattle.qo_values.specs.declared.kinds.TypeId.{TypeId}
use Rattle.qo_slots.specs.declared.keys.Key.{Key}
use Rattle.qo_heap.specs.Rows.{Rises, births}
use Rattle.qo_heap.proofs.RowsLemmas.{rises-up}
use Rattle.qo_model.specs.Board.{Board, Record, Slot, plain, child, strong, weak, alias, record_of}
use Rattle.qo_model.specs.Changes.{add, fresh, make, with_added}
use Rattle.qo_model.specs.Devices.{child_named}
use Rattle.qo_model.specs.Objects.{Given, given_to}
use Rattle.qo_model.specs.Opening.{fresh_record}
use Rattle.qo_model.specs.Plug.{aliased, owned, with_kid, with_new}
use Rattle.qo_model.specs.Release.{edit, edited}
use Rattle.qo_model.proofs.StepLemmas.{found-edited}
use Rattle.qo_object.specs.Content.{Content}
use Rattle.qo_heap.specs.Board.{Shows}
use Rattle.qo_heap.specs.Board as heap
use Rattle.qo_heap.specs.Objects.{IsHeap, Objects}
use Rattle.qo_plug.specs.Drafts.{created, value_given, with_values}

-- edits of one object

edited-here : (n : ℕ) (f : Record → Record) (r : Record) → (r.birth == n) ≡ true → edited n f r ≡ f r
edited-here n f r p = rw (edited, p) refl

edited-other : (n : ℕ) (f : Record → Record) (r : Record) → (r.birth == n) ≡ false → edited n f r ≡ r
edited-other n f r p = rw (edited, p) refl

pub edits-swap : (n : ℕ) (f g h : Record → Record) → ((r : Record) → (f r).birth ≡ r.birth) → ((r : Record) → (h r).birth ≡ r.birth)
    → ((r : Record) → h (f r) ≡ g (h r)) → (c : Board) → edit n h (edit n f c) ≡ edit n g (edit n h c)
edits-swap n f g h keeps stays same c = ap (λ (rs : List Record). record c { records = rs }) (go c.records)
  where
    one : (r : Record) (t : Bool) → (r.birth == n) ≡ t → edited n h (edited n f r) ≡ edited n g (edited n h r)
    one r true p =
        let first : ((f r).birth == n) ≡ true = ap (λ (k : ℕ). k == n) (keeps r) ∙ p in
        let next : ((h r).birth == n) ≡ true = ap (λ (k : ℕ). k == n) (stays r) ∙ p in
        ap (edited n h) (edited-here n f r p)
        ∙ edited-here n h (f r) first
        ∙ same r
        ∙ sym (ap (edited n g) (edited-here n h r p) ∙ edited-here n g (h r) next)
    one r false p =
        ap (edited n h) (edited-other n f r p)
        ∙ edited-other n h r p
        ∙ sym (ap (edited n g) (edited-other n h r p) ∙ edited-other n g r p)

    go : (rs : List Record) → map (edited n h) (map (edited n f) rs) ≡ map (edited n g) (map (edited n h) rs)
    go [] = refl
    go (r ∷ rs) = let here = one r (r.birth == n) refl in let rest = go rs in λ j. here j ∷ rest j

-- what was given leaves the names, and who is a child

abbrev kid_among : List ℕ → List (List ℕ × Slot) → Option ℕ
kid_among name ss = option_and_then child_named (option_map (λ (s : List ℕ × Slot). s.1) (find (λ (s : List ℕ × Slot). bytes_eq s.0 name) ss))

module _ (b : Board) (props : List Given) where
  given-name : (s : List ℕ × Slot) → (value_given b props s).0 ≡ s.0
  given-name (name, plain v) = refl
  given-name (name, child m) = refl
  given-name (name, strong t target) = refl
  given-name (name, weak t target) = refl
  given-name (name, alias m property) = refl

  given-child : (s : List ℕ × Slot) → child_named (value_given b props s).1 ≡ child_named s.1
  given-child (name, plain v) = by (find (λ (p : Given). bytes_eq p.0 name) props)
    where
      by : (o : Option Given) → child_named (elim o [ None ↦ plain v | Some p ↦ given_to b (plain v) p.1 ]) ≡ None
      by None = refl
      by (Some p) = refl
  given-child (name, child m) = refl
  given-child (name, strong t target) = refl
  given-child (name, weak t target) = refl
  given-child (name, alias m property) = refl

  module _ (n : ℕ) where
    -- a slot more of the object
    pub values-add : (name : List ℕ) (s u : Slot) → (name, u) ≡ value_given b props (name, s) → (c : Board)
        → edit n (with_values b props) (add n name s c) ≡ add n name u (edit n (with_values b props) c)
    unfolding add
    values-add name s u is c =
        edits-swap n (with_added name s) (with_added name u) (with_values b props) (λ r. refl) (λ r. refl)
        (λ r. ap (λ (ss : List (List ℕ × Slot)). record r { slots = ss })
        (map-append (value_given b props) r.slots ((name, s) ∷ [])
        ∙ ap (λ (x : List ℕ × Slot). map (value_given b props) r.slots ++ x ∷ []) (sym is)))
        c

    -- another object more
    pub values-new : (r : Record) → (r.birth == n) ≡ false → (c : Board)
        → edit n (with_values b props) (with_new r c) ≡ with_new r (edit n (with_values b props) c)
    values-new r other c =
        ap (λ (rs : List Record). record (with_new r c) { records = rs })
        (map-append (edited n (with_values b props)) c.records (r ∷ [])
        ∙ ap (λ (x : Record). map (edited n (with_values b props)) c.records ++ x ∷ []) (rw (edited, other) refl))

    pub values-kid : (name : List ℕ) (t : TypeId) (c : Board) → n ≤ c.born
        → edit n (with_values b props) (with_kid n name t c) ≡ with_kid n name t (edit n (with_values b props) c)
    values-kid name t c low =
        let other : (c.born + 1 == n) ≡ false = grind (arith, low) in
        values-add name (child (c.born + 1)) (child (c.born + 1)) refl (with_new (fresh_record (c.born + 1) t) c)
        ∙ ap (add n name (child (c.born + 1))) (values-new (fresh_record (c.born + 1) t) other c)

    -- its own child of a name is the same
    found-child : (name : List ℕ) (ss : List (List ℕ × Slot)) → kid_among name (map (value_given b props) ss) ≡ kid_among name ss
    found-child name [] = refl
    found-child name (s ∷ ss) = by (bytes_eq s.0 name) refl (found-child name ss)
      where
        by : (t : Bool) → bytes_eq s.0 name ≡ t → kid_among name (map (value_given b props) ss) ≡ kid_among name ss
            → kid_among name (map (value_given b props) (s ∷ ss)) ≡ kid_among name (s ∷ ss)
        by true e rest = let here : bytes_eq (value_given b props s).0 name ≡ true = ap (λ (l : List ℕ). bytes_eq l name) (given-name s) ∙ e in
            rw (e, here) (given-child s)
        by false e rest = let here : bytes_eq (value_given b props s).0 name ≡ false = ap (λ (l : List ℕ). bytes_eq l name) (given-name s) ∙ e in
            rw (e, here) rest

    pub values-owned : (c : Board) (name : List ℕ) → owned (edit n (with_values b props) c) n name ≡ owned c n name
    values-owned c name =
        ap (λ (o : Option Record). kid_among name (option_map_or (λ (r : Record). r.slots) o []))
        (found-edited n (with_values b props) (λ r. refl) n c.records)
        ∙ by (record_of c n)
      where
        by : (o : Option Record) → kid_among name (option_map_or (λ (r : Record). r.slots) (option_map (edited n (with_values b props)) o) [])
            ≡ kid_among name (option_map_or (λ (r : Record). r.slots) o [])
        by None = refl
        by (Some r) = go (r.birth == n) refl
          where
            go : (t : Bool) → (r.birth == n) ≡ t → kid_among name (edited n (with_values b props) r).slots ≡ kid_among name r.slots
            go true p = rw (edited, p) (found-child name r.slots)
            go false p = rw (edited, p) refl

    -- an alias of what its own child has
    pub values-alias : (name of : List ℕ) (o : Option ℕ) (c : Board)
        → edit n (with_values b props) (aliased n name of o c) ≡ aliased n name of o (edit n (with_values b props) c)
    values-alias name of None c = refl
    values-alias name of (Some m) c = values-add name (alias m of) (alias m of) refl c

  -- who is there already has another birth, and a new device has no slot yet
  rows-low : (above last n : ℕ) (rows : List (Key × Content)) → Rises above (births rows) last → last + 1 ≤ n
      → map (edited n (with_values b props)) (map heap.record_of rows) ≡ map heap.record_of rows
  rows-low above last n [] rises low = refl
  rows-low above last n (row ∷ rows) rises low =
      let up = rises-up row.0.birth last (births rows) rises.1 in
      let other : (row.0.birth == n) ≡ false = grind (arith, up, low) in
      rw (edited, other) (ap (λ (rs : List Record). heap.record_of row ∷ rs) (rows-low row.0.birth last n rows rises.1 low))

  pub created-given : (v : Objects) → Shows b v → IsHeap v → (t : TypeId) → edit (b.born + 1) (with_values b props) (created b t) ≡ created b t
  unfolding make
  created-given v s good t =
      ap (λ (rs : List Record). record (created b t) { records = rs })
      (map-append (edited (b.born + 1) (with_values b props)) b.records (fresh (b.born + 1) t ∷ [])
      ∙ ap (λ (rs : List Record). rs ++ edited (b.born + 1) (with_values b props) (fresh (b.born + 1) t) ∷ [])
      (ap (map (edited (b.born + 1) (with_values b props))) s.records
      ∙ rows-low 0 v.born (b.born + 1) v.rows good.rising (let born = s.born in omega arith)
      ∙ sym s.records)
      ∙ ap (λ (r : Record). b.records ++ r ∷ []) (new (b.born + 1 == b.born + 1) refl))
    where
      new : (t1 : Bool) → (b.born + 1 == b.born + 1) ≡ t1 → edited (b.born + 1) (with_values b props) (fresh (b.born + 1) t) ≡ fresh (b.born + 1) t
      new true p = rw (edited, p) refl
      new false p = rw (edited, p) refl
