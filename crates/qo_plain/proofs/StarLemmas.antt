-- A board with a device and its further objects after what was there: what a step changes of it, and how it is made.
use Rattle.std.proofs.Common.{◌≡◌, refl, ap, ap₂, sym, subst, ◌∙◌, ℕ, suc, ◌+◌, ◌<◌, ◌≤◌, Bool, true, false, ◌==◌, List, [], ◌∷◌, ◌++◌, map, length, append_assoc, append-nil, Option, Some, None, option_map, option_and_then, arith}
use Rattle.qo_model.proofs.Common.{AllByRecursion, option_map_or, option_or, fresh_registers, TypeId, Val, Board, Record, Slot, plain, child, strong, weak, alias, record_of, slots_at, add, set, with_added, with_changed, with_val, child_named, index_from, init_notes, first_value, fresh_record, is_of, aliased, begun_notes, born_from, drafted, fitted, further_of, link_named, objects_in, properties_made, property_made, types_in, with_kid, edit, edited, property_name, is_a, slots_of, is_named, set_named}
use Rattle.qo_model.specs.declared.properties.Property.{Property}
use Rattle.qo_model.specs.declared.properties.PropertyRole.{PropertyRole}
use Rattle.std.proofs.lemmas.Bool.{eq-eqb}
use Rattle.std.proofs.lemmas.List.{length-map, map-append}
use Rattle.qo_model.specs.declared.properties.PropertyRole.TheVariants as row
use Rattle.qo_model.proofs.FirstSlotLemmas.{named_in, slots_in}
use Rattle.qo_model.proofs.StepLemmas.{found_at}
use Rattle.qo_sound.proofs.SearchLemmas.{found-append}

abbrev pub Slots : Type 0
Slots = List (List ℕ × Slot)

-- records of which none has a birth
abbrev Apart : ℕ → List Record → Type 0
Apart m rs = AllByRecursion (λ (r : Record). (r.birth == m) ≡ false) rs

apart-edited : (m : ℕ) (f : Record → Record) (rs : List Record) → Apart m rs → map (edited m f) rs ≡ rs
apart-edited m f [] h = refl
apart-edited m f (r ∷ rs) h = rw (edited, h.0) (ap (λ (xs : List Record). r ∷ xs) (apart-edited m f rs h.1))

apart-found : (m : ℕ) (rs : List Record) → Apart m rs → found_at m rs ≡ None
apart-found m [] h = refl
apart-found m (r ∷ rs) h = rw (h.0) (apart-found m rs h.1)

-- records below a birth, and above one
abbrev pub Low : ℕ → List Record → Type 0
Low n rs = AllByRecursion (λ (r : Record). r.birth < n) rs

abbrev pub High : ℕ → List Record → Type 0
High n rs = AllByRecursion (λ (r : Record). n < r.birth) rs

low-apart : (n m : ℕ) → n ≤ m → (rs : List Record) → Low n rs → Apart m rs
low-apart n m le [] h = tt
low-apart n m le (r ∷ rs) h =
    let low : r.birth < n = h.0 in
    let other : (r.birth == m) ≡ false = grind (arith, le, low) in
    (other, low-apart n m le rs h.1)

high-apart : (n m : ℕ) → m ≤ n → (rs : List Record) → High n rs → Apart m rs
high-apart n m le [] h = tt
high-apart n m le (r ∷ rs) h =
    let high : n < r.birth = h.0 in
    let other : (r.birth == m) ≡ false = grind (arith, le, high) in
    (other, high-apart n m le rs h.1)

pub low-edited : (n m : ℕ) (f : Record → Record) → ((r : Record) → (f r).birth ≡ r.birth) → (rs : List Record) → Low n rs → Low n (map (edited m f) rs)
low-edited n m f same [] h = tt
low-edited n m f same (r ∷ rs) h = (go (r.birth == m) refl, low-edited n m f same rs h.1)
  where
    go : (u : Bool) → (r.birth == m) ≡ u → (edited m f r).birth < n
    go true p = rw (edited, p) (subst (λ (x : ℕ). x < n) (sym (same r)) h.0)
    go false p = rw (edited, p) h.0

-- a board with a device more, and further objects after it
abbrev pub star : Board → Record → List Record → Board
star b d ks = record b { records = b.records ++ d ∷ ks }

module _ (n : ℕ) (b : Board) (d : Record) (own : d.birth ≡ n) (low : Low n b.records) where
  is-own : (d.birth == n) ≡ true
  is-own = eq-eqb d.birth n own

  -- the device is changed
  pub star-own : (f : Record → Record) (ks : List Record) → High n ks → edit n f (star b d ks) ≡ star b (f d) ks
  star-own f ks high =
      ap (λ (rs : List Record). record b { records = rs })
      (map-append (edited n f) b.records (d ∷ ks)
      ∙ ap₂ (λ (xs ys : List Record). xs ++ ys) (apart-edited n f b.records (low-apart n n (omega arith) b.records low))
      (rw (edited, is-own) (ap (λ (rs : List Record). f d ∷ rs) (apart-edited n f ks (high-apart n n (omega arith) ks high)))))

  -- what was there is changed
  pub star-old : (m : ℕ) (f : Record → Record) (ks : List Record) → m < n → High n ks → edit m f (star b d ks) ≡ star (edit m f b) d ks
  star-old m f ks before high =
      ap (λ (rs : List Record). record b { records = rs })
      (map-append (edited m f) b.records (d ∷ ks)
      ∙ ap (λ (ys : List Record). map (edited m f) b.records ++ ys)
      (apart-edited m f (d ∷ ks) (other, high-apart n m (omega (arith, before)) ks high)))
    where
      other : (d.birth == m) ≡ false
      other = grind (arith, own, before)

  -- the first further object is changed
  pub star-kid : (f : Record → Record) (k : Record) (ks : List Record) → k.birth ≡ suc n → High (suc n) ks → edit (suc n) f (star b d (k ∷ ks)) ≡ star b d (f k ∷ ks)
  star-kid f k ks first high =
      ap (λ (rs : List Record). record b { records = rs })
      (map-append (edited (suc n) f) b.records (d ∷ k ∷ ks)
      ∙ ap₂ (λ (xs ys : List Record). xs ++ ys) (apart-edited (suc n) f b.records (low-apart n (suc n) (omega arith) b.records low))
      (rw (edited, other, mine) (ap (λ (rs : List Record). d ∷ f k ∷ rs) (apart-edited (suc n) f ks (high-apart (suc n) (suc n) (omega arith) ks high)))))
    where
      other : (d.birth == suc n) ≡ false
      other = grind (arith, own)

      mine : (k.birth == suc n) ≡ true
      mine = eq-eqb k.birth (suc n) first

  own-found : (ks : List Record) → record_of (star b d ks) n ≡ Some d
  own-found ks =
      found-append n b.records (d ∷ ks)
      ∙ ap (λ (o : Option Record). option_or o (found_at n (d ∷ ks))) (apart-found n b.records (low-apart n n (omega arith) b.records low))
      ∙ rw is-own refl

  pub own-slots : (ks : List Record) → slots_at (star b d ks) n ≡ d.slots
  own-slots ks = ap slots_in (own-found ks)

  kid-found : (k : Record) (ks : List Record) → k.birth ≡ suc n → record_of (star b d (k ∷ ks)) (suc n) ≡ Some k
  kid-found k ks first =
      found-append (suc n) b.records (d ∷ k ∷ ks)
      ∙ ap (λ (o : Option Record). option_or o (found_at (suc n) (d ∷ k ∷ ks)))
      (apart-found (suc n) b.records (low-apart n (suc n) (omega arith) b.records low))
      ∙ rw (other, mine) refl
    where
      other : (d.birth == suc n) ≡ false
      other = grind (arith, own)

      mine : (k.birth == suc n) ≡ true
      mine = eq-eqb k.birth (suc n) first

  pub kid-slots : (k : Record) (ks : List Record) → k.birth ≡ suc n → slots_at (star b d (k ∷ ks)) (suc n) ≡ k.slots
  kid-slots k ks first = ap slots_in (kid-found k ks first)

  -- what was there is of its type
  pub old-of : (ks : List Record) (wanted : List ℕ) (m : ℕ) → is_of b wanted m ≡ true → is_of (star b d ks) wanted m ≡ true
  old-of ks wanted m e =
      ap (λ (o : Option Record). option_map_or (λ (t : TypeId). is_a t wanted) (option_map (λ (r : Record). r.kind) o) false)
      (found-append m b.records (d ∷ ks)) ∙ go (record_of b m) e
    where
      go : (o : Option Record) → option_map_or (λ (t : TypeId). is_a t wanted) (option_map (λ (r : Record). r.kind) o) false ≡ true
          → option_map_or (λ (t : TypeId). is_a t wanted) (option_map (λ (r : Record). r.kind) (option_or o (found_at m (d ∷ ks)))) false ≡ true
      go None k = absurd (let clash : false ≡ true = k in cc)
      go (Some r) k = k

  -- a slot of the device is set, or linked
  pub star-set : (name : List ℕ) (v : Val) (i : ℕ) (ks : List Record) → High n ks → index_from (is_named name) 0 d.slots ≡ Some i
      → set_named n name v (star b d ks) ≡ star b (with_changed (with_val v) i d) ks
  unfolding set
  star-set name v i ks high e =
      rw (set_named, ap (index_from (is_named name) 0) (own-slots ks) ∙ e) (star-own (with_changed (with_val v) i) ks high)

  pub star-unset : (name : List ℕ) (v : Val) (ks : List Record) → index_from (is_named name) 0 d.slots ≡ None → set_named n name v (star b d ks) ≡ star b d ks
  star-unset name v ks e = rw (set_named, ap (index_from (is_named name) 0) (own-slots ks) ∙ e) refl

  pub star-link : (name : List ℕ) (m i : ℕ) (ks : List Record) → High n ks → index_from (is_named name) 0 d.slots ≡ Some i
      → link_named n name m (star b d ks) ≡ star b (with_changed (fitted (star b d ks) m) i d) ks
  star-link name m i ks high e =
      rw (link_named, ap (index_from (is_named name) 0) (own-slots ks) ∙ e) (star-own (with_changed (fitted (star b d ks) m) i) ks high)

-- how a device is made: the slots, the further objects from a birth on, and the board beside them, after each property
abbrev pub grow : TypeId → Board → Board
grow k b = record b { born = b.born + 1; notes = b.notes ++ init_notes (b.born + 1) k }

abbrev grow_by : PropertyRole → Board → Board
grow_by (row.Child k) b = grow k b
grow_by kind b = b

abbrev alias_by : List ℕ → List ℕ → Option ℕ → Slots → Slots
alias_by name property None ss = ss
alias_by name property (Some m) ss = ss ++ (name, alias m property) ∷ []

abbrev slots_by : TypeId → List ℕ → PropertyRole → Slots → ℕ → Slots
slots_by t name (row.Plain type first) ss m = ss ++ (name, plain (first_value t first)) ∷ []
slots_by t name (row.Link target true) ss m = ss ++ (name, strong target None) ∷ []
slots_by t name (row.Link target false) ss m = ss ++ (name, weak target None) ∷ []
slots_by t name (row.Child k) ss m = ss ++ (name, child m) ∷ []
slots_by t name (row.Alias owner of) ss m = alias_by name (property_name of) (option_and_then child_named (named_in (property_name owner) ss)) ss

abbrev next_by : PropertyRole → ℕ → ℕ
next_by (row.Child k) m = suc m
next_by kind m = m

abbrev kids_by : PropertyRole → List Record → ℕ → List Record
kids_by (row.Child k) ks m = ks ++ fresh_record m k ∷ []
kids_by kind ks m = ks

abbrev pub grow_after : List Property → Board → Board
grow_after [] b = b
grow_after (p ∷ ps) b = grow_after ps (grow_by p.role b)

abbrev pub slots_after : TypeId → List Property → Slots → ℕ → Slots
slots_after t [] ss m = ss
slots_after t (p ∷ ps) ss m = slots_after t ps (slots_by t (property_name p.name) p.role ss m) (next_by p.role m)

abbrev pub kids_after : List Property → List Record → ℕ → List Record
kids_after [] ks m = ks
kids_after (p ∷ ps) ks m = kids_after ps (kids_by p.role ks m) (next_by p.role m)

high-last : (n : ℕ) (k : Record) (ks : List Record) → n < k.birth → High n ks → High n (ks ++ k ∷ [])
high-last n k [] low h = (low, tt)
high-last n k (x ∷ ks) low h = (h.0, high-last n k ks low h.1)

module _ (n : ℕ) (t : TypeId) where
  abbrev pub made : Slots → Record
  made ss = record { birth = n; kind = t; slots = ss; registers = fresh_registers t; device_id = None; kept_path = None }

  module _ (b : Board) (low : Low n b.records) (ss : Slots) (ks : List Record) (high : High n ks) (m : ℕ) (next : m ≡ b.born + 1) where
    row-added : (name : List ℕ) (s : Slot) → add n name s (star b (made ss) ks) ≡ star b (made (ss ++ (name, s) ∷ [])) ks
    unfolding add
    row-added name s = star-own n b (made ss) refl low (with_added name s) ks high

    row-alias : (name property : List ℕ) (o : Option ℕ) → aliased n name property o (star b (made ss) ks) ≡ star b (made (alias_by name property o ss)) ks
    row-alias name property None = refl
    row-alias name property (Some x) = row-added name (alias x property)

    row-kid : (name : List ℕ) (k : TypeId) → n < m
        → with_kid n name k (star b (made ss) ks) ≡ star (grow k b) (made (ss ++ (name, child m) ∷ [])) (ks ++ fresh_record m k ∷ [])
    unfolding add
    row-kid name k above =
        ap (λ (rs : List Record). edit n (with_added name (child (b.born + 1))) (record (grow k b) { records = rs }))
        (append_assoc b.records (made ss ∷ ks) (fresh_record (b.born + 1) k ∷ []))
        ∙ star-own n (grow k b) (made ss) refl low (with_added name (child (b.born + 1))) (ks ++ fresh_record (b.born + 1) k ∷ [])
        (high-last n (fresh_record (b.born + 1) k) ks (subst (λ (x : ℕ). n < x) next above) high)
        ∙ ap (λ (x : ℕ). star (grow k b) (made (ss ++ (name, child x) ∷ [])) (ks ++ fresh_record x k ∷ [])) (sym next)

    row-made : (name : List ℕ) (kind : PropertyRole) → n < m
        → property_made n t name kind (star b (made ss) ks) ≡ star (grow_by kind b) (made (slots_by t name kind ss m)) (kids_by kind ks m)
    row-made name (row.Plain type first) above = row-added name (plain (first_value t first))
    row-made name (row.Link target true) above = row-added name (strong target None)
    row-made name (row.Link target false) above = row-added name (weak target None)
    row-made name (row.Child k) above = row-kid name k above
    row-made name (row.Alias owner of) above =
        ap (λ (o : Option ℕ). aliased n name (property_name of) o (star b (made ss) ks))
        (ap (λ (xs : Slots). option_and_then child_named (named_in (property_name owner) xs)) (own-slots n b (made ss) refl low ks))
        ∙ row-alias name (property_name of) (option_and_then child_named (named_in (property_name owner) ss))

  high-by : (kind : PropertyRole) (ks : List Record) (m : ℕ) → n < m → High n ks → High n (kids_by kind ks m)
  high-by (row.Plain type first) ks m above h = h
  high-by (row.Link target holds) ks m above h = h
  high-by (row.Child k) ks m above h = high-last n (fresh_record m k) ks above h
  high-by (row.Alias owner of) ks m above h = h

  next-is : (kind : PropertyRole) (b : Board) (m : ℕ) → m ≡ b.born + 1 → next_by kind m ≡ (grow_by kind b).born + 1
  next-is (row.Plain type first) b m e = e
  next-is (row.Link target holds) b m e = e
  next-is (row.Child k) b m e = omega (arith, e)
  next-is (row.Alias owner of) b m e = e

  next-above : (kind : PropertyRole) (m : ℕ) → n < m → n < next_by kind m
  next-above (row.Plain type first) m e = e
  next-above (row.Link target holds) m e = e
  next-above (row.Child k) m e = omega (arith, e)
  next-above (row.Alias owner of) m e = e

  same-low : (kind : PropertyRole) (b : Board) → Low n b.records → Low n (grow_by kind b).records
  same-low (row.Plain type first) b h = h
  same-low (row.Link target holds) b h = h
  same-low (row.Child k) b h = h
  same-low (row.Alias owner of) b h = h

  rows-made : (ps : List Property) (b : Board) → Low n b.records → (ss : Slots) (ks : List Record) → High n ks → (m : ℕ) → m ≡ b.born + 1 → n < m
      → properties_made n t ps (star b (made ss) ks) ≡ star (grow_after ps b) (made (slots_after t ps ss m)) (kids_after ps ks m)
  rows-made [] b low ss ks high m e above = refl
  rows-made (p ∷ ps) b low ss ks high m e above =
      ap (properties_made n t ps) (row-made b low ss ks high m e (property_name p.name) p.role above)
      ∙ rows-made ps (grow_by p.role b) (same-low p.role b low) (slots_by t (property_name p.name) p.role ss m) (kids_by p.role ks m)
      (high-by p.role ks m above high) (next_by p.role m) (next-is p.role b m e) (next-above p.role m above)

-- the board beside a device and its further objects
abbrev pub grown : List TypeId → Board → Board
grown [] b = b
grown (k ∷ ks) b = grown ks (grow k b)

grown-is : (ks : List TypeId) (b : Board) (m : ℕ) → m ≡ b.born + 1
    → grown ks b ≡ record b { born = b.born + length ks; notes = b.notes ++ begun_notes (born_from m ks) }
grown-is [] b m e = λ j. record b { born = same j; notes = sym (append-nil b.notes) j }
  where
    same : b.born ≡ b.born + 0
    same = omega arith
grown-is (k ∷ ks) b m e = grown-is ks (grow k b) (suc m) (omega (arith, e)) ∙ (λ j. record b { born = born j; notes = notes j })
  where
    born : b.born + 1 + length ks ≡ b.born + suc (length ks)
    born = omega arith

    notes : (b.notes ++ init_notes (b.born + 1) k) ++ begun_notes (born_from (suc m) ks) ≡ b.notes ++ begun_notes ((m, k) ∷ born_from (suc m) ks)
    notes =
        append_assoc b.notes (init_notes (b.born + 1) k) (begun_notes (born_from (suc m) ks))
        ∙ ap (λ (x : ℕ). b.notes ++ (init_notes x k ++ begun_notes (born_from (suc m) ks))) (sym e)

abbrev pub kinds_of : TypeId → List TypeId
kinds_of t = map (λ (f : List ℕ × TypeId). f.1) (further_of t)

abbrev pub beside : Board → TypeId → Board
beside b t = record b { born = b.born + objects_in t; notes = b.notes ++ begun_notes (born_from (b.born + 1) (types_in t)) }

beside-is : (b : Board) (t : TypeId) → grown (t ∷ kinds_of t) b ≡ beside b t
beside-is b t =
    grown-is (t ∷ kinds_of t) b (b.born + 1) refl
    ∙ ap (λ (x : ℕ). record b { born = b.born + suc x; notes = b.notes ++ begun_notes (born_from (b.born + 1) (types_in t)) })
    (length-map (further_of t) (λ (f : List ℕ × TypeId). f.1))

-- the device as it is made
pub drafted-is : (b : Board) (t : TypeId) → Low (b.born + 1) b.records → grow_after (slots_of t) (grow t b) ≡ grown (kinds_of t) (grow t b)
    → drafted b t
    ≡ star (beside b t) (made (b.born + 1) t (slots_after t (slots_of t) [] (suc (b.born + 1)))) (kids_after (slots_of t) [] (suc (b.born + 1)))
drafted-is b t low same =
    rows-made (b.born + 1) t (slots_of t) (grow t b) low [] [] tt (suc (b.born + 1)) (omega arith) (omega arith)
    ∙ ap (λ (c : Board). star c (made (b.born + 1) t (slots_after t (slots_of t) [] (suc (b.born + 1)))) (kids_after (slots_of t) [] (suc (b.born + 1))))
    (same ∙ beside-is b t)
