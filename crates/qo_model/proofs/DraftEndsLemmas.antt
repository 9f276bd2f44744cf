-- A device that was made, property by property, as one record with its further objects after it; and that it leaves exactly its notes where it is given up.
use Rattle.std.proofs.Common.{◌≡◌, refl, ap, ap₂, sym, subst, ◌∙◌, ℕ, suc, ◌+◌, ◌<◌, ◌≤◌, true, false, ◌==◌, List, [], ◌∷◌, ◌++◌, map, filter_map, length, append_assoc, append-nil, Option, Some, None, option_map, arith}
use Rattle.qo_model.proofs.Common.{drop, take, AllByRecursion, TypeId, Board, Record, Slot, plain, child, strong, weak, alias, add, fresh, ending, init_notes, first_slot, first_value, fresh_record, aliased, begun_notes, born_from, cut_attempt, cut_order, device_last, ended_notes, further_in, owned, plug_attempt, property_made, properties_made, types_in, with_ended, with_kid, with_new, edit, edited, final_notes, finalize, slots_of, property_name, refs, refs_in}
use Rattle.qo_model.specs.declared.notes.Note.{Note}
use Rattle.qo_model.specs.declared.properties.Property.{Property}
use Rattle.qo_model.specs.declared.properties.PropertyRole.{PropertyRole}
use Rattle.std.specs.List.{flat_map}
use Rattle.std.proofs.lemmas.Bool.{eq-eqb}
use Rattle.std.proofs.lemmas.List.{map-append}
use Rattle.std.proofs.lemmas.Option.{same_Some}
use Rattle.qo_model.specs.declared.properties.PropertyRole.TheVariants as row
use Rattle.qo_model.proofs.AttemptLemmas.{BareKid, BareSlot, HasFurtherObjects, LowRecord, attempt-ends, kids-unheld, pins-apart, records-edited, records-unheld, star-kids, star-unheld}
use Rattle.std.proofs.lemmas.List.Sums.{sum_by-cons, sum_by-append}

-- the types of the further objects of properties, and these objects from a birth on
abbrev pub kinds_in : List Property → List TypeId
kinds_in ps = map (λ (f : List ℕ × TypeId). f.1) (filter_map further_in ps)

abbrev pub kids_from : ℕ → List TypeId → List Record
kids_from m [] = []
kids_from m (k ∷ ks) = fresh_record m k ∷ kids_from (suc m) ks

-- the board with a device n more, with these slots and further objects
abbrev pub with_star : Board → ℕ → TypeId → List (List ℕ × Slot) → List TypeId → Board
with_star b n t ss ks =
    record b {
      records = b.records ++ record (fresh n t) { slots = ss } ∷ kids_from (suc n) ks;
      born = n + length ks;
      notes = b.notes ++ begun_notes (born_from n (t ∷ ks));
    }

-- lists of further objects, one longer
length-push : {A : Type 0} (xs : List A) (x : A) → length (xs ++ x ∷ []) ≡ length xs + 1
length-push [] x = refl
length-push (y ∷ xs) x = omega (arith, length-push xs x)

kids-push : (m j : ℕ) (ks : List TypeId) (k : TypeId) → j ≡ m + length ks → kids_from m (ks ++ k ∷ []) ≡ kids_from m ks ++ fresh_record j k ∷ []
kids-push m j [] k e = let same : m ≡ j = omega (arith, e) in ap (λ (i : ℕ). fresh_record i k ∷ []) same
kids-push m j (x ∷ ks) k e = ap (λ (rs : List Record). fresh_record m x ∷ rs) (kids-push (suc m) j ks k (omega (arith, e)))

born-push : (m j : ℕ) (ks : List TypeId) (k : TypeId) → j ≡ m + length ks → born_from m (ks ++ k ∷ []) ≡ born_from m ks ++ (j, k) ∷ []
born-push m j [] k e = let same : m ≡ j = omega (arith, e) in ap (λ (i : ℕ). (i, k) ∷ []) same
born-push m j (x ∷ ks) k e = ap (λ (os : List (ℕ × TypeId)). (m, x) ∷ os) (born-push (suc m) j ks k (omega (arith, e)))

begun-push : (os : List (ℕ × TypeId)) (j : ℕ) (k : TypeId) → begun_notes (os ++ (j, k) ∷ []) ≡ begun_notes os ++ init_notes j k
begun-push [] j k = append-nil (init_notes j k)
begun-push (o ∷ os) j k = ap (λ (ns : List Note). init_notes o.0 o.1 ++ ns) (begun-push os j k)
    ∙ sym (append_assoc (init_notes o.0 o.1) (begun_notes os) (init_notes j k))

kids-edited : (n : ℕ) (f : Record → Record) (m : ℕ) (ks : List TypeId) → n < m → map (edited n f) (kids_from m ks) ≡ kids_from m ks
kids-edited n f m [] low = refl
kids-edited n f m (k ∷ ks) low = let other : (m == n) ≡ false = grind (arith, low) in
    rw (edited, other) (ap (λ (rs : List Record). fresh_record m k ∷ rs) (kids-edited n f (suc m) ks (omega (arith, low))))

-- stars with a slot more

star-slot : (n : ℕ) (s : List ℕ × Slot) → ((lo : ℕ) → HasFurtherObjects n lo (s ∷ []) []) → (lo : ℕ) (ss : List (List ℕ × Slot)) (ls : List Record)
    → HasFurtherObjects n lo ss ls
    → HasFurtherObjects n lo (ss ++ s ∷ []) ls
star-slot n s q lo [] [] h = q lo
star-slot n s q lo [] (k ∷ ls) h = absurd h
star-slot n s q lo ((name, child m) ∷ ss) [] h = absurd h
star-slot n s q lo ((name, child m) ∷ ss) (k ∷ ls) h = (h.0, h.1, (h.2.0, star-slot n s q m ss ls h.2.1))
star-slot n s q lo ((name, strong t None) ∷ ss) ls h = star-slot n s q lo ss ls h
star-slot n s q lo ((name, strong t (Some m)) ∷ ss) ls h = absurd h
star-slot n s q lo ((name, weak t target) ∷ ss) ls h = (h.0, star-slot n s q lo ss ls h.1)
star-slot n s q lo ((name, plain v) ∷ ss) ls h = star-slot n s q lo ss ls h
star-slot n s q lo ((name, alias m p) ∷ ss) ls h = star-slot n s q lo ss ls h

star-kid : (n j : ℕ) (name : List ℕ) (k : Record) → k.birth ≡ j → BareKid n k → (lo : ℕ) (ss : List (List ℕ × Slot)) (ls : List Record) → lo < j
    → AllByRecursion (λ (r : Record). r.birth < j) ls → HasFurtherObjects n lo ss ls → HasFurtherObjects n lo (ss ++ (name, child j) ∷ []) (ls ++ k ∷ [])
star-kid n j name k born bare lo [] [] up low h = (up, born, (bare, tt))
star-kid n j name k born bare lo [] (l ∷ ls) up low h = absurd h
star-kid n j name k born bare lo ((other, child m) ∷ ss) [] up low h = absurd h
star-kid n j name k born bare lo ((other, child m) ∷ ss) (l ∷ ls) up low h =
    (h.0, h.1, (h.2.0, star-kid n j name k born bare m ss ls (subst (λ (x : ℕ). x < j) h.1 low.0) low.1 h.2.1))
star-kid n j name k born bare lo ((other, strong t None) ∷ ss) ls up low h = star-kid n j name k born bare lo ss ls up low h
star-kid n j name k born bare lo ((other, strong t (Some m)) ∷ ss) ls up low h = absurd h
star-kid n j name k born bare lo ((other, weak t target) ∷ ss) ls up low h = (h.0, star-kid n j name k born bare lo ss ls up low h.1)
star-kid n j name k born bare lo ((other, plain v) ∷ ss) ls up low h = star-kid n j name k born bare lo ss ls up low h
star-kid n j name k born bare lo ((other, alias m p) ∷ ss) ls up low h = star-kid n j name k born bare lo ss ls up low h

kids-low : (j m : ℕ) (ks : List TypeId) → m + length ks ≤ j → AllByRecursion (λ (r : Record). r.birth < j) (kids_from m ks)
kids-low j m [] le = tt
kids-low j m (k ∷ ks) le = (omega (arith, le), kids-low j (suc m) ks (omega (arith, le)))

-- a new further object names nothing
bare-slots : (n : ℕ) (t : TypeId) (ps : List Property)
    → AllByRecursion (λ (s : List ℕ × Slot). BareSlot n s.1)
    (filter_map (λ (p : Property). option_map (λ (s : Slot). (property_name p.name, s)) (first_slot (λ _. None) t (property_name p.name) p.role)) ps)
bare-slots n t [] = tt
bare-slots n t (p ∷ ps) = go (first_slot (λ _. None) t (property_name p.name) p.role) refl (bare-slots n t ps)
  where
    bare : (kind : PropertyRole) (s : Slot) → first_slot (λ _. None) t (property_name p.name) kind ≡ Some s → BareSlot n s
    bare (row.Plain type first) s e = subst (BareSlot n) (same_Some (plain (first_value t first)) s e) (record { empty = refl; low = tt })
    bare (row.Link target true) s e = subst (BareSlot n) (same_Some (strong target None) s e) (record { empty = refl; low = tt })
    bare (row.Link target false) s e = subst (BareSlot n) (same_Some (weak target None) s e) (record { empty = refl; low = tt })
    bare (row.Child type) s e = absurd (let clash : None ≡ Some s = e in cc)
    bare (row.Alias owner property) s e = absurd (let clash : None ≡ Some s = e in cc)

    go : (o : Option Slot) → first_slot (λ _. None) t (property_name p.name) p.role ≡ o
        → AllByRecursion (λ (s : List ℕ × Slot). BareSlot n s.1)
        (filter_map (λ (q : Property). option_map (λ (s : Slot). (property_name q.name, s)) (first_slot (λ _. None) t (property_name q.name) q.role)) ps)
        → AllByRecursion (λ (s : List ℕ × Slot). BareSlot n s.1)
        (filter_map (λ (q : Property). option_map (λ (s : Slot). (property_name q.name, s)) (first_slot (λ _. None) t (property_name q.name) q.role)) (p ∷ ps))
    go None e rest = rw e rest
    go (Some s) e rest = rw e (bare p.role s e, rest)

bare-fresh : (n m : ℕ) (t : TypeId) → BareKid n (fresh_record m t)
bare-fresh n m t = record { slots = bare-slots n t (slots_of t); no_path = refl }

-- a board that is such a star
pub record IsDraft (b : Board) (n : ℕ) (t : TypeId) (ks : List TypeId) (c : Board) : Type 0 where
  pub slots : List (List ℕ × Slot)
  pub shape : c ≡ with_star b n t slots ks
  pub star_is : HasFurtherObjects n n slots (kids_from (suc n) ks)

module _ (b : Board) (n : ℕ) (t : TypeId) (low : AllByRecursion (LowRecord n) b.records) where
  -- the device with other slots
  star-edited : (h : List (List ℕ × Slot) → List (List ℕ × Slot)) (ss : List (List ℕ × Slot)) (ks : List TypeId)
      → edit n (λ (r : Record). record r { slots = h r.slots }) (with_star b n t ss ks) ≡ with_star b n t (h ss) ks
  star-edited h ss ks = ap (λ (rs : List Record). record (with_star b n t ss ks) { records = rs }) same
    where
      f : Record → Record
      f r = record r { slots = h r.slots }

      own : (n == n) ≡ true
      own = eq-eqb n n refl

      same : map (edited n f) (b.records ++ record (fresh n t) { slots = ss } ∷ kids_from (suc n) ks)
          ≡ b.records ++ record (fresh n t) { slots = h ss } ∷ kids_from (suc n) ks
      same =
          map-append (edited n f) b.records (record (fresh n t) { slots = ss } ∷ kids_from (suc n) ks)
          ∙ ap₂ (λ (xs ys : List Record). xs ++ ys) (records-edited n n (omega arith) f b.records low)
          (rw (edited, own) (ap (λ (rs : List Record). record (fresh n t) { slots = h ss } ∷ rs) (kids-edited n f (suc n) ks (omega arith))))

  -- a slot more of the device
  star-added : (name : List ℕ) (s : Slot) (ss : List (List ℕ × Slot)) (ks : List TypeId)
      → add n name s (with_star b n t ss ks) ≡ with_star b n t (ss ++ (name, s) ∷ []) ks
  unfolding add
  star-added name s = star-edited (λ (ss : List (List ℕ × Slot)). ss ++ (name, s) ∷ [])

  -- a further object more
  star-grown : (k : TypeId) (ss : List (List ℕ × Slot)) (ks : List TypeId)
      → with_new (fresh_record (n + length ks + 1) k) (with_star b n t ss ks) ≡ with_star b n t ss (ks ++ k ∷ [])
  star-grown k ss ks = λ i. record b { records = records i; born = born i; notes = notes i }
    where
      m : ℕ
      m = n + length ks + 1

      records : (b.records ++ record (fresh n t) { slots = ss } ∷ kids_from (suc n) ks) ++ fresh_record (n + length ks + 1) k ∷ []
          ≡ b.records ++ record (fresh n t) { slots = ss } ∷ kids_from (suc n) (ks ++ k ∷ [])
      records =
          append_assoc b.records (record (fresh n t) { slots = ss } ∷ kids_from (suc n) ks) (fresh_record (n + length ks + 1) k ∷ [])
          ∙ ap (λ (rs : List Record). b.records ++ record (fresh n t) { slots = ss } ∷ rs) (sym (kids-push (suc n) (n + length ks + 1) ks k (omega arith)))

      born : n + length ks + 1 ≡ n + length (ks ++ k ∷ [])
      born = omega (arith, length-push ks k)

      notes : (b.notes ++ begun_notes (born_from n (t ∷ ks))) ++ init_notes (n + length ks + 1) k ≡ b.notes ++ begun_notes (born_from n (t ∷ ks ++ k ∷ []))
      notes =
          append_assoc b.notes (begun_notes (born_from n (t ∷ ks))) (init_notes (n + length ks + 1) k)
          ∙ ap (λ (ns : List Note). b.notes ++ ns) (sym (begun-push (born_from n (t ∷ ks)) (n + length ks + 1) k))
          ∙ ap (λ (os : List (ℕ × TypeId)). b.notes ++ begun_notes ((n, t) ∷ os)) (sym (born-push (suc n) (n + length ks + 1) ks k (omega arith)))

  -- each slot changed, so that stars stay stars
  pub draft-edited : (g : List ℕ × Slot → List ℕ × Slot) (ks : List TypeId) (c : Board)
      → ((lo : ℕ) (ss : List (List ℕ × Slot)) (ls : List Record) → HasFurtherObjects n lo ss ls → HasFurtherObjects n lo (map g ss) ls) → IsDraft b n t ks c
      → IsDraft b n t ks (edit n (λ (r : Record). record r { slots = map g r.slots }) c)
  draft-edited g ks c keeps h =
      record {
        slots = map g h.slots;
        shape = ap (edit n (λ (r : Record). record r { slots = map g r.slots })) h.shape ∙ star-edited (map g) h.slots ks;
        star_is = keeps n h.slots (kids_from (suc n) ks) h.star_is;
      }

  draft-slot : (name : List ℕ) (s : Slot) (ks : List TypeId) (c : Board) → ((lo : ℕ) → HasFurtherObjects n lo ((name, s) ∷ []) []) → IsDraft b n t ks c
      → IsDraft b n t ks (add n name s c)
  draft-slot name s ks c q h =
      record {
        slots = h.slots ++ (name, s) ∷ [];
        shape = ap (add n name s) h.shape ∙ star-added name s h.slots ks;
        star_is = star-slot n (name, s) q n h.slots (kids_from (suc n) ks) h.star_is;
      }

  draft-kid : (name : List ℕ) (k : TypeId) (ks : List TypeId) (c : Board) → IsDraft b n t ks c → IsDraft b n t (ks ++ k ∷ []) (with_kid n name k c)
  draft-kid name k ks c h =
      record {
        slots = h.slots ++ (name, child (n + length ks + 1)) ∷ [];
        shape = ap (with_kid n name k) h.shape ∙ ap (add n name (child (n + length ks + 1))) (star-grown k h.slots ks)
            ∙ star-added name (child (n + length ks + 1)) h.slots (ks ++ k ∷ []);
        star_is =
            subst (HasFurtherObjects n n (h.slots ++ (name, child (n + length ks + 1)) ∷ [])) (sym (kids-push (suc n) (n + length ks + 1) ks k (omega arith)))
            (star-kid n (n + length ks + 1) name (fresh_record (n + length ks + 1) k) refl (bare-fresh n (n + length ks + 1) k) n h.slots (kids_from (suc n) ks)
            (omega arith) (kids-low (n + length ks + 1) (suc n) ks (omega arith)) h.star_is);
      }

  draft-alias : (name property : List ℕ) (o : Option ℕ) (ks : List TypeId) (c : Board) → IsDraft b n t ks c → IsDraft b n t ks (aliased n name property o c)
  draft-alias name property None ks c h = h
  draft-alias name property (Some m) ks c h = draft-slot name (alias m property) ks c (λ lo. tt) h

  -- property by property
  pub draft-rows : (ps : List Property) (ks : List TypeId) (c : Board) → IsDraft b n t ks c → IsDraft b n t (ks ++ kinds_in ps) (properties_made n t ps c)
  draft-rows [] ks c h = subst (λ (x : List TypeId). IsDraft b n t x c) (sym (append-nil ks)) h
  draft-rows (p ∷ ps) ks c h = go p.role refl (draft-rows ps)
    where
      Rest : Type 0
      Rest = (x : List TypeId) (e : Board) → IsDraft b n t x e → IsDraft b n t (x ++ kinds_in ps) (properties_made n t ps e)

      go : (kind : PropertyRole) → p.role ≡ kind
          → ((x : List TypeId) (e : Board) → IsDraft b n t x e → IsDraft b n t (x ++ kinds_in ps) (properties_made n t ps e))
          → IsDraft b n t (ks ++ kinds_in (p ∷ ps)) (properties_made n t (p ∷ ps) c)
      go (row.Plain type first) e rest =
          rw e (rest ks (property_made n t (property_name p.name) (row.Plain type first) c)
          (draft-slot (property_name p.name) (plain (first_value t first)) ks c (λ lo. tt) h))
      go (row.Link target true) e rest =
          rw e (rest ks (property_made n t (property_name p.name) (row.Link target true) c)
          (draft-slot (property_name p.name) (strong target None) ks c (λ lo. tt) h))
      go (row.Link target false) e rest =
          rw e (rest ks (property_made n t (property_name p.name) (row.Link target false) c)
          (draft-slot (property_name p.name) (weak target None) ks c (λ lo. (tt, tt)) h))
      go (row.Child type) e rest =
          rw e (subst (λ (x : List TypeId). IsDraft b n t x (properties_made n t ps (with_kid n (property_name p.name) type c)))
          (append_assoc ks (type ∷ []) (kinds_in ps))
          (rest (ks ++ type ∷ []) (with_kid n (property_name p.name) type c) (draft-kid (property_name p.name) type ks c h)))
      go (row.Alias owner of) e rest =
          rw e (rest ks (aliased n (property_name p.name) (property_name of) (owned c n (property_name owner)) c)
          (draft-alias (property_name p.name) (property_name of) (owned c n (property_name owner)) ks c h))

-- the device as it begins
pub draft-begun : (b : Board) (t : TypeId) → IsDraft b (b.born + 1) t [] (with_new (fresh (b.born + 1) t) b)
draft-begun b t =
    record {
      slots = [];
      shape = λ i. record b { records = b.records ++ fresh (b.born + 1) t ∷ []; born = born i; notes = b.notes ++ notes i };
      star_is = tt;
    }
  where
    born : b.born + 1 ≡ b.born + 1 + length {A = TypeId} []
    born = omega arith

    notes : init_notes (b.born + 1) t ≡ begun_notes (born_from (b.born + 1) (t ∷ []))
    notes = sym (append-nil (init_notes (b.born + 1) t))

-- what a device and its further objects leave
pub kids-ended : (m : ℕ) (ks : List TypeId) → flat_map final_notes (kids_from m ks) ≡ ended_notes (born_from m ks)
kids-ended m [] = refl
kids-ended m (k ∷ ks) = ap (λ (ns : List Note). ending m k ++ ns) (kids-ended (suc m) ks)

pub ended-push : (os : List (ℕ × TypeId)) (j : ℕ) (k : TypeId) → ended_notes (os ++ (j, k) ∷ []) ≡ ended_notes os ++ ending j k
ended-push [] j k = append-nil (ending j k)
ended-push (o ∷ os) j k = ap (λ (ns : List Note). ending o.0 o.1 ++ ns) (ended-push os j k) ∙ sym (append_assoc (ending o.0 o.1) (ended_notes os) (ending j k))

pub born-length : (m : ℕ) (ks : List TypeId) → length (born_from m ks) ≡ length ks
born-length m [] = refl
born-length m (k ∷ ks) = ap suc (born-length (suc m) ks)

-- a draft that comes free
pub draft-ends : (b : Board) (t : TypeId) (ks : List TypeId) (c : Board) → AllByRecursion (LowRecord (b.born + 1)) b.records
    → AllByRecursion (λ p. p < b.born + 1) b.pins → IsDraft b (b.born + 1) t ks c
    → finalize c (b.born + 1) ≡ with_ended b (born_from (b.born + 1) (t ∷ ks)) [] (device_last (born_from (b.born + 1) (t ∷ ks)))
draft-ends b t ks c low pins h =
    ap (λ (x : Board). finalize x (b.born + 1)) h.shape
    ∙ attempt-ends (record b { born = b.born + 1 + length ks }) (fresh (b.born + 1) t) low pins refl h.slots (kids_from (suc (b.born + 1)) ks)
    (b.notes ++ begun_notes (born_from (b.born + 1) (t ∷ ks))) h.star_is
    ∙ (λ i. record b { born = born i; notes = notes i })
  where
    os : List (ℕ × TypeId)
    os = born_from (b.born + 1) (t ∷ ks)

    born : b.born + 1 + length ks ≡ b.born + length (born_from (b.born + 1) (t ∷ ks))
    born = omega (arith, born-length (suc (b.born + 1)) ks)

    notes : b.notes ++ begun_notes (born_from (b.born + 1) (t ∷ ks)) ++ flat_map final_notes (kids_from (suc (b.born + 1)) ks)
        ++ final_notes (fresh (b.born + 1) t)
        ≡ b.notes ++ begun_notes (born_from (b.born + 1) (t ∷ ks)) ++ [] ++ ended_notes (born_from (suc (b.born + 1)) ks ++ (b.born + 1, t) ∷ [])
    notes =
        append_assoc (b.notes ++ begun_notes (born_from (b.born + 1) (t ∷ ks))) (flat_map final_notes (kids_from (suc (b.born + 1)) ks)) (ending (b.born + 1) t)
        ∙ ap (λ (ns : List Note). (b.notes ++ begun_notes (born_from (b.born + 1) (t ∷ ks))) ++ (ns ++ ending (b.born + 1) t))
        (kids-ended (suc (b.born + 1)) ks)
        ∙ ap₂ (λ (xs ys : List Note). xs ++ ys) (sym (append-nil (b.notes ++ begun_notes (born_from (b.born + 1) (t ∷ ks)))))
        (sym (ended-push (born_from (suc (b.born + 1)) ks) (b.born + 1) t))

pub add-suc : (k : ℕ) → k + 1 ≡ suc k
add-suc k = omega arith

-- all properties: an attempt that was refused
pub drafted-ends : (b : Board) (t : TypeId) (m stage : ℕ) (c : Board) → AllByRecursion (LowRecord (b.born + 1)) b.records
    → AllByRecursion (λ p. p < b.born + 1) b.pins → (stage == 8) ≡ false → IsDraft b (b.born + 1) t (kinds_in (slots_of t)) c
    → finalize c (b.born + 1) ≡ plug_attempt b t m stage
drafted-ends b t m stage c low pins early h =
    draft-ends b t (kinds_in (slots_of t)) c low pins h
    ∙ ap (λ (k : ℕ). with_ended b (born_from k (types_in t)) [] (device_last (born_from k (types_in t)))) (add-suc b.born)
    ∙ rw (plug_attempt, early) refl

-- a first part of the properties: an attempt that was cut
kinds-append : (ps qs : List Property) → kinds_in (ps ++ qs) ≡ kinds_in ps ++ kinds_in qs
kinds-append [] qs = refl
kinds-append (p ∷ ps) qs = go (further_in p) refl (kinds-append ps qs)
  where
    go : (o : Option (List ℕ × TypeId)) → further_in p ≡ o → kinds_in (ps ++ qs) ≡ kinds_in ps ++ kinds_in qs
        → kinds_in (p ∷ ps ++ qs) ≡ kinds_in (p ∷ ps) ++ kinds_in qs
    go None e rest = rw e rest
    go (Some f) e rest = rw e (ap (λ (ts : List TypeId). f.1 ∷ ts) rest)

take-born : (m : ℕ) (ks js : List TypeId) → take (length ks) (born_from m (ks ++ js)) ≡ born_from m ks
take-born m [] js = refl
take-born m (k ∷ ks) js = ap (λ (os : List (ℕ × TypeId)). (m, k) ∷ os) (take-born (suc m) ks js)

pub drafted-cut : (b : Board) (t : TypeId) (ps qs : List Property) (c : Board) → slots_of t ≡ ps ++ qs → AllByRecursion (LowRecord (b.born + 1)) b.records
    → AllByRecursion (λ p. p < b.born + 1) b.pins → IsDraft b (b.born + 1) t (kinds_in ps) c
    → finalize c (b.born + 1) ≡ cut_attempt b t (suc (length (kinds_in ps))) true
drafted-cut b t ps qs c split low pins h =
    draft-ends b t (kinds_in ps) c low pins h ∙ ap (λ (os : List (ℕ × TypeId)). with_ended b os [] (device_last os)) objects
  where
    objects : born_from (b.born + 1) (t ∷ kinds_in ps) ≡ take (suc (length (kinds_in ps))) (born_from (suc b.born) (types_in t))
    objects =
        sym (take-born (b.born + 1) (t ∷ kinds_in ps) (kinds_in qs))
        ∙ ap (λ (k : ℕ). take (suc (length (kinds_in ps))) (born_from k (t ∷ kinds_in ps ++ kinds_in qs))) (add-suc b.born)
        ∙ ap (λ (ts : List TypeId). take (suc (length (kinds_in ps))) (born_from (suc b.born) (t ∷ ts))) (sym (kinds-append ps qs) ∙ ap kinds_in (sym split))

-- nothing refers to a draft that is not joined
pub draft-free : (b : Board) (t : TypeId) (ks : List TypeId) (c : Board) → AllByRecursion (LowRecord (b.born + 1)) b.records
    → AllByRecursion (λ p. p < b.born + 1) b.pins → IsDraft b (b.born + 1) t ks c → refs c (b.born + 1) ≡ 0
draft-free b t ks c low pins h = ap (λ (x : Board). refs x (b.born + 1)) h.shape ∙ none
  where
    n : ℕ
    n = b.born + 1

    d : Record
    d = record (fresh (b.born + 1) t) { slots = h.slots }

    kids : List Record
    kids = kids_from (suc (b.born + 1)) ks

    own : refs_in (b.born + 1) d ≡ 0
    own = star-unheld (b.born + 1) (b.born + 1) (b.born + 1) h.slots kids (omega arith) h.star_is

    none : refs (with_star b (b.born + 1) t h.slots ks) (b.born + 1) ≡ 0
    none =
        omega (
          arith,
          own,
          records-unheld (b.born + 1) (b.born + 1) (omega arith) b.records low,
          kids-unheld (b.born + 1) (b.born + 1) (omega arith) (b.born + 1) kids (star-kids (b.born + 1) (b.born + 1) h.slots kids h.star_is),
          pins-apart (b.born + 1) (b.born + 1) (omega arith) b.pins pins,
          sum_by-append (refs_in (b.born + 1)) b.records (d ∷ kids),
          sum_by-cons (refs_in (b.born + 1)) d kids,
        )

-- a further object that was made and not joined has ended, and then the device does with those that were joined
pub unjoined-ends : (b : Board) (t : TypeId) (ks : List TypeId) (k : TypeId) (c : Board) → AllByRecursion (LowRecord (b.born + 1)) b.records
    → AllByRecursion (λ p. p < b.born + 1) b.pins → IsDraft b (b.born + 1) t ks c
    → finalize (record c { born = c.born + 1; notes = c.notes ++ init_notes (c.born + 1) k ++ ending (c.born + 1) k }) (b.born + 1)
    ≡ with_ended b (born_from (b.born + 1) (t ∷ ks ++ k ∷ [])) [] ((b.born + 1 + length ks + 1, k) ∷ device_last (born_from (b.born + 1) (t ∷ ks)))
unjoined-ends b t ks k c low pins h =
    ap (λ (x : Board). finalize (record x { born = x.born + 1; notes = x.notes ++ init_notes (x.born + 1) k ++ ending (x.born + 1) k }) (b.born + 1)) h.shape
    ∙ attempt-ends (record b { born = j }) (fresh (b.born + 1) t) low pins refl h.slots (kids_from (suc (b.born + 1)) ks)
    (front ++ init_notes j k ++ ending j k) h.star_is
    ∙ (λ i. record b { born = born i; notes = notes i })
  where
    j : ℕ
    j = b.born + 1 + length ks + 1

    front : List Note
    front = b.notes ++ begun_notes (born_from (b.born + 1) (t ∷ ks))

    born : b.born + 1 + length ks + 1 ≡ b.born + length (born_from (b.born + 1) (t ∷ ks ++ k ∷ []))
    born = omega (arith, born-length (suc (b.born + 1)) (ks ++ k ∷ []), length-push ks k)

    begun : List Note
    begun = b.notes ++ begun_notes (born_from (b.born + 1) (t ∷ ks ++ k ∷ []))

    all_begun : (b.notes ++ begun_notes (born_from (b.born + 1) (t ∷ ks))) ++ init_notes (b.born + 1 + length ks + 1) k
        ≡ b.notes ++ begun_notes (born_from (b.born + 1) (t ∷ ks ++ k ∷ []))
    all_begun =
        append_assoc b.notes (begun_notes (born_from (b.born + 1) (t ∷ ks))) (init_notes (b.born + 1 + length ks + 1) k)
        ∙ ap (λ (ns : List Note). b.notes ++ ns) (sym (begun-push (born_from (b.born + 1) (t ∷ ks)) (b.born + 1 + length ks + 1) k))
        ∙ ap (λ (os : List (ℕ × TypeId)). b.notes ++ begun_notes ((b.born + 1, t) ∷ os))
        (sym (born-push (suc (b.born + 1)) (b.born + 1 + length ks + 1) ks k (omega arith)))

    notes : (b.notes ++ begun_notes (born_from (b.born + 1) (t ∷ ks))) ++ init_notes (b.born + 1 + length ks + 1) k ++ ending (b.born + 1 + length ks + 1) k
        ++ flat_map final_notes (kids_from (suc (b.born + 1)) ks) ++ ending (b.born + 1) t ≡ b.notes ++ begun_notes (born_from (b.born + 1) (t ∷ ks ++ k ∷ []))
        ++ [] ++ ended_notes ((b.born + 1 + length ks + 1, k) ∷ born_from (suc (b.born + 1)) ks ++ (b.born + 1, t) ∷ [])
    notes =
        ap₂ (λ (xs ys : List Note). (xs ++ ending (b.born + 1 + length ks + 1) k ++ ys) ++ ending (b.born + 1) t) all_begun (kids-ended (suc (b.born + 1)) ks)
        ∙ ap (λ (ns : List Note). ns ++ ending (b.born + 1) t)
        (append_assoc begun (ending (b.born + 1 + length ks + 1) k) (ended_notes (born_from (suc (b.born + 1)) ks)))
        ∙ append_assoc begun (ending (b.born + 1 + length ks + 1) k ++ ended_notes (born_from (suc (b.born + 1)) ks)) (ending (b.born + 1) t)
        ∙ ap (λ (ns : List Note). begun ++ ns)
        (append_assoc (ending (b.born + 1 + length ks + 1) k) (ended_notes (born_from (suc (b.born + 1)) ks)) (ending (b.born + 1) t)
        ∙ ap (λ (ns : List Note). ending (b.born + 1 + length ks + 1) k ++ ns) (sym (ended-push (born_from (suc (b.born + 1)) ks) (b.born + 1) t)))
        ∙ ap (λ (ns : List Note). ns ++ ended_notes ((b.born + 1 + length ks + 1, k) ∷ born_from (suc (b.born + 1)) ks ++ (b.born + 1, t) ∷ []))
        (sym (append-nil begun))

drop-born : (m j : ℕ) (ks : List TypeId) (k : TypeId) → j ≡ m + length ks → drop (length ks) (born_from m (ks ++ k ∷ [])) ≡ (j, k) ∷ []
drop-born m j [] k e = let same : m ≡ j = omega (arith, e) in ap (λ (i : ℕ). (i, k) ∷ []) same
drop-born m j (x ∷ ks) k e = drop-born (suc m) j ks k (omega (arith, e))

-- an attempt that was cut where a further object was made and not joined
pub unjoined-cut : (b : Board) (t : TypeId) (ps : List Property) (p : Property) (k : TypeId) (qs : List Property) → slots_of t ≡ ps ++ p ∷ qs
    → p.role ≡ row.Child k → with_ended b (born_from (b.born + 1) (t ∷ kinds_in ps ++ k ∷ [])) []
    ((b.born + 1 + length (kinds_in ps) + 1, k) ∷ device_last (born_from (b.born + 1) (t ∷ kinds_in ps)))
    ≡ cut_attempt b t (suc (suc (length (kinds_in ps)))) false
unjoined-cut b t ps p k qs split is = ap₂ (λ (os es : List (ℕ × TypeId)). with_ended b os [] es) objects order
  where
    ks : List TypeId
    ks = kinds_in ps

    kid : kinds_in (p ∷ qs) ≡ k ∷ kinds_in qs
    kid = rw (further_in, is) refl

    all_kinds : kinds_in (slots_of t) ≡ (kinds_in ps ++ k ∷ []) ++ kinds_in qs
    all_kinds = ap kinds_in split ∙ kinds-append ps (p ∷ qs) ∙ ap (λ (ts : List TypeId). kinds_in ps ++ ts) kid
        ∙ sym (append_assoc (kinds_in ps) (k ∷ []) (kinds_in qs))

    size : length (kinds_in ps ++ k ∷ []) ≡ suc (length (kinds_in ps))
    size = omega (arith, length-push (kinds_in ps) k)

    taken : take (suc (suc (length (kinds_in ps)))) (born_from (suc b.born) (types_in t)) ≡ born_from (b.born + 1) (t ∷ kinds_in ps ++ k ∷ [])
    taken =
        ap (λ (ts : List TypeId). take (suc (suc (length (kinds_in ps)))) (born_from (suc b.born) (t ∷ ts))) all_kinds
        ∙ ap (λ (i : ℕ). take (suc i) (born_from (suc b.born) (t ∷ (kinds_in ps ++ k ∷ []) ++ kinds_in qs))) (sym size)
        ∙ take-born (suc b.born) (t ∷ kinds_in ps ++ k ∷ []) (kinds_in qs)
        ∙ ap (λ (i : ℕ). born_from i (t ∷ kinds_in ps ++ k ∷ [])) (sym (add-suc b.born))

    objects : born_from (b.born + 1) (t ∷ kinds_in ps ++ k ∷ []) ≡ take (suc (suc (length (kinds_in ps)))) (born_from (suc b.born) (types_in t))
    objects = sym taken

    order : (b.born + 1 + length (kinds_in ps) + 1, k) ∷ device_last (born_from (b.born + 1) (t ∷ kinds_in ps))
        ≡ cut_order false (suc (suc (length (kinds_in ps)))) (take (suc (suc (length (kinds_in ps)))) (born_from (suc b.born) (types_in t)))
    order =
        ap₂ (λ (xs ys : List (ℕ × TypeId)). xs ++ device_last ys)
        (sym (drop-born (b.born + 1) (b.born + 1 + length (kinds_in ps) + 1) (t ∷ kinds_in ps) k (omega arith)))
        (sym (take-born (b.born + 1) (t ∷ kinds_in ps) (k ∷ [])))
        ∙ ap (cut_order false (suc (suc (length (kinds_in ps))))) objects
