-- The law: what the shape of objects says of their properties.
use Rattle.std.proofs.Common.{◌≡◌, ◌⊎◌, inl, inr, refl, ap, sym, subst, ◌∙◌, rules, ℕ, zero, suc, ◌-◌, ◌^◌, Bool, true, false, List, [], ◌∷◌, filter_map, find, slice_get, codes, Option, Some, None, option_map, option_and_then}
use Rattle.qo_model.proofs.Common.{AllByRecursion, list_any, option_map_or, bytes_eq, TypeId, Clock, BACKEND_SIZE_AT_FIRST, BACKEND_SIZE_MAX, DIMM_ALIGN, Board, Record, Slot, plain, child, strong, weak, alias, kind_of, record_of, slot_at, slot_named, slots_at, child_of, is_of, property_named, property_name, is_a, property, slots_of, types, uint64, up_to}
use Rattle.qo_model.specs.declared.properties.Access.TheVariants.{Add, Set}
use Rattle.qo_model.specs.declared.properties.Property.{Property}
use Rattle.std.proofs.lemmas.Option.{same_Some}
use Rattle.std.proofs.Math.Bool.{or-true}
use Rattle.std.proofs.lemmas.Slice.Eq.{bytes_eq-Decides}
use Rattle.qo_values.proofs.ListLemmas.{found-has}
use Rattle.qo_values.specs.declared.properties.PropType.TheVariants as ty
use Rattle.qo_values.specs.declared.properties.Val.TheVariants as val
use Rattle.qo_values.proofs.EachLemmas.{each}
use Rattle.qo_model.specs.declared.properties.First.TheVariants as first
use Rattle.qo_model.specs.declared.properties.PropertyName.TheVariants as prop
use Rattle.qo_model.specs.declared.properties.PropertyRole.TheVariants as row
use Rattle.qo_sound_devices.specs.SoundPlaces.{child_entry, stands}
use Rattle.qo_sound_shapes.specs.ShapeFacts.{HasProperty, HoldsNumber, ShapesSayLaw}
use Rattle.qo_sound_shapes.specs.SoundShape.{further, HasChildType, HasSlots, HasRole, IsFurther, IsOfProperty, may_miss, missing, next, SoundShape, type_of_child}
use Rattle.qo_sound_shapes.proofs.RowLemmas.{each-found, has-all, held-slots, IsHolding, IsRowOf, own-rows, Slots}

abbrev NoneMisses : List Property → Type 0
NoneMisses ps = AllByRecursion (λ (p : Property). may_miss p ≡ false) ps

-- no row of a type may be missing, or it has no further slots
whole-or-bare : (t : TypeId) → NoneMisses (slots_of t) ⊎ ((s : List ℕ × Slot) → IsFurther t s → ⊥)
unfolding types
whole-or-bare = each (λ (t : TypeId). NoneMisses (slots_of t) ⊎ ((s : List ℕ × Slot) → IsFurther t s → ⊥)) (search rules)

-- what is found passes, and is there
found-passes : {A : Type 0} (test : A → Bool) (xs : List A) (x : A) → find test xs ≡ Some x → (test x ≡ true) × (list_any test xs ≡ true)
found-passes test [] x e = cc
found-passes test (y ∷ xs) x e = go (test y) refl (found-passes test xs x)
  where
    go : (u : Bool) → test y ≡ u → (find test xs ≡ Some x → (test x ≡ true) × (list_any test xs ≡ true)) → (test x ≡ true) × (list_any test (y ∷ xs) ≡ true)
    go true p rest = (ap test (sym (same_Some y x (rw p at e))) ∙ p, rw p refl)
    go false p rest = let h = rest (rw p at e) in (h.0, rw (p, h.1) refl)

module _ (t : TypeId) (name : List ℕ) where
  abbrev OfName : List ℕ × Slot → Type 0
  OfName s = bytes_eq s.0 name ≡ true → (p : Property) × (IsRowOf t p × IsOfProperty p s)

  -- where there are no further slots
  bare-row : ((s : List ℕ × Slot) → IsFurther t s → ⊥) → {slots : Slots} → HasSlots t (slots_of t) slots → (s : List ℕ × Slot)
      → find (λ (x : List ℕ × Slot). bytes_eq x.0 name) slots ≡ Some s → (p : Property) × (IsRowOf t p × IsOfProperty p s)
  bare-row none {slots} h s e =
      found-has OfName (λ (x : List ℕ × Slot). bytes_eq x.0 name) slots s
      (has-all (IsRowOf t) OfName t (λ p x own is named. (p, (own, is))) (λ x k named. absurd (none x k)) (slots_of t) (own-rows t) h) e
      (found-passes (λ (x : List ℕ × Slot). bytes_eq x.0 name) slots s e).0

  -- where no row is missing: the first slot of a row's name is the row's
  first-row : (ps : List Property) → AllByRecursion (IsRowOf t) ps → NoneMisses ps → list_any (λ (p : Property). bytes_eq (property_name p.name) name) ps ≡ true
      → {slots : Slots} → HasSlots t ps slots → (s : List ℕ × Slot) → find (λ (x : List ℕ × Slot). bytes_eq x.0 name) slots ≡ Some s
      → (p : Property) × (IsRowOf t p × IsOfProperty p s)
  first-row [] rows stay among (further all) s e = cc
  first-row (p ∷ ps) rows stay among (missing may rest) s e = absurd (let clash : true ≡ false = sym may ∙ stay.0 in cc)
  first-row (p ∷ ps) rows stay among (next {s = x} {slots = slots} is rest) s e =
      go (bytes_eq x.0 name) refl (λ inside f. first-row ps rows.1 stay.1 inside rest s f)
    where
      go : (u : Bool) → bytes_eq x.0 name ≡ u
          → (list_any (λ (q : Property). bytes_eq (property_name q.name) name) ps ≡ true
          → find (λ (z : List ℕ × Slot). bytes_eq z.0 name) slots ≡ Some s → (q : Property) × (IsRowOf t q × IsOfProperty q s))
          → (q : Property) × (IsRowOf t q × IsOfProperty q s)
      go true q deeper = (p, (rows.0, subst (IsOfProperty p) (same_Some x s (rw q at e)) is))
      go false q deeper =
          let other : bytes_eq (property_name p.name) name ≡ false = ap (λ (n : List ℕ). bytes_eq n name) (sym is.name) ∙ q in
          deeper (rw other at among) (rw q at e)

  -- the row of the name
  row-slot : (p : Property) → property_named t name ≡ Some p → {slots : Slots} → HasSlots t (slots_of t) slots → (s : List ℕ × Slot)
      → find (λ (x : List ℕ × Slot). bytes_eq x.0 name) slots ≡ Some s → HasRole p.role s.1
  row-slot p row {slots} h s e = by (found (whole-or-bare t))
    where
      found : NoneMisses (slots_of t) ⊎ ((x : List ℕ × Slot) → IsFurther t x → ⊥) → (q : Property) × (IsRowOf t q × IsOfProperty q s)
      found (inr none) = bare-row none h s e
      found (inl stay) =
          first-row (slots_of t) (own-rows t) stay (found-passes (λ (q : Property). bytes_eq (property_name q.name) name) (slots_of t) p row).1 h s e

      by : (q : Property) × (IsRowOf t q × IsOfProperty q s) → HasRole p.role s.1
      by (q, (own, is)) =
          let named : s.0 ≡ name = (bytes_eq-Decides s.0 name).0 (found-passes (λ (x : List ℕ × Slot). bytes_eq x.0 name) slots s e).0 in
          let same : q ≡ p = same_Some q p (sym own ∙ ap (property_named t) (sym is.name ∙ named) ∙ row) in
          subst (λ (x : Property). HasRole x.role s.1) same is.fits

named-says : (b : Board) → SoundShape b → (n : ℕ) (name : List ℕ) (p : Property) (s : Slot) → HasProperty b n name p → slot_named b n name ≡ Some s
    → HasRole p.role s
named-says b h n name p s has e = at_record (record_of b n) refl
  where
    at_slot : (r : Record) → record_of b n ≡ Some r → (o : Option (List ℕ × Slot)) → find (λ (x : List ℕ × Slot). bytes_eq x.0 name) r.slots ≡ o
        → option_map (λ (x : List ℕ × Slot). x.1) o ≡ Some s → HasRole p.role s
    at_slot r q None f k = absurd (let clash : None ≡ Some s = k in cc)
    at_slot r q (Some x) f k =
        let kind : r.kind ≡ has.kind = same_Some r.kind has.kind (sym (ap (option_map (λ (y : Record). y.kind)) q) ∙ has.its) in
        subst (HasRole p.role) (same_Some x.1 s k)
        (row-slot r.kind name p (ap (λ (t : TypeId). property_named t name) kind ∙ has.row) (h.shaped n r q).slots x f)

    at_record : (o : Option Record) → record_of b n ≡ o → HasRole p.role s
    at_record None q = absurd (let clash : None ≡ Some has.kind = sym (ap (option_map (λ (y : Record). y.kind)) q) ∙ has.its in cc)
    at_record (Some r) q =
        at_slot r q (find (λ (x : List ℕ × Slot). bytes_eq x.0 name) r.slots) refl
        (sym (ap (λ (o : Option Record). option_map (λ (x : List ℕ × Slot). x.1)
        (find (λ (x : List ℕ × Slot). bytes_eq x.0 name) (option_map_or (λ (y : Record). y.slots) o []))) q) ∙ e)

-- of those that all have, one is found
there-found : (name : List ℕ) (xs : Slots) → list_any (λ (x : List ℕ × Slot). bytes_eq x.0 name) xs ≡ true
    → (s : List ℕ × Slot) × (find (λ (x : List ℕ × Slot). bytes_eq x.0 name) xs ≡ Some s)
there-found name [] e = absurd (let clash : false ≡ true = e in cc)
there-found name (x ∷ xs) e = go (bytes_eq x.0 name) refl (there-found name xs)
  where
    go : (u : Bool) → bytes_eq x.0 name ≡ u
        → (list_any (λ (y : List ℕ × Slot). bytes_eq y.0 name) xs ≡ true → (s : List ℕ × Slot) × (find (λ (y : List ℕ × Slot). bytes_eq y.0 name) xs ≡ Some s))
        → (s : List ℕ × Slot) × (find (λ (y : List ℕ × Slot). bytes_eq y.0 name) (x ∷ xs) ≡ Some s)
    go true p rest = (x, rw p refl)
    go false p rest = let (s, f) = rest (rw p at e) in (s, rw p f)

there-says : (b : Board) → SoundShape b → (d : ℕ) (name : List ℕ) (p : Property) → stands b d ≡ true → HasProperty b d name p
    → (s : Slot) × ((slot_named b d name ≡ Some s) × HasRole p.role s)
there-says b h d name p e has =
    let own : property_name p.name ≡ name =
    (bytes_eq-Decides (property_name p.name) name).0 (found-passes (λ (q : Property). bytes_eq (property_name q.name) name) (slots_of has.kind) p has.row).0 in
    let mine : list_any (λ (x : List ℕ × Slot). bytes_eq x.0 name) (slots_at b d) ≡ true =
    subst (λ (n : List ℕ). list_any (λ (x : List ℕ × Slot). bytes_eq x.0 n) (slots_at b d) ≡ true) own
    (each-found (λ (q : Property). list_any (λ (x : List ℕ × Slot). bytes_eq x.0 (property_name q.name)) (slots_at b d) ≡ true) name (slots_of has.kind)
    (h.whole d has.kind e has.its) p has.row) in
    let (x, f) = there-found name (slots_at b d) mine in
    let found : slot_named b d name ≡ Some x.1 = ap (option_map (λ (y : List ℕ × Slot). y.1)) f in
    (x.1, (found, named-says b h d name p x.1 has found))

-- numbers

-- a row that may not be missing has a slot
there-row : (t : TypeId) (name : List ℕ) (ps : List Property) (p : Property) → find (λ (q : Property). bytes_eq (property_name q.name) name) ps ≡ Some p
    → may_miss p ≡ false → {slots : Slots} → HasSlots t ps slots → list_any (λ (x : List ℕ × Slot). bytes_eq x.0 name) slots ≡ true
there-row t name [] p e stays h = cc
there-row t name (q ∷ ps) p e stays (next {s = s} {slots = slots} is rest) =
    go (bytes_eq (property_name q.name) name) refl (λ f. there-row t name ps p f stays rest)
  where
    go : (u : Bool) → bytes_eq (property_name q.name) name ≡ u
        → (find (λ (x : Property). bytes_eq (property_name x.name) name) ps ≡ Some p → list_any (λ (x : List ℕ × Slot). bytes_eq x.0 name) slots ≡ true)
        → list_any (λ (x : List ℕ × Slot). bytes_eq x.0 name) (s ∷ slots) ≡ true
    go true k deeper = rw (ap (λ (n : List ℕ). bytes_eq n name) is.name ∙ k) refl
    go false k deeper = rw (deeper (rw k at e)) (or-true (bytes_eq s.0 name))
there-row t name (q ∷ ps) p e stays (missing {slots = slots} may rest) =
    go (bytes_eq (property_name q.name) name) refl (λ f. there-row t name ps p f stays rest)
  where
    go : (u : Bool) → bytes_eq (property_name q.name) name ≡ u
        → (find (λ (x : Property). bytes_eq (property_name x.name) name) ps ≡ Some p → list_any (λ (x : List ℕ × Slot). bytes_eq x.0 name) slots ≡ true)
        → list_any (λ (x : List ℕ × Slot). bytes_eq x.0 name) slots ≡ true
    go true k deeper = absurd (let clash : true ≡ false = sym may ∙ ap may_miss (same_Some q p (rw k at e)) ∙ stays in cc)
    go false k deeper = deeper (rw k at e)

abbrev IsNumber : Slot → Type 0
IsNumber s = (v : ℕ) × (s ≡ plain (val.Uint v))

number-in : (lo hi step begins : ℕ) (s : Slot) → HasRole (row.Plain (ty.Uint lo hi step) (first.Uint begins)) s → IsNumber s
number-in lo hi step begins (plain v) (inl (e, is)) = absurd (let clash : first.Uint begins ≡ first.Nothing = e in cc)
number-in lo hi step begins (plain (val.Uint n)) (inr e) = (n, refl)
number-in lo hi step begins (plain val.Nothing) (inr e) = absurd (let clash : false ≡ true = e in cc)
number-in lo hi step begins (plain (val.Bool v)) (inr e) = absurd (let clash : false ≡ true = e in cc)
number-in lo hi step begins (plain (val.Int v)) (inr e) = absurd (let clash : false ≡ true = e in cc)
number-in lo hi step begins (plain (val.Text v)) (inr e) = absurd (let clash : false ≡ true = e in cc)
number-in lo hi step begins (child m) h = absurd h
number-in lo hi step begins (strong t target) h = absurd h
number-in lo hi step begins (weak t target) h = absurd h
number-in lo hi step begins (alias m property) h = absurd h

record NumberRow (t : TypeId) (name : List ℕ) : Type 0 where
  p : Property
  row : property_named t name ≡ Some p
  stays : may_miss p ≡ false
  reads : (s : Slot) → HasRole p.role s → IsNumber s

number-says : (b : Board) → SoundShape b → (n : ℕ) (t : TypeId) (name : List ℕ) → kind_of b n ≡ Some t → NumberRow t name → HoldsNumber b n name
number-says b h n t name e k = at_record (record_of b n) refl
  where
    read : (s : Slot) → slot_named b n name ≡ Some s → HoldsNumber b n name
    read s found =
        let (v, is) = k.reads s (named-says b h n name k.p s (record { kind = t; its = e; row = k.row }) found) in
        (v, found ∙ ap Some is)

    at_record : (o : Option Record) → record_of b n ≡ o → HoldsNumber b n name
    at_record None q = absurd (let clash : None ≡ Some t = sym (ap (option_map (λ (y : Record). y.kind)) q) ∙ e in cc)
    at_record (Some r) q =
        let kind : r.kind ≡ t = same_Some r.kind t (sym (ap (option_map (λ (y : Record). y.kind)) q) ∙ e) in
        let slots : HasSlots t (slots_of t) r.slots = subst (λ (x : TypeId). HasSlots x (slots_of x) r.slots) kind (h.shaped n r q).slots in
        let (x, f) = there-found name r.slots (there-row t name (slots_of t) k.p k.row k.stays slots) in
        let found : slot_named b n name ≡ Some x.1 =
        ap (λ (o : Option Record). option_map (λ (y : List ℕ × Slot). y.1)
        (find (λ (y : List ℕ × Slot). bytes_eq y.0 name) (option_map_or (λ (y : Record). y.slots) o []))) q
        ∙ ap (option_map (λ (y : List ℕ × Slot). y.1)) f in
        read x.1 found

period-row : NumberRow Clock (codes "period")
unfolding types
period-row = record { p = property prop.Period (row.Plain uint64 (first.Uint 0)) Set; row = refl; stays = refl; reads = number-in 0 (2 ^ 64 - 1) 1 0 }

mul-row : NumberRow Clock (codes "mul")
unfolding types
mul-row = record { p = property prop.Mul (row.Plain (up_to 4294967295) (first.Uint 1)) Set; row = refl; stays = refl; reads = number-in 0 4294967295 1 1 }

div-row : NumberRow Clock (codes "div")
unfolding types
div-row = record { p = property prop.Div (row.Plain (up_to 4294967295) (first.Uint 1)) Set; row = refl; stays = refl; reads = number-in 0 4294967295 1 1 }

clock-says : (b : Board) → SoundShape b → (c : ℕ) → kind_of b c ≡ Some Clock
    → AllByRecursion (HoldsNumber b c) (codes "period" ∷ codes "mul" ∷ codes "div" ∷ [])
clock-says b h c e = (
  number-says b h c Clock (codes "period") e period-row,
  (number-says b h c Clock (codes "mul") e mul-row, (number-says b h c Clock (codes "div") e div-row, tt)),
)

abbrev size : Property
size = property prop.Size (row.Plain (ty.Uint DIMM_ALIGN BACKEND_SIZE_MAX DIMM_ALIGN) (first.Uint BACKEND_SIZE_AT_FIRST)) Add

abbrev SaysSize : TypeId → Type 0
SaysSize t = is_a t (codes "memory-backend") ≡ true → property_named t (codes "size") ≡ Some size

size-row : (t : TypeId) → is_a t (codes "memory-backend") ≡ true → NumberRow t (codes "size")
unfolding types
size-row t e =
    let found = each SaysSize (search rules) t e in
    record { p = size; row = found; stays = refl; reads = number-in DIMM_ALIGN BACKEND_SIZE_MAX DIMM_ALIGN BACKEND_SIZE_AT_FIRST }

-- the type of an object that is of a name
of-name : (b : Board) (name : List ℕ) (n : ℕ) → is_of b name n ≡ true → (r : Record) × ((record_of b n ≡ Some r) × (is_a r.kind name ≡ true))
of-name b name n e = go (record_of b n) refl
  where
    go : (o : Option Record) → record_of b n ≡ o → (r : Record) × ((record_of b n ≡ Some r) × (is_a r.kind name ≡ true))
    go None q = absurd (let clash : false ≡ true = rw q at e in cc)
    go (Some r) q = (r, (q, rw q at e))

memory-says : (b : Board) → SoundShape b → (m : ℕ) → is_of b (codes "memory-backend") m ≡ true → HoldsNumber b m (codes "size")
memory-says b h m e =
    let (r, (there, is)) = of-name b (codes "memory-backend") m e in
    number-says b h m r.kind (codes "size") (ap (option_map (λ (y : Record). y.kind)) there) (size-row r.kind is)

-- links to kids

holding-at : (xs : Slots) (i : ℕ) (to : TypeId) (target : Option ℕ) → AllByRecursion IsHolding xs
    → option_map (λ (s : List ℕ × Slot). s.1) (slice_get xs i) ≡ Some (strong to target) → (d : ℕ) × (target ≡ Some d)
holding-at [] i to target h e = cc
holding-at (x ∷ xs) (suc i) to target h e = holding-at xs i to target h.1 e
holding-at ((name, s) ∷ xs) zero to None h e = absurd (subst (λ (y : Slot). IsHolding (name, y)) (same_Some s (strong to None) e) h.0)
holding-at ((name, s) ∷ xs) zero to (Some d) h e = (d, refl)

kid-says : (b : Board) → SoundShape b → (bus i : ℕ) (to : TypeId) (target : Option ℕ) → is_of b (codes "bus") bus ≡ true
    → slot_at b bus i ≡ Some (strong to target) → (d : ℕ) × (target ≡ Some d)
kid-says b h bus i to target e at =
    let (r, (there, is)) = of-name b (codes "bus") bus e in
    holding-at r.slots i to target (held-slots r.kind is (h.shaped bus r there).slots)
    (sym (ap (λ (o : Option Record). option_map (λ (s : List ℕ × Slot). s.1) (slice_get (option_map_or (λ (y : Record). y.slots) o []) i)) there) ∙ at)

-- the type of a child

entry-named : (name : List ℕ) (m : ℕ) (xs : Slots) (P : List ℕ × ℕ → Type 0) → AllByRecursion P (filter_map child_entry xs)
    → option_map (λ (s : List ℕ × Slot). s.1) (find (λ (s : List ℕ × Slot). bytes_eq s.0 name) xs) ≡ Some (child m) → P (name, m)
entry-named name m [] P h e = absurd (let clash : None ≡ Some (child m) = e in cc)
entry-named name m (x ∷ xs) P h e = go (bytes_eq x.0 name) refl (entry-named name m xs P (after x h))
  where
    here : (y : List ℕ × Slot) → bytes_eq y.0 name ≡ true → y.1 ≡ child m → AllByRecursion P (filter_map child_entry (y ∷ xs)) → P (name, m)
    here (own, plain v) p q k = absurd (let clash : plain v ≡ child m = q in cc)
    here (own, child j) p q k =
        let named : own ≡ name = (bytes_eq-Decides own name).0 p in
        let same : j ≡ m = same_Some j m (ap child_of q) in
        subst (λ (o : List ℕ). P (o, m)) named (subst (λ (i : ℕ). P (own, i)) same k.0)
    here (own, strong t target) p q k = absurd (let clash : strong t target ≡ child m = q in cc)
    here (own, weak t target) p q k = absurd (let clash : weak t target ≡ child m = q in cc)
    here (own, alias j property) p q k = absurd (let clash : alias j property ≡ child m = q in cc)

    after : (y : List ℕ × Slot) → AllByRecursion P (filter_map child_entry (y ∷ xs)) → AllByRecursion P (filter_map child_entry xs)
    after (own, plain v) k = k
    after (own, child j) k = k.1
    after (own, strong t target) k = k
    after (own, weak t target) k = k
    after (own, alias j property) k = k

    go : (u : Bool) → bytes_eq x.0 name ≡ u
        → (option_map (λ (s : List ℕ × Slot). s.1) (find (λ (s : List ℕ × Slot). bytes_eq s.0 name) xs) ≡ Some (child m) → P (name, m)) → P (name, m)
    go true p rest = here x p (same_Some x.1 (child m) (rw p at e)) h
    go false p rest = rest (rw p at e)

child-says : (b : Board) → SoundShape b → (n m : ℕ) (name : List ℕ) (p : Property) (t : TypeId) → HasProperty b n name p → p.role ≡ row.Child t
    → slot_named b n name ≡ Some (child m) → kind_of b m ≡ Some t
child-says b h n m name p t k role e =
    entry-named name m (slots_at b n) (HasChildType b k.kind) (h.children n k.kind k.its) e t
    (ap (option_and_then (λ (q : Property). type_of_child q.role)) k.row ∙ ap type_of_child role)

pub shapes_say_lem : ShapesSayLaw
shapes_say_lem = record { named = named-says; child = child-says; there = there-says; clock = clock-says; memory = memory-says; kid = kid-says }
