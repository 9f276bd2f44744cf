-- A new object: what it begins as, and with values that were given, is shaped as its type says. So is the opening board.
use Rattle.std.proofs.Common.{◌≡◌, inl, inr, refl, ap, sym, subst, ◌∙◌, rules, ℕ, ◌<◌, ◌≤◌, ◌||◌, Bool, true, false, eqb, List, [], ◌∷◌, map, find, codes, Option, Some, None, option_map, arith}
use Rattle.qo_model.proofs.Common.{AllByRecursion, cons_option, bytes_eq, admits, fresh_registers, MACHINE_BIRTH, ROOT_BIRTH, SYSTEM_CLOCK_BIRTH, Code, E17, E18, E19, TypeId, Container, Machine, SlotBus, MemBus, Clock, PropType, Val, SYSTEM_PERIOD, Board, Record, Slot, plain, child, strong, weak, alias, record_of, kid_name, Given, given_to, may_add, misfit, refusal_by, refusal_of, slot_given, first_slot, first_value, fresh_record, fresh_slots, opening_board, opening_records, with_child, with_value, property_named, property_name, is_a, slots_of, types}
use Rattle.qo_model.specs.declared.properties.First.{First}
use Rattle.qo_model.specs.declared.properties.Property.{Property}
use Rattle.qo_model.specs.declared.properties.PropertyRole.{PropertyRole}
use Rattle.std.proofs.lemmas.Bool.{eqb-true}
use Rattle.std.proofs.lemmas.Option.{same_Some}
use Rattle.std.proofs.lemmas.Slice.Eq.{bytes_eq-Decides}
use Rattle.qo_values.specs.declared.properties.Val.TheVariants as val
use Rattle.qo_values.proofs.EachLemmas.{each}
use Rattle.qo_model.specs.declared.properties.First.TheVariants as first
use Rattle.qo_model.specs.declared.properties.PropertyRole.TheVariants as row
use Rattle.qo_model.proofs.GraphLemmas.{births_at}
use Rattle.qo_sound.proofs.DraftLemmas.{found-low}
use Rattle.qo_sound.proofs.SearchLemmas.{all-found}
use Rattle.qo_sound.proofs.NewSlotLemmas.{slots_for}
use Rattle.qo_sound_shapes.specs.SoundShape.{further, HasSlots, is_like, HasRole, IsChildSlot, IsFurther, IsKidLink, IsOfProperty, IsShaped, MayHold, next, SoundShape}
use Rattle.qo_sound_shapes.proofs.ChildTypeLemmas.{opening-typed}
use Rattle.qo_sound_shapes.proofs.ShapeLemmas.{further-same, Good, is_first}
use Rattle.qo_sound_shapes.proofs.RowLemmas.{has-added, has-each, IsRowOf, kid-rowless, own-rows, Slots}

-- what plain properties hold at first
abbrev pub begins_empty : First → Bool
begins_empty first.Nothing = true
begins_empty begins = false

abbrev pub first_fits : TypeId → PropertyRole → Bool
first_fits t (row.Plain type begins) = begins_empty begins || admits type (first_value t begins)
first_fits t kind = true

pub may-hold : (t : TypeId) (type : PropType) (begins : First) → (begins_empty begins || admits type (first_value t begins)) ≡ true
    → MayHold type begins (first_value t begins)
may-hold t type first.Nothing e = inl (refl, refl)
may-hold t type first.TypeName e = inr e
may-hold t type (first.Bool b) e = inr e
may-hold t type (first.Uint n) e = inr e
may-hold t type first.NoText e = inr e

abbrev pub RowsFirst : TypeId → List Property → Type 0
RowsFirst t ps = AllByRecursion (λ (p : Property). first_fits t p.role ≡ true) ps

pub rows-first : (t : TypeId) → RowsFirst t (slots_of t)
unfolding types
rows-first = each (λ (t : TypeId). RowsFirst t (slots_of t)) (search rules)

-- rows of values and links alone
abbrev pub is_own_role : PropertyRole → Bool
is_own_role (row.Plain type first) = true
is_own_role (row.Link t holds) = true
is_own_role kind = false

abbrev pub OwnRows : List Property → Type 0
OwnRows ps = AllByRecursion (λ (p : Property). is_own_role p.role ≡ true) ps

pub of-row : (p : Property) (kind : PropertyRole) (s : Slot) → p.role ≡ kind → HasRole kind s → IsOfProperty p (property_name p.name, s)
of-row p kind s e h = record { name = refl; fits = subst (λ (k : PropertyRole). HasRole k s) (sym e) h }

first-has : (t : TypeId) (ps : List Property) → RowsFirst t ps → OwnRows ps → HasSlots t ps (slots_for t ps)
first-has t [] fits own = further tt
first-has t (p ∷ ps) fits own = go p.role refl (first-has t ps fits.1 own.1)
  where
    begins : (kind : PropertyRole) → p.role ≡ kind
        → slots_for t (p ∷ ps)
        ≡ cons_option (option_map (λ (s : Slot). (property_name p.name, s)) (first_slot (λ _. None) t (property_name p.name) kind)) (slots_for t ps)
    begins kind e =
        ap
        (λ (k : PropertyRole). cons_option (option_map (λ (s : Slot). (property_name p.name, s)) (first_slot (λ _. None) t (property_name p.name) k))
        (slots_for t ps)) e

    go : (kind : PropertyRole) → p.role ≡ kind → HasSlots t ps (slots_for t ps) → HasSlots t (p ∷ ps) (slots_for t (p ∷ ps))
    go (row.Plain type first) e rest =
        let has : HasSlots t (p ∷ ps) ((property_name p.name, plain (first_value t first)) ∷ slots_for t ps) =
        next (of-row p (row.Plain type first) (plain (first_value t first)) e (may-hold t type first (rw e at fits.0))) rest in
        subst (HasSlots t (p ∷ ps)) (sym (begins (row.Plain type first) e)) has
    go (row.Link k true) e rest =
        let has : HasSlots t (p ∷ ps) ((property_name p.name, strong k None) ∷ slots_for t ps) =
        next (of-row p (row.Link k true) (strong k None) e refl) rest in
        subst (HasSlots t (p ∷ ps)) (sym (begins (row.Link k true) e)) has
    go (row.Link k false) e rest =
        let has : HasSlots t (p ∷ ps) ((property_name p.name, weak k None) ∷ slots_for t ps) =
        next (of-row p (row.Link k false) (weak k None) e refl) rest in
        subst (HasSlots t (p ∷ ps)) (sym (begins (row.Link k false) e)) has
    go (row.Child k) e rest = absurd (let clash : false ≡ true = rw e at own.0 in cc)
    go (row.Alias owner of) e rest = absurd (let clash : false ≡ true = rw e at own.0 in cc)

pub fresh-has : (t : TypeId) → OwnRows (slots_of t) → HasSlots t (slots_of t) (fresh_slots t)
fresh-has t own = first-has t (slots_of t) (rows-first t) own

-- registers at birth
pub fresh-like : (t : TypeId) → is_like (fresh_registers t) (fresh_registers t) ≡ true
fresh-like = each (λ (t : TypeId). is_like (fresh_registers t) (fresh_registers t) ≡ true) (search rules)

-- a birth after those that every machine begins with

late-absent : (n : ℕ) → 8 < n → record_of opening_board n ≡ None
unfolding opening_board
late-absent n late = go (record_of opening_board n) refl
  where
    within : AllByRecursion (λ m. m ≤ 8) (births_at opening_board.records)
    within =
        (omega arith, (omega arith, (omega arith, (omega arith, (omega arith, (omega arith, (omega arith, (omega arith, tt))))))))

    go : (o : Option Record) → record_of opening_board n ≡ o → record_of opening_board n ≡ None
    go None e = e
    go (Some r) e = let low : n ≤ 8 = found-low 8 n opening_board.records r within e in absurd (let clash : 8 < 8 = omega (arith, late, low) in omega arith)

pub late-first : (n : ℕ) → 8 < n → is_first n ≡ false
late-first n late = go (eqb n ROOT_BIRTH) refl (eqb n MACHINE_BIRTH) refl
  where
    go : (t : Bool) → eqb n ROOT_BIRTH ≡ t → (u : Bool) → eqb n MACHINE_BIRTH ≡ u → is_first n ≡ false
    go true p u q = let is : n ≡ ROOT_BIRTH = eqb-true n ROOT_BIRTH p in absurd (let clash : 8 < 1 = omega (arith, late, is) in omega arith)
    go false p true q = let is : n ≡ MACHINE_BIRTH = eqb-true n MACHINE_BIRTH q in absurd (let clash : 8 < 2 = omega (arith, late, is) in omega arith)
    go false p false q = rw (p, q) refl

pub good-new : (r : Record) → 8 < r.birth → IsShaped r → Good r
good-new r late h =
    record {
      shaped = h;
      kind = λ t e. absurd (let clash : None ≡ Some t = sym (ap (option_map (λ (y : Record). y.kind)) (late-absent r.birth late)) ∙ e in cc);
      fixed = λ e. absurd (let clash : true ≡ false = sym e ∙ late-first r.birth late in cc);
    }

-- values that are given and not refused

kid-named : (name : List ℕ) (s : Slot) → IsKidLink name s → (k : ℕ) × (name ≡ kid_name k)
kid-named name (plain v) h = absurd h
kid-named name (child m) h = absurd h
kid-named name (strong t None) h = absurd h
kid-named name (strong t (Some m)) h = (h.1.0, h.1.1.1)
kid-named name (weak t target) h = absurd h
kid-named name (alias m property) h = absurd h

module _ (b : Board) where
  given-row : (kind : PropertyRole) (s : Slot) (v : Val) → misfit b kind v ≡ None → HasRole kind s → HasRole kind (given_to b s v)
  given-row (row.Plain type first) (plain w) v e h = go (admits type v) refl
    where
      go : (t : Bool) → admits type v ≡ t → MayHold type first v
      go true p = inr p
      go false p = absurd (let clash : Some E19 ≡ None = rw p at e in cc)
  given-row (row.Plain type first) (child m) v e h = absurd h
  given-row (row.Plain type first) (strong t target) v e h = absurd h
  given-row (row.Plain type first) (weak t target) v e h = absurd h
  given-row (row.Plain type first) (alias m property) v e h = absurd h
  given-row (row.Child k) (plain w) v e h = absurd h
  given-row (row.Child k) (child m) v e h = h
  given-row (row.Child k) (strong t target) v e h = absurd h
  given-row (row.Child k) (weak t target) v e h = absurd h
  given-row (row.Child k) (alias m property) v e h = absurd h
  given-row (row.Alias owner of) (plain w) v e h = absurd h
  given-row (row.Alias owner of) (child m) v e h = absurd h
  given-row (row.Alias owner of) (strong t target) v e h = absurd h
  given-row (row.Alias owner of) (weak t target) v e h = absurd h
  given-row (row.Alias owner of) (alias m property) v e h = h
  given-row (row.Link k true) (plain w) v e h = absurd h
  given-row (row.Link k true) (child m) v e h = absurd h
  given-row (row.Link k true) (strong t target) (val.Text path) e h = h
  given-row (row.Link k true) (strong t target) (val.Bool v) e h = h
  given-row (row.Link k true) (strong t target) (val.Int v) e h = h
  given-row (row.Link k true) (strong t target) (val.Uint v) e h = h
  given-row (row.Link k true) (strong t target) val.Nothing e h = h
  given-row (row.Link k true) (weak t target) v e h = absurd h
  given-row (row.Link k true) (alias m property) v e h = absurd h
  given-row (row.Link k false) (plain w) v e h = absurd h
  given-row (row.Link k false) (child m) v e h = absurd h
  given-row (row.Link k false) (strong t target) v e h = absurd h
  given-row (row.Link k false) (weak t target) (val.Text path) e h = h
  given-row (row.Link k false) (weak t target) (val.Bool v) e h = h
  given-row (row.Link k false) (weak t target) (val.Int v) e h = h
  given-row (row.Link k false) (weak t target) (val.Uint v) e h = h
  given-row (row.Link k false) (weak t target) val.Nothing e h = h
  given-row (row.Link k false) (alias m property) v e h = absurd h

  given-kin : (s : Slot) (v : Val) → IsChildSlot s → IsChildSlot (given_to b s v)
  given-kin (plain w) v h = absurd h
  given-kin (child m) v h = h
  given-kin (strong t target) v h = absurd h
  given-kin (weak t target) v h = absurd h
  given-kin (alias m property) v h = absurd h

  -- the value that is found for a property was not refused
  pub found-given : (t : TypeId) (name : List ℕ) (props : List Given) (g : Given) → find (λ (p : Given). bytes_eq p.0 name) props ≡ Some g
      → refusal_of b t props ≡ None → (bytes_eq g.0 name ≡ true) × (refusal_by b (property_named t g.0) g.1 ≡ None)
  found-given t name [] g e none = cc
  found-given t name (p ∷ props) g e none = go (refusal_by b (property_named t p.0) p.1) refl (bytes_eq p.0 name) refl (found-given t name props g)
    where
      go : (o : Option Code) → refusal_by b (property_named t p.0) p.1 ≡ o → (u : Bool) → bytes_eq p.0 name ≡ u
          → (find (λ (x : Given). bytes_eq x.0 name) props ≡ Some g → refusal_of b t props ≡ None
          → (bytes_eq g.0 name ≡ true) × (refusal_by b (property_named t g.0) g.1 ≡ None))
          → (bytes_eq g.0 name ≡ true) × (refusal_by b (property_named t g.0) g.1 ≡ None)
      go (Some code) q u r rest = absurd (let clash : Some code ≡ None = rw (refusal_of, q) at none in cc)
      go None q true r rest =
          let is : p ≡ g = same_Some p g (rw r at e) in
          (subst (λ (x : Given). bytes_eq x.0 name ≡ true) is r, subst (λ (x : Given). refusal_by b (property_named t x.0) x.1 ≡ None) is q)
      go None q false r rest = rest (rw r at e) (rw (refusal_of, q) at none)

  pub fits-by : (p : Property) (v : Val) → refusal_by b (Some p) v ≡ None → misfit b p.role v ≡ None
  fits-by p v e = go (may_add p.access) refl
    where
      go : (t : Bool) → may_add p.access ≡ t → misfit b p.role v ≡ None
      go true q = rw q at e
      go false q = absurd (let clash : Some E18 ≡ None = rw q at e in cc)

  pub given-of_row : (t : TypeId) (props : List Given) → refusal_of b t props ≡ None → (p : Property) (s : List ℕ × Slot) → IsRowOf t p → IsOfProperty p s
      → IsOfProperty p (slot_given b props s)
  given-of_row t props none p (name, s) own is = go (find (λ (x : Given). bytes_eq x.0 name) props) refl
    where
      go : (o : Option Given) → find (λ (x : Given). bytes_eq x.0 name) props ≡ o → IsOfProperty p (slot_given b props (name, s))
      go None e = rw (slot_given, e) is
      go (Some g) e =
          let (named, taken) = found-given t name props g e none in
          let its : property_named t g.0 ≡ Some p = ap (property_named t) ((bytes_eq-Decides g.0 name).0 named ∙ is.name) ∙ own in
          rw (slot_given, e) (record { name = is.name; fits = given-row p.role s g.1 (fits-by p g.1 (rw its at taken)) is.fits })

  pub given-further : (t : TypeId) (props : List Given) → refusal_of b t props ≡ None → (s : List ℕ × Slot) → IsFurther t s
      → IsFurther t (slot_given b props s)
  given-further t props none (name, s) h = go (find (λ (x : Given). bytes_eq x.0 name) props) refl
    where
      -- what is given has a row
      no-kid : (g : Given) → find (λ (x : Given). bytes_eq x.0 name) props ≡ Some g → is_a t (codes "bus") ≡ true → (k : ℕ) × (name ≡ kid_name k) → ⊥
      no-kid g e bus (k, at) =
          let (named, taken) = found-given t name props g e none in
          let its : property_named t g.0 ≡ None = ap (property_named t) ((bytes_eq-Decides g.0 name).0 named ∙ at) ∙ kid-rowless t bus k in
          absurd (let clash : Some E17 ≡ None = sym (ap (λ (o : Option Property). refusal_by b o g.1) its) ∙ taken in cc)

      go : (o : Option Given) → find (λ (x : Given). bytes_eq x.0 name) props ≡ o → IsFurther t (slot_given b props (name, s))
      go None e = rw (slot_given, e) h
      go (Some g) e = rw (slot_given, e) (further-same t name s (given_to b s g.1) (λ bus k. absurd (no-kid g e bus (kid-named name s k))) (given-kin s g.1) h)

  pub given-has : (t : TypeId) (props : List Given) → refusal_of b t props ≡ None → {slots : Slots} → HasSlots t (slots_of t) slots
      → HasSlots t (slots_of t) (map (slot_given b props) slots)
  given-has t props none h =
      has-each (IsRowOf t) t (slot_given b props) (given-of_row t props none) (given-further t props none) (slots_of t) (own-rows t) h

-- what a command may make has rows of its own alone
pub created-own : (t : TypeId) → is_a t (codes "user-creatable") ≡ true → OwnRows (slots_of t)
unfolding types
created-own = each (λ (t : TypeId). is_a t (codes "user-creatable") ≡ true → OwnRows (slots_of t)) (search rules)

-- the opening board

shaped-fresh : (t : TypeId) → OwnRows (slots_of t) → (n : ℕ) → IsShaped (fresh_record n t)
shaped-fresh t own n = record { slots = fresh-has t own; registers = fresh-like t }

container-rows : OwnRows (slots_of Container)
unfolding types
container-rows = search rules

machine-rows : OwnRows (slots_of Machine)
unfolding types
machine-rows = search rules

bus-rows : (t : TypeId) → is_a t (codes "bus") ≡ true → OwnRows (slots_of t)
unfolding types
bus-rows = each (λ (t : TypeId). is_a t (codes "bus") ≡ true → OwnRows (slots_of t)) (search rules)

-- with a child more
contained : (name : List ℕ) (n : ℕ) (r : Record) → r.kind ≡ Container → IsShaped r → IsShaped (with_child name n r)
contained name n r e h =
    record {
      slots = has-added r.kind (name, child n) (subst (λ (t : TypeId). IsFurther t (name, child n)) (sym e) tt) (slots_of r.kind) h.slots;
      registers = h.registers;
    }

machined : (name : List ℕ) (n : ℕ) (r : Record) → r.kind ≡ Machine → IsShaped r → IsShaped (with_child name n r)
machined name n r e h =
    record {
      slots = has-added r.kind (name, child n) (subst (λ (t : TypeId). IsFurther t (name, child n)) (sym e) tt) (slots_of r.kind) h.slots;
      registers = h.registers;
    }

system-clock : HasSlots Clock (slots_of Clock) (with_value (codes "period") (val.Uint SYSTEM_PERIOD) (fresh_record SYSTEM_CLOCK_BIRTH Clock)).slots
unfolding types
system-clock =
    next (record { name = refl; fits = inr refl })
    (next (record { name = refl; fits = inr refl })
    (next (record { name = refl; fits = inr refl })
    (next (record { name = refl; fits = inr refl }) (next (record { name = refl; fits = refl }) (further tt)))))

opening-shaped : AllByRecursion IsShaped opening_records
unfolding types
opening-shaped = (
  contained (codes "objects") 8 _ refl (contained (codes "machine") 2 _ refl (shaped-fresh Container container-rows 1)),
  (
    machined (codes "mem.0") 7 _ refl
        (machined (codes "root.0") 6 _ refl
        (machined (codes "sysclk") 5 _ refl
        (machined (codes "peripheral-anon") 4 _ refl (machined (codes "peripheral") 3 _ refl (shaped-fresh Machine machine-rows 2))))),
    (
      shaped-fresh Container container-rows 3,
      (
        shaped-fresh Container container-rows 4,
        (
          record { slots = system-clock; registers = refl },
          (shaped-fresh SlotBus (bus-rows SlotBus refl) 6, (shaped-fresh MemBus (bus-rows MemBus refl) 7, (shaped-fresh Container container-rows 8, tt))),
        ),
      ),
    ),
  ),
)

pub opening-shape : SoundShape opening_board
unfolding opening_board types
opening-shape =
    record {
      shaped = λ n r e. all-found IsShaped n opening_records opening-shaped r e;
      children = opening-typed;
      whole = λ d t s k. absurd (let clash : false ≡ true = s in cc);
      opening = (refl, (refl, (refl, (refl, (refl, (refl, (refl, (refl, tt))))))));
      fixed = (refl, (refl, tt));
    }
