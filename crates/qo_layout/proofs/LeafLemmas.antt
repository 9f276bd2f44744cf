-- In which slots of an object of a sound board something may be below it.
use Rattle.std.proofs.Common.{◌≡◌, refl, ap, sym, subst, ◌∙◌, rules, ℕ, zero, suc, ◌-◌, Bool, true, false, not, ◌&&◌, List, [], ◌∷◌, filter_map, length, take, codes, Option, Some, None, option_map, arith}
use Rattle.std.specs.Bool.{⊤}
use Rattle.std.specs.List.{AllByRecursion}
use Rattle.std.specs.Option.{option_map_or}
use Rattle.std.specs.Str.{bytes_eq}
use Rattle.qo_values.specs.Registers.{BridgeRegisters, DimmRegisters, Registers, TimerRegisters, UartRegisters, bare, bridge, dimm, fresh_registers, is_like, timer, uart}
use Rattle.qo_values.specs.declared.kinds.TypeId.{TypeId}
use Rattle.qo_values.specs.declared.kinds.TypeId.TheVariants.{MemDimm, SlotBridge, SlotTimer, SlotUart}
use Rattle.qo_values.proofs.EachLemmas.{each}
use Rattle.qo_model.specs.Board.{Board, Record, Slot, alias, child, plain, record_of, slots_at, strong, weak}
use Rattle.qo_model.specs.Devices.{clock_name}
use Rattle.qo_model.specs.Paths.{is_of}
use Rattle.qo_model.specs.RowNames.{property_name}
use Rattle.qo_model.specs.Types.{is_a, slots_of, types}
use Rattle.qo_model.specs.declared.properties.Property.{Property}
use Rattle.qo_model.specs.declared.properties.PropertyRole.{PropertyRole}
use Rattle.qo_model.specs.declared.properties.PropertyRole.TheVariants as row
use Rattle.qo_heap.specs.Board.{Shows}
use Rattle.qo_heap.specs.Objects.{Objects, slots_of as held_slots}
use Rattle.qo_sound_shapes.specs.SoundShape.{HasRole, HasSlots, IsFurther, IsShaped, SoundShape, further, is_child_role, may_miss, missing, next}
use Rattle.qo_sound_shapes.proofs.RowLemmas.{has-all}
use Rattle.qo_layout.specs.Numbering.{NoneBefore, below_in, first_below}
use Rattle.qo_layout.specs.Registers.{registers_at}
use Rattle.qo_layout.specs.Rows.{wiring}
use Rattle.qo_layout.specs.declared.wiring.Wiring.{Wiring}
use Rattle.qo_layout.proofs.NumberingLemmas.{slots-shown}

abbrev Slots : Type 0
Slots = List (List ℕ × Slot)

-- a child that is the clock is no bus
clock-none : (b : Board) (own : List ℕ) (m : ℕ) → not (bytes_eq own clock_name) ≡ false → below_in b false (own, child m) ≡ None
clock-none b own m e = go (is_of b (codes "bus") m) refl
  where
    go : (t : Bool) → is_of b (codes "bus") m ≡ t → below_in b false (own, child m) ≡ None
    go true p = rw (p, e) refl
    go false p = rw p refl

-- what stands in the slot of a row that is no child but the clock is no bus
slot-none : (b : Board) (kind : PropertyRole) (own name : List ℕ) (s : Slot) → (is_child_role kind && not (bytes_eq own clock_name)) ≡ false → name ≡ own
    → HasRole kind s → below_in b false (name, s) ≡ None
slot-none b kind own name (plain v) e same fits = refl
slot-none b kind own name (strong to target) e same fits = refl
slot-none b kind own name (weak to target) e same fits = refl
slot-none b kind own name (alias m property) e same fits = refl
slot-none b (row.Plain type begins) own name (child m) e same fits = absurd fits
slot-none b (row.Link to true) own name (child m) e same fits = absurd fits
slot-none b (row.Link to false) own name (child m) e same fits = absurd fits
slot-none b (row.Alias owner of) own name (child m) e same fits = absurd fits
slot-none b (row.Child type) own name (child m) e same fits =
    subst (λ (n : List ℕ). below_in b false (n, child m) ≡ None) (sym same) (clock-none b own m e)

-- none of these gives something
none-all : (g : List ℕ × Slot → Option ℕ) (n : ℕ) (xs : Slots) → AllByRecursion (λ s. g s ≡ None) xs → filter_map g (take n xs) ≡ []
none-all g zero [] h = refl
none-all g zero (x ∷ xs) h = refl
none-all g (suc n) [] h = refl
none-all g (suc n) (x ∷ xs) h = rw (h.0, none-all g n xs h.1) refl

-- Devices that are no bridges.

abbrev is_own : TypeId → Bool
is_own SlotUart = true
is_own SlotTimer = true
is_own MemDimm = true
is_own t = false

uart-own : (u : UartRegisters) (t : TypeId) → is_like (uart u) (fresh_registers t) ≡ true → is_own t ≡ true
uart-own u = each (λ (t : TypeId). is_like (uart u) (fresh_registers t) ≡ true → is_own t ≡ true) (search rules)

timer-own : (u : TimerRegisters) (t : TypeId) → is_like (timer u) (fresh_registers t) ≡ true → is_own t ≡ true
timer-own u = each (λ (t : TypeId). is_like (timer u) (fresh_registers t) ≡ true → is_own t ≡ true) (search rules)

dimm-own : (u : DimmRegisters) (t : TypeId) → is_like (dimm u) (fresh_registers t) ≡ true → is_own t ≡ true
dimm-own u = each (λ (t : TypeId). is_like (dimm u) (fresh_registers t) ≡ true → is_own t ≡ true) (search rules)

abbrev NoBuses : List Property → Type 0
NoBuses ps = AllByRecursion (λ (p : Property). may_miss p ≡ false) ps

own-no_bus : (t : TypeId) → is_own t ≡ true → is_a t (codes "bus") ≡ false
unfolding types
own-no_bus = each (λ (t : TypeId). is_own t ≡ true → is_a t (codes "bus") ≡ false) (search rules)

own-rows : (t : TypeId) → is_own t ≡ true → NoBuses (slots_of t)
unfolding types
own-rows = each (λ (t : TypeId). is_own t ≡ true → NoBuses (slots_of t)) (search rules)

own-bare : (t : TypeId) → is_own t ≡ true → (s : List ℕ × Slot) → IsFurther t s → ⊥
unfolding types
own-bare = each (λ (t : TypeId). is_own t ≡ true → (s : List ℕ × Slot) → IsFurther t s → ⊥) (search rules)

own-none : (b : Board) (t : TypeId) (n : ℕ) (slots : Slots) → is_own t ≡ true → HasSlots t (slots_of t) slots
    → filter_map (below_in b (is_a t (codes "bus"))) (take n slots) ≡ []
own-none b t n slots own h =
    rw (own-no_bus t own) (none-all (below_in b false) n slots
    (has-all (λ (p : Property). may_miss p ≡ false) (λ s. below_in b false s ≡ None) t
    (λ p s rows is. slot-none b p.role (property_name p.name) s.0 s.1 rows is.name is.fits) (λ s more. absurd (own-bare t own s more)) (slots_of t)
    (own-rows t own) h))

-- Bridges.

-- each row but the last is no child but the clock
abbrev NoBusesYet : List Property → Type 0
NoBusesYet [] = ⊤
NoBusesYet (p ∷ []) = ⊤
NoBusesYet (p ∷ q ∷ ps) = (may_miss p ≡ false) × NoBusesYet (q ∷ ps)

module _ (b : Board) (t : TypeId) (bare : (s : List ℕ × Slot) → IsFurther t s → ⊥) where
  -- nothing is below in the slots before the last
  abbrev Yet : Slots → Type 0
  Yet slots = filter_map (below_in b false) (take (length slots - 1) slots) ≡ []

  yet-none : Yet []
  yet-none = none-all (below_in b false) (length {A = List ℕ × Slot} [] - 1) [] tt

  yet-one : (s : List ℕ × Slot) → Yet (s ∷ [])
  yet-one s = refl

  yet-more : (s x : List ℕ × Slot) (xs : Slots) → below_in b false s ≡ None → Yet (x ∷ xs) → Yet (s ∷ x ∷ xs)
  yet-more s x xs none k =
      let e : length (s ∷ x ∷ xs) - 1 ≡ suc (length (x ∷ xs) - 1) = omega arith in
      rw (e, none) k

  yet-bare : (xs : Slots) → AllByRecursion (IsFurther t) xs → Yet xs
  yet-bare [] h = yet-none
  yet-bare (x ∷ xs) h = absurd (bare x h.0)

  yet-last : (s : List ℕ × Slot) (xs : Slots) → AllByRecursion (IsFurther t) xs → Yet (s ∷ xs)
  yet-last s [] h = yet-one s
  yet-last s (x ∷ xs) h = absurd (bare x h.0)

  yet-next : (s : List ℕ × Slot) (xs : Slots) → below_in b false s ≡ None → Yet xs → Yet (s ∷ xs)
  yet-next s [] none k = yet-one s
  yet-next s (x ∷ xs) none k = yet-more s x xs none k

  yet-all : (ps : List Property) → NoBusesYet ps → {slots : Slots} → HasSlots t ps slots → Yet slots
  yet-all [] rows {slots} (further all) = yet-bare slots all
  yet-all (p ∷ []) rows (next {s = s} {slots = slots} is (further all)) = yet-last s slots all
  yet-all (p ∷ []) rows {slots} (missing may (further all)) = yet-bare slots all
  yet-all (p ∷ q ∷ ps) rows (next {s = s} {slots = slots} is rest) =
      yet-next s slots (slot-none b p.role (property_name p.name) s.0 s.1 rows.0 is.name is.fits) (yet-all (q ∷ ps) rows.1 rest)
  yet-all (p ∷ q ∷ ps) rows (missing may rest) = yet-all (q ∷ ps) rows.1 rest

bridge-type : (x : BridgeRegisters) (t : TypeId) → is_like (bridge x) (fresh_registers t) ≡ true → t ≡ SlotBridge
bridge-type x = each (λ (t : TypeId). is_like (bridge x) (fresh_registers t) ≡ true → t ≡ SlotBridge) (search rules)

bridge-rows : NoBusesYet (slots_of SlotBridge)
unfolding types
bridge-rows = search rules

bridge-no_bus : is_a SlotBridge (codes "bus") ≡ false
unfolding types
bridge-no_bus = refl

bridge-none : (b : Board) (slots : Slots) → HasSlots SlotBridge (slots_of SlotBridge) slots
    → filter_map (below_in b (is_a SlotBridge (codes "bus"))) (take (length slots - 1) slots) ≡ []
bridge-none b slots h = rw bridge-no_bus (yet-all b SlotBridge (λ s more. more) (slots_of SlotBridge) bridge-rows h)

-- Any object.

shaped-none : (b : Board) (r : Record) → IsShaped r
    → filter_map (below_in b (is_a r.kind (codes "bus"))) (take (first_below (wiring r.registers) (length r.slots)) r.slots) ≡ []
shaped-none b r h = go r.registers refl
  where
    like : (x : Registers) → r.registers ≡ x → is_like x (fresh_registers r.kind) ≡ true
    like x e = sym (ap (λ (y : Registers). is_like y (fresh_registers r.kind)) e) ∙ h.registers

    none : (xs : Slots) → take 0 xs ≡ []
    none [] = refl
    none (x ∷ xs) = refl

    go : (x : Registers) → r.registers ≡ x
        → filter_map (below_in b (is_a r.kind (codes "bus"))) (take (first_below (wiring x) (length r.slots)) r.slots) ≡ []
    go (uart u) e = own-none b r.kind (length r.slots) r.slots (uart-own u r.kind (like (uart u) e)) h.slots
    go (timer u) e = own-none b r.kind (length r.slots) r.slots (timer-own u r.kind (like (timer u) e)) h.slots
    go (dimm u) e = own-none b r.kind (length r.slots) r.slots (dimm-own u r.kind (like (dimm u) e)) h.slots
    go (bridge x) e =
        let kind : r.kind ≡ SlotBridge = bridge-type x r.kind (like (bridge x) e) in
        subst (λ (t : TypeId). filter_map (below_in b (is_a t (codes "bus"))) (take (length r.slots - 1) r.slots) ≡ []) (sym kind)
        (bridge-none b r.slots (subst (λ (t : TypeId). HasSlots t (slots_of t) r.slots) kind h.slots))
    go bare e = ap (λ (xs : Slots). filter_map (below_in b (is_a r.kind (codes "bus"))) xs) (none r.slots)

none-before : (b : Board) → SoundShape b → (o : ℕ) → NoneBefore b o (first_below (wiring (registers_at b o)) (length (slots_at b o)))
none-before b shape o = go (record_of b o) refl
  where
    Before : Option Record → Type 0
    Before x =
        filter_map (below_in b (option_map_or (λ (t : TypeId). is_a t (codes "bus")) (option_map (λ (r : Record). r.kind) x) false))
        (take
        (first_below (wiring (option_map_or (λ (r : Record). r.registers) x bare)) (length (option_map_or (λ (r : Record). r.slots) x [])))
        (option_map_or (λ (r : Record). r.slots) x []))
        ≡ []

    go : (x : Option Record) → record_of b o ≡ x → NoneBefore b o (first_below (wiring (registers_at b o)) (length (slots_at b o)))
    go None e = subst Before (sym e) refl
    go (Some r) e = subst Before (sym e) (shaped-none b r (shape.shaped o r e))

pub none-first : (b : Board) (v : Objects) → Shows b v → SoundShape b → (o : ℕ) (driven : Wiring) (count first : ℕ) → driven ≡ wiring (registers_at b o)
    → count ≡ length (held_slots v o) → first ≡ first_below driven count → NoneBefore b o first
none-first b v s shape o driven count first is all e =
    let its : first ≡ first_below (wiring (registers_at b o)) (length (slots_at b o)) =
    e ∙ ap (λ (w : Wiring). first_below w count) is ∙ ap (λ (n : ℕ). first_below (wiring (registers_at b o)) n) (all ∙ sym (slots-shown b v s o)) in
    subst (NoneBefore b o) (sym its) (none-before b shape o)
