-- What the types say of children: a clock, or the bus of a bridge; and what containers and the machine have besides.
use Rattle.std.proofs.Common.{◌≡◌, ◌⊎◌, inl, inr, refl, ap, sym, subst, ◌∙◌, rules, ℕ, ◌<◌, Bool, true, false, not, ◌&&◌, cond, List, codes, Option, Some, None, option_and_then}
use Rattle.qo_model.proofs.Common.{AllByRecursion, bytes_eq, TypeId, Container, Machine, BUS_SLOTS, Slot, plain, child, strong, weak, alias, clock_name, kid_name, property_name, is_a, slots_of, types}
use Rattle.qo_model.specs.declared.properties.Property.{Property}
use Rattle.qo_model.specs.declared.properties.PropertyRole.{PropertyRole}
use Rattle.std.proofs.lemmas.Bool.{and_parts}
use Rattle.std.proofs.lemmas.Option.{same_Some}
use Rattle.qo_values.proofs.EachLemmas.{each}
use Rattle.qo_model.specs.declared.properties.PropertyRole.TheVariants as row
use Rattle.qo_sound.proofs.RecordLemmas.{all-both}
use Rattle.qo_sound.proofs.TestLemmas.{clash-back}
use Rattle.qo_sound_devices.specs.SoundPlaces.{child_entry, kid_entry}
use Rattle.qo_sound_shapes.specs.SoundShape.{child_type, HasRole, HasSlots, IsFurther, IsKidLink, IsOfProperty, type_of_child}
use Rattle.qo_sound_shapes.proofs.RowLemmas.{bus-kid, bus-plain, has-all, is_plain_role, IsRowOf, own-rows, plain-strong}

-- a child of a type under the name of a row is no device; as a clock it is no bus, and else it is one, of a device
abbrev is_home : TypeId → List ℕ → Option TypeId → Bool
is_home t name None = true
is_home t name (Some k) =
    not (is_a k (codes "device")) && cond (bytes_eq name clock_name) (not (is_a k (codes "bus"))) (is_a k (codes "bus") && is_a t (codes "device"))

abbrev IsHomeRow : TypeId → Property → Type 0
IsHomeRow t p = is_home t (property_name p.name) (type_of_child p.role) ≡ true

home-rows : (t : TypeId) → AllByRecursion (IsHomeRow t) (slots_of t)
unfolding types
home-rows = each (λ (t : TypeId). AllByRecursion (IsHomeRow t) (slots_of t)) (search rules)

pub record IsRowChild (t : TypeId) (name : List ℕ) : Type 0 where
  pub kind : TypeId
  pub row : child_type t name ≡ Some kind
  pub no_device : is_a kind (codes "device") ≡ false
  pub clock : bytes_eq name clock_name ≡ true → is_a kind (codes "bus") ≡ false
  pub bus : bytes_eq name clock_name ≡ false → (is_a kind (codes "bus") ≡ true) × (is_a t (codes "device") ≡ true)

not-true : (u : Bool) → not u ≡ true → u ≡ false
not-true true e = clash-back e
not-true false e = refl

row-child : (t k : TypeId) (name : List ℕ) → child_type t name ≡ Some k → is_home t name (Some k) ≡ true → IsRowChild t name
row-child t k name found e =
    let parts = and_parts (not (is_a k (codes "device"))) _ e in
    record {
      kind = k;
      row = found;
      no_device = not-true (is_a k (codes "device")) parts.0;
      clock = λ q. not-true (is_a k (codes "bus")) (rw q at parts.1);
      bus = λ q. and_parts (is_a k (codes "bus")) (is_a t (codes "device")) (rw q at parts.1);
    }

-- which types have further children
further-child : (t : TypeId) → ((t ≡ Container) ⊎ (t ≡ Machine)) ⊎ ((name : List ℕ) (m : ℕ) → IsFurther t (name, child m) → ⊥)
further-child = each (λ (t : TypeId). ((t ≡ Container) ⊎ (t ≡ Machine)) ⊎ ((name : List ℕ) (m : ℕ) → IsFurther t (name, child m) → ⊥)) (search rules)

-- each child of an object of any other type is of a row
abbrev pub IsOfRow : TypeId → List ℕ × Slot → Type 0
IsOfRow t s = (e : List ℕ × ℕ) → child_entry s ≡ Some e → IsRowChild t e.0

row-slot : (t : TypeId) (p : Property) (s : List ℕ × Slot) → IsRowOf t p → IsHomeRow t p → IsOfProperty p s → IsOfRow t s
row-slot t p (own, plain v) found home is e k = cc
row-slot t p (own, strong to target) found home is e k = cc
row-slot t p (own, weak to target) found home is e k = cc
row-slot t p (own, alias m property) found home is e k = cc
row-slot t p (own, child m) found home is e k = go p.role refl is.fits
  where
    name : own ≡ e.0
    name = ap (λ (x : List ℕ × ℕ). x.0) (same_Some (own, m) e k)

    go : (r : PropertyRole) → p.role ≡ r → HasRole r (child m) → IsRowChild t e.0
    go (row.Plain type begins) q h = absurd h
    go (row.Link to holds) q h = absurd (linkless to holds h)
      where
        linkless : (to : TypeId) (holds : Bool) → HasRole (row.Link to holds) (child m) → ⊥
        linkless to true h = h
        linkless to false h = h
    go (row.Alias owner of) q h = absurd h
    go (row.Child type) q h =
        subst (IsRowChild t) name
        (row-child t type own
        (ap (child_type t) is.name ∙ ap (λ (o : Option Property). option_and_then (λ (x : Property). type_of_child x.role) o) found ∙ ap type_of_child q)
        (ap (λ (n : List ℕ). is_home t n (Some type)) is.name ∙ ap (λ (x : PropertyRole). is_home t (property_name p.name) (type_of_child x)) (sym q) ∙ home))

pub row-children : (t : TypeId) {slots : List (List ℕ × Slot)} → HasSlots t (slots_of t) slots
    → ((t ≡ Container) ⊎ (t ≡ Machine)) ⊎ AllByRecursion (IsOfRow t) slots
row-children t {slots} h = go (further-child t)
  where
    none : ((name : List ℕ) (m : ℕ) → IsFurther t (name, child m) → ⊥) → (s : List ℕ × Slot) → IsFurther t s → IsOfRow t s
    none bare (own, plain v) f e k = cc
    none bare (own, strong to target) f e k = cc
    none bare (own, weak to target) f e k = cc
    none bare (own, alias m property) f e k = cc
    none bare (own, child m) f e k = absurd (bare own m f)

    go : ((t ≡ Container) ⊎ (t ≡ Machine)) ⊎ ((name : List ℕ) (m : ℕ) → IsFurther t (name, child m) → ⊥)
        → ((t ≡ Container) ⊎ (t ≡ Machine)) ⊎ AllByRecursion (IsOfRow t) slots
    go (inl k) = inl k
    go (inr bare) =
        inr
        (has-all (λ (p : Property). IsRowOf t p × IsHomeRow t p) (IsOfRow t) t (λ p s r is. row-slot t p s r.0 r.1 is) (none bare) (slots_of t)
        (all-both (IsRowOf t) (IsHomeRow t) (slots_of t) (own-rows t) (home-rows t)) h)

-- what a user creates is no bus and no device
pub created-apart : (t : TypeId) → is_a t (codes "user-creatable") ≡ true → (is_a t (codes "bus") ≡ false) × (is_a t (codes "device") ≡ false)
unfolding types
created-apart = each (λ (t : TypeId). is_a t (codes "user-creatable") ≡ true → (is_a t (codes "bus") ≡ false) × (is_a t (codes "device") ≡ false)) (search rules)

-- each entry of a kid of a bus has the name of a slot
abbrev pub IsKidSlot : List ℕ × Slot → Type 0
IsKidSlot s = (e : List ℕ × ℕ) → kid_entry s ≡ Some e → (k : ℕ) × ((k < BUS_SLOTS) × (s.0 ≡ kid_name k))

pub kid-slots : (t : TypeId) → is_a t (codes "bus") ≡ true → {slots : List (List ℕ × Slot)} → HasSlots t (slots_of t) slots → AllByRecursion IsKidSlot slots
kid-slots t bus h =
    has-all (λ (p : Property). is_plain_role p.role ≡ true) IsKidSlot t (λ p s plains is. of_row p.role s plains is.fits)
    (λ s f. of_kid s.0 s.1 (bus-kid t bus s f)) (slots_of t) (bus-plain t bus) h
  where
    of_row : (kind : PropertyRole) (s : List ℕ × Slot) → is_plain_role kind ≡ true → HasRole kind s.1 → IsKidSlot s
    of_row kind (own, plain v) plains is e k = cc
    of_row kind (own, child m) plains is e k = cc
    of_row kind (own, strong to target) plains is e k = absurd (plain-strong kind to target plains is)
    of_row kind (own, weak to target) plains is e k = cc
    of_row kind (own, alias m property) plains is e k = cc

    of_kid : (own : List ℕ) (s : Slot) → IsKidLink own s → IsKidSlot (own, s)
    of_kid own (plain v) f e k = cc
    of_kid own (child m) f e k = cc
    of_kid own (strong to None) f e k = cc
    of_kid own (strong to (Some m)) f e k = f.1
    of_kid own (weak to target) f e k = cc
    of_kid own (alias m property) f e k = cc
