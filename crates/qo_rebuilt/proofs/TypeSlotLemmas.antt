-- Objects whose slots under `type` have no text but the name of their type: what the changes of one object keep, and what objects begin with.
use Rattle.std.proofs.Common.{◌≡◌, refl, ap, sym, subst, ◌∙◌, rules, ℕ, zero, suc, true, List, [], ◌∷◌, find, map, slice_get, codes, Option, Some, None}
use Rattle.std.specs.Prelude.{remove}
use Rattle.std.proofs.lemmas.List.Elements.{All-contains, All-from_recursion}
use Rattle.std.proofs.lemmas.Slice.Eq.{bytes_eq-Decides}
use Rattle.qo_model.proofs.Common.{AllByRecursion, Contains, bytes_eq, type_name, E18, PropType, TypeId, Val, Board, Record, Slot, plain, child, strong, weak, alias, changed_at, fitted, pointed, with_val, Given, fresh_slots, first_value, given_to, refusal_by, refusal_of, slot_given, forgotten_in, without_hold, property_name, property_named, slots_of, types, unseen}
use Rattle.qo_values.proofs.EachLemmas.{each}
use Rattle.qo_values.specs.declared.properties.Val.TheVariants as val
use Rattle.qo_model.specs.declared.properties.First.{First}
use Rattle.qo_model.specs.declared.properties.Property.{Property}
use Rattle.qo_model.specs.declared.properties.PropertyRole.{PropertyRole}
use Rattle.qo_model.specs.declared.properties.PropertyRole.TheVariants as row
use Rattle.qo_sound.proofs.RecordLemmas.{all-map}
use Rattle.qo_sound_order.proofs.ObjectLemmas.{KeepsFact}
use Rattle.qo_sound_shapes.proofs.NewObjectLemmas.{found-given}

-- a text under `type` is the name of the type
abbrev pub IsRight : TypeId → List ℕ → Val → Type 0
IsRight t name (val.Text text) = bytes_eq name (codes "type") ≡ true → text ≡ type_name t
IsRight t name v = Unit {0}

abbrev pub HoldsRight : TypeId → List ℕ → Slot → Type 0
HoldsRight t name (plain v) = IsRight t name v
HoldsRight t name s = Unit {0}

abbrev pub SlotRight : TypeId → List ℕ × Slot → Type 0
SlotRight t s = HoldsRight t s.0 s.1

abbrev pub AllRight : TypeId → List (List ℕ × Slot) → Type 0
AllRight t slots = AllByRecursion (SlotRight t) slots

-- a value that is no text
abbrev pub NoText : Val → Type 0
NoText (val.Text text) = ⊥
NoText v = Unit {0}

pub no-text : (t : TypeId) (name : List ℕ) (v : Val) → NoText v → IsRight t name v
no-text t name (val.Bool b) h = tt
no-text t name (val.Uint n) h = tt
no-text t name (val.Int z) h = tt
no-text t name (val.Text text) h = absurd h
no-text t name val.Nothing h = tt

-- ---- slots that change

dropped-right : (t : TypeId) (i : ℕ) (slots : List (List ℕ × Slot)) → AllRight t slots → AllRight t (without_hold i slots)
dropped-right t i [] h = tt
dropped-right t (suc i) (s ∷ slots) h = (h.0, dropped-right t i slots h.1)
dropped-right t zero ((name, plain v) ∷ slots) h = h
dropped-right t zero ((name, child m) ∷ slots) h = h.1
dropped-right t zero ((name, strong to target) ∷ slots) h = h
dropped-right t zero ((name, weak to target) ∷ slots) h = h
dropped-right t zero ((name, alias m property) ∷ slots) h = h

removed-right : (t : TypeId) (i : ℕ) (slots : List (List ℕ × Slot)) → AllRight t slots → AllRight t (remove slots i)
removed-right t zero [] h = tt
removed-right t (suc i) [] h = tt
removed-right t zero (s ∷ slots) h = h.1
removed-right t (suc i) (s ∷ slots) h = (h.0, removed-right t i slots h.1)

abbrev pub KeepsRight : TypeId → (Slot → Slot) → Type 0
KeepsRight t g = (name : List ℕ) (s : Slot) → HoldsRight t name s → HoldsRight t name (g s)

pub changed-right : (t : TypeId) (g : Slot → Slot) → KeepsRight t g → (i : ℕ) (slots : List (List ℕ × Slot)) → AllRight t slots
    → AllRight t (changed_at g i slots)
changed-right t g keeps i [] h = tt
changed-right t g keeps zero (s ∷ slots) h = (keeps s.0 s.1 h.0, h.1)
changed-right t g keeps (suc i) (s ∷ slots) h = (h.0, changed-right t g keeps i slots h.1)

val-right : (t : TypeId) (v : Val) → NoText v → KeepsRight t (with_val v)
val-right t v other name (plain w) h = no-text t name v other
val-right t v other name (child m) h = h
val-right t v other name (strong to target) h = h
val-right t v other name (weak to target) h = h
val-right t v other name (alias m property) h = h

unseen-right : (t : TypeId) → KeepsRight t unseen
unseen-right t name (plain w) h = h
unseen-right t name (child m) h = h
unseen-right t name (strong to target) h = h
unseen-right t name (weak to target) h = h
unseen-right t name (alias m property) h = h

pub pointed-right : (t : TypeId) (m : ℕ) → KeepsRight t (pointed m)
pointed-right t m name (plain w) h = h
pointed-right t m name (child k) h = h
pointed-right t m name (strong to target) h = h
pointed-right t m name (weak to target) h = h
pointed-right t m name (alias k property) h = h

pub fitted-right : (t : TypeId) (b : Board) (m : ℕ) → KeepsRight t (fitted b m)
fitted-right t b m name (plain w) h = h
fitted-right t b m name (child k) h = h
fitted-right t b m name (strong to None) h = h
fitted-right t b m name (strong to (Some k)) h = h
fitted-right t b m name (weak to None) h = h
fitted-right t b m name (weak to (Some k)) h = h
fitted-right t b m name (alias k property) h = h

forgotten-right : (t : TypeId) (n : ℕ) → KeepsRight t (forgotten_in n)
forgotten-right t n name (plain w) h = h
forgotten-right t n name (child m) h = h
forgotten-right t n name (strong to target) h = h
forgotten-right t n name (weak to None) h = h
forgotten-right t n name (weak to (Some m)) h = h
forgotten-right t n name (alias m property) h = h

-- a value that is written to the slot of a name, where it is right there
pub written-right : (t : TypeId) (v : Val) (i : ℕ) (slots : List (List ℕ × Slot)) → ((s : List ℕ × Slot) → slice_get slots i ≡ Some s → IsRight t s.0 v)
    → AllRight t slots → AllRight t (changed_at (with_val v) i slots)
written-right t v i [] fits h = tt
written-right t v zero ((name, s) ∷ slots) fits h = (by s h.0, h.1)
  where
    by : (s : Slot) → HoldsRight t name s → HoldsRight t name (with_val v s)
    by (plain w) k = fits (name, s) refl
    by (child m) k = tt
    by (strong to target) k = tt
    by (weak to target) k = tt
    by (alias m property) k = tt
written-right t v (suc i) (s ∷ slots) fits h = (h.0, written-right t v i slots fits h.1)

-- ---- an object of the type that is said of it

-- its slots are right, and where it is the own one, by its birth, it is of a type
pub record Right (Own : ℕ → Type 0) (t : TypeId) (r : Record) : Type 0 where
  pub slots : AllRight r.kind r.slots
  pub kind : Own r.birth → r.kind ≡ t

pub right-keeps : (Own : ℕ → Type 0) (t : TypeId) → KeepsFact NoText (Right Own t)
right-keeps Own t =
    record {
      drops = λ i r h. record { slots = dropped-right r.kind i r.slots h.slots; kind = h.kind };
      cuts = λ i r h. record { slots = removed-right r.kind i r.slots h.slots; kind = h.kind };
      sets = λ v other i r h. record { slots = changed-right r.kind (with_val v) (val-right r.kind v other) i r.slots h.slots; kind = h.kind };
      unsees = λ i r h. record { slots = changed-right r.kind unseen (unseen-right r.kind) i r.slots h.slots; kind = h.kind };
      forgets = λ n r h.
          record {
            slots =
                all-map (SlotRight r.kind) (SlotRight r.kind) (λ (s : List ℕ × Slot). (s.0, forgotten_in n s.1)) (λ s k. forgotten-right r.kind n s.0 s.1 k)
                r.slots h.slots;
            kind = h.kind;
          };
      body = λ registers r h. record { slots = h.slots; kind = h.kind };
      zero = tt;
      off = tt;
    }

-- ---- values that are given

-- `type` is given to no object
type-never : (t : TypeId) (b : Board) (v : Val) → refusal_by b (property_named t (codes "type")) v ≡ Some E18
unfolding types
type-never = each (λ (t : TypeId). (b : Board) (v : Val) → refusal_by b (property_named t (codes "type")) v ≡ Some E18) (search rules)

given-to-right : (b : Board) (t : TypeId) (name : List ℕ) (s : Slot) (v : Val) → IsRight t name v → HoldsRight t name s → HoldsRight t name (given_to b s v)
given-to-right b t name (plain old) v right h = right
given-to-right b t name (child m) v right h = h
given-to-right b t name (strong to target) (val.Text path) right h = tt
given-to-right b t name (strong to target) (val.Bool v) right h = tt
given-to-right b t name (strong to target) (val.Int v) right h = tt
given-to-right b t name (strong to target) (val.Uint v) right h = tt
given-to-right b t name (strong to target) val.Nothing right h = tt
given-to-right b t name (weak to target) (val.Text path) right h = tt
given-to-right b t name (weak to target) (val.Bool v) right h = tt
given-to-right b t name (weak to target) (val.Int v) right h = tt
given-to-right b t name (weak to target) (val.Uint v) right h = tt
given-to-right b t name (weak to target) val.Nothing right h = tt
given-to-right b t name (alias m property) v right h = h

module _ (b : Board) (t : TypeId) (props : List Given) (taken : refusal_of b t props ≡ None) where
  given-value : (name : List ℕ) (p : Given) → find (λ (x : Given). bytes_eq x.0 name) props ≡ Some p → (v : Val) → IsRight t name v
  given-value name p e (val.Bool v) = tt
  given-value name p e (val.Uint v) = tt
  given-value name p e (val.Int v) = tt
  given-value name p e val.Nothing = tt
  given-value name p e (val.Text text) =
      λ named.
      let is : name ≡ codes "type" = (bytes_eq-Decides name (codes "type")).0 named in
      let (same, none) = found-given b t name props p e taken in
      let its : p.0 ≡ codes "type" = (bytes_eq-Decides p.0 name).0 same ∙ is in
      absurd
      (let clash : Some E18 ≡ None =
      sym (type-never t b p.1) ∙ sym (ap (λ (x : List ℕ). refusal_by b (property_named t x) p.1) its) ∙ none in
      cc)

  given-slot : (s : List ℕ × Slot) → SlotRight t s → SlotRight t (slot_given b props s)
  given-slot (name, s) h = go (find (λ (p : Given). bytes_eq p.0 name) props) refl
    where
      go : (o : Option Given) → find (λ (p : Given). bytes_eq p.0 name) props ≡ o → SlotRight t (slot_given b props (name, s))
      go None e = rw (slot_given, e) h
      go (Some p) e = rw (slot_given, e) (given-to-right b t name s p.1 (given-value name p e p.1) h)

  pub given-right : (slots : List (List ℕ × Slot)) → AllRight t slots → AllRight t (map (slot_given b props) slots)
  given-right slots h = all-map (SlotRight t) (SlotRight t) (slot_given b props) given-slot slots h

-- ---- what objects begin with

pub fresh-right : (t : TypeId) → AllRight t (fresh_slots t)
unfolding types
fresh-right = each (λ (t : TypeId). AllRight t (fresh_slots t)) (search rules)

abbrev RoleRight : TypeId → Property → PropertyRole → Type 0
RoleRight t p (row.Plain type first) = IsRight t (property_name p.name) (first_value t first)
RoleRight t p role = Unit {0}

rows-right : (t : TypeId) → AllByRecursion (λ (p : Property). RoleRight t p p.role) (slots_of t)
unfolding types
rows-right = each (λ (t : TypeId). AllByRecursion (λ (p : Property). RoleRight t p p.role) (slots_of t)) (search rules)

pub first-right : (t : TypeId) (p : Property) → Contains (slots_of t) p → (type : PropType) (first : First) → p.role ≡ row.Plain type first
    → IsRight t (property_name p.name) (first_value t first)
first-right t p own type first e =
    let its : RoleRight t p p.role =
    All-contains (λ (p : Property). RoleRight t p p.role) (slots_of t) p
    (All-from_recursion (λ (p : Property). RoleRight t p p.role) (slots_of t) (rows-right t)) own in
    subst (RoleRight t p) e its
