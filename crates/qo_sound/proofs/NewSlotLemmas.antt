-- The slots of a new object: no child slot and no alias, names that differ, and links to what is there.
use Rattle.std.proofs.Common.{◌≡◌, refl, rules, ap, sym, subst, ℕ, true, false, List, [], ◌∷◌, map, filter_map, find, Option, Some, None, option_map, Result, Ok, Err}
use Rattle.qo_model.proofs.Common.{AllByRecursion, IsDistinct, bytes_eq, Code, TypeId, Val, Board, Slot, plain, strong, weak, kind_of, Given, given_slots, given_to, slot_given, target_given, first_slot, first_value, fresh_slots, child_of, link_target, slots_of, types, property_name, PassesTo}
use Rattle.qo_model.specs.declared.properties.Property.{Property}
use Rattle.qo_model.specs.declared.properties.PropertyRole.{PropertyRole}
use Rattle.std.proofs.lemmas.Option.{same_Some}
use Rattle.qo_values.specs.declared.properties.Val.TheVariants as val
use Rattle.qo_model.specs.declared.properties.PropertyRole.TheVariants as row
use Rattle.qo_sound.proofs.RecordLemmas.{all-map}
use Rattle.qo_values.proofs.ListLemmas.{all-imply}
use Rattle.qo_values.proofs.EachLemmas.{each}
use Rattle.qo_sound.proofs.SlotLemmas.{names_in}
use Rattle.qo_sound.proofs.FirmBoardLemmas.{FitsKind, Linked}
use Rattle.qo_sound.proofs.TargetLemmas.{FitsResult, target-fits}

-- a slot as it begins: a value, or a link without target
data IsFresh : Slot → Type 0 where
  a_value : (v : Val) → IsFresh (plain v)
  holding : (t : TypeId) → IsFresh (strong t None)
  seeing : (t : TypeId) → IsFresh (weak t None)

first-fresh : (t : TypeId) (name : List ℕ) (kind : PropertyRole) (s : Slot) → first_slot (λ _. None) t name kind ≡ Some s → IsFresh s
first-fresh t name (row.Plain type first) s e = subst IsFresh (same_Some (plain (first_value t first)) s e) (a_value (first_value t first))
first-fresh t name (row.Link target true) s e = subst IsFresh (same_Some (strong target None) s e) (holding target)
first-fresh t name (row.Link target false) s e = subst IsFresh (same_Some (weak target None) s e) (seeing target)
first-fresh t name (row.Child type) s e = absurd (let clash : None ≡ Some s = e in cc)
first-fresh t name (row.Alias owner property) s e = absurd (let clash : None ≡ Some s = e in cc)

-- the slots of properties
abbrev pub slots_for : TypeId → List Property → List (List ℕ × Slot)
slots_for t props =
    filter_map (λ (p : Property). option_map (λ (s : Slot). (property_name p.name, s)) (first_slot (λ _. None) t (property_name p.name) p.role)) props

all-fresh : (t : TypeId) (props : List Property) → AllByRecursion (λ (s : List ℕ × Slot). IsFresh s.1) (slots_for t props)
all-fresh t [] = tt
all-fresh t (p ∷ props) = go (first_slot (λ _. None) t (property_name p.name) p.role) refl (all-fresh t props)
  where
    go : (o : Option Slot) → first_slot (λ _. None) t (property_name p.name) p.role ≡ o
        → AllByRecursion (λ (s : List ℕ × Slot). IsFresh s.1) (slots_for t props)
        → AllByRecursion (λ (s : List ℕ × Slot). IsFresh s.1) (slots_for t (p ∷ props))
    go None q rest = rw q rest
    go (Some s) q rest = rw q (first-fresh t (property_name p.name) p.role s q, rest)

-- a slot that names no child, is no alias, and names only what is there
pub record IsLone (b : Board) (s : Slot) : Type 0 where
  pub no_child : child_of s ≡ None
  pub no_alias : (ns : List ℕ) → PassesTo ns s
  pub linked : Linked (kind_of b) s

fresh-lone : (b : Board) (s : Slot) → IsFresh s → IsLone b s
fresh-lone b s (a_value v) = record { no_child = refl; no_alias = λ ns. tt; linked = tt }
fresh-lone b s (holding t) = record { no_child = refl; no_alias = λ ns. tt; linked = tt }
fresh-lone b s (seeing t) = record { no_child = refl; no_alias = λ ns. tt; linked = tt }

pub given-fits : (b : Board) (t : TypeId) (target : Result (Option ℕ) Code) → FitsResult b t target → FitsKind (kind_of b) t (target_given target)
given-fits b t (Ok target) h = h
given-fits b t (Err code) h = tt

given-lone : (b : Board) (s : Slot) (v : Val) → IsFresh s → IsLone b (given_to b s v)
given-lone b s v (a_value old) = record { no_child = refl; no_alias = λ ns. tt; linked = tt }
given-lone b s (val.Text path) (holding t) =
    record { no_child = refl; no_alias = λ ns. tt; linked = given-fits b t (link_target b t path) (target-fits b t path) }
given-lone b s (val.Text path) (seeing t) =
    record { no_child = refl; no_alias = λ ns. tt; linked = given-fits b t (link_target b t path) (target-fits b t path) }
given-lone b s (val.Bool v) (holding t) = fresh-lone b (strong t None) (holding t)
given-lone b s (val.Int v) (holding t) = fresh-lone b (strong t None) (holding t)
given-lone b s (val.Uint v) (holding t) = fresh-lone b (strong t None) (holding t)
given-lone b s val.Nothing (holding t) = fresh-lone b (strong t None) (holding t)
given-lone b s (val.Bool v) (seeing t) = fresh-lone b (weak t None) (seeing t)
given-lone b s (val.Int v) (seeing t) = fresh-lone b (weak t None) (seeing t)
given-lone b s (val.Uint v) (seeing t) = fresh-lone b (weak t None) (seeing t)
given-lone b s val.Nothing (seeing t) = fresh-lone b (weak t None) (seeing t)

slot-lone : (b : Board) (props : List Given) (s : List ℕ × Slot) → IsFresh s.1 → IsLone b (slot_given b props s).1
slot-lone b props s fresh = go (find (λ (p : Given). bytes_eq p.0 s.0) props) refl
  where
    go : (o : Option Given) → find (λ (p : Given). bytes_eq p.0 s.0) props ≡ o → IsLone b (slot_given b props s).1
    go None p = rw (slot_given, p) (fresh-lone b s.1 fresh)
    go (Some g) p = rw (slot_given, p) (given-lone b s.1 g.1 fresh)

pub all-lone : (b : Board) (t : TypeId) (props : List Given) → AllByRecursion (λ (s : List ℕ × Slot). IsLone b s.1) (given_slots b t props)
all-lone b t props = all-map (λ (s : List ℕ × Slot). IsFresh s.1) (λ (s : List ℕ × Slot). IsLone b s.1) (slot_given b props) (slot-lone b props) (fresh_slots t)
    (all-fresh t (slots_of t))

-- without given values
pub new-lone : (b : Board) (t : TypeId) → AllByRecursion (λ (s : List ℕ × Slot). IsLone b s.1) (fresh_slots t)
new-lone b t =
    all-imply (λ (s : List ℕ × Slot). IsFresh s.1) (λ (s : List ℕ × Slot). IsLone b s.1) (λ s k. fresh-lone b s.1 k) (fresh_slots t) (all-fresh t (slots_of t))

-- the names of a type's slots differ
pub fresh-names : (t : TypeId) → IsDistinct bytes_eq (names_in (fresh_slots t))
unfolding types IsDistinct
fresh-names = each (λ (t : TypeId). IsDistinct bytes_eq (names_in (fresh_slots t))) (search rules)

pub given-names : (b : Board) (props : List Given) (slots : List (List ℕ × Slot)) → names_in (map (slot_given b props) slots) ≡ names_in slots
given-names b props [] = refl
given-names b props (s ∷ slots) = ap (λ (ns : List (List ℕ)). s.0 ∷ ns) (given-names b props slots)

pub new-names : (b : Board) (t : TypeId) (props : List Given) → IsDistinct bytes_eq (names_in (given_slots b t props))
new-names b t props = subst (IsDistinct bytes_eq) (sym (given-names b props (fresh_slots t))) (fresh-names t)
