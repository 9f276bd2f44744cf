-- What is so of every object stays so with each change; for the lists of objects that callers keep.
use Rattle.std.proofs.Common.{◌≡◌, ℕ, zero, suc, false, ◌||◌, List, [], ◌∷◌, remove, refl, ap}
use Rattle.std.specs.List.{AllByRecursion, IsDistinct, list_any}
use Rattle.std.specs.Str.{bytes_eq}
use Rattle.qo_object.specs.declared.slots.Slot.{Slot}
use Rattle.qo_object.specs.declared.slots.Slot.TheVariants.{Plain, Child, Link, Alias}
use Rattle.qo_object.specs.Slots.{Named, names_of, has_name, changed_at, let_go_at, each_changed}

-- a change of what stands in slots leaves their names
pub names-changed : (change : Slot → Slot) (i : ℕ) (slots : List Named) → names_of (changed_at change i slots) ≡ names_of slots
names-changed change i [] = refl
names-changed change zero (s ∷ slots) = refl
names-changed change (suc i) (s ∷ slots) = ap (λ ns. s.0 ∷ ns) (names-changed change i slots)

pub names-each : (change : Slot → Slot) (slots : List Named) → names_of (each_changed change slots) ≡ names_of slots
names-each change [] = refl
names-each change (s ∷ slots) = ap (λ ns. s.0 ∷ ns) (names-each change slots)

-- what is so of all names is so of those that are left
module _ (P : List ℕ → Type 0) where
  all-let_go : (i : ℕ) (slots : List Named) → AllByRecursion P (names_of slots) → AllByRecursion P (names_of (let_go_at i slots))
  all-let_go i [] all = all
  all-let_go zero ((name, Plain val) ∷ slots) all = all
  all-let_go zero ((name, Child key) ∷ slots) all = all.1
  all-let_go zero ((name, Link ty strong target) ∷ slots) all = all
  all-let_go zero ((name, Alias key property) ∷ slots) all = all
  all-let_go (suc i) (s ∷ slots) all = (all.0, all-let_go i slots all.1)

  all-removed : (i : ℕ) (slots : List Named) → AllByRecursion P (names_of slots) → AllByRecursion P (names_of (remove slots i))
  all-removed zero [] all = all
  all-removed (suc i) [] all = all
  all-removed zero (s ∷ slots) all = all.1
  all-removed (suc i) (s ∷ slots) all = (all.0, all-removed i slots all.1)

pub distinct-removed : (i : ℕ) (slots : List Named) → IsDistinct bytes_eq (names_of slots) → IsDistinct bytes_eq (names_of (remove slots i))
unfolding IsDistinct
distinct-removed zero [] distinct = distinct
distinct-removed (suc i) [] distinct = distinct
distinct-removed zero (s ∷ slots) distinct = distinct.1
distinct-removed (suc i) (s ∷ slots) distinct = (all-removed (λ name. bytes_eq s.0 name ≡ false) i slots distinct.0, distinct-removed i slots distinct.1)

-- a name is there where it is among the names
pub any-name : (name : List ℕ) (slots : List Named) → list_any (bytes_eq name) (names_of slots) ≡ has_name name slots
any-name name [] = refl
any-name name (s ∷ slots) = ap (λ b. bytes_eq name s.0 || b) (any-name name slots)

-- each change
