-- A device that is made has a plain slot under each name of its type's plain rows that comes first, and keeps it; so a value that is set there is read.
use Rattle.std.proofs.Common.{◌≡◌, refl, sym, subst, ℕ, zero, suc, ◌+◌, Bool, true, false, ◌==◌, List, [], ◌∷◌, ◌++◌, find, map, Option, Some, None, is_some, option_map, option_and_then}
use Rattle.qo_model.proofs.Common.{option_map_or, option_or, bytes_eq, TypeId, Val, Board, Record, Slot, plain, child, strong, weak, alias, record_of, slots_at, add, changed_at, set, with_added, with_changed, with_val, plain_in, Given, given_to, index_from, slot_given, aliased, fitted, link_named, owned, property_made, properties_made, with_given, with_new, first_value, fresh_record, edit, edited, property_name, is_named, set_named}
use Rattle.qo_model.specs.declared.properties.Property.{Property}
use Rattle.qo_model.specs.declared.properties.PropertyRole.{PropertyRole}
use Rattle.std.proofs.lemmas.List.Folds.{find-append}
use Rattle.qo_model.specs.declared.properties.PropertyRole.TheVariants as row
use Rattle.qo_model.proofs.FirstSlotLemmas.{named_in}
use Rattle.qo_model.proofs.StepLemmas.{found_at, found-edited}
use Rattle.qo_sound.proofs.TestLemmas.{decide}

abbrev pub PlainIn : List ℕ → List (List ℕ × Slot) → Type 0
PlainIn name slots = is_some (option_and_then plain_in (named_in name slots)) ≡ true

pub kept-append : (name : List ℕ) (y : List ℕ × Slot) (slots : List (List ℕ × Slot)) → PlainIn name slots → PlainIn name (slots ++ y ∷ [])
kept-append name y [] e = absurd (let clash : false ≡ true = e in cc)
kept-append name y (s ∷ slots) e = go (bytes_eq s.0 name) refl (kept-append name y slots)
  where
    go : (t : Bool) → bytes_eq s.0 name ≡ t → (PlainIn name slots → PlainIn name (slots ++ y ∷ [])) → PlainIn name ((s ∷ slots) ++ y ∷ [])
    go true p rest = rw p (rw p at e)
    go false p rest = rw p (rest (rw p at e))

-- changes that leave plain slots plain
abbrev pub LeavesPlain : (Slot → Slot) → Type 0
LeavesPlain g = (s : Slot) → is_some (plain_in s) ≡ true → is_some (plain_in (g s)) ≡ true

kept-changed : (name : List ℕ) (g : Slot → Slot) → LeavesPlain g → (i : ℕ) (slots : List (List ℕ × Slot)) → PlainIn name slots
    → PlainIn name (changed_at g i slots)
kept-changed name g leaves i [] e = e
kept-changed name g leaves zero (s ∷ slots) e = go (bytes_eq s.0 name) refl
  where
    go : (t : Bool) → bytes_eq s.0 name ≡ t → PlainIn name ((s.0, g s.1) ∷ slots)
    go true p = rw p (leaves s.1 (rw p at e))
    go false p = rw p (rw p at e)
kept-changed name g leaves (suc i) (s ∷ slots) e = go (bytes_eq s.0 name) refl (kept-changed name g leaves i slots)
  where
    go : (t : Bool) → bytes_eq s.0 name ≡ t → (PlainIn name slots → PlainIn name (changed_at g i slots)) → PlainIn name (s ∷ changed_at g i slots)
    go true p rest = rw p (rw p at e)
    go false p rest = rw p (rest (rw p at e))

given-plain : (b : Board) (props : List Given) (s : List ℕ × Slot) → is_some (plain_in s.1) ≡ true → is_some (plain_in (slot_given b props s).1) ≡ true
given-plain b props s e = go (find (λ (p : Given). bytes_eq p.0 s.0) props) refl
  where
    given : (x : Slot) (v : Val) → is_some (plain_in x) ≡ true → is_some (plain_in (given_to b x v)) ≡ true
    given (plain w) v k = refl
    given (child m) v k = absurd (let clash : false ≡ true = k in cc)
    given (strong t target) v k = absurd (let clash : false ≡ true = k in cc)
    given (weak t target) v k = absurd (let clash : false ≡ true = k in cc)
    given (alias m property) v k = absurd (let clash : false ≡ true = k in cc)

    go : (o : Option Given) → find (λ (p : Given). bytes_eq p.0 s.0) props ≡ o → is_some (plain_in (slot_given b props s).1) ≡ true
    go None p = rw (slot_given, p) e
    go (Some g) p = rw (slot_given, p) (given s.1 g.1 e)

kept-given : (name : List ℕ) (b : Board) (props : List Given) (slots : List (List ℕ × Slot)) → PlainIn name slots
    → PlainIn name (map (slot_given b props) slots)
kept-given name b props [] e = e
kept-given name b props (s ∷ slots) e = go (bytes_eq s.0 name) refl (kept-given name b props slots)
  where
    go : (t : Bool) → bytes_eq s.0 name ≡ t → (PlainIn name slots → PlainIn name (map (slot_given b props) slots))
        → PlainIn name (map (slot_given b props) (s ∷ slots))
    go true p rest = rw p (given-plain b props s (rw p at e))
    go false p rest = rw p (rest (rw p at e))

-- an edit
kept-edit : (name : List ℕ) (n m : ℕ) (change : Record → Record) → ((r : Record) → (change r).birth ≡ r.birth)
    → ((r : Record) → PlainIn name r.slots → PlainIn name (change r).slots) → (c : Board) → PlainIn name (slots_at c n)
    → PlainIn name (slots_at (edit m change c) n)
kept-edit name n m change same_birth keeps c e =
    subst (λ (o : Option Record). PlainIn name (option_map_or (λ (r : Record). r.slots) o [])) (sym (found-edited m change same_birth n c.records))
    (go (record_of c n) e)
  where
    go : (o : Option Record) → PlainIn name (option_map_or (λ (r : Record). r.slots) o [])
        → PlainIn name (option_map_or (λ (r : Record). r.slots) (option_map (edited m change) o) [])
    go None k = k
    go (Some r) k = decide (r.birth == m) {A = PlainIn name (edited m change r).slots} (λ p. rw (edited, p) (keeps r k)) (λ p. rw (edited, p) k)

pub kept-given_at : (name : List ℕ) (n : ℕ) (b : Board) (props : List Given) (c : Board) → PlainIn name (slots_at c n)
    → PlainIn name (slots_at (edit n (with_given b props) c) n)
kept-given_at name n b props c e = kept-edit name n n (with_given b props) (λ r. refl) (λ r k. kept-given name b props r.slots k) c e

val-plain : (v : Val) → LeavesPlain (with_val v)
val-plain v (plain w) e = refl
val-plain v (child m) e = e
val-plain v (strong t target) e = e
val-plain v (weak t target) e = e
val-plain v (alias m property) e = e

pub kept-set : (name : List ℕ) (n : ℕ) (own : List ℕ) (v : Val) (c : Board) → PlainIn name (slots_at c n) → PlainIn name (slots_at (set_named n own v c) n)
unfolding set
kept-set name n own v c e = go (index_from (is_named own) 0 (slots_at c n)) refl
  where
    go : (o : Option ℕ) → index_from (is_named own) 0 (slots_at c n) ≡ o → PlainIn name (slots_at (set_named n own v c) n)
    go None k = rw (set_named, k) e
    go (Some i) k =
        rw (set_named, k)
        (kept-edit name n n (with_changed (with_val v) i) (λ r. refl) (λ r h. kept-changed name (with_val v) (val-plain v) i r.slots h) c e)

fitted-plain : (b : Board) (m : ℕ) → LeavesPlain (fitted b m)
fitted-plain b m (plain w) e = e
fitted-plain b m (child k) e = absurd (let clash : false ≡ true = e in cc)
fitted-plain b m (strong t target) e = absurd (let clash : false ≡ true = e in cc)
fitted-plain b m (weak t target) e = absurd (let clash : false ≡ true = e in cc)
fitted-plain b m (alias k property) e = absurd (let clash : false ≡ true = e in cc)

pub kept-link : (name : List ℕ) (n : ℕ) (own : List ℕ) (m : ℕ) (c : Board) → PlainIn name (slots_at c n) → PlainIn name (slots_at (link_named n own m c) n)
kept-link name n own m c e = go (index_from (is_named own) 0 (slots_at c n)) refl
  where
    go : (o : Option ℕ) → index_from (is_named own) 0 (slots_at c n) ≡ o → PlainIn name (slots_at (link_named n own m c) n)
    go None k = rw (link_named, k) e
    go (Some i) k =
        rw (link_named, k)
        (kept-edit name n n (with_changed (fitted c m) i) (λ r. refl) (λ r h. kept-changed name (fitted c m) (fitted-plain c m) i r.slots h) c e)

-- a fact of the slots of an object that stays with a slot more after them
module _ (P : List (List ℕ × Slot) → Type 0) (never : P [] → ⊥)
    (more : (y : List ℕ × Slot) (slots : List (List ℕ × Slot)) → P slots → P (slots ++ y ∷ [])) where
  stay-edit : (n m : ℕ) (change : Record → Record) → ((r : Record) → (change r).birth ≡ r.birth) → ((r : Record) → P r.slots → P (change r).slots) → (c : Board)
      → P (slots_at c n) → P (slots_at (edit m change c) n)
  stay-edit n m change same_birth keeps c e =
      subst (λ (o : Option Record). P (option_map_or (λ (r : Record). r.slots) o [])) (sym (found-edited m change same_birth n c.records))
      (go (record_of c n) e)
    where
      go : (o : Option Record) → P (option_map_or (λ (r : Record). r.slots) o [])
          → P (option_map_or (λ (r : Record). r.slots) (option_map (edited m change) o) [])
      go None k = k
      go (Some r) k = decide (r.birth == m) {A = P (edited m change r).slots} (λ p. rw (edited, p) (keeps r k)) (λ p. rw (edited, p) k)

  pub stay-add : (n m : ℕ) (own : List ℕ) (s : Slot) (c : Board) → P (slots_at c n) → P (slots_at (add m own s c) n)
  unfolding add
  stay-add n m own s c e = stay-edit n m (with_added own s) (λ r. refl) (λ r k. more (own, s) r.slots k) c e

  stay-new : (n : ℕ) (r : Record) (c : Board) → P (slots_at c n) → P (slots_at (with_new r c) n)
  stay-new n r c e =
      subst (λ (o : Option Record). P (option_map_or (λ (y : Record). y.slots) o []))
      (sym (find-append (λ (y : Record). y.birth == n) c.records (r ∷ []))) (go (record_of c n) e)
    where
      go : (o : Option Record) → P (option_map_or (λ (y : Record). y.slots) o [])
          → P (option_map_or (λ (y : Record). y.slots) (option_or o (found_at n (r ∷ []))) [])
      go None k = absurd (never k)
      go (Some y) k = k

  stay-row : (n : ℕ) (t : TypeId) (own : List ℕ) (kind : PropertyRole) (c : Board) → P (slots_at c n) → P (slots_at (property_made n t own kind c) n)
  stay-row n t own (row.Plain type first) c e = stay-add n n own (plain (first_value t first)) c e
  stay-row n t own (row.Link target true) c e = stay-add n n own (strong target None) c e
  stay-row n t own (row.Link target false) c e = stay-add n n own (weak target None) c e
  stay-row n t own (row.Child type) c e =
      stay-add n n own (child (c.born + 1)) (with_new (fresh_record (c.born + 1) type) c) (stay-new n (fresh_record (c.born + 1) type) c e)
  stay-row n t own (row.Alias owner property) c e = go (owned c n (property_name owner))
    where
      go : (o : Option ℕ) → P (slots_at (aliased n own (property_name property) o c) n)
      go None = e
      go (Some m) = stay-add n n own (alias m (property_name property)) c e

  pub stay-rows : (n : ℕ) (t : TypeId) (ps : List Property) (c : Board) → P (slots_at c n) → P (slots_at (properties_made n t ps c) n)
  stay-rows n t [] c e = e
  stay-rows n t (p ∷ ps) c e = stay-rows n t ps (property_made n t (property_name p.name) p.role c) (stay-row n t (property_name p.name) p.role c e)

  pub stay-given : (n : ℕ) (b : Board) (props : List Given) → ((slots : List (List ℕ × Slot)) → P slots → P (map (slot_given b props) slots)) → (c : Board)
      → P (slots_at c n) → P (slots_at (edit n (with_given b props) c) n)
  stay-given n b props keeps c e = stay-edit n n (with_given b props) (λ r. refl) (λ r k. keeps r.slots k) c e
