-- Devices that stand in a container lack none of their slots: what keeps it so.
use Rattle.std.proofs.Common.{◌≡◌, refl, ap, sym, subst, ◌∙◌, ℕ, zero, suc, Bool, true, false, ◌||◌, ◌==◌, List, [], ◌∷◌, map, filter_map, slice_get, Option, Some, None, option_map}
use Rattle.qo_model.proofs.Common.{AllByRecursion, cons_option, list_any, option_map_or, bytes_eq, ANONYMOUS_BIRTH, PERIPHERAL_BIRTH, TypeId, Board, Record, Slot, plain, child, strong, weak, alias, kind_of, record_of, slots_at, changed_at, among, has_slot, child_of, edit, edited, without_hold, property_name, slots_of}
use Rattle.qo_model.specs.declared.properties.Property.{Property}
use Rattle.std.proofs.lemmas.Bool.{eqb-true}
use Rattle.std.proofs.lemmas.Option.{same_Some}
use Rattle.std.proofs.Math.Bool.{or-true}
use Rattle.qo_model.proofs.StepLemmas.{found-edited, found-birth}
use Rattle.qo_values.proofs.ListLemmas.{all-imply}
use Rattle.qo_sound.proofs.SlotLemmas.{names_in}
use Rattle.qo_sound_devices.specs.SoundPlaces.{child_entries, child_entry, listed, stands}
use Rattle.qo_sound_devices.proofs.PlacesLemmas.{or-cases}
use Rattle.qo_sound_shapes.specs.SoundShape.{HasEach}
use Rattle.qo_sound_shapes.proofs.RowLemmas.{Slots}

abbrev pub Whole : Board → Type 0
Whole b = (d : ℕ) (t : TypeId) → stands b d ≡ true → kind_of b d ≡ Some t → HasEach b d t

abbrev pub entries_in : Slots → List (List ℕ × ℕ)
entries_in slots = filter_map child_entry slots

pub any-names : (name : List ℕ) (xs : Slots) → list_any (λ (s : List ℕ × Slot). bytes_eq s.0 name) xs ≡ list_any (λ n. bytes_eq n name) (names_in xs)
any-names name [] = refl
any-names name (x ∷ xs) = ap (λ (t : Bool). bytes_eq x.0 name || t) (any-names name xs)

-- the same names, children and types
pub whole-same : (b c : Board) → ((x : ℕ) → names_in (slots_at c x) ≡ names_in (slots_at b x)) → ((x : ℕ) → child_entries c x ≡ child_entries b x)
    → ((x : ℕ) → kind_of c x ≡ kind_of b x) → Whole b → Whole c
whole-same b c names children kinds h d t s k =
    all-imply (λ (p : Property). has_slot b d (property_name p.name) ≡ true) (λ (p : Property). has_slot c d (property_name p.name) ≡ true)
    (λ p e.
    any-names (property_name p.name) (slots_at c d)
    ∙ ap (list_any (λ n. bytes_eq n (property_name p.name))) (names d)
    ∙ sym (any-names (property_name p.name) (slots_at b d))
    ∙ e) (slots_of t) (h d t (stood ∙ s) (sym (kinds d) ∙ k))
  where
    stood : stands b d ≡ stands c d
    stood =
        sym
        (ap (λ (xs : List (List ℕ × ℕ)). listed d xs || listed d (child_entries c ANONYMOUS_BIRTH)) (children PERIPHERAL_BIRTH)
        ∙ ap (λ (xs : List (List ℕ × ℕ)). listed d (child_entries b PERIPHERAL_BIRTH) || listed d xs) (children ANONYMOUS_BIRTH))

-- an edit that leaves what is read of slots
pub edit-read : {A : Type 0} (f : Slots → A) (n : ℕ) (change : Record → Record) → ((r : Record) → (change r).birth ≡ r.birth)
    → ((r : Record) → f (change r).slots ≡ f r.slots) → (c : Board) (x : ℕ) → f (slots_at (edit n change c) x) ≡ f (slots_at c x)
edit-read f n change same keeps c x =
    ap (λ (o : Option Record). f (option_map_or (λ (r : Record). r.slots) o [])) (found-edited n change same x c.records) ∙ go (record_of c x)
  where
    at_record : (r : Record) (t : Bool) → (r.birth == n) ≡ t → f (edited n change r).slots ≡ f r.slots
    at_record r true p = rw (edited, p) (keeps r)
    at_record r false p = rw (edited, p) refl

    go : (o : Option Record)
        → f (option_map_or (λ (r : Record). r.slots) (option_map (edited n change) o) []) ≡ f (option_map_or (λ (r : Record). r.slots) o [])
    go None = refl
    go (Some r) = at_record r (r.birth == n) refl

-- a slot that is changed and names the same child
pub entries-changed : (g : Slot → Slot) → ((s : List ℕ × Slot) → child_entry (s.0, g s.1) ≡ child_entry s) → (i : ℕ) (slots : Slots)
    → entries_in (changed_at g i slots) ≡ entries_in slots
entries-changed g same i [] = refl
entries-changed g same zero (s ∷ slots) = ap (λ (o : Option (List ℕ × ℕ)). cons_option o (entries_in slots)) (same s)
entries-changed g same (suc i) (s ∷ slots) = ap (cons_option (child_entry s)) (entries-changed g same i slots)

pub entries-each : (g : Slot → Slot) → ((s : List ℕ × Slot) → child_entry (s.0, g s.1) ≡ child_entry s) → (slots : Slots)
    → entries_in (map (λ (s : List ℕ × Slot). (s.0, g s.1)) slots) ≡ entries_in slots
entries-each g same [] = refl
entries-each g same (s ∷ slots) =
    ap (λ (o : Option (List ℕ × ℕ)). cons_option o (entries_in (map (λ (x : List ℕ × Slot). (x.0, g x.1)) slots))) (same s)
    ∙ ap (cons_option (child_entry s)) (entries-each g same slots)

-- a slot that is no child is let go
pub names-let_go : (i : ℕ) (slots : Slots) → ((s : List ℕ × Slot) → slice_get slots i ≡ Some s → child_of s.1 ≡ None)
    → names_in (without_hold i slots) ≡ names_in slots
names-let_go i [] none = refl
names-let_go (suc i) (s ∷ slots) none = ap (λ (ns : List (List ℕ)). s.0 ∷ ns) (names-let_go i slots none)
names-let_go zero ((name, plain v) ∷ slots) none = refl
names-let_go zero ((name, child m) ∷ slots) none = absurd (let clash : Some m ≡ None = none (name, child m) refl in cc)
names-let_go zero ((name, strong t target) ∷ slots) none = refl
names-let_go zero ((name, weak t target) ∷ slots) none = refl
names-let_go zero ((name, alias m property) ∷ slots) none = refl

pub entries-let_go : (i : ℕ) (slots : Slots) → ((s : List ℕ × Slot) → slice_get slots i ≡ Some s → child_of s.1 ≡ None)
    → entries_in (without_hold i slots) ≡ entries_in slots
entries-let_go i [] none = refl
entries-let_go (suc i) (s ∷ slots) none = ap (cons_option (child_entry s)) (entries-let_go i slots none)
entries-let_go zero ((name, plain v) ∷ slots) none = refl
entries-let_go zero ((name, child m) ∷ slots) none = absurd (let clash : Some m ≡ None = none (name, child m) refl in cc)
entries-let_go zero ((name, strong t target) ∷ slots) none = refl
entries-let_go zero ((name, weak t target) ∷ slots) none = refl
entries-let_go zero ((name, alias m property) ∷ slots) none = refl

-- of one object: a slot for each of its rows
abbrev pub HasRows : TypeId → Slots → Type 0
HasRows t slots = AllByRecursion (λ (p : Property). list_any (λ (s : List ℕ × Slot). bytes_eq s.0 (property_name p.name)) slots ≡ true) (slots_of t)

pub rows-same : (t : TypeId) (xs ys : Slots) → names_in ys ≡ names_in xs → HasRows t xs → HasRows t ys
rows-same t xs ys same h =
    all-imply (λ (p : Property). list_any (λ (s : List ℕ × Slot). bytes_eq s.0 (property_name p.name)) xs ≡ true)
    (λ (p : Property). list_any (λ (s : List ℕ × Slot). bytes_eq s.0 (property_name p.name)) ys ≡ true)
    (λ p e.
    any-names (property_name p.name) ys ∙ ap (list_any (λ n. bytes_eq n (property_name p.name))) same ∙ sym (any-names (property_name p.name) xs) ∙ e)
    (slots_of t) h

-- from a board on: what stood in a container lacks none of its slots, and the containers of devices have no other children
pub record Kept (o : Board) (r : Record) : Type 0 where
  pub each : stands o r.birth ≡ true → HasRows r.kind r.slots
  pub shelf : among (PERIPHERAL_BIRTH ∷ ANONYMOUS_BIRTH ∷ []) r.birth ≡ true → (x : ℕ) → listed x (entries_in r.slots) ≡ true → stands o x ≡ true

pub kept-slots : (o : Board) (r : Record) (slots : Slots) → names_in slots ≡ names_in r.slots → entries_in slots ≡ entries_in r.slots → Kept o r
    → Kept o (record r { slots = slots })
kept-slots o r slots names entries h =
    record {
      each = λ e. rows-same r.kind r.slots slots names (h.each e);
      shelf = λ e x l. h.shelf e x (sym (ap (listed x) entries) ∙ l);
    }

-- what is of all objects of a board, is of the board
pub whole-kept : (o c : Board) → ((x : ℕ) (r : Record) → record_of c x ≡ Some r → Kept o r) → Whole c
whole-kept o c h d t s k = at_device (record_of c d) refl
  where
    shelf : (n : ℕ) → among (PERIPHERAL_BIRTH ∷ ANONYMOUS_BIRTH ∷ []) n ≡ true → listed d (child_entries c n) ≡ true → stands o d ≡ true
    shelf n on l = go (record_of c n) refl
      where
        go : (q : Option Record) → record_of c n ≡ q → stands o d ≡ true
        go None e =
            absurd (let clash : false ≡ true = sym (ap (λ (q : Option Record). listed d
            (entries_in (option_map_or (λ (r : Record). r.slots) q []))) e) ∙ l in cc)
        go (Some r) e =
            (h n r e).shelf (ap (among (PERIPHERAL_BIRTH ∷ ANONYMOUS_BIRTH ∷ [])) (found-birth n c.records r e) ∙ on) d
            (sym (ap (λ (q : Option Record). listed d (entries_in (option_map_or (λ (r : Record). r.slots) q []))) e) ∙ l)

    stood : stands o d ≡ true
    stood =
        or-cases (listed d (child_entries c PERIPHERAL_BIRTH)) (listed d (child_entries c ANONYMOUS_BIRTH)) s (shelf PERIPHERAL_BIRTH refl)
        (shelf ANONYMOUS_BIRTH refl)

    at_device : (q : Option Record) → record_of c d ≡ q → HasEach c d t
    at_device None e = absurd (let clash : None ≡ Some t = sym (ap (option_map (λ (r : Record). r.kind)) e) ∙ k in cc)
    at_device (Some r) e =
        let kind : r.kind ≡ t = same_Some r.kind t (sym (ap (option_map (λ (y : Record). y.kind)) e) ∙ k) in
        let rows : HasRows t r.slots = subst (λ (x : TypeId). HasRows x r.slots) kind ((h d r e).each (ap (stands o) (found-birth d c.records r e) ∙ stood)) in
        subst (HasRows t) (sym (ap (λ (q : Option Record). option_map_or (λ (y : Record). y.slots) q []) e)) rows

-- and back
pub kept-of : (b : Board) → Whole b → (x : ℕ) (r : Record) → record_of b x ≡ Some r → Kept b r
kept-of b h x r e =
    record {
      each = λ s.
          subst (HasRows r.kind) (ap (λ (q : Option Record). option_map_or (λ (y : Record). y.slots) q []) e)
          (h x r.kind (sym (ap (stands b) own) ∙ s) (ap (option_map (λ (y : Record). y.kind)) e));
      shelf = λ on d l. at_shelf x r e on d l;
    }
  where
    own : r.birth ≡ x
    own = found-birth x b.records r e

    at_shelf : (x : ℕ) (r : Record) → record_of b x ≡ Some r → among (PERIPHERAL_BIRTH ∷ ANONYMOUS_BIRTH ∷ []) r.birth ≡ true → (d : ℕ)
        → listed d (entries_in r.slots) ≡ true → stands b d ≡ true
    at_shelf x r e on d l = go (r.birth == PERIPHERAL_BIRTH) refl (r.birth == ANONYMOUS_BIRTH) refl
      where
        there : (n : ℕ) → r.birth ≡ n → listed d (child_entries b n) ≡ true
        there n is =
            let at : record_of b n ≡ Some r = ap (record_of b) (sym is ∙ found-birth x b.records r e) ∙ e in
            ap (λ (q : Option Record). listed d (entries_in (option_map_or (λ (y : Record). y.slots) q []))) at ∙ l

        go : (t : Bool) → (r.birth == PERIPHERAL_BIRTH) ≡ t → (u : Bool) → (r.birth == ANONYMOUS_BIRTH) ≡ u → stands b d ≡ true
        go true p u q = rw (there PERIPHERAL_BIRTH (eqb-true r.birth PERIPHERAL_BIRTH p)) refl
        go false p true q = rw (there ANONYMOUS_BIRTH (eqb-true r.birth ANONYMOUS_BIRTH q)) (or-true (listed d (child_entries b PERIPHERAL_BIRTH)))
        go false p false q = absurd (let clash : false ≡ true = rw (p, q) at on in cc)
