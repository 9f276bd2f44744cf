-- A device that stands in a container after a detachment has the children that it had, and so lacks none of its slots.
use Rattle.std.proofs.Common.{◌≡◌, ◌⊎◌, inl, inr, refl, ap, sym, subst, ◌∙◌, ℕ, Bool, true, false, not, List, [], ◌∷◌, Option, Some, None, is_some, option_map, codes}
use Rattle.qo_model.proofs.Common.{AllByRecursion, list_any, option_map_or, bytes_eq, TypeId, Board, Record, Slot, plain, child, strong, weak, alias, kind_of, record_of, clock_name, child_of, is_of, property_named, property_name, is_a, slots_of, detach}
use Rattle.qo_model.specs.declared.properties.Property.{Property}
use Rattle.qo_model.specs.declared.properties.PropertyRole.{PropertyRole}
use Rattle.std.proofs.lemmas.Bool.{and_parts}
use Rattle.std.proofs.lemmas.Option.{same_Some}
use Rattle.std.proofs.lemmas.Slice.Eq.{bytes_eq-Decides}
use Rattle.std.proofs.Math.Bool.{or-true}
use Rattle.qo_model.specs.declared.properties.PropertyRole.TheVariants as row
use Rattle.qo_sound.proofs.ViewLemmas.{rest-from_sound}
use Rattle.qo_sound_devices.specs.SoundDevices.{SoundDevices}
use Rattle.qo_sound_devices.specs.SoundPlaces.{child_entries, stands}
use Rattle.qo_sound_devices.proofs.DevicesLawLemmas.{devices_kept_lem}
use Rattle.qo_sound_devices.proofs.PlacesLemmas.{stands-live}
use Rattle.qo_sound_phases.proofs.DetachmentLemmas.{frame}
use Rattle.qo_sound_phases.proofs.FrameLemmas.{Frame}
use Rattle.qo_sound_shapes.specs.SoundShape.{further, HasEach, HasSlots, is_child_role, HasRole, IsOfProperty, may_miss, missing, next}
use Rattle.qo_sound_shapes.proofs.BoardLemmas.{AllOf}
use Rattle.qo_sound_shapes.proofs.ShapeLemmas.{Good}
use Rattle.qo_sound_shapes.proofs.DetachmentLemmas.{device-calm}
use Rattle.qo_sound_shapes.proofs.RowLemmas.{has-all, IsRowOf, own-rows, Slots}
use Rattle.qo_sound_shapes.proofs.CompletenessLemmas.{entries_in, HasRows, Whole}

-- who stands after the detachment stood before, with the same type and the same children
pub stays : (b : Board) (d : ℕ) → SoundDevices b → stands b d ≡ true → (x : ℕ) → stands (detach b d) x ≡ true
    → (stands b x ≡ true) × ((kind_of (detach b d) x ≡ kind_of b x) × (child_entries (detach b d) x ≡ child_entries b x))
stays b d s e x k =
    let f : Frame b (detach b d) = frame b d s e in
    let t : SoundDevices (detach b d) = devices_kept_lem.detached b d s e in
    let before : stands b x ≡ true = f.stood x k in (
      before,
      (
        f.kind x (stands-live b (rest-from_sound b s.tree).used.firm x before)
            (stands-live (detach b d) (rest-from_sound (detach b d) t.tree).used.firm x k),
        f.children x k,
      ),
    )

-- the slots of a device under the name of a child

abbrev named : List ℕ → Slots → Bool
named name slots = list_any (λ (s : List ℕ × Slot). bytes_eq s.0 name) slots

abbrev entered : List ℕ → List (List ℕ × ℕ) → Bool
entered name es = list_any (λ (e : List ℕ × ℕ). bytes_eq e.0 name) es

abbrev IsKin : List ℕ → List ℕ × Slot → Type 0
IsKin name s = bytes_eq s.0 name ≡ true → is_some (child_of s.1) ≡ true

row-child : (kind : PropertyRole) (s : Slot) → is_child_role kind ≡ true → HasRole kind s → is_some (child_of s) ≡ true
row-child (row.Child k) (plain v) e h = absurd h
row-child (row.Child k) (child m) e h = refl
row-child (row.Child k) (strong t target) e h = absurd h
row-child (row.Child k) (weak t target) e h = absurd h
row-child (row.Child k) (alias m property) e h = absurd h
row-child (row.Plain type first) s e h = absurd (let bad : false ≡ true = e in cc)
row-child (row.Link t holds) s e h = absurd (let bad : false ≡ true = e in cc)
row-child (row.Alias owner of) s e h = absurd (let bad : false ≡ true = e in cc)

kin-slots : (t : TypeId) → is_a t (codes "device") ≡ true → (p : Property) → IsRowOf t p → is_child_role p.role ≡ true → {slots : Slots}
    → HasSlots t (slots_of t) slots → AllByRecursion (IsKin (property_name p.name)) slots
kin-slots t device p own kin h =
    has-all (IsRowOf t) (IsKin (property_name p.name)) t of (λ s k. absurd (device-calm t device s k)) (slots_of t) (own-rows t) h
  where
    of : (q : Property) (s : List ℕ × Slot) → IsRowOf t q → IsOfProperty q s → IsKin (property_name p.name) s
    of q s its is e =
        let same_name : property_name q.name ≡ property_name p.name = sym is.name ∙ (bytes_eq-Decides s.0 (property_name p.name)).0 e in
        let same : q ≡ p = same_Some q p (sym its ∙ ap (property_named t) same_name ∙ own) in
        row-child q.role s.1 (ap (λ (x : Property). is_child_role x.role) same ∙ kin) is.fits

has-entry : (name : List ℕ) (xs : Slots) → AllByRecursion (IsKin name) xs → named name xs ≡ true → entered name (entries_in xs) ≡ true
has-entry name [] h e = e
has-entry name (x ∷ xs) h e = go (bytes_eq x.0 name) refl (has-entry name xs h.1)
  where
    mine : (y : List ℕ × Slot) → bytes_eq y.0 name ≡ true → is_some (child_of y.1) ≡ true → entered name (entries_in (y ∷ xs)) ≡ true
    mine (own, plain v) p q = cc
    mine (own, child m) p q = rw p refl
    mine (own, strong t target) p q = cc
    mine (own, weak t target) p q = cc
    mine (own, alias m property) p q = cc

    skip : (y : List ℕ × Slot) → entered name (entries_in xs) ≡ true → entered name (entries_in (y ∷ xs)) ≡ true
    skip (own, plain v) q = q
    skip (own, child m) q = rw q (or-true (bytes_eq own name))
    skip (own, strong t target) q = q
    skip (own, weak t target) q = q
    skip (own, alias m property) q = q

    go : (u : Bool) → bytes_eq x.0 name ≡ u → (named name xs ≡ true → entered name (entries_in xs) ≡ true) → entered name (entries_in (x ∷ xs)) ≡ true
    go true p rest = mine x p (h.0 p)
    go false p rest = skip x (rest (rw p at e))

entry-has : (name : List ℕ) (xs : Slots) → entered name (entries_in xs) ≡ true → named name xs ≡ true
entry-has name [] e = e
entry-has name ((own, plain v) ∷ xs) e = rw (entry-has name xs e) (or-true (bytes_eq own name))
entry-has name ((own, strong t target) ∷ xs) e = rw (entry-has name xs e) (or-true (bytes_eq own name))
entry-has name ((own, weak t target) ∷ xs) e = rw (entry-has name xs e) (or-true (bytes_eq own name))
entry-has name ((own, alias m property) ∷ xs) e = rw (entry-has name xs e) (or-true (bytes_eq own name))
entry-has name ((own, child m) ∷ xs) e = go (bytes_eq own name) refl (entry-has name xs)
  where
    go : (u : Bool) → bytes_eq own name ≡ u → (entered name (entries_in xs) ≡ true → named name xs ≡ true) → named name ((own, child m) ∷ xs) ≡ true
    go true p rest = rw p refl
    go false p rest = rw p (rest (rw p at e))

-- slots of rows have each row's name, but where one is missing
rows-there : (t : TypeId) (total : Slots) (ps : List Property) {slots : Slots} → HasSlots t ps slots
    → ((name : List ℕ) → named name slots ≡ true → named name total ≡ true)
    → AllByRecursion (λ (p : Property). may_miss p ≡ true → named (property_name p.name) total ≡ true) ps
    → AllByRecursion (λ (p : Property). named (property_name p.name) total ≡ true) ps
rows-there t total [] (further all) up may = tt
rows-there t total (p ∷ ps) (next {s = s} {slots = slots} is rest) up may =
    let own : bytes_eq s.0 (property_name p.name) ≡ true = (bytes_eq-Decides s.0 (property_name p.name)).1 is.name in (
      up (property_name p.name) (rw own refl),
      rows-there t total ps rest (λ name e. up name (rw e (or-true (bytes_eq s.0 name)))) may.1,
    )
rows-there t total (p ∷ ps) (missing m rest) up may = (may.0 m, rows-there t total ps rest up may.1)

-- a device that stood in a container and has the children that it had
abbrev pub Stood : Board → Board → ℕ → Type 0
Stood b c x = (stands b x ≡ true) × ((kind_of c x ≡ kind_of b x) × (child_entries c x ≡ child_entries b x))

whole-stood : (b c : Board) → AllOf Good b → AllOf Good c → ((x : ℕ) → stands b x ≡ true → is_of b (codes "device") x ≡ true) → Whole b → (d : ℕ) (t : TypeId)
    → Stood b c d → kind_of c d ≡ Some t → HasEach c d t
whole-stood b c good_b good_c devices h d t was k = go (record_of c d) refl (record_of b d) refl
  where
    kind : kind_of b d ≡ Some t
    kind = sym was.1.0 ∙ k

    device : is_a t (codes "device") ≡ true
    device = sym (ap (λ (o : Option TypeId). option_map_or (λ (x : TypeId). is_a x (codes "device")) o false) kind) ∙ devices d was.0

    slots_in : Option Record → Slots
    slots_in o = option_map_or (λ (y : Record). y.slots) o []

    go : (o : Option Record) → record_of c d ≡ o → (q : Option Record) → record_of b d ≡ q → HasEach c d t
    go None e q f = absurd (let bad : None ≡ Some t = sym (ap (option_map (λ (y : Record). y.kind)) e) ∙ k in cc)
    go (Some r) e None f = absurd (let bad : None ≡ Some t = sym (ap (option_map (λ (y : Record). y.kind)) f) ∙ kind in cc)
    go (Some r) e (Some y) f =
        subst (HasRows t) (sym (ap (λ (o : Option Record). option_map_or (λ (z : Record). z.slots) o []) e))
        (rows-there t r.slots (slots_of t) mine (λ name q. q) (each-of (slots_of t) (own-rows t) had))
      where
        mine : HasSlots t (slots_of t) r.slots
        mine =
            subst (λ (x : TypeId). HasSlots x (slots_of x) r.slots) (same_Some r.kind t (sym (ap (option_map (λ (z : Record). z.kind)) e) ∙ k))
            (good_c d r e).shaped.slots

        before : HasSlots t (slots_of t) y.slots
        before =
            subst (λ (x : TypeId). HasSlots x (slots_of x) y.slots) (same_Some y.kind t (sym (ap (option_map (λ (z : Record). z.kind)) f) ∙ kind))
            (good_b d y f).shaped.slots

        had : HasRows t y.slots
        had = subst (HasRows t) (ap (λ (o : Option Record). option_map_or (λ (z : Record). z.slots) o []) f) (h d t was.0 kind)

        entries : entries_in r.slots ≡ entries_in y.slots
        entries =
            sym (ap (λ (o : Option Record). entries_in (option_map_or (λ (z : Record). z.slots) o [])) e)
            ∙ was.1.1
            ∙ ap (λ (o : Option Record). entries_in (option_map_or (λ (z : Record). z.slots) o [])) f

        each-of : (ps : List Property) → AllByRecursion (IsRowOf t) ps → AllByRecursion (λ (p : Property). named (property_name p.name) y.slots ≡ true) ps
            → AllByRecursion (λ (p : Property). may_miss p ≡ true → named (property_name p.name) r.slots ≡ true) ps
        each-of [] rows has = tt
        each-of (p ∷ ps) rows has = (
          λ m.
              let kin : is_child_role p.role ≡ true = (and_parts (is_child_role p.role) (not (bytes_eq (property_name p.name) clock_name)) m).0 in
              entry-has (property_name p.name) r.slots
              (ap (entered (property_name p.name)) entries
              ∙ has-entry (property_name p.name) y.slots (kin-slots t device p rows.0 kin before) has.0),
          each-of ps rows.1 has.1,
        )

-- where each device that stands in a container is one that did before, or lacks none of its slots
pub whole-stays : (b c : Board) → AllOf Good b → AllOf Good c
    → ((x : ℕ) → stands c x ≡ true → Stood b c x ⊎ ((t : TypeId) → kind_of c x ≡ Some t → HasEach c x t))
    → ((x : ℕ) → stands b x ≡ true → is_of b (codes "device") x ≡ true) → Whole b → Whole c
whole-stays b c good_b good_c stays devices h d t s k = by (stays d s)
  where
    by : Stood b c d ⊎ ((x : TypeId) → kind_of c d ≡ Some x → HasEach c d x) → HasEach c d t
    by (inr each) = each t k
    by (inl was) = whole-stood b c good_b good_c devices h d t was k
