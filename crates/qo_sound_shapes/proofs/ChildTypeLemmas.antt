-- A child under the name of a property is of the property's type: what keeps it so on every board.
use Rattle.std.proofs.Common.{◌≡◌, refl, ap, sym, subst, ◌∙◌, rules, ℕ, Bool, true, false, ◌==◌, List, [], ◌∷◌, ◌++◌, find, Option, Some, None, option_map, option_and_then}
use Rattle.qo_model.proofs.Common.{AllByRecursion, bytes_eq, option_map_or, option_or, MACHINE_BIRTH, ROOT_BIRTH, TypeId, Container, Machine, Board, Record, is_live, kind_of, record_of, slots_at, fresh_slots, opening_board, opening_records, edit, edited, property_name, slots_of, types}
use Rattle.qo_model.specs.declared.properties.Property.{Property}
use Rattle.std.proofs.lemmas.Bool.{eqb-true}
use Rattle.std.proofs.lemmas.Option.{same_Some}
use Rattle.qo_model.proofs.FinalNotesLemmas.{live-of-kind}
use Rattle.qo_model.proofs.StepLemmas.{found-birth, found-edited, found_at}
use Rattle.qo_sound.proofs.FirmBoardLemmas.{edited-kind, WellFormed}
use Rattle.qo_sound.proofs.RecordLemmas.{all-both}
use Rattle.qo_sound.proofs.SearchLemmas.{all-found, found-append}
use Rattle.qo_values.proofs.ListLemmas.{all-imply}
use Rattle.qo_values.proofs.EachLemmas.{each}
use Rattle.qo_sound_devices.specs.SoundPlaces.{child_entries}
use Rattle.qo_sound_devices.proofs.PlacesLemmas.{all-within, children-there, IsThere, linked-at, Within}
use Rattle.qo_sound_shapes.specs.SoundShape.{child_type, HasChildType, type_of_child}
use Rattle.qo_sound_shapes.proofs.CompletenessLemmas.{entries_in}

abbrev pub Typed : Board → Type 0
Typed b = (n : ℕ) (t : TypeId) → kind_of b n ≡ Some t → AllByRecursion (HasChildType b t) (child_entries b n)

-- no child more, and who is there is of the type that it was of
pub typed-within : (b c : Board) → WellFormed c → ((x : ℕ) → is_live c x ≡ true → kind_of c x ≡ kind_of b x)
    → ((x : ℕ) → Within (child_entries c x) (child_entries b x)) → Typed b → Typed c
typed-within b c firm kin within h n t e =
    all-imply (λ x. IsThere c x × HasChildType b t x) (HasChildType c t) (λ x k to named. kin x.1 k.0 ∙ k.1 to named) (child_entries c n)
    (all-both (IsThere c) (HasChildType b t) (child_entries c n) (children-there c (slots_at c n) (linked-at c firm n))
    (all-within (HasChildType b t) (within n) (h n t (sym (kin n (live-of-kind c n t e)) ∙ e))))

-- the same children and types
pub typed-same : (b c : Board) → ((x : ℕ) → child_entries c x ≡ child_entries b x) → ((x : ℕ) → kind_of c x ≡ kind_of b x) → Typed b → Typed c
typed-same b c entries kinds h n t e =
    all-imply (HasChildType b t) (HasChildType c t) (λ x k to named. kinds x.1 ∙ k to named) (child_entries c n)
    (subst (AllByRecursion (HasChildType b t)) (sym (entries n)) (h n t (sym (kinds n) ∙ e)))

abbrev entries_of : Option Record → List (List ℕ × ℕ)
entries_of o = entries_in (option_map_or (λ (r : Record). r.slots) o [])

-- an edit of one object
pub typed-edit : (m : ℕ) (change : Record → Record) → ((r : Record) → (change r).birth ≡ r.birth) → ((r : Record) → (change r).kind ≡ r.kind) → (c : Board)
    → ((r : Record) → record_of c m ≡ Some r → AllByRecursion (HasChildType c r.kind) (entries_in r.slots)
    → AllByRecursion (HasChildType c r.kind) (entries_in (change r).slots))
    → Typed c → Typed (edit m change c)
typed-edit m change same_birth same_kind c keeps h n t e =
    all-imply (HasChildType c t) (HasChildType (edit m change c) t) (λ x k to named. edited-kind m change same_birth same_kind c x.1 ∙ k to named)
    (child_entries (edit m change c) n)
    (subst (λ (o : Option Record). AllByRecursion (HasChildType c t) (entries_of o)) (sym (found-edited m change same_birth n c.records))
    (go (record_of c n) refl))
  where
    was : kind_of c n ≡ Some t
    was = sym (edited-kind m change same_birth same_kind c n) ∙ e

    go : (o : Option Record) → record_of c n ≡ o → AllByRecursion (HasChildType c t) (entries_of (option_map (edited m change) o))
    go None q = tt
    go (Some r) q = by (r.birth == m) refl
      where
        kind : r.kind ≡ t
        kind = same_Some r.kind t (sym (ap (option_map (λ (x : Record). x.kind)) q) ∙ was)

        old : AllByRecursion (HasChildType c t) (entries_in r.slots)
        old = rw q at (h n t was)

        by : (u : Bool) → (r.birth == m) ≡ u → AllByRecursion (HasChildType c t) (entries_in (edited m change r).slots)
        by true p =
            let own : n ≡ m = sym (found-birth n c.records r q) ∙ eqb-true r.birth m p in
            rw (edited, p)
            (subst (λ (k : TypeId). AllByRecursion (HasChildType c k) (entries_in (change r).slots)) kind
            (keeps r (subst (λ (k : ℕ). record_of c k ≡ Some r) own q)
            (subst (λ (k : TypeId). AllByRecursion (HasChildType c k) (entries_in r.slots)) (sym kind) old)))
        by false p = rw (edited, p) old

-- an object more, which has no children
pub kind-grown : (r : Record) (b c : Board) → c.records ≡ b.records ++ r ∷ [] → (x : ℕ) (t : TypeId) → kind_of b x ≡ Some t → kind_of c x ≡ Some t
kind-grown r b c e x t k =
    ap (option_map (λ (y : Record). y.kind)) (ap (found_at x) e ∙ found-append x b.records (r ∷ [])) ∙ go (record_of b x) k
  where
    go : (o : Option Record) → option_map (λ (y : Record). y.kind) o ≡ Some t → option_map (λ (y : Record). y.kind) (option_or o (found_at x (r ∷ []))) ≡ Some t
    go None q = cc
    go (Some y) q = q

pub typed-new : (r : Record) (b c : Board) → c.records ≡ b.records ++ r ∷ [] → entries_in r.slots ≡ [] → Typed b → Typed c
typed-new r b c e none h n t k = go (record_of b n) refl
  where
    found : record_of c n ≡ option_or (record_of b n) (found_at n (r ∷ []))
    found = ap (found_at n) e ∙ found-append n b.records (r ∷ [])

    last : (u : Bool) → (r.birth == n) ≡ u → AllByRecursion (HasChildType c t) (entries_in (option_map_or (λ (y : Record). y.slots) (found_at n (r ∷ [])) []))
    last true p = rw (p, none) tt
    last false p = rw p tt

    go : (o : Option Record) → record_of b n ≡ o → AllByRecursion (HasChildType c t) (child_entries c n)
    go None q = rw (found, q) (last (r.birth == n) refl)
    go (Some y) q =
        let kind : y.kind ≡ t = same_Some y.kind t (sym (ap (option_map (λ (x : Record). x.kind)) (found ∙ ap (λ o. option_or o (found_at n (r ∷ []))) q)) ∙ k) in
        let was : AllByRecursion (HasChildType b t) (entries_in y.slots) =
        rw q at (h n t (ap (option_map (λ (x : Record). x.kind)) q ∙ ap Some kind)) in
        rw (found, q)
        (all-imply (HasChildType b t) (HasChildType c t) (λ x s to named. kind-grown r b c e x.1 to (s to named)) (entries_in y.slots) was)

-- an object as new has no children
pub fresh-childless : (t : TypeId) → entries_in (fresh_slots t) ≡ []
unfolding types
fresh-childless = each (λ (t : TypeId). entries_in (fresh_slots t) ≡ []) (search rules)

-- a child of an object of a type that has no children by properties
abbrev pub Childfree : TypeId → Type 0
Childfree t = (name : List ℕ) → child_type t name ≡ None

none-fits : (c : Board) (t : TypeId) → Childfree t → (es : List (List ℕ × ℕ)) → AllByRecursion (HasChildType c t) es
none-fits c t free [] = tt
none-fits c t free (e ∷ es) = (λ to named. absurd (let clash : None ≡ Some to = sym (free e.0) ∙ named in cc), none-fits c t free es)

pub typed-free : (m : ℕ) (t : TypeId) → Childfree t → (change : Record → Record) → ((r : Record) → (change r).birth ≡ r.birth)
    → ((r : Record) → (change r).kind ≡ r.kind) → (c : Board) → kind_of c m ≡ Some t → Typed c → Typed (edit m change c)
typed-free m t free change same_birth same_kind c kind h =
    typed-edit m change same_birth same_kind c
    (λ r e k.
    let is : r.kind ≡ t = same_Some r.kind t (sym (ap (option_map (λ (x : Record). x.kind)) e) ∙ kind) in
    subst (λ (u : TypeId). AllByRecursion (HasChildType c u) (entries_in (change r).slots)) (sym is) (none-fits c t free (entries_in (change r).slots))) h

free-rows : (ps : List Property) → AllByRecursion (λ (p : Property). type_of_child p.role ≡ None) ps → (name : List ℕ)
    → option_and_then (λ (p : Property). type_of_child p.role) (find (λ (p : Property). bytes_eq (property_name p.name) name) ps) ≡ None
free-rows [] h name = refl
free-rows (p ∷ ps) h name = go (bytes_eq (property_name p.name) name) refl (free-rows ps h.1 name)
  where
    go : (u : Bool) → bytes_eq (property_name p.name) name ≡ u
        → option_and_then (λ (q : Property). type_of_child q.role) (find (λ (q : Property). bytes_eq (property_name q.name) name) ps) ≡ None
        → option_and_then (λ (q : Property). type_of_child q.role) (find (λ (q : Property). bytes_eq (property_name q.name) name) (p ∷ ps)) ≡ None
    go true e rest = rw e h.0
    go false e rest = rw e rest

pub container-free : Childfree Container
unfolding types
container-free name = free-rows (slots_of Container) (search rules) name

machine-free : Childfree Machine
unfolding types
machine-free name = free-rows (slots_of Machine) (search rules) name

-- the board that a machine begins with
abbrev OpeningTyped : Record → Type 0
OpeningTyped r = AllByRecursion (HasChildType opening_board r.kind) (entries_in r.slots)

all-typed : AllByRecursion OpeningTyped opening_records
unfolding opening_board types
all-typed = (
  none-fits opening_board Container container-free (child_entries opening_board ROOT_BIRTH),
  (none-fits opening_board Machine machine-free (child_entries opening_board MACHINE_BIRTH), (tt, (tt, (tt, (tt, (tt, (tt, tt))))))),
)

pub opening-typed : Typed opening_board
unfolding opening_board
opening-typed n t e = go (record_of opening_board n) refl
  where
    go : (o : Option Record) → record_of opening_board n ≡ o → AllByRecursion (HasChildType opening_board t) (child_entries opening_board n)
    go None q = absurd (let clash : None ≡ Some t = sym (ap (option_map (λ (x : Record). x.kind)) q) ∙ e in cc)
    go (Some r) q =
        let kind : r.kind ≡ t = same_Some r.kind t (sym (ap (option_map (λ (x : Record). x.kind)) q) ∙ e) in
        rw q
        (subst (λ (u : TypeId). AllByRecursion (HasChildType opening_board u) (entries_in r.slots)) kind
        (all-found OpeningTyped n opening_records all-typed r q))
