-- The slots of a bus: each is that of a device that is realized there, and of no other.
use Rattle.std.proofs.Common.{◌≡◌, refl, ap, sym, subst, ◌∙◌, ℕ, ◌+◌, Bool, true, false, ◌&&◌, ◌||◌, ◌==◌, List, [], ◌∷◌, filter_map, get_or, Option, Some, None, codes, is_some, arith}
use Rattle.std.specs.List.{AllByRecursion, list_any}
use Rattle.std.specs.Option.{option_map_or}
use Rattle.std.specs.Str.{bytes_eq}
use Rattle.std.proofs.lemmas.Bool.{and_parts, eqb-true, eq-eqb, or_right}
use Rattle.std.proofs.lemmas.Option.{same_Some}
use Rattle.std.proofs.lemmas.Slice.Eq.{bytes_eq-Decides}
use Rattle.qo_values.specs.declared.kinds.TypeId.{TypeId}
use Rattle.qo_model.specs.Board.{Board, Record, Slot, plain, child, strong, weak, alias, record_of, slots_at}
use Rattle.qo_model.specs.Devices.{bus_of, bus_slot_of, is_realized, kid_name}
use Rattle.qo_model.specs.Objects.{has_slot}
use Rattle.qo_model.specs.Paths.{is_of}
use Rattle.qo_model.specs.Properties.{property_named}
use Rattle.qo_model.specs.Types.{is_a, slots_of}
use Rattle.qo_model.specs.declared.properties.Property.{Property}
use Rattle.qo_model.proofs.StepLemmas.{found_at}
use Rattle.qo_sound.proofs.TestLemmas.{clash, clash-back, decide}
use Rattle.qo_sound_devices.specs.SoundPlaces.{IsHome, IsKid, SoundPlaces, has_entry, kid_entries, kid_entry}
use Rattle.qo_sound_devices.proofs.LocationLemmas.{Entry, entry-of}
use Rattle.qo_sound_devices.proofs.PlacesLemmas.{realized-live}
use Rattle.qo_sound_shapes.specs.SoundShape.{IsKidLink, IsOfProperty, SoundShape}
use Rattle.qo_sound_shapes.proofs.RowLemmas.{IsRowOf, bus-kid, has-all, kid-rowless, own-rows}

-- whether a slot of a bus is the one that a device names
abbrev pub names_slot : ℕ → ℕ → Option ℕ → Option ℕ → Bool
names_slot bus slot q k = option_map_or (λ (own : ℕ). option_map_or (λ (place : ℕ). (bus == own) && (slot == place)) k false) q false

-- whether a realized device has it
abbrev pub has_place : Board → ℕ → ℕ → Record → Bool
has_place b bus slot r = is_realized b r.birth && names_slot bus slot (bus_of b r.birth) (bus_slot_of b r.birth)

-- a device that names it, and what it names
record Names (bus slot : ℕ) (q k : Option ℕ) : Type 0 where
  on : q ≡ Some bus
  at : k ≡ Some slot

named-slot : (bus slot : ℕ) (q k : Option ℕ) → names_slot bus slot q k ≡ true → Names bus slot q k
named-slot bus slot None k e = clash-back e
named-slot bus slot (Some own) None e = clash-back e
named-slot bus slot (Some own) (Some place) e =
    let both = and_parts (bus == own) (slot == place) e in
    record { on = ap Some (sym (eqb-true bus own both.0)); at = ap Some (sym (eqb-true slot place both.1)) }

slot-named : (bus slot : ℕ) (q k : Option ℕ) → Names bus slot q k → names_slot bus slot q k ≡ true
slot-named bus slot q k h =
    ap (λ (o : Option ℕ). names_slot bus slot o k) h.on ∙ ap (λ (o : Option ℕ). names_slot bus slot (Some bus) o) h.at
    ∙ rw (eq-eqb bus bus refl, eq-eqb slot slot refl) refl

-- where the test of some element is passed, there is such an element
passing : {X : Type 0} (p : X → Bool) (xs : List X) → list_any p xs ≡ true → (x : X) × (p x ≡ true)
passing p [] e = clash-back e
passing p (x ∷ xs) e = decide (p x) (λ q. (x, q)) (λ q. passing p xs (rw q at e))

-- an object that is there passes a test that all of its birth pass
any-found : (p : Record → Bool) (n : ℕ) (rs : List Record) → is_some (found_at n rs) ≡ true → ((r : Record) → r.birth ≡ n → p r ≡ true) → list_any p rs ≡ true
any-found p n [] e h = clash-back e
any-found p n (r ∷ rs) e h =
    decide (r.birth == n) (λ q. rw (h r (eqb-true r.birth n q)) refl) (λ q. or_right (p r) (list_any p rs) (any-found p n rs (rw q at e) h))

-- the numbers in the names of slots
kid-number : (i k : ℕ) → kid_name i ≡ kid_name k → i ≡ k
kid-number i k e = let same : 48 + i ≡ 48 + k = ap (λ (xs : List ℕ). get_or xs 6 0) e in omega arith

-- an entry of a bus is one of its slots
entry-slot : (name : List ℕ) (n : ℕ) (slots : List (List ℕ × Slot)) → has_entry (name, n) (filter_map kid_entry slots) ≡ true
    → list_any (λ (s : List ℕ × Slot). bytes_eq s.0 name) slots ≡ true
entry-slot name n [] e = clash-back e
entry-slot name n (s ∷ slots) e = by s e (entry-slot name n slots)
  where
    by : (s : List ℕ × Slot) → has_entry (name, n) (filter_map kid_entry (s ∷ slots)) ≡ true
        → (has_entry (name, n) (filter_map kid_entry slots) ≡ true → list_any (λ (x : List ℕ × Slot). bytes_eq x.0 name) slots ≡ true)
        → list_any (λ (x : List ℕ × Slot). bytes_eq x.0 name) (s ∷ slots) ≡ true
    by (own, strong t (Some m)) e rest =
        decide (bytes_eq own name) (λ q. rw q refl)
        (λ q. or_right (bytes_eq own name) (list_any (λ (x : List ℕ × Slot). bytes_eq x.0 name) slots) (rest (later q (m == n) e)))
      where
        later : bytes_eq own name ≡ false → (t : Bool) → (t && bytes_eq own name) || has_entry (name, n) (filter_map kid_entry slots) ≡ true
            → has_entry (name, n) (filter_map kid_entry slots) ≡ true
        later q true e = rw q at e
        later q false e = e
    by (own, strong t None) e rest = or_right (bytes_eq own name) (list_any (λ (x : List ℕ × Slot). bytes_eq x.0 name) slots) (rest e)
    by (own, plain v) e rest = or_right (bytes_eq own name) (list_any (λ (x : List ℕ × Slot). bytes_eq x.0 name) slots) (rest e)
    by (own, child m) e rest = or_right (bytes_eq own name) (list_any (λ (x : List ℕ × Slot). bytes_eq x.0 name) slots) (rest e)
    by (own, weak t target) e rest = or_right (bytes_eq own name) (list_any (λ (x : List ℕ × Slot). bytes_eq x.0 name) slots) (rest e)
    by (own, alias m property) e rest = or_right (bytes_eq own name) (list_any (λ (x : List ℕ × Slot). bytes_eq x.0 name) slots) (rest e)

-- of a bus, a slot with the name of a link to a kid is such a link
abbrev IsLink : ℕ → List ℕ × Slot → Type 0
IsLink slot s = bytes_eq s.0 (kid_name slot) ≡ true → IsKidLink s.0 s.1

links-only : (t : TypeId) → is_a t (codes "bus") ≡ true → (slot : ℕ) (p : Property) (s : List ℕ × Slot) → IsRowOf t p → IsOfProperty p s → IsLink slot s
links-only t bus slot p s row is named =
    let own : property_named t (kid_name slot) ≡ Some p =
    ap (property_named t) (sym ((bytes_eq-Decides s.0 (kid_name slot)).0 named) ∙ is.name) ∙ row in
    absurd (let none : None ≡ Some p = sym (kid-rowless t bus slot) ∙ own in cc)

-- so what it names is among the kids
link-entry : (P : List ℕ × ℕ → Type 0) (slot : ℕ) (slots : List (List ℕ × Slot)) → AllByRecursion (IsLink slot) slots
    → AllByRecursion P (filter_map kid_entry slots) → list_any (λ (s : List ℕ × Slot). bytes_eq s.0 (kid_name slot)) slots ≡ true
    → (e : List ℕ × ℕ) × ((e.0 ≡ kid_name slot) × P e)
link-entry P slot [] links all e = clash-back e
link-entry P slot (s ∷ slots) links all e =
    decide (bytes_eq s.0 (kid_name slot)) (λ q. here s q (links.0 q) all) (λ q. link-entry P slot slots links.1 (after s all) (rw q at e))
  where
    here : (s : List ℕ × Slot) → bytes_eq s.0 (kid_name slot) ≡ true → IsKidLink s.0 s.1 → AllByRecursion P (filter_map kid_entry (s ∷ slots))
        → (e : List ℕ × ℕ) × ((e.0 ≡ kid_name slot) × P e)
    here (own, strong t (Some m)) q k all = ((own, m), ((bytes_eq-Decides own (kid_name slot)).0 q, all.0))
    here (own, strong t None) q k all = absurd k
    here (own, plain v) q k all = absurd k
    here (own, child m) q k all = absurd k
    here (own, weak t target) q k all = absurd k
    here (own, alias m property) q k all = absurd k

    after : (s : List ℕ × Slot) → AllByRecursion P (filter_map kid_entry (s ∷ slots)) → AllByRecursion P (filter_map kid_entry slots)
    after (own, strong t (Some m)) all = all.1
    after (own, strong t None) all = all
    after (own, plain v) all = all
    after (own, child m) all = all
    after (own, weak t target) all = all
    after (own, alias m property) all = all

module _ (b : Board) (places : SoundPlaces b) (shape : SoundShape b) (bus slot : ℕ) (is_bus : is_of b (codes "bus") bus ≡ true) where
  -- a realized device that names the slot is there
  place-taken : list_any (has_place b bus slot) b.records ≡ true → has_slot b bus (kid_name slot) ≡ true
  place-taken e =
      let (r, has) = passing (has_place b bus slot) b.records e in
      let both = and_parts (is_realized b r.birth) (names_slot bus slot (bus_of b r.birth) (bus_slot_of b r.birth)) has in
      at_home r.birth (named-slot bus slot (bus_of b r.birth) (bus_slot_of b r.birth) both.1)
      (places.1.home r.birth (places.1.only r.birth both.0) (λ none. absurd cc))
    where
      at_home : (n : ℕ) → Names bus slot (bus_of b n) (bus_slot_of b n) → IsHome b n → has_slot b bus (kid_name slot) ≡ true
      at_home n names home =
          let same : home.bus ≡ bus = same_Some home.bus bus (sym home.on ∙ names.on) in
          let its : Entry (IsKid b home.bus) n (kid_entries b home.bus) =
          entry-of (IsKid b home.bus) n (kid_entries b home.bus) (places.1.kids home.bus home.is_bus) home.kid in
          let (place, (low, (at, name))) = its.holds.slot in
          let own : its.name ≡ kid_name slot = name ∙ ap kid_name (same_Some place slot (sym at ∙ names.at)) in
          let there : has_slot b home.bus its.name ≡ true = entry-slot its.name n (slots_at b home.bus) its.there in
          subst (λ (q : ℕ). has_slot b q (kid_name slot) ≡ true) same (subst (λ (l : List ℕ). has_slot b home.bus l ≡ true) own there)

  links : AllByRecursion (IsLink slot) (slots_at b bus)
  links = go (record_of b bus) refl
    where
      go : (o : Option Record) → record_of b bus ≡ o → AllByRecursion (IsLink slot) (slots_at b bus)
      go None q = clash-back (rw q at is_bus)
      go (Some r) q =
          let kind : is_a r.kind (codes "bus") ≡ true = rw q at is_bus in
          let all : AllByRecursion (IsLink slot) r.slots =
          has-all (IsRowOf r.kind) (IsLink slot) r.kind (links-only r.kind kind slot) (λ s further named. bus-kid r.kind kind s further) (slots_of r.kind)
          (own-rows r.kind) (shape.shaped bus r q).slots in
          subst (λ (o : Option Record). AllByRecursion (IsLink slot) (option_map_or (λ (x : Record). x.slots) o [])) (sym q) all

  -- what is there is a realized device that names it
  taken-place : has_slot b bus (kid_name slot) ≡ true → list_any (has_place b bus slot) b.records ≡ true
  taken-place e =
      let (entry, (name, kid)) = link-entry (IsKid b bus) slot (slots_at b bus) links (places.1.kids bus is_bus) e in
      let (place, (low, (at, own))) = kid.slot in
      let same : place ≡ slot = kid-number place slot (sym own ∙ name) in
      let lit : is_realized b entry.1 ≡ true = places.1.each entry.1 kid.there refl in
      let names : names_slot bus slot (bus_of b entry.1) (bus_slot_of b entry.1) ≡ true =
      slot-named bus slot (bus_of b entry.1) (bus_slot_of b entry.1) (record { on = kid.on; at = at ∙ ap Some same }) in
      any-found (has_place b bus slot) entry.1 b.records (realized-live b entry.1 lit)
      (λ r is. subst (λ (n : ℕ). is_realized b n && names_slot bus slot (bus_of b n) (bus_slot_of b n) ≡ true) (sym is) (rw (lit, names) refl))

  -- so a slot has a device exactly where one that is realized has it
  pub places-taken : list_any (has_place b bus slot) b.records ≡ has_slot b bus (kid_name slot)
  places-taken =
      decide (has_slot b bus (kid_name slot)) (λ p. taken-place p ∙ sym p)
      (λ p. decide (list_any (has_place b bus slot) b.records) (λ q. clash (sym (place-taken q) ∙ p)) (λ q. q ∙ sym p))
