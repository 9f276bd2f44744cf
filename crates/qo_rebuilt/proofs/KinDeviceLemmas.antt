-- Where a device with an id is added to a board that has a description, it has one after it: the device is a child of its container, and its further objects
-- are
-- children of the device.
use Rattle.std.proofs.Common.{◌≡◌, refl, ap, ap₂, sym, subst, ◌∙◌, rules, ℕ, suc, ◌+◌, Bool, true, false, ◌&&◌, ◌||◌, List, [], ◌∷◌, ◌++◌, drop, find, map, Option, Some, None, is_some, Result, Ok, Err, codes, append-nil}
use Rattle.std.proofs.lemmas.List.{map-append}
use Rattle.std.proofs.lemmas.List.Elements.{filter_map-append}
use Rattle.qo_model.proofs.Common.{⊤, cons_option, list_any, bytes_eq, ANONYMOUS_BIRTH, PERIPHERAL_BIRTH, Code, Realize, TypeId, Bus, Device, Range, Board, Slot, plain, child, strong, weak, alias, with_added, kid_name, Given, given_to, slot_given, slots_with, children_in, child_of, canonical, Resources, Wanted, acted_all, born_from, bus_births, further_of, name_for, parent_for, plug, source_for, started, with_path, edited, plugged, post, types}
use Rattle.qo_values.proofs.EachLemmas.{each}
use Rattle.qo_values.specs.declared.properties.Val.{Val}
use Rattle.qo_values.specs.declared.properties.Val.TheVariants as val
use Rattle.qo_save.specs.Described.{is_describable}
use Rattle.qo_save.specs.Description.{DeviceItem}
use Rattle.qo_save.specs.Rebuilding.{add_device, wanted_by}
use Rattle.qo_sound.proofs.AdditionStepsLemmas.{all-any, KeepsActs, step-acted_all, step-plugged}
use Rattle.qo_sound.proofs.DeviceScopeLemmas.{devices_stay_lem}
use Rattle.qo_sound_clocks.proofs.StepsLemmas.{same_ok}
use Rattle.qo_plain.specs.Plugged.{IsAdded, at_address, begun_slots, birth_in, further_record, hosting, placed_slots, plain_device, put}
use Rattle.qo_plain.proofs.PluggedLemmas.{plugged_lem}
use Rattle.qo_good.specs.GoodBoards.{IsWhole}
use Rattle.qo_good.proofs.PartLemmas.{anonymous-kind, peripheral-kind}
use Rattle.qo_rebuilt.proofs.GrowthLemmas.{kind-live}
use Rattle.qo_rebuilt.proofs.KinLemmas.{Kin, kin, kin_of, is_tidy, describable-kin}
use Rattle.qo_rebuilt.proofs.KinAdditionLemmas.{given-children}
use Rattle.qo_rebuilt.proofs.KinGrowthLemmas.{childless, grow, kin-grown, live-kin, tidy-more, with_more}
use Rattle.qo_rebuilt.proofs.KinKeptLemmas.{kin-acted, kin-edited}

-- ---- the slots of the device

-- whether a slot of a name is a child slot
abbrev names_child : List ℕ → List (List ℕ × Slot) → Bool
names_child name slots = list_any (λ (s : List ℕ × Slot). bytes_eq s.0 name && is_some (child_of s.1)) slots

-- a slot that is put under a name where none is a child slot leaves the children
put-children : (name : List ℕ) (s : Slot) → child_of s ≡ None → (slots : List (List ℕ × Slot)) → names_child name slots ≡ false
    → children_in (put name s slots) ≡ children_in slots
put-children name s none [] e = refl
put-children name s none (x ∷ slots) e = go (bytes_eq x.0 name) refl (child_of x.1) refl (put-children name s none slots)
  where
    go : (t : Bool) → bytes_eq x.0 name ≡ t → (o : Option ℕ) → child_of x.1 ≡ o
        → (names_child name slots ≡ false → children_in (put name s slots) ≡ children_in slots)
        → children_in (put name s (x ∷ slots)) ≡ children_in (x ∷ slots)
    go true q (Some m) r rest = absurd (let clash : true ≡ false = rw (q, r) at e in cc)
    go true q None r rest = rw (q, r, none) (rest (rw (q, r) at e))
    go false q o r rest = rw q (ap (cons_option (child_of x.1)) (rest (rw q at e)))

put-names : (name other : List ℕ) (s : Slot) → child_of s ≡ None → (slots : List (List ℕ × Slot)) → names_child name slots ≡ false
    → names_child name (put other s slots) ≡ false
put-names name other s none [] e = refl
put-names name other s none (x ∷ slots) e = go (bytes_eq x.0 other) refl (bytes_eq x.0 name && is_some (child_of x.1)) refl (put-names name other s none slots)
  where
    no : (t : Bool) → t && false ≡ false
    no true = refl
    no false = refl

    go : (t : Bool) → bytes_eq x.0 other ≡ t → (u : Bool) → (bytes_eq x.0 name && is_some (child_of x.1)) ≡ u
        → (names_child name slots ≡ false → names_child name (put other s slots) ≡ false)
        → names_child name (put other s (x ∷ slots)) ≡ false
    go t q true r rest = absurd (let clash : true ≡ false = rw r at e in cc)
    go true q false r rest = rw (q, none, no (bytes_eq other name)) (rest (rw r at e))
    go false q false r rest = rw (q, r) (rest (rw r at e))

given-child : (b : Board) (s : Slot) (v : Val) → child_of (given_to b s v) ≡ child_of s
given-child b (plain old) v = refl
given-child b (child m) v = refl
given-child b (strong t target) (val.Text path) = refl
given-child b (strong t target) (val.Bool v) = refl
given-child b (strong t target) (val.Int v) = refl
given-child b (strong t target) (val.Uint v) = refl
given-child b (strong t target) val.Nothing = refl
given-child b (weak t target) (val.Text path) = refl
given-child b (weak t target) (val.Bool v) = refl
given-child b (weak t target) (val.Int v) = refl
given-child b (weak t target) (val.Uint v) = refl
given-child b (weak t target) val.Nothing = refl
given-child b (alias m property) v = refl

given-names : (b : Board) (props : List Given) (name : List ℕ) (slots : List (List ℕ × Slot))
    → names_child name (map (slot_given b props) slots) ≡ names_child name slots
given-names b props name [] = refl
given-names b props name (s ∷ slots) =
    ap₂ (λ (t u : Bool). (bytes_eq s.0 name && t) || u) (ap is_some own) (given-names b props name slots)
  where
    own : child_of (slot_given b props s).1 ≡ child_of s.1
    own = go (find (λ (p : Given). bytes_eq p.0 s.0) props)
      where
        go : (o : Option Given) → child_of (elim o as (λ _. Slot) [ None ↦ s.1 | Some p ↦ given_to b s.1 p.1 ]) ≡ child_of s.1
        go None = refl
        go (Some p) = given-child b s.1 p.1

-- the births of the further objects of a device n
abbrev further_births : ℕ → TypeId → List ℕ
further_births n t = map (λ (o : ℕ × TypeId). o.0) (born_from (suc n) (map (λ (f : List ℕ × TypeId). f.1) (further_of t)))

abbrev first_slots : ℕ → TypeId → List (List ℕ × Slot)
first_slots n t = slots_with (birth_in (suc n) (further_of t)) t

-- no child has one of these names
record Unnamed (slots : List (List ℕ × Slot)) : Type 0 where
  realized : names_child (codes "realized") slots ≡ false
  bus : names_child (codes "parent_bus") slots ≡ false
  slot : names_child (codes "slot") slots ≡ false
  addr : names_child (codes "addr") slots ≡ false

first-children : (n : ℕ) (t : TypeId) → children_in (first_slots n t) ≡ further_births n t
unfolding types
first-children n = each (λ (t : TypeId). children_in (first_slots n t) ≡ further_births n t) (search rules)

first-realized : (n : ℕ) (t : TypeId) → names_child (codes "realized") (first_slots n t) ≡ false
unfolding types
first-realized n = each (λ (t : TypeId). names_child (codes "realized") (first_slots n t) ≡ false) (search rules)

first-bus : (n : ℕ) (t : TypeId) → names_child (codes "parent_bus") (first_slots n t) ≡ false
unfolding types
first-bus n = each (λ (t : TypeId). names_child (codes "parent_bus") (first_slots n t) ≡ false) (search rules)

first-slot : (n : ℕ) (t : TypeId) → names_child (codes "slot") (first_slots n t) ≡ false
unfolding types
first-slot n = each (λ (t : TypeId). names_child (codes "slot") (first_slots n t) ≡ false) (search rules)

first-addr : (n : ℕ) (t : TypeId) → names_child (codes "addr") (first_slots n t) ≡ false
unfolding types
first-addr n = each (λ (t : TypeId). names_child (codes "addr") (first_slots n t) ≡ false) (search rules)

begun-unnamed : (b : Board) (n : ℕ) (t : TypeId) (a : Wanted) → Unnamed (begun_slots b n t a)
begun-unnamed b n t a =
    record {
      realized = given-names b a.props (codes "realized") (first_slots n t) ∙ first-realized n t;
      bus = given-names b a.props (codes "parent_bus") (first_slots n t) ∙ first-bus n t;
      slot = given-names b a.props (codes "slot") (first_slots n t) ∙ first-slot n t;
      addr = given-names b a.props (codes "addr") (first_slots n t) ∙ first-addr n t;
    }

put-unnamed : (other : List ℕ) (s : Slot) → child_of s ≡ None → (slots : List (List ℕ × Slot)) → Unnamed slots → Unnamed (put other s slots)
put-unnamed other s none slots h =
    record {
      realized = put-names (codes "realized") other s none slots h.realized;
      bus = put-names (codes "parent_bus") other s none slots h.bus;
      slot = put-names (codes "slot") other s none slots h.slot;
      addr = put-names (codes "addr") other s none slots h.addr;
    }

placed-children : (resources : Resources) (slots : List (List ℕ × Slot)) → Unnamed slots → children_in (placed_slots resources slots) ≡ children_in slots
placed-children resources slots h =
    put-children (codes "realized") (plain (val.Bool true)) refl third (put-unnamed (codes "parent_bus") bus refl second two).realized
    ∙ put-children (codes "parent_bus") bus refl second two.bus
    ∙ put-children (codes "slot") place refl first one.slot
    ∙ addressed resources.range
  where
    bus : Slot
    bus = strong Bus (Some resources.bus)

    place : Slot
    place = plain (val.Uint resources.slot)

    unnamed : (o : Option Range) → Unnamed (at_address o slots)
    unnamed None = h
    unnamed (Some r) = put-unnamed (codes "addr") (plain (val.Uint r.at)) refl slots h

    addressed : (o : Option Range) → children_in (at_address o slots) ≡ children_in slots
    addressed None = refl
    addressed (Some r) = put-children (codes "addr") (plain (val.Uint r.at)) refl slots h.addr

    first : List (List ℕ × Slot)
    first = at_address resources.range slots

    second : List (List ℕ × Slot)
    second = put (codes "slot") place first

    third : List (List ℕ × Slot)
    third = put (codes "parent_bus") bus second

    one : Unnamed first
    one = unnamed resources.range

    two : Unnamed second
    two = put-unnamed (codes "slot") place refl first one

-- ---- the records

further-childless : (source m : ℕ) (t : TypeId) → kin (further_record source (m, t)) ≡ childless m
unfolding types
further-childless source m = each (λ (t : TypeId). kin (further_record source (m, t)) ≡ childless m) (search rules)

further-kin : (source : ℕ) (os : List (ℕ × TypeId)) → map kin (map (further_record source) os) ≡ map childless (map (λ (o : ℕ × TypeId). o.0) os)
further-kin source [] = refl
further-kin source (o ∷ os) = ap₂ (λ (k : Kin) (ks : List Kin). k ∷ ks) (further-childless source o.0 o.1) (further-kin source os)

module _ (b : Board) (t : TypeId) (a : Wanted) (resources : Resources) where
  abbrev n : ℕ
  n = b.born + 1

  hosted : map kin (hosting b (b.born + 1) a resources) ≡ grow (parent_for a.id) (b.born + 1) (kin_of b)
  hosted =
      kin-edited resources.bus (with_added (kid_name resources.slot) (strong Device (Some (b.born + 1))))
      (λ r.
      ap (λ (ns : List ℕ). (r.birth, ns))
      (filter_map-append (λ (s : List ℕ × Slot). child_of s.1) r.slots ((kid_name resources.slot, strong Device (Some (b.born + 1))) ∷ [])
      ∙ append-nil (children_in r.slots)))
      (map (edited (parent_for a.id) (with_added (name_for b a.id) (child (b.born + 1)))) b.records)
      ∙ kin-grown (parent_for a.id) (name_for b a.id) (b.born + 1) b.records

  kin-plain : kin_of (plain_device b t a resources) ≡ with_more (parent_for a.id) (b.born + 1) (further_births (b.born + 1) t) (kin_of b)
  kin-plain =
      map-append kin (hosting b (b.born + 1) a resources) _
      ∙ ap₂ (λ (ks more : List Kin). ks ++ more) hosted
      (ap₂ (λ (ns : List ℕ) (ks : List Kin). (b.born + 1, ns) ∷ ks)
      (placed-children resources (begun_slots b (b.born + 1) t a) (begun-unnamed b (b.born + 1) t a)
      ∙ given-children b a.props (first_slots (b.born + 1) t) ∙ first-children (b.born + 1) t)
      (further-kin (source_for b resources.bus) (born_from (suc (b.born + 1)) (map (λ (f : List ℕ × TypeId). f.1) (further_of t)))))

-- it acts, goes through the phases, and the guest is told
kin-started : (n : ℕ) (t : TypeId) (c : Board) → kin_of (started n t c) ≡ kin_of c
kin-started n t c =
    kin-edited n (with_path (canonical last n)) (λ r. refl) last.records
    ∙ step-plugged (λ x. ⊤) Same acts n ran (all-any (post ran n))
    (step-acted_all (λ x. ⊤) Same acts Realize refl (n ∷ bus_births n t) (all-any (n ∷ bus_births n t)) c refl)
  where
    Same : Board → Type 0
    Same x = kin_of x ≡ kin_of c

    acts : KeepsActs (λ x. ⊤) Same
    acts act m period unbound on x k = kin-acted act m period x ∙ k

    ran : Board
    ran = acted_all Realize (n ∷ bus_births n t) c

    last : Board
    last = plugged ran n

module _ (b : Board) (h : IsWhole b) (says : is_describable b ≡ true) where
  device-added : (x : DeviceItem) → (plug b (wanted_by x)).refusal ≡ None → is_describable (plug b (wanted_by x)).board ≡ true
  device-added x e =
      let a : Wanted = wanted_by x in
      let k : IsAdded b a (plug b a).board = plugged_lem.plugged b h.order.devices h.sources a e in
      let n : ℕ = b.born + 1 in
      let same : kin_of (plug b a).board ≡ with_more PERIPHERAL_BIRTH n (further_births n k.row.id) (kin_of b) =
      ap kin_of k.board ∙ kin-started n k.row.id (plain_device b k.row.id a k.resources) ∙ kin-plain b k.row.id a k.resources in
      describable-kin (plug b a).board
      ∙ ap₂ is_tidy same (devices_stay_lem.plugged b a).pending
      ∙ tidy-more PERIPHERAL_BIRTH n (further_births n k.row.id) (kin_of b)
      (live-kin b PERIPHERAL_BIRTH (kind-live b PERIPHERAL_BIRTH _ (peripheral-kind b h.order))) b.pending
      (live-kin b ANONYMOUS_BIRTH (kind-live b ANONYMOUS_BIRTH _ (anonymous-kind b h.order))) refl (sym (describable-kin b) ∙ says)

pub describable-device : (x : DeviceItem) (b c : Board) → IsWhole b → add_device x b ≡ Ok c → is_describable b ≡ true → is_describable c ≡ true
describable-device x b c h e says = go (plug b (wanted_by x)).refusal (device-added b h says x) e
  where
    d : Board
    d = (plug b (wanted_by x)).board

    last : Board
    last = record d { notices = drop 1 d.notices }

    read : is_describable d ≡ true → is_describable last ≡ true
    read k = k

    go : (r : Option (ℕ × Code)) → (r ≡ None → is_describable d ≡ true)
        → (elim r as (λ _. Result Board Code) [ Some refusal ↦ Err refusal.1 | None ↦ Ok last ]) ≡ Ok c → is_describable c ≡ true
    go None kept f = subst (λ (y : Board). is_describable y ≡ true) (same_ok last c f) (read (kept refl))
    go (Some refusal) kept f = absurd (let clash : Err refusal.1 ≡ Ok c = f in cc)
