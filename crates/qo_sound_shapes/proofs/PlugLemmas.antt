-- A device that is added stands in its place, and is shaped as its type says, as all others are.
use Rattle.std.proofs.Common.{rules, ◌≡◌, ◌⊎◌, inl, inr, refl, ap, sym, subst, ◌∙◌, ℕ, ◌<◌, ◌≤◌, ◌+◌, ◌-◌, ◌^◌, ◌%◌, ◌&&◌, ◌||◌, Bool, true, false, not, ◌==◌, List, [], ◌∷◌, ◌++◌, map, find, codes, Option, Some, None, is_some, option_map, option_and_then, arith}
use Rattle.qo_model.proofs.Common.{nat_le, list_any, option_map_or, bytes_eq, ⊤, fits_at, is_in_window, overlaps_any, free_address, range_at, window_end, window_size, window_start, admits, fresh_registers, ANONYMOUS_BIRTH, PERIPHERAL_BIRTH, E17, E19, Realize, TypeId, Container, Device, MemDimm, SlotBus, MemBus, MemoryBackend, BUS_SLOTS, DIMM_ALIGN, Val, Range, Board, Record, Slot, child, strong, is_live, kind_of, record_of, add, changed_at, with_added, with_changed, with_val, acted, with_act_on, among, clock_of, kid_name, number_in, Given, misfit, refusal_by, refusal_of, slot_given, opening_board, canonical, Resources, Wanted, acted_all, addressed_at, bus_births, bus_type, clocked, counted, drafted, fitted, link_named, name_for, number_for, ok_in, parent_for, plug, range_for, range_of, ranges_of, registers_on, size_of, source_for, resources_of, stood, target_for, notified_plug, with_body_of, with_device, with_given, with_path, with_plugged, with_source, property_named, edit, property_name, plugged, post, is_a, multiple_of, slots_of, types, up_to}
use Rattle.qo_model.specs.declared.properties.Property.{Property}
use Rattle.qo_model.specs.declared.properties.PropertyRole.{PropertyRole}
use Rattle.std.proofs.lemmas.Bool.{and_parts}
use Rattle.std.proofs.lemmas.List.Folds.{list_any-append}
use Rattle.std.proofs.lemmas.Bool.Decides.{nat_tests}
use Rattle.std.proofs.lemmas.Option.{same_Some}
use Rattle.std.proofs.lemmas.Slice.Eq.{bytes_eq-Decides}
use Rattle.qo_values.proofs.PlacingLemmas.{least-passes}
use Rattle.qo_values.specs.declared.properties.Val.TheVariants as val
use Rattle.qo_model.specs.declared.properties.First.TheVariants as first
use Rattle.qo_model.specs.declared.properties.PropertyRole.TheVariants as row
use Rattle.qo_model.proofs.StepLemmas.{found-birth}
use Rattle.qo_sound.proofs.AdditionStepsLemmas.{all-any, KeepsActs, link-by, stand-by, step-acted_all, step-plugged}
use Rattle.qo_sound.proofs.PlugLemmas.{shut-above}
use Rattle.qo_values.proofs.ListLemmas.{all-imply}
use Rattle.qo_values.proofs.EachLemmas.{each}
use Rattle.qo_sound.proofs.SlotLemmas.{names-changed, names_in}
use Rattle.qo_sound.proofs.ViewLemmas.{PinsRootAlone, rest-from_sound}
use Rattle.qo_sound_devices.specs.SoundDevices.{SoundDevices}
use Rattle.qo_sound_devices.specs.SoundPlaces.{stands}
use Rattle.qo_sound_devices.proofs.AcceptanceLemmas.{goal-of, passes}
use Rattle.qo_sound_devices.proofs.DevicesLawLemmas.{devices_kept_lem}
use Rattle.qo_sound_devices.proofs.DraftLemmas.{drafted-made}
use Rattle.qo_sound_devices.proofs.AdditionLemmas.{Goal, done, Joined, by-stand}
use Rattle.qo_sound_devices.proofs.JoiningLemmas.{Made}
use Rattle.qo_sound_devices.proofs.PlacesLemmas.{high-absent, kind-alike, of-live, stands-live, aside-apart}
use Rattle.qo_sound_devices.proofs.PlugLemmas.{Accepted, after-plug, stands-device}
use Rattle.qo_sound_devices.proofs.PlugStageLemmas.{accepted-joined}
use Rattle.qo_sound_shapes.specs.SoundShape.{HasEach, is_like, IsFurther, SoundShape}
use Rattle.qo_sound_shapes.proofs.BoardLemmas.{all-edit, AllOf, good-all, shape-all}
use Rattle.qo_sound_shapes.proofs.CommandLemmas.{begun-devices, container-kind, live-devices}
use Rattle.qo_sound_shapes.proofs.DetachmentLemmas.{bus-apart, container-four, container-three, takes-realized}
use Rattle.qo_sound_shapes.proofs.DraftLemmas.{drafted-good, drafted-rows}
use Rattle.qo_sound_shapes.proofs.ShapeLemmas.{Good, good-added, good-changed, good-slots, is_first, mild-fitted, rows-fitted}
use Rattle.qo_sound_shapes.proofs.NewObjectLemmas.{fits-by, found-given, given-has, late-first}
use Rattle.qo_sound_shapes.proofs.QuietChangeLemmas.{admits-up_to, good-act, Takes, all-set, KeepsSet}
use Rattle.qo_sound_shapes.proofs.RowLemmas.{Slots}
use Rattle.qo_sound_shapes.proofs.ChildLemmas.{Stood, whole-stays}
use Rattle.qo_sound_shapes.proofs.ChildTypeLemmas.{Typed}
use Rattle.qo_sound_shapes.proofs.PlugTypeLemmas.{plugged-typed}
use Rattle.qo_sound_shapes.proofs.CompletenessLemmas.{HasRows, rows-same, Whole}

-- an object of the kind that is said of it, which lacks no slot where it is a certain one
record Placed (kinds : ℕ → Option TypeId) (new : ℕ) (r : Record) : Type 0 where
  good : Good r
  kind : kinds r.birth ≡ Some r.kind
  each : r.birth ≡ new → HasRows r.kind r.slots

-- a change that leaves no slot out
abbrev LeavesRows : (Record → Record) → Type 0
LeavesRows change = (r : Record) → HasRows r.kind r.slots → HasRows r.kind (change r).slots

rows-added : (t : TypeId) (xs : Slots) (s : List ℕ × Slot) → HasRows t xs → HasRows t (xs ++ s ∷ [])
rows-added t xs s h =
    all-imply (λ (p : Property). list_any (λ (x : List ℕ × Slot). bytes_eq x.0 (property_name p.name)) xs ≡ true)
    (λ (p : Property). list_any (λ (x : List ℕ × Slot). bytes_eq x.0 (property_name p.name)) (xs ++ s ∷ []) ≡ true)
    (λ p e.
    list_any-append (λ (x : List ℕ × Slot). bytes_eq x.0 (property_name p.name)) xs (s ∷ [])
    ∙ ap (λ (t : Bool). t || list_any (λ (x : List ℕ × Slot). bytes_eq x.0 (property_name p.name)) (s ∷ [])) e) (slots_of t) h

rows-changed : (g : Slot → Slot) (i : ℕ) → LeavesRows (with_changed g i)
rows-changed g i r h = rows-same r.kind r.slots (changed_at g i r.slots) (names-changed g i r.slots) h

-- buses for devices
slot-kind : (k : TypeId) → is_a k (codes "slot-bus") ≡ true → k ≡ SlotBus
unfolding types
slot-kind = each (λ (k : TypeId). is_a k (codes "slot-bus") ≡ true → k ≡ SlotBus) (search rules)

memory-kind : (k : TypeId) → is_a k (codes "mem-bus") ≡ true → k ≡ MemBus
unfolding types
memory-kind = each (λ (k : TypeId). is_a k (codes "mem-bus") ≡ true → k ≡ MemBus) (search rules)

home-kind : (k t : TypeId) → is_a k (bus_type t) ≡ true → (k ≡ SlotBus) ⊎ (k ≡ MemBus)
home-kind k t e = go (is_a t (codes "slot-device")) refl
  where
    go : (u : Bool) → is_a t (codes "slot-device") ≡ u → (k ≡ SlotBus) ⊎ (k ≡ MemBus)
    go true p = inl (slot-kind k (rw p at e))
    go false p = inr (memory-kind k (rw p at e))

slot-bus : is_a SlotBus (codes "bus") ≡ true
unfolding types
slot-bus = refl

memory-bus : is_a MemBus (codes "bus") ≡ true
unfolding types
memory-bus = refl

-- values that are set
takes-slot : (t : TypeId) (n : ℕ) → n < 8 → Takes t (codes "slot") (val.Uint n)
unfolding types
takes-slot t n low =
    let fits : admits (up_to 255) (val.Uint n) ≡ true = admits-up_to 255 n (omega (arith, low)) in
    each (λ (k : TypeId). Takes k (codes "slot") (val.Uint n)) (search (rules, fits)) t

takes-address : (t : TypeId) (n : ℕ) → admits (multiple_of DIMM_ALIGN) (val.Uint n) ≡ true → Takes t (codes "addr") (val.Uint n)
unfolding types
takes-address = each (λ (t : TypeId). (n : ℕ) → admits (multiple_of DIMM_ALIGN) (val.Uint n) ≡ true → Takes t (codes "addr") (val.Uint n)) (search rules)

-- the range of a DIMM

admits-fitting : (ranges : List Range) (size at : ℕ) → fits_at ranges size DIMM_ALIGN at ≡ true → admits (multiple_of DIMM_ALIGN) (val.Uint at) ≡ true
admits-fitting ranges size at e =
    let one = and_parts ((at % DIMM_ALIGN == 0) && is_in_window (range_at at size)) (not (overlaps_any (range_at at size) ranges)) e in
    let two = and_parts (at % DIMM_ALIGN == 0) (is_in_window (range_at at size)) one.0 in
    let three = and_parts (nat_le window_start at) (nat_le (at + size) window_end) two.1 in
    let within : at + size ≤ window_end = grind (arith, nat_tests, three.1) in
    let low : nat_le 0 at ≡ true = grind (arith, nat_tests) in
    let high : nat_le at (2 ^ 64 - 1) ≡ true = grind (arith, nat_tests, within) in
    rw (low, high, two.0) refl

address-kind : (p : Property) → property_named MemDimm (codes "addr") ≡ Some p → p.role ≡ row.Plain (multiple_of DIMM_ALIGN) first.Nothing
unfolding types
address-kind p e = sym (ap (λ (x : Property). x.role) (same_Some _ p e))

address-fits : (b : Board) (v : Val) (n : ℕ) → number_in v ≡ Some n → misfit b (row.Plain (multiple_of DIMM_ALIGN) first.Nothing) v ≡ None
    → admits (multiple_of DIMM_ALIGN) (val.Uint n) ≡ true
address-fits b (val.Uint m) n num e =
    subst (λ (k : ℕ). admits (multiple_of DIMM_ALIGN) (val.Uint k) ≡ true) (same_Some m n num) (go (admits (multiple_of DIMM_ALIGN) (val.Uint m)) refl)
  where
    go : (t : Bool) → admits (multiple_of DIMM_ALIGN) (val.Uint m) ≡ t → admits (multiple_of DIMM_ALIGN) (val.Uint m) ≡ true
    go true p = p
    go false p = absurd (let clash : Some E19 ≡ None = rw p at e in cc)
address-fits b val.Nothing n num e = cc
address-fits b (val.Bool v) n num e = cc
address-fits b (val.Int v) n num e = cc
address-fits b (val.Text v) n num e = cc

-- an address that is given
address-given : (b : Board) (props : List Given) (n : ℕ) → refusal_of b MemDimm props ≡ None → number_for props (codes "addr") ≡ Some n
    → admits (multiple_of DIMM_ALIGN) (val.Uint n) ≡ true
address-given b props n none e = go (find (λ (p : Given). bytes_eq p.0 (codes "addr")) props) refl
  where
    go : (o : Option Given) → find (λ (p : Given). bytes_eq p.0 (codes "addr")) props ≡ o → admits (multiple_of DIMM_ALIGN) (val.Uint n) ≡ true
    go None q = absurd (let clash : None ≡ Some n = rw q at e in cc)
    go (Some g) q =
        let (named, taken) = found-given b MemDimm (codes "addr") props g q none in
        let num : number_in g.1 ≡ Some n =
        sym (ap (λ (o : Option Given). option_and_then number_in (option_map (λ (p : Given). p.1) o)) q) ∙ e in
        by g named taken num (property_named MemDimm (codes "addr")) refl
      where
        by : (g : Given) → bytes_eq g.0 (codes "addr") ≡ true → refusal_by b (property_named MemDimm g.0) g.1 ≡ None → number_in g.1 ≡ Some n
            → (o : Option Property) → property_named MemDimm (codes "addr") ≡ o → admits (multiple_of DIMM_ALIGN) (val.Uint n) ≡ true
        by g named taken num None r =
            let its : property_named MemDimm g.0 ≡ None = ap (property_named MemDimm) ((bytes_eq-Decides g.0 (codes "addr")).0 named) ∙ r in
            absurd (let clash : Some E17 ≡ None = sym (ap (λ (o : Option Property). refusal_by b o g.1) its) ∙ taken in cc)
        by g named taken num (Some p) r =
            let its : property_named MemDimm g.0 ≡ Some p = ap (property_named MemDimm) ((bytes_eq-Decides g.0 (codes "addr")).0 named) ∙ r in
            let fits : misfit b p.role g.1 ≡ None = fits-by b p g.1 (sym (ap (λ (o : Option Property). refusal_by b o g.1) its) ∙ taken) in
            address-fits b g.1 n num (sym (ap (λ (k : PropertyRole). misfit b k g.1) (address-kind p r)) ∙ fits)

range-fits : (b : Board) (o : Option ℕ) (size : ℕ) (r : Range) → ((n : ℕ) → o ≡ Some n → admits (multiple_of DIMM_ALIGN) (val.Uint n) ≡ true)
    → ok_in (range_for b o size) ≡ Some r → admits (multiple_of DIMM_ALIGN) (val.Uint r.at) ≡ true
range-fits b (Some at) size r given e = go (is_in_window (range_at at size) && not (overlaps_any (range_at at size) (ranges_of b))) refl
  where
    go : (t : Bool) → (is_in_window (range_at at size) && not (overlaps_any (range_at at size) (ranges_of b))) ≡ t
        → admits (multiple_of DIMM_ALIGN) (val.Uint r.at) ≡ true
    go true p =
        let is : range_at at size ≡ r = same_Some (range_at at size) r (rw (range_for, p) at e) in
        subst (λ (k : ℕ). admits (multiple_of DIMM_ALIGN) (val.Uint k) ≡ true) (ap (λ (x : Range). x.at) is) (given at refl)
    go false p = absurd (let clash : None ≡ Some r = rw (range_for, p) at e in cc)
range-fits b None size r given e = go (free_address (ranges_of b) size DIMM_ALIGN) refl
  where
    go : (o : Option ℕ) → free_address (ranges_of b) size DIMM_ALIGN ≡ o → admits (multiple_of DIMM_ALIGN) (val.Uint r.at) ≡ true
    go None p = absurd (let clash : None ≡ Some r = rw (range_for, p) at e in cc)
    go (Some at) p =
        let is : range_at at size ≡ r = same_Some (range_at at size) r (rw (range_for, p) at e) in
        subst (λ (k : ℕ). admits (multiple_of DIMM_ALIGN) (val.Uint k) ≡ true) (ap (λ (x : Range). x.at) is)
        (admits-fitting (ranges_of b) size at (least-passes (fits_at (ranges_of b) size DIMM_ALIGN) window_start window_size at p))

-- only a DIMM has one
range-dimm : (b : Board) (t : TypeId) (props : List Given) (r : Range) → range_of b t props ≡ Some r → t ≡ MemDimm
range-dimm b t props r = each (λ (k : TypeId). range_of b k props ≡ Some r → k ≡ MemDimm) (search rules) t

range-address : (b : Board) (t : TypeId) (props : List Given) (r : Range) → refusal_of b t props ≡ None → range_of b t props ≡ Some r
    → admits (multiple_of DIMM_ALIGN) (val.Uint r.at) ≡ true
range-address b t props r none e =
    dimm-address (subst (λ (k : TypeId). refusal_of b k props ≡ None) (range-dimm b t props r e) none)
    (subst (λ (k : TypeId). range_of b k props ≡ Some r) (range-dimm b t props r e) e)
  where
    dimm-address : refusal_of b MemDimm props ≡ None → range_of b MemDimm props ≡ Some r → admits (multiple_of DIMM_ALIGN) (val.Uint r.at) ≡ true
    dimm-address taken q = go (target_for b MemoryBackend props (codes "memdev")) refl
      where
        go : (o : Option ℕ) → target_for b MemoryBackend props (codes "memdev") ≡ o → admits (multiple_of DIMM_ALIGN) (val.Uint r.at) ≡ true
        go None p = absurd (let clash : None ≡ Some r = rw p at q in cc)
        go (Some m) p =
            range-fits b (number_for props (codes "addr")) (size_of b m) r (λ n. address-given b props n taken)
            (sym (ap (option_and_then (λ m. ok_in (range_for b (number_for props (codes "addr")) (size_of b m)))) p) ∙ q)

module _ (kinds : ℕ → Option TypeId) (new : ℕ) where
  abbrev H : Board → Type 0
  H c = AllOf (Placed kinds new) c

  placed-edit : (n : ℕ) (change : Record → Record) → ((r : Record) → (change r).birth ≡ r.birth) → ((r : Record) → (change r).kind ≡ r.kind)
      → LeavesRows change → (c : Board)
      → ((r : Record) → record_of c n ≡ Some r → r.birth ≡ n → Placed kinds new r → Good (change r)) → H c → H (edit n change c)
  placed-edit n change birth same leaves c keeps h =
      all-edit (Placed kinds new) n change birth c
      (λ r e own k.
      record {
        good = keeps r e own k;
        kind = ap kinds (birth r) ∙ k.kind ∙ ap Some (sym (same r));
        each = λ its. subst (λ (t : TypeId). HasRows t (change r).slots) (sym (same r)) (leaves r (k.each (sym (birth r) ∙ its)));
      }) h

  -- the type of an object
  placed-kind : (n : ℕ) (t : TypeId) → kinds n ≡ Some t → (r : Record) → r.birth ≡ n → Placed kinds new r → r.kind ≡ t
  placed-kind n t e r own h = same_Some r.kind t (sym h.kind ∙ ap kinds own ∙ e)

  placed-set : KeepsSet H
  placed-set =
      all-set (Placed kinds new) (λ r k. k.good)
      (λ v i r good k. record { good = good; kind = k.kind; each = λ own. rows-changed (with_val v) i r (k.each own) })

  placed-link : (n : ℕ) (name : List ℕ) (m : ℕ) (c : Board) → H c → H (link_named n name m c)
  placed-link n name m c h =
      link-by H n name c h m
      (λ i e.
      placed-edit n (with_changed (fitted c m) i) (λ r. refl) (λ r. refl) (rows-changed (fitted c m) i) c
      (λ r q own k. good-changed (fitted c m) (mild-fitted c m) i r (λ p s row at is. rows-fitted c m p.role s.1 is.fits) k.good) h)

  -- a further slot more
  placed-add : (n : ℕ) (name : List ℕ) (s : Slot) → ((r : Record) → r.birth ≡ n → Placed kinds new r
      → (is_first r.birth ≡ false) × IsFurther r.kind (name, s)) → (c : Board)
      → H c → H (add n name s c)
  unfolding add
  placed-add n name s more c h =
      placed-edit n (with_added name s) (λ r. refl) (λ r. refl) (λ r k. rows-added r.kind r.slots (name, s) k) c
      (λ r e own k. good-added name s r (more r own k).0 (more r own k).1 k.good) h

  placed-acts : KeepsActs (λ m. ⊤) H
  unfolding acted
  placed-acts act n period unbound on c h =
      placed-edit n (with_act_on act c.now period) (λ r. refl) (λ r. refl) (λ r k. k) c (λ r e own k. good-act act c.now period r k.good) h

  placed-told : (n : ℕ) (c : Board) → H c → H (notified_plug n c)
  placed-told n c h =
      placed-edit n (with_path (canonical c n)) (λ r. refl) (λ r. refl) (λ r k. k) c
      (λ r e own k. record { shaped = record { slots = k.good.shaped.slots; registers = k.good.shaped.registers }; kind = k.good.kind; fixed = k.good.fixed }) h

  -- a device n of type t that goes to a bus with its resources
  module _ (b : Board) (n : ℕ) (t : TypeId) (a : Wanted) (bus : ℕ) (its : kinds n ≡ Some t) (late : 8 < n)
      (home : (k : TypeId) → kinds bus ≡ Some k → (k ≡ SlotBus) ⊎ (k ≡ MemBus)) (low : (resources_of b t bus a.props).slot < 8)
      (taken : refusal_of b t a.props ≡ None) where
    abbrev resources : Resources
    resources = resources_of b t bus a.props

    placed-container : (c : Board) → H c → H (add (parent_for a.id) (name_for b a.id) (child n) c)
    placed-container c h = placed-add (parent_for a.id) (name_for b a.id) (child n) (more a.id (name_for b a.id)) c h
      where
        at : (m : ℕ) (name : List ℕ) → is_first m ≡ false → kind_of opening_board m ≡ Some Container → (r : Record) → r.birth ≡ m → Placed kinds new r
            → (is_first r.birth ≡ false) × IsFurther r.kind (name, child n)
        at m name apart container r own k = (
          ap is_first own ∙ apart,
          subst (λ (x : TypeId). IsFurther x (name, child n)) (sym (container-kind m container r own k.good)) tt,
        )

        more : (id : Option (List ℕ)) (name : List ℕ) (r : Record) → r.birth ≡ parent_for id → Placed kinds new r
            → (is_first r.birth ≡ false) × IsFurther r.kind (name, child n)
        more None name r own k = at ANONYMOUS_BIRTH name refl container-four r own k
        more (Some id) name r own k = at PERIPHERAL_BIRTH name refl container-three r own k

    placed-kid : (slot : ℕ) → slot < BUS_SLOTS → (c : Board) → H c → H (add bus (kid_name slot) (strong Device (Some n)) c)
    placed-kid slot below c h = placed-add bus (kid_name slot) (strong Device (Some n)) more c h
      where
        kid : (k : TypeId) → (k ≡ SlotBus) ⊎ (k ≡ MemBus) → (is_a k (codes "bus") ≡ true) × IsFurther k (kid_name slot, strong Device (Some n))
        kid k (inl e) =
            subst (λ (x : TypeId). (is_a x (codes "bus") ≡ true) × IsFurther x (kid_name slot, strong Device (Some n))) (sym e)
            (slot-bus, (refl, (slot, (below, refl))))
        kid k (inr e) =
            subst (λ (x : TypeId). (is_a x (codes "bus") ≡ true) × IsFurther x (kid_name slot, strong Device (Some n))) (sym e)
            (memory-bus, (refl, (slot, (below, refl))))

        more : (r : Record) → r.birth ≡ bus → Placed kinds new r → (is_first r.birth ≡ false) × IsFurther r.kind (kid_name slot, strong Device (Some n))
        more r own k =
            let is = kid r.kind (home r.kind (ap kinds (sym own) ∙ k.kind)) in
            (bus-apart r k.good is.0, is.1)

    given-names : (xs : Slots) → names_in (map (slot_given b a.props) xs) ≡ names_in xs
    given-names [] = refl
    given-names (x ∷ xs) = ap (λ (ns : List (List ℕ)). x.0 ∷ ns) (given-names xs)

    placed-given : (c : Board) → H c → H (edit n (with_given b a.props) c)
    placed-given c h =
        placed-edit n (with_given b a.props) (λ r. refl) (λ r. refl)
        (λ r k. rows-same r.kind r.slots (map (slot_given b a.props) r.slots) (given-names r.slots) k) c
        (λ r e own k.
        good-slots r (map (slot_given b a.props) r.slots) k.good
        (given-has b r.kind a.props (subst (λ (x : TypeId). refusal_of b x a.props ≡ None) (sym (placed-kind n t its r own k)) taken) k.good.shaped.slots)
        (λ first. absurd (let clash : true ≡ false = sym first ∙ ap is_first own ∙ late-first n late in cc))) h

    placed-address : (range : Option Range) → range_of b t a.props ≡ range → (c : Board) → H c → H (addressed_at n range c)
    placed-address None e c h = h
    placed-address (Some r) e c h =
        placed-set n (codes "addr") (val.Uint r.at) (λ k. takes-address k r.at (range-address b t a.props r taken e)) c h

    placed-body : (range : Option Range) → range_of b t a.props ≡ range → (c : Board) → H c → H (edit n (with_body_of a.id range) c)
    placed-body range e c h = placed-edit n (with_body_of a.id range) (λ r. refl) (λ r. refl) (λ r k. k) c (λ r q own k. body range e r own k) h
      where
        like : (range : Option Range) → range_of b t a.props ≡ range → (r : Record) → r.kind ≡ t → is_like r.registers (fresh_registers r.kind) ≡ true
            → is_like (registers_on range r.registers) (fresh_registers r.kind) ≡ true
        like None q r kind is = is
        like (Some x) q r kind is =
            subst (λ (k : TypeId). is_like (registers_on (Some x) r.registers) (fresh_registers k) ≡ true) (sym (kind ∙ range-dimm b t a.props x q)) refl

        body : (range : Option Range) → range_of b t a.props ≡ range → (r : Record) → r.birth ≡ n → Placed kinds new r → Good (with_body_of a.id range r)
        body range q r own k =
            record {
              shaped = record { slots = k.good.shaped.slots; registers = like range q r (placed-kind n t its r own k) k.good.shaped.registers };
              kind = k.good.kind;
              fixed = k.good.fixed;
            }

    placed-stood : (c : Board) → H c → H (stood b n a (resources_of b t bus a.props) c)
    placed-stood c h =
        stand-by H b n a resources
        (record {
          named = placed-container;
          on_bus = placed-kid resources.slot low;
          given = placed-given;
          placed = placed-set n (codes "slot") (val.Uint resources.slot) (λ k. takes-slot k resources.slot low);
          linked = placed-link n (codes "parent_bus") resources.bus;
          marked = placed-set n (codes "realized") (val.Bool true) (λ k. takes-realized k true);
          addressed = placed-address resources.range refl;
          bodied = placed-body resources.range refl;
        }) c h

  placed-source : (source : ℕ) (o : Option ℕ) (c : Board) → H c → H (with_source source o c)
  placed-source source None c h = h
  placed-source source (Some x) c h = placed-link x (codes "source") source c h

  placed-counted : (id : Option (List ℕ)) (c : Board) → H c → H (counted id c)
  placed-counted None c h = h
  placed-counted (Some id) c h = h

-- the whole
module _ (b : Board) (t : TypeId) (bus : ℕ) (a : Wanted) (devices : SoundDevices b) (k : Accepted b t bus a) (shape : SoundShape b) where
  n : ℕ
  n = b.born + 1

  abbrev its_resources : Resources
  its_resources = resources_of b t bus a.props

  abbrev kinds : ℕ → Option TypeId
  kinds = kind_of (drafted b t)

  rest : PinsRootAlone b
  rest = rest-from_sound b devices.tree

  begun : 8 ≤ b.born
  begun = begun-devices b devices

  goal : Goal devices.places.0 b (b.born + 1) bus (resources_of b t bus a.props).slot a.id t (drafted b t)
  goal = goal-of devices.places.0 b t bus a rest devices.places.1 k

  made : Made b (b.born + 1) t (drafted b t)
  made = drafted-made b t (shut-above b.born begun) rest.used goal.device

  home : (x : TypeId) → kind_of (drafted b t) bus ≡ Some x → (x ≡ SlotBus) ⊎ (x ≡ MemBus)
  home x e =
      let there : is_live b bus ≡ true = of-live b (bus_type t) bus goal.fits in
      let was : kind_of b bus ≡ Some x = sym (ap (option_map (λ (y : Record). y.kind)) (made.old bus there)) ∙ e in
      home-kind x t (sym (ap (λ (o : Option TypeId). option_map_or (λ (y : TypeId). is_a y (bus_type t)) o false) was) ∙ goal.fits)

  none : (o : Option Record) → is_some o ≡ false → o ≡ None
  none None e = refl
  none (Some r) e = absurd (let clash : true ≡ false = e in cc)

  absent : record_of b (b.born + 1) ≡ None
  absent = none (record_of b (b.born + 1)) (high-absent b rest.used.firm (b.born + 1) (omega arith))

  begin : AllOf (Placed (kind_of (drafted b t)) (b.born + 1)) (drafted b t)
  begin x r e =
      record {
        good = drafted-good b t begun absent (good-all b shape) x r e;
        kind = ap (kind_of (drafted b t)) (found-birth x (drafted b t).records r e) ∙ ap (option_map (λ (y : Record). y.kind)) e;
        each = λ own. drafted-rows b t begun absent (good-all b shape) x r e own;
      }

  placed : AllOf (Placed (kind_of (drafted b t)) (b.born + 1)) (with_plugged b t a (resources_of b t bus a.props))
  placed =
      let m : ℕ = b.born + 1 in
      let run : Board = acted_all Realize (m ∷ bus_births m t) (with_device b t a its_resources) in
      placed-told kinds m m (plugged run m)
      (step-plugged (λ x. ⊤) (H kinds m) (placed-acts kinds m) m run (all-any (post run m))
      (step-acted_all (λ x. ⊤) (H kinds m) (placed-acts kinds m) Realize refl (m ∷ bus_births m t) (all-any (m ∷ bus_births m t))
      (with_device b t a its_resources)
      (placed-counted kinds m a.id (clocked (source_for b its_resources.bus) m (stood b m a its_resources (drafted b t)))
      (placed-source kinds m (source_for b its_resources.bus) (clock_of (stood b m a its_resources (drafted b t)) m) (stood b m a its_resources (drafted b t))
      (placed-stood kinds m b m t a bus made.kind (omega (arith, begun)) home goal.low (passes b t bus a k).properties (drafted b t) begin)))))

  with_plugged-good : AllOf Good (with_plugged b t a (resources_of b t bus a.props))
  with_plugged-good x r e = (placed x r e).good

  -- who stands in a container: who did before, or the new device

  joined-so : Joined devices.places.0 b (b.born + 1) bus (resources_of b t bus a.props).slot a.id t (done b bus (resources_of b t bus a.props).slot a.id)
      (with_plugged b t a (resources_of b t bus a.props))
  joined-so = accepted-joined devices.places.0 b a rest devices.places.1 t bus k

  stood-or-new : (d : ℕ) → stands (with_plugged b t a (resources_of b t bus a.props)) d ≡ true → (stands b d ≡ true) ⊎ (d ≡ b.born + 1)
  stood-or-new d e =
      by-stand devices.places.0 b (b.born + 1) bus (resources_of b t bus a.props).slot a.id t (with_plugged b t a (resources_of b t bus a.props)) joined-so
      rest.used.firm devices.places.1 d e {A = (stands b d ≡ true) ⊎ (d ≡ b.born + 1)} (λ k. inl k) (λ is. inr is)

  stays-so : (x : ℕ) → stands (with_plugged b t a (resources_of b t bus a.props)) x ≡ true
      → Stood b (with_plugged b t a (resources_of b t bus a.props)) x
      ⊎ ((y : TypeId) → kind_of (with_plugged b t a (resources_of b t bus a.props)) x ≡ Some y
      → HasEach (with_plugged b t a (resources_of b t bus a.props)) x y)
  stays-so x e = by (stood-or-new x e)
    where
      c : Board
      c = with_plugged b t a (resources_of b t bus a.props)

      by : (stands b x ≡ true) ⊎ (x ≡ b.born + 1) → Stood b c x ⊎ ((y : TypeId) → kind_of c x ≡ Some y → HasEach c x y)
      by (inl was) =
          let live : is_live b x ≡ true = stands-live b rest.used.firm x was in
          let apart : among (PERIPHERAL_BIRTH ∷ ANONYMOUS_BIRTH ∷ []) x ≡ false =
          aside-apart b (PERIPHERAL_BIRTH ∷ ANONYMOUS_BIRTH ∷ []) (devices.places.1.aside.1.1.0, (devices.places.1.aside.1.1.1.0, tt)) x was in
          inl (was, (kind-alike b c x (joined-so.body x live), joined-so.children x live apart))
      by (inr new) =
          inr
          (λ y q. go (record_of c x) refl y q)
        where
          go : (o : Option Record) → record_of c x ≡ o → (y : TypeId) → kind_of c x ≡ Some y → HasEach c x y
          go None f y q = absurd (let clash : None ≡ Some y = sym (ap (option_map (λ (r : Record). r.kind)) f) ∙ q in cc)
          go (Some r) f y q =
              let kind : r.kind ≡ y = same_Some r.kind y (sym (ap (option_map (λ (z : Record). z.kind)) f) ∙ q) in
              let own : r.birth ≡ b.born + 1 = found-birth x c.records r f ∙ new in
              subst (HasRows y) (sym (ap (λ (o : Option Record). option_map_or (λ (z : Record). z.slots) o []) f))
              (subst (λ (z : TypeId). HasRows z r.slots) kind ((placed x r f).each own))

  with_plugged-whole : Whole (with_plugged b t a (resources_of b t bus a.props))
  with_plugged-whole =
      whole-stays b (with_plugged b t a (resources_of b t bus a.props)) (good-all b shape) with_plugged-good stays-so
      (λ x e. stands-device devices.places.0 None (λ y. false) b devices.places.1 x e) shape.whole

pub plug-shape : (b : Board) (a : Wanted) → SoundDevices b → SoundShape b → SoundShape (plug b a).board
plug-shape b a devices h =
    let all : AllOf Good (plug b a).board × (Whole (plug b a).board × Typed (plug b a).board) =
    after-plug (λ (c : Board). AllOf Good c × (Whole c × Typed c)) b a (good-all b h, (h.whole, h.children))
    (λ t bus stage. (good-all b h, (h.whole, h.children)))
    (λ t bus k. (
      with_plugged-good b t bus a devices k h,
      (with_plugged-whole b t bus a devices k h, plugged-typed b t bus a devices k h),
    )) in
    shape-all (plug b a).board (live-devices (plug b a).board (devices_kept_lem.plugged b a devices)) all.1.0 all.1.1 all.0
