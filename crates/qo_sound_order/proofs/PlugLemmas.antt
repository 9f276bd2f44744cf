-- A device that is added, taken or refused at any stage, keeps objects in order: it is the youngest in its container and on its bus, and its name is an id.
use Rattle.std.proofs.Common.{◌≡◌, refl, ap, sym, subst, ◌∙◌, append-nil, ℕ, ◌+◌, ◌<◌, ◌≤◌, ◌==◌, Bool, true, false, not, eqb, List, [], ◌∷◌, ◌++◌, codes, Option, Some, None, is_some, ◌⊎◌, inl, inr, arith}
use Rattle.qo_model.proofs.Common.{if◌then◌else◌, AllByRecursion, is_id, ANONYMOUS_BIRTH, MACHINE_BIRTH, OBJECTS_BIRTH, PERIPHERAL_BIRTH, E23, E24, TypeId, Board, Record, is_live, record_of, kind_of, among, anonymous_name, device_named, kid_name, is_of, Wanted, id_refused, plug, plug_attempt, resources_of, with_plugged}
use Rattle.std.proofs.lemmas.Bool.{cases_lt, eqb-true, not-false}
use Rattle.qo_model.proofs.FinalNotesLemmas.{kind-live}
use Rattle.qo_sound.proofs.AddLemmas.{unbarred}
use Rattle.qo_sound.proofs.RecordLemmas.{all-append}
use Rattle.qo_sound.proofs.TestLemmas.{decide}
use Rattle.qo_sound.proofs.ViewLemmas.{PinsRootAlone, rest-from_sound}
use Rattle.qo_sound_devices.specs.SoundDevices.{SoundDevices}
use Rattle.qo_sound_devices.specs.SoundPlaces.{child_entries, kid_entries}
use Rattle.qo_sound_devices.proofs.AcceptanceLemmas.{passes}
use Rattle.qo_sound_devices.proofs.AdditionLemmas.{Joined, done, named_entry, numbered_entry}
use Rattle.qo_sound_devices.proofs.PlacesLemmas.{child-live, of-alike}
use Rattle.qo_sound_devices.proofs.PlugLemmas.{Accepted, after-plug}
use Rattle.qo_sound_devices.proofs.PlugStageLemmas.{accepted-joined}
use Rattle.qo_steps.proofs.GainsLemmas.{gains_lem}
use Rattle.qo_sound_order.specs.SoundOrder.{HasId}
use Rattle.qo_sound_order.proofs.EntryLemmas.{Ascends, ascends-more}
use Rattle.qo_sound_order.proofs.OrderedLemmas.{InOrder, OrderedAt, each-ordered, named_by_ids, ordered-each}
use Rattle.qo_sound_order.proofs.UserObjectLemmas.{children-low, kids-low, there-low}
use Rattle.qo_sound_order.proofs.YoungLemmas.{plug-young}

-- what is not refused has an id
accepted-id : (b : Board) (id : List ℕ) → id_refused b (Some id) ≡ None → is_id id ≡ true
accepted-id b id e = not-false (is_id id) (unbarred (not (is_id id)) E23 (if device_named b id then Some E24 else None) e).0

module _ (b : Board) (a : Wanted) (devices : SoundDevices b) where
  rest : PinsRootAlone b
  rest = rest-from_sound b devices.tree

  module _ (t : TypeId) (bus : ℕ) (k : Accepted b t bus a) (h : (x : ℕ) → OrderedAt b x) where
    abbrev n : ℕ
    n = b.born + 1

    abbrev c : Board
    c = with_plugged b t a (resources_of b t bus a.props)

    abbrev slot : ℕ
    slot = (resources_of b t bus a.props).slot

    joined : Joined devices.places.0 b (b.born + 1) bus (resources_of b t bus a.props).slot a.id t
        (done b bus (resources_of b t bus a.props).slot a.id) (with_plugged b t a (resources_of b t bus a.props))
    joined = accepted-joined devices.places.0 b a rest devices.places.1 t bus k

    -- the containers
    small : (x : ℕ) → x ≤ 4 → x < b.born + 1
    small x le = let begun : 8 ≤ b.born = rest.used.firm.begun in omega (arith, le, begun)

    in-peripheral : (id : Option (List ℕ)) → Ascends PERIPHERAL_BIRTH (child_entries b PERIPHERAL_BIRTH ++ named_entry id (b.born + 1))
    in-peripheral None = rw (append-nil (child_entries b PERIPHERAL_BIRTH)) (h PERIPHERAL_BIRTH).children
    in-peripheral (Some id) =
        ascends-more PERIPHERAL_BIRTH (b.born + 1) id (child_entries b PERIPHERAL_BIRTH) (small PERIPHERAL_BIRTH (omega arith))
        (children-low b rest.used.firm PERIPHERAL_BIRTH) (h PERIPHERAL_BIRTH).children

    in-anonymous : (id : Option (List ℕ)) → Ascends ANONYMOUS_BIRTH (child_entries b ANONYMOUS_BIRTH ++ numbered_entry b id (b.born + 1))
    in-anonymous (Some id) = rw (append-nil (child_entries b ANONYMOUS_BIRTH)) (h ANONYMOUS_BIRTH).children
    in-anonymous None =
        ascends-more ANONYMOUS_BIRTH (b.born + 1) (anonymous_name b.anonymous) (child_entries b ANONYMOUS_BIRTH) (small ANONYMOUS_BIRTH (omega arith))
        (children-low b rest.used.firm ANONYMOUS_BIRTH) (h ANONYMOUS_BIRTH).children

    named : (id : Option (List ℕ)) → id_refused b id ≡ None → AllByRecursion HasId (child_entries b PERIPHERAL_BIRTH ++ named_entry id (b.born + 1))
    named None e = rw (append-nil (child_entries b PERIPHERAL_BIRTH)) ((h PERIPHERAL_BIRTH).ids refl)
    named (Some id) e =
        all-append HasId (child_entries b PERIPHERAL_BIRTH) ((id, b.born + 1) ∷ []) ((h PERIPHERAL_BIRTH).ids refl) (accepted-id b id e, tt)

    -- what was there
    old-children : (x : ℕ) → is_live b x ≡ true → Ascends x (child_entries (with_plugged b t a (resources_of b t bus a.props)) x)
    old-children x there = go (eqb x PERIPHERAL_BIRTH) refl (eqb x ANONYMOUS_BIRTH) refl
      where
        go : (u : Bool) → eqb x PERIPHERAL_BIRTH ≡ u → (v : Bool) → eqb x ANONYMOUS_BIRTH ≡ v
            → Ascends x (child_entries (with_plugged b t a (resources_of b t bus a.props)) x)
        go true p v q =
            subst (λ (m : ℕ). Ascends m (child_entries c m)) (sym (eqb-true x PERIPHERAL_BIRTH p))
            (subst (Ascends PERIPHERAL_BIRTH) (sym joined.third) (in-peripheral a.id))
        go false p true q =
            subst (λ (m : ℕ). Ascends m (child_entries c m)) (sym (eqb-true x ANONYMOUS_BIRTH q))
            (subst (Ascends ANONYMOUS_BIRTH) (sym joined.fourth) (in-anonymous a.id))
        go false p false q = subst (Ascends x) (sym (joined.children x there (rw (p, q) refl))) (h x).children

    old-kids : (x : ℕ) → is_live b x ≡ true → is_of b (codes "bus") x ≡ true
        → Ascends x (kid_entries (with_plugged b t a (resources_of b t bus a.props)) x)
    old-kids x there is =
        decide (x == bus) {A = Ascends x (kid_entries c x)} (λ p. on (eqb-true x bus p))
        (λ p. subst (Ascends x) (sym (joined.kids_same x there p)) ((h x).kids is))
      where
        on : x ≡ bus → Ascends x (kid_entries (with_plugged b t a (resources_of b t bus a.props)) x)
        on p =
            let here : is_of b (codes "bus") bus ≡ true = subst (λ (m : ℕ). is_of b (codes "bus") m ≡ true) p is in
            let live : is_live b bus ≡ true = subst (λ (m : ℕ). is_live b m ≡ true) p there in
            subst (λ (m : ℕ). Ascends m (kid_entries c m)) (sym p)
            (subst (Ascends bus) (sym joined.kids_more)
            (ascends-more bus (b.born + 1) (kid_name slot) (kid_entries b bus) (there-low b rest.used.firm bus live) (kids-low b rest.used.firm bus)
            ((h bus).kids here)))

    -- the machine's containers
    live-objects : is_live b OBJECTS_BIRTH ≡ true
    live-objects = child-live b rest.used.firm 1 OBJECTS_BIRTH devices.places.1.objects

    live-peripheral : is_live b PERIPHERAL_BIRTH ≡ true
    live-peripheral = child-live b rest.used.firm MACHINE_BIRTH PERIPHERAL_BIRTH devices.places.1.parts.0

    all-ids : (x : ℕ) → among named_by_ids x ≡ true → AllByRecursion HasId (child_entries (with_plugged b t a (resources_of b t bus a.props)) x)
    all-ids x its = go (eqb x OBJECTS_BIRTH) refl (eqb x PERIPHERAL_BIRTH) refl
      where
        go : (u : Bool) → eqb x OBJECTS_BIRTH ≡ u → (v : Bool) → eqb x PERIPHERAL_BIRTH ≡ v
            → AllByRecursion HasId (child_entries (with_plugged b t a (resources_of b t bus a.props)) x)
        go true p v q =
            subst (λ (m : ℕ). AllByRecursion HasId (child_entries c m)) (sym (eqb-true x OBJECTS_BIRTH p))
            (subst (AllByRecursion HasId) (sym (joined.children OBJECTS_BIRTH live-objects refl)) ((h OBJECTS_BIRTH).ids refl))
        go false p true q =
            subst (λ (m : ℕ). AllByRecursion HasId (child_entries c m)) (sym (eqb-true x PERIPHERAL_BIRTH q))
            (subst (AllByRecursion HasId) (sym joined.third) (named a.id (passes b t bus a k).id))
        go false p false q = absurd (let clash : false ≡ true = rw (p, q) at its in cc)

    plugged-at : ((x : ℕ) → is_live b x ≡ false → Ascends x (child_entries (with_plugged b t a (resources_of b t bus a.props)) x)) → (x : ℕ)
        → OrderedAt (with_plugged b t a (resources_of b t bus a.props)) x
    plugged-at young x =
        record {
          children = decide (is_live b x) {A = Ascends x (child_entries c x)} (old-children x) (young x);
          kids = λ is.
              decide (is_live b x) {A = Ascends x (kid_entries c x)}
              (λ there. old-kids x there (sym (of-alike b c x (codes "bus") (joined.body x there)) ∙ is))
              (λ none. subst (Ascends x) (sym (joined.no_kids x none is)) (tt, tt));
          ids = all-ids x;
        }

  -- the objects of the device itself
  young-at : (x : ℕ) → is_live b x ≡ false → Ascends x (child_entries (plug b a).board x)
  young-at x none = go (record_of (plug b a).board x) refl (cases_lt b.born x)
    where
      old : x ≤ b.born → is_live (plug b a).board x ≡ true → is_live b x ≡ true
      old low there =
          let same : kind_of (plug b a).board x ≡ kind_of b x = (gains_lem.plugged b a tt).old x low there in
          sym (kind-live b x) ∙ ap is_some (sym same) ∙ kind-live (plug b a).board x ∙ there

      go : (o : Option Record) → record_of (plug b a).board x ≡ o → (b.born < x) ⊎ (x ≤ b.born) → Ascends x (child_entries (plug b a).board x)
      go None e late = rw e (tt, tt)
      go (Some r) e (inl above) = plug-young b a rest.used.firm x above
      go (Some r) e (inr low) = absurd (let clash : true ≡ false = sym (old low (ap is_some e)) ∙ none in cc)

  pub order-plugged : InOrder b → InOrder (plug b a).board
  order-plugged h =
      ordered-each (plug b a).board
      (after-plug (λ (d : Board). ((x : ℕ) → is_live b x ≡ false → Ascends x (child_entries d x)) → (x : ℕ) → OrderedAt d x) b a
      (λ young x. each-ordered b h x) (λ t bus stage young x. each-ordered (plug_attempt b t bus stage) h x)
      (λ t bus k young x. plugged-at t bus k (each-ordered b h) young x) young-at)
