-- The objects of a device that is added are the youngest, and births rise along the children of each.
use Rattle.std.proofs.Common.{◌≡◌, refl, ap, ℕ, ◌+◌, ◌<◌, ◌≤◌, List, [], ◌∷◌, ◌++◌, filter_map, Option, Some, None, arith}
use Rattle.qo_model.proofs.Common.{⊤, option_map_or, Act, TypeId, Val, Board, Record, Slot, child, record_of, slots_at, add, fresh, set, with_added, with_changed, acted, fresh_record, Resources, Wanted, parent_for, plug, resources_of, with_body_of, with_given, with_kid, with_new, with_path, with_plugged, edit}
use Rattle.qo_values.proofs.ListLemmas.{all-imply}
use Rattle.qo_model.proofs.StepLemmas.{found-birth}
use Rattle.qo_sound.proofs.DraftLemmas.{absent-above, found-low}
use Rattle.qo_sound.proofs.FirmBoardLemmas.{WellFormed}
use Rattle.qo_sound.proofs.RecordLemmas.{all-append}
use Rattle.qo_sound_devices.specs.SoundPlaces.{child_entries, child_entry}
use Rattle.qo_sound_devices.proofs.AddLemmas.{children-given, entries-added, entry-added}
use Rattle.qo_sound_devices.proofs.UnrealizingLemmas.{entries-changed, mild-val}
use Rattle.qo_steps.proofs.AdditionLemmas.{plug-comes}
use Rattle.qo_steps.proofs.PlugStepsLemmas.{DraftSteps, PlaceSteps, StartSteps, plug-by}
use Rattle.qo_steps.proofs.ReachLemmas.{reach-any}
use Rattle.qo_sound_shapes.proofs.BoardLemmas.{AllOf, all-becomes, all-edit, all-new}
use Rattle.qo_sound_order.proofs.EntryLemmas.{Ascends, Below, ascends-more, child-fitted}
use Rattle.qo_sound_order.proofs.ObjectLemmas.{all-acted}
use Rattle.qo_sound_order.proofs.UserObjectLemmas.{fresh-childless}

-- an object of a birth from n on, where so many births are given
record Young (n born : ℕ) (r : Record) : Type 0 where
  ascends : n ≤ r.birth → Ascends r.birth (filter_map child_entry r.slots)
  low : n ≤ r.birth → Below (born + 1) (filter_map child_entry r.slots)

young-slots : (n born : ℕ) (r : Record) (slots : List (List ℕ × Slot)) → filter_map child_entry slots ≡ filter_map child_entry r.slots → Young n born r
    → Young n born (record r { slots = slots })
young-slots n born r slots same h = record { ascends = λ le. rw same (h.ascends le); low = λ le. rw same (h.low le) }

young-bare : (n born : ℕ) (r : Record) → filter_map child_entry r.slots ≡ [] → Young n born r
young-bare n born r none = record { ascends = λ le. rw none (tt, tt); low = λ le. rw none tt }

young-later : (n born : ℕ) (r : Record) → Young n born r → Young n (born + 1) r
young-later n born r h =
    record {
      ascends = h.ascends;
      low = λ le.
          all-imply (λ (e : List ℕ × ℕ). e.1 < born + 1) (λ (e : List ℕ × ℕ). e.1 < born + 1 + 1) (λ e less. omega (arith, less))
          (filter_map child_entry r.slots) (h.low le);
    }

-- a board as the device n is made
record Growing (n : ℕ) (c : Board) : Type 0 where
  born : n ≤ c.born
  each : AllOf (Young n c.born) c

growing-slots : (n x : ℕ) (change : Record → List (List ℕ × Slot))
    → ((r : Record) → filter_map child_entry (change r) ≡ filter_map child_entry r.slots) → (c : Board) → Growing n c
    → Growing n (edit x (λ (r : Record). record r { slots = change r }) c)
growing-slots n x change same c h =
    record {
      born = h.born;
      each = all-edit (Young n c.born) x (λ (r : Record). record r { slots = change r }) (λ r. refl) c
          (λ r e own k. young-slots n c.born r (change r) (same r) k) h.each;
    }

growing-changed : (n x i : ℕ) (g : Slot → Slot) → ((s : List ℕ × Slot) → child_entry (s.0, g s.1) ≡ child_entry s) → (c : Board) → Growing n c
    → Growing n (edit x (with_changed g i) c)
growing-changed n x i g same c h =
    growing-slots n x (λ (r : Record). (with_changed g i r).slots) (λ r. entries-changed child_entry g same i r.slots) c h

growing-set : (n x i : ℕ) (v : Val) (c : Board) → Growing n c → Growing n (set x i v c)
unfolding set
growing-set n x i v c h = growing-changed n x i _ (mild-val v).children c h

growing-add : (n x : ℕ) (name : List ℕ) (s : Slot) → child_entry (name, s) ≡ None → (c : Board) → Growing n c → Growing n (add x name s c)
unfolding add
growing-add n x name s none c h =
    growing-slots n x (λ (r : Record). r.slots ++ (name, s) ∷ []) (λ r. entries-added child_entry (name, s) none r.slots) c h

growing-acted : (act : Act) (n x period : ℕ) (c : Board) → Growing n c → Growing n (acted act x period c)
unfolding acted
growing-acted act n x period c h =
    record {
      born = h.born;
      each = all-acted (Young n c.born) (λ registers r k. record { ascends = k.ascends; low = k.low }) act x period c h.each;
    }

-- a further object is made and joined to it
growing-kid : (n : ℕ) (name : List ℕ) (k : TypeId) (c : Board) → Growing n c → Growing n (with_kid n name k c)
unfolding add
growing-kid n name k c h =
    let new : Record = fresh_record (c.born + 1) k in
    let made : AllOf (Young n c.born) (with_new new c) =
    all-new (Young n c.born) new c (with_new new c) refl (young-bare n c.born new (fresh-childless k)) h.each in
    let few : n ≤ c.born = h.born in
    record {
      born = omega (arith, few);
      each =
          all-becomes (Young n c.born) (Young n (c.born + 1)) n (with_added name (child (c.born + 1))) (λ r. refl) (with_new new c)
          (λ r e own y. joined r own y) (λ r apart y. young-later n c.born r y) made;
    }
  where
    joined : (r : Record) → r.birth ≡ n → Young n c.born r → Young n (c.born + 1) (with_added name (child (c.born + 1)) r)
    joined r own y =
        let few : n ≤ c.born = h.born in
        let more : filter_map child_entry (r.slots ++ (name, child (c.born + 1)) ∷ []) ≡ filter_map child_entry r.slots ++ (name, c.born + 1) ∷ [] =
        entry-added child_entry (name, child (c.born + 1)) (name, c.born + 1) refl r.slots in
        let later : Young n (c.born + 1) r = young-later n c.born r y in
        record {
          ascends = λ le.
              rw more (ascends-more r.birth (c.born + 1) name (filter_map child_entry r.slots) (omega (arith, own, few)) (y.low le) (y.ascends le));
          low = λ le.
              rw more
              (all-append (λ (e : List ℕ × ℕ). e.1 < c.born + 1 + 1) (filter_map child_entry r.slots) ((name, c.born + 1) ∷ []) (later.low le)
              (omega arith, tt));
        }

-- it is in a container, which is older
parent-small : (id : Option (List ℕ)) → parent_for id ≤ 4
parent-small None = omega arith
parent-small (Some id) = omega arith

growing-parent : (n : ℕ) (id : Option (List ℕ)) (name : List ℕ) (m : ℕ) → 8 < n → (c : Board) → Growing n c → Growing n (add (parent_for id) name (child m) c)
unfolding add
growing-parent n id name m late c h =
    record {
      born = h.born;
      each =
          all-edit (Young n c.born) (parent_for id) (with_added name (child m)) (λ r. refl) c
          (λ r e own y. record { ascends = λ le. absurd (never r own le); low = λ le. absurd (never r own le) }) h.each;
    }
  where
    never : (r : Record) → r.birth ≡ parent_for id → n ≤ r.birth → ⊥
    never r own le = let small : parent_for id ≤ 4 = parent-small id in omega (arith, own, le, small, late)

module _ (b : Board) (a : Wanted) (firm : WellFormed b) where
  abbrev n : ℕ
  n = b.born + 1

  late : 8 < b.born + 1
  late = let begun : 8 ≤ b.born = firm.begun in omega (arith, begun)

  begins : (t : TypeId) → Growing (b.born + 1) (with_new (fresh (b.born + 1) t) b)
  begins t =
      record {
        born = omega arith;
        each =
            all-new (Young (b.born + 1) (b.born + 1)) (fresh (b.born + 1) t) b (with_new (fresh (b.born + 1) t) b) refl
            (young-bare (b.born + 1) (b.born + 1) (fresh (b.born + 1) t) refl) old;
      }
    where
      old : AllOf (Young (b.born + 1) (b.born + 1)) b
      old x r e = record { ascends = λ le. absurd (never le); low = λ le. absurd (never le) }
        where
          never : b.born + 1 ≤ r.birth → ⊥
          never le =
              let own : r.birth ≡ x = found-birth x b.records r e in
              let small : x ≤ b.born = found-low b.born x b.records r firm.within e in
              omega (arith, own, small, le)

  drafts : (t : TypeId) → DraftSteps (Growing (b.born + 1)) (b.born + 1) t
  drafts t =
      record {
        value = λ p own type first role c h. growing-add n n _ _ refl c h;
        holds = λ p own target role c h. growing-add n n _ _ refl c h;
        sees = λ p own target role c h. growing-add n n _ _ refl c h;
        makes = λ p own k role c room h. growing-kid n _ k c h;
        passes = λ p own m property c h. growing-add n n _ _ refl c h;
      }

  places : (resources : Resources) → PlaceSteps (Growing (b.born + 1)) b (b.born + 1) a resources
  places resources =
      record {
        contained = λ c h. growing-parent n a.id _ n late c h;
        hung = λ c h. growing-add n resources.bus _ _ refl c h;
        given = λ c h. growing-slots n n (λ (r : Record). (with_given b a.props r).slots) (λ r. children-given b a.props r.slots) c h;
        slotted = λ i c at h. growing-set n n i _ c h;
        homed = λ i c at h. growing-changed n n i _ (child-fitted c resources.bus) c h;
        lit = λ i c at h. growing-set n n i _ c h;
        addressed = λ r i c e at h. growing-set n n i _ c h;
        bodied = λ c h.
            record {
              born = h.born;
              each = all-edit (Young n c.born) n (with_body_of a.id resources.range) (λ r. refl) c (λ r e own y. record { ascends = y.ascends; low = y.low })
                  h.each;
            };
        sourced = λ m i c e at h. growing-changed n m i _ (child-fitted c _) c h;
        counted = λ c e h. record { born = h.born; each = h.each };
      }

  starts : StartSteps (Growing (b.born + 1)) (λ c x. ⊤) (b.born + 1)
  starts =
      record {
        acts = λ act x period c calm on h. growing-acted act n x period c h;
        keeps_path = λ c h.
            record {
              born = h.born;
              each = all-edit (Young n c.born) n (with_path _) (λ r. refl) c (λ r e own y. record { ascends = y.ascends; low = y.low }) h.each;
            };
        announces = λ c on room h. record { born = h.born; each = h.each };
      }

  -- births after those of a board
  abbrev pub YoungAscend : Board → Type 0
  YoungAscend d = (x : ℕ) → b.born < x → Ascends x (child_entries d x)

  none-young : YoungAscend b
  none-young x above =
      let none : slots_at b x ≡ [] = ap (λ (o : Option Record). option_map_or (λ (r : Record). r.slots) o []) (absent-above b firm x above) in
      rw none (tt, tt)

  grown-young : (d : Board) → Growing (b.born + 1) d → YoungAscend d
  grown-young d h x above = go (record_of d x) refl
    where
      go : (o : Option Record) → record_of d x ≡ o → Ascends x (child_entries d x)
      go None e = rw e (tt, tt)
      go (Some r) e =
          let own : r.birth ≡ x = found-birth x d.records r e in
          let up : Ascends r.birth (filter_map child_entry r.slots) = (h.each x r e).ascends (omega (arith, own, above)) in
          rw e (rw own at up)

  pub plug-young : YoungAscend (plug b a).board
  plug-young =
      plug-comes YoungAscend b a
      (record {
        same = none-young;
        given_up = λ row bus refusal tried bars. none-young;
        added = λ row bus tried bars room free.
            let resources : Resources = resources_of b row.id bus a.props in
            grown-young (with_plugged b row.id a resources)
            (plug-by (Growing (b.born + 1)) (λ c x. ⊤) reach-any.steady b row.id a resources
            (record { begins = λ few. begins row.id; draft = drafts row.id; place = places resources }) starts room free
            (reach-any.starts b a row bus tt tried bars));
      })
