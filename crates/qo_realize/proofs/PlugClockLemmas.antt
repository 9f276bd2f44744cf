-- A device that is added leaves the clocks of the board before: their numbers, and what they go by. Its own clock is new, and goes by one that was there.
use Rattle.std.proofs.Common.{◌≡◌, ◌⊎◌, inl, inr, refl, ap, sym, subst, ◌∙◌, ℕ, ◌+◌, ◌<◌, ◌≤◌, true, false, ◌==◌, List, [], ◌∷◌, ◌++◌, Option, Some, None, is_some, option_and_then, unwrap_or, codes, arith}
use Rattle.qo_model.proofs.Common.{⊤, list_any, option_map_or, option_or, bytes_eq, PERIPHERAL_BIRTH, ANONYMOUS_BIRTH, SYSTEM_CLOCK_BIRTH, Realize, TypeId, Device, Val, Range, Board, Record, Slot, plain, child, strong, weak, alias, is_live, record_of, slots_at, add, fresh, with_added, with_changed, with_val, acted, source_of, own_period, child_named, clock_of, kid_name, plain_in, first_value, fresh_record, canonical, Resources, Wanted, acted_all, addressed_at, aliased, bus_births, clocked, counted, drafted, fitted, link_named, name_for, owned, parent_for, property_made, properties_made, plug, plug_attempt, source_for, resources_of, stood, with_body_of, with_device, with_given, with_new, with_path, with_plugged, with_source, edit, plugged, post, property_name, slots_of, set_named}
use Rattle.qo_model.specs.declared.properties.Property.{Property}
use Rattle.qo_model.specs.declared.properties.PropertyRole.{PropertyRole}
use Rattle.qo_model.specs.declared.properties.PropertyRole.TheVariants as row
use Rattle.std.proofs.lemmas.Bool.{cases_lt, eq-eqb, eqb-true}
use Rattle.std.proofs.lemmas.Option.{same_Some}
use Rattle.qo_values.specs.declared.properties.Val.TheVariants as val
use Rattle.qo_heap.specs.Board.{Shows}
use Rattle.qo_heap.specs.Objects.{Objects}
use Rattle.qo_clocks.specs.Kept.{PeriodsKept}
use Rattle.qo_model.proofs.FirstSlotLemmas.{named_in, slots_in}
use Rattle.qo_model.proofs.StepLemmas.{found_at}
use Rattle.qo_hotplug.specs.Hotplug.{Asked}
use Rattle.qo_plug.specs.Answers.{IsAdded}
use Rattle.qo_plug.specs.Drafts.{pinned_draft}
use Rattle.qo_plug.specs.KeptPeriods.{FedOrNew, FedSoFar, FedStays}
use Rattle.qo_plug.specs.Placement.{resources_in, seated}
use Rattle.qo_plug.specs.Stages.{IsSettled, StandsBy}
use Rattle.qo_plug.specs.declared.adding.Added.{Added}
use Rattle.qo_plug.specs.declared.placing.AttachedDevice.{AttachedDevice}
use Rattle.qo_plug.specs.declared.placing.Plugging.{Plugging}
use Rattle.qo_plug.specs.declared.placing.Plugging.TheVariants.{Attached}
use Rattle.qo_plug.specs.declared.standing.DevicePath.{DevicePath}
use Rattle.qo_plug.specs.declared.targets.Target.{Target}
use Rattle.qo_plug.proofs.FedLemmas.{fed-then}
use Rattle.qo_properties.specs.KeptPeriods.{PeriodsBefore}
use Rattle.qo_sound.proofs.AdditionStepsLemmas.{all-any, KeepsActs, link-by, set-by, stand-by, step-acted_all, step-plugged}
use Rattle.qo_sound.proofs.ReadLemmas.{edit-slots, plain-fitted}
use Rattle.qo_sound.proofs.SearchLemmas.{found-append}
use Rattle.qo_sound.proofs.TestLemmas.{clash, decide}
use Rattle.qo_sound.proofs.ViewLemmas.{PinsRootAlone, rest-from_sound}
use Rattle.qo_sound_bounds.specs.SoundSources.{IsDeviceClock, SoundSources}
use Rattle.qo_sound_bounds.proofs.ClockLemmas.{clock-live, clock-same, source-bridge, source-live, source-machines}
use Rattle.qo_sound_clocks.specs.SoundClocks.{SoundClocks}
use Rattle.qo_sound_clocks.proofs.DependenceLemmas.{acted-slots}
use Rattle.qo_sound_clocks.proofs.PlugLemmas.{child-in, Growing, NewSlot}
use Rattle.qo_sound_clocks.proofs.PlugStageLemmas.{growing}
use Rattle.qo_sound_clocks.proofs.ReadLemmas.{Reads, tree-reads}
use Rattle.qo_sound_clocks.proofs.SlotLemmas.{absent, number-same, own_in, plain-changed, plain_named, plain_of, SameValues, Slots}
use Rattle.qo_sound_devices.specs.SoundDevices.{SoundDevices}
use Rattle.qo_sound_devices.specs.SoundPlaces.{child_entries, HasOwner, IsHome, machines, bridges, owns_it, stands}
use Rattle.qo_sound_devices.proofs.AdditionLemmas.{by-stand, done, Joined, old-stands}
use Rattle.qo_sound_devices.proofs.PlacesLemmas.{aside-apart, high-absent, stands-live}
use Rattle.qo_sound_devices.proofs.PlugLemmas.{Accepted, after-plug}
use Rattle.qo_sound_devices.proofs.PlugStageLemmas.{accepted-joined}
use Rattle.qo_sound_devices.proofs.SourceLemmas.{edit-other}
use Rattle.qo_sound_phases.proofs.ResetTreeLemmas.{Placed, placed}
use Rattle.qo_unplug.proofs.PeriodLemmas.{SameClocks}
use Rattle.qo_unplug.proofs.ValueLemmas.{values-all, values-none, values-then}
use Rattle.qo_realize.specs.SoundBoard.{SoundBoard}
use Rattle.qo_realize.proofs.ClockChangeLemmas.{sources-linked}
use Rattle.qo_realize.proofs.GoodBoardLemmas.{added-good}
use Rattle.qo_realize.proofs.PeriodLemmas.{fed-periods, is_fed, records-clocks}

-- the values of who was there

more-plain : (other name : List ℕ) (s : Slot) → plain_in s ≡ None → (xs : Slots) → plain_of other (xs ++ (name, s) ∷ []) ≡ plain_of other xs
more-plain other name s none [] = rw none (absent (bytes_eq name other) None)
more-plain other name s none (x ∷ xs) = ap (option_or (plain_named other x)) (more-plain other name s none xs)

-- the board as a device is added to b
module _ (b : Board) where
  abbrev one : ℕ
  one = b.born + 1

  record Keeping (c : Board) : Type 0 where
    born : b.born ≤ c.born
    old : (m : ℕ) → m ≤ b.born → SameValues (slots_at b m) (slots_at c m)

  below : (x m : ℕ) → b.born < x → m ≤ b.born → (m == x) ≡ false
  below x m high low = decide (m == x) (λ p. absurd (let is : m ≡ x = eqb-true m x p in omega (arith, is, high, low))) (λ p. p)

  keeping-like : (c d : Board) → ((m : ℕ) → slots_at d m ≡ slots_at c m) → c.born ≡ d.born → Keeping c → Keeping d
  keeping-like c d same births h =
      record {
        born = let low : b.born ≤ c.born = h.born in omega (arith, low, births);
        old = λ m le. subst (SameValues (slots_at b m)) (sym (same m)) (h.old m le);
      }

  -- an edit of any object that leaves its values
  keeping-edit : (x : ℕ) (change : Record → Record) → ((r : Record) → (change r).birth ≡ r.birth) → ((r : Record) → SameValues r.slots (change r).slots)
      → (c : Board) → Keeping c → Keeping (edit x change c)
  keeping-edit x change same_birth same c h =
      record {
        born = h.born;
        old = λ m le.
            values-then (slots_at b m) (slots_at c m) (slots_at (edit x change c) m) (h.old m le)
            (edit-slots SameValues values-none x change same_birth c (λ r e. same r) m);
      }

  -- and any of the device itself
  keeping-own : (change : Record → Record) → ((r : Record) → (change r).birth ≡ r.birth) → (c : Board) → Keeping c → Keeping (edit (b.born + 1) change c)
  keeping-own change same_birth c h =
      record {
        born = h.born;
        old = λ m le.
            subst (λ (o : Option Record). SameValues (slots_at b m) (slots_in o))
            (sym (edit-other m one change same_birth (below one m (omega arith) le) c)) (h.old m le);
      }

  -- an object more
  with_new-slots : (P : Slots → Type 0) (r : Record) (c : Board) (m : ℕ) → P (slots_at c m) → (r.birth == m) ≡ false → P (slots_at (with_new r c) m)
  with_new-slots P r c m before apart = rw (found-append m c.records (r ∷ [])) (go (record_of c m) refl)
    where
      go : (o : Option Record) → record_of c m ≡ o → P (slots_in (option_or o (found_at m (r ∷ []))))
      go (Some x) e = subst P (ap slots_in e) before
      go None e = rw apart (subst P (ap slots_in e) before)

  keeping-new : (r : Record) (c : Board) → b.born < r.birth → Keeping c → Keeping (with_new r c)
  keeping-new r c high h =
      record {
        born = let low : b.born ≤ c.born = h.born in omega (arith, low);
        old = λ m le.
            with_new-slots (SameValues (slots_at b m)) r c m (h.old m le)
            (decide (r.birth == m) (λ p. absurd (let is : r.birth ≡ m = eqb-true r.birth m p in omega (arith, is, high, le))) (λ p. p));
      }

  -- a slot more that is not plain; and any of the device
  keeping-add : (x : ℕ) (name : List ℕ) (s : Slot) → plain_in s ≡ None → (c : Board) → Keeping c → Keeping (add x name s c)
  unfolding add
  keeping-add x name s none c h =
      keeping-edit x (with_added name s) (λ r. refl) (λ r. values-all r.slots _ (λ other. more-plain other name s none r.slots)) c h

  keeping-add_own : (name : List ℕ) (s : Slot) (c : Board) → Keeping c → Keeping (add (b.born + 1) name s c)
  unfolding add
  keeping-add_own name s c h = keeping-own (with_added name s) (λ r. refl) c h

  -- what is made
  keeping-row : (t : TypeId) (p : Property) (c : Board) → Keeping c → Keeping (property_made (b.born + 1) t (property_name p.name) p.role c)
  keeping-row t p c h = go p.role
    where
      name : List ℕ
      name = property_name p.name

      aliases : (property : List ℕ) (o : Option ℕ) → Keeping (aliased one name property o c)
      aliases property None = h
      aliases property (Some m) = keeping-add_own name (alias m property) c h

      go : (kind : PropertyRole) → Keeping (property_made one t name kind c)
      go (row.Plain type first) = keeping-add_own name (plain (first_value t first)) c h
      go (row.Link target true) = keeping-add_own name (strong target None) c h
      go (row.Link target false) = keeping-add_own name (weak target None) c h
      go (row.Child k) =
          let low : b.born ≤ c.born = h.born in
          keeping-add_own name (child (c.born + 1)) (with_new (fresh_record (c.born + 1) k) c)
          (keeping-new (fresh_record (c.born + 1) k) c (omega (arith, low)) h)
      go (row.Alias owner of) = aliases (property_name of) (owned c one (property_name owner))

  keeping-rows : (t : TypeId) (ps : List Property) (c : Board) → Keeping c → Keeping (properties_made (b.born + 1) t ps c)
  keeping-rows t [] c h = h
  keeping-rows t (p ∷ ps) c h = keeping-rows t ps (property_made one t (property_name p.name) p.role c) (keeping-row t p c h)

  keeping-drafted : (t : TypeId) → Keeping (drafted b t)
  keeping-drafted t =
      keeping-rows t (slots_of t) (with_new (fresh one t) b)
      (keeping-new (fresh one t) b (omega arith) (record { born = omega arith; old = λ m le. values-none (slots_at b m) }))

  -- where it stands
  keeping-set : (name : List ℕ) (v : Val) (c : Board) → Keeping c → Keeping (set_named (b.born + 1) name v c)
  keeping-set name v c h = set-by Keeping one name c h v (λ i e. keeping-own (with_changed (with_val v) i) (λ r. refl) c h)

  keeping-link : (name : List ℕ) (m : ℕ) (c : Board) → Keeping c → Keeping (link_named (b.born + 1) name m c)
  keeping-link name m c h = link-by Keeping one name c h m (λ i e. keeping-own (with_changed (fitted c m) i) (λ r. refl) c h)

  keeping-addressed : (range : Option Range) (c : Board) → Keeping c → Keeping (addressed_at (b.born + 1) range c)
  keeping-addressed None c h = h
  keeping-addressed (Some r) c h = keeping-set (codes "addr") (val.Uint r.at) c h

  keeping-stood : (a : Wanted) (resources : Resources) (c : Board) → Keeping c → Keeping (stood b (b.born + 1) a resources c)
  keeping-stood a resources c h =
      stand-by Keeping b one a resources
      (record {
        named = keeping-add (parent_for a.id) (name_for b a.id) (child one) refl;
        on_bus = keeping-add resources.bus (kid_name resources.slot) (strong Device (Some one)) refl;
        given = keeping-own (with_given b a.props) (λ r. refl);
        placed = keeping-set (codes "slot") (val.Uint resources.slot);
        linked = keeping-link (codes "parent_bus") resources.bus;
        marked = keeping-set (codes "realized") (val.Bool true);
        addressed = keeping-addressed resources.range;
        bodied = keeping-own (with_body_of a.id resources.range) (λ r. refl);
      }) c h

  keeping-clocked : (source : ℕ) (c : Board) → Keeping c → Keeping (clocked source (b.born + 1) c)
  keeping-clocked source c h = go (clock_of c one)
    where
      go : (o : Option ℕ) → Keeping (with_source source o c)
      go None = h
      go (Some x) =
          link-by Keeping x (codes "source") c h source
          (λ i e.
          keeping-edit x (with_changed (fitted c source) i) (λ r. refl)
          (λ r. values-all r.slots _ (λ name. plain-changed (fitted c source) (plain-fitted c source) name i r.slots)) c h)

  keeping-counted : (id : Option (List ℕ)) (c : Board) → Keeping c → Keeping (counted id c)
  keeping-counted None c h = keeping-like c _ (λ m. refl) refl h
  keeping-counted (Some id) c h = h

  -- acts
  keeping-acts : KeepsActs (λ m. ⊤) Keeping
  unfolding acted
  keeping-acts act x period unbound on c h = keeping-like c (acted act x period c) (acted-slots act x period c) refl h

  keeping-all : (t : TypeId) (a : Wanted) (resources : Resources) → Keeping (with_plugged b t a resources)
  keeping-all t a resources =
      keeping-like (edit one (with_path (canonical c3 one)) c3) _ (λ x. refl) refl
      (keeping-own (with_path (canonical c3 one)) (λ r. refl) c3
      (step-plugged (λ x. ⊤) Keeping keeping-acts one c2 (all-any (post c2 one))
      (step-acted_all (λ x. ⊤) Keeping keeping-acts Realize refl (one ∷ bus_births one t) (all-any (one ∷ bus_births one t))
      (with_device b t a resources)
      (keeping-counted a.id (clocked (source_for b resources.bus) one c1)
      (keeping-clocked (source_for b resources.bus) c1 (keeping-stood a resources (drafted b t) (keeping-drafted t)))))))
    where
      c1 : Board
      c1 = stood b (b.born + 1) a resources (drafted b t)

      c2 : Board
      c2 = acted_all Realize ((b.born + 1) ∷ bus_births (b.born + 1) t) (with_device b t a resources)

      c3 : Board
      c3 = plugged (acted_all Realize ((b.born + 1) ∷ bus_births (b.born + 1) t) (with_device b t a resources)) (b.born + 1)

-- the clocks of the board after

-- what the clock of a device is
fed-is : (o : Option ℕ) (n : ℕ) → is_fed o n ≡ true → o ≡ Some n
fed-is None n e = cc
fed-is (Some m) n e = ap Some (sym (eqb-true n m e))

is-fed : (o : Option ℕ) (n : ℕ) → o ≡ Some n → is_fed o n ≡ true
is-fed None n e = cc
is-fed (Some m) n e = eq-eqb n m (sym (same_Some m n e))

-- the clocks stay but for that of the device, which has a source
pub record Fed (b c : Board) : Type 0 where
  pub clocks : SameClocks (is_fed (clock_of c (b.born + 1))) b c
  pub goes : (n : ℕ) → clock_of c (b.born + 1) ≡ Some n → (s : ℕ) × (source_of c n ≡ Some s)

abbrev FedOn : Board → Board → Type 0
FedOn b c = SoundDevices c → SoundSources c → Fed b c

module _ (b : Board) (a : Wanted) (d : SoundDevices b) (h : SoundSources b) (older : SoundClocks b) where
  -- where no object changes
  beside-fed : (c : Board) → c.records ≡ b.records → FedOn b c
  beside-fed c e w hc =
      record {
        clocks = subst (λ (o : Option ℕ). SameClocks (is_fed o) b c) (sym none) (records-clocks b c e (sources-linked c (placed c w) hc));
        goes = λ n at. absurd (let clash : None ≡ Some n = sym none ∙ at in cc);
      }
    where
      firm : PinsRootAlone b
      firm = rest-from_sound b d.tree

      unborn : (o : Option Record) → record_of b (b.born + 1) ≡ o → clock_of b (b.born + 1) ≡ None
      unborn None p = ap (λ (o : Option Record). option_and_then child_named (named_in (codes "clk") (option_map_or (λ (r : Record). r.slots) o []))) p
      unborn (Some r) p = absurd (let clash : true ≡ false = sym (ap is_some p) ∙ high-absent b firm.used.firm (b.born + 1) (omega arith) in cc)

      none : clock_of c (b.born + 1) ≡ None
      none = ap (λ (rs : List Record). clock_of (record b { records = rs }) (b.born + 1)) e ∙ unborn (record_of b (b.born + 1)) refl

  module _ (t : TypeId) (at : ℕ) (k : Accepted b t at a) (w : SoundDevices (with_plugged b t a (resources_of b t at a.props)))
      (hc : SoundSources (with_plugged b t a (resources_of b t at a.props))) where
    abbrev c : Board
    c = with_plugged b t a (resources_of b t at a.props)

    abbrev its_clock : Option ℕ
    its_clock = clock_of (with_plugged b t a (resources_of b t at a.props)) (b.born + 1)

    rest : PinsRootAlone b
    rest = rest-from_sound b d.tree

    abbrev kb : Placed b
    kb = record { depth = d.places.0; places = d.places.1; firm = (rest-from_sound b d.tree).used.firm }

    kc : Placed (with_plugged b t a (resources_of b t at a.props))
    kc = placed (with_plugged b t a (resources_of b t at a.props)) w

    j : Joined kb.depth b (b.born + 1) at (resources_of b t at a.props).slot a.id t (done b at (resources_of b t at a.props).slot a.id)
        (with_plugged b t a (resources_of b t at a.props))
    j = accepted-joined d.places.0 b a (rest-from_sound b d.tree) d.places.1 t at k

    g : Growing b (source_for b at) (with_plugged b t a (resources_of b t at a.props))
    g = growing b t a (resources_of b t at a.props) k.device d.tree

    on : Reads b
    on = tree-reads b d.tree

    now : Reads (with_plugged b t a (resources_of b t at a.props))
    now = tree-reads (with_plugged b t a (resources_of b t at a.props)) w.tree

    low : (n : ℕ) → is_live b n ≡ true → n ≤ b.born
    low n there = by (cases_lt b.born n)
      where
        by : (b.born < n) ⊎ (n ≤ b.born) → n ≤ b.born
        by (inl high) = clash (sym there ∙ high-absent b kb.firm n high)
        by (inr le) = le

    -- its clock is new
    young : (m : ℕ) → clock_of (with_plugged b t a (resources_of b t at a.props)) (b.born + 1) ≡ Some m → b.born < m
    young m e = let (own, new) = child-in (NewSlot b.born) (codes "clk") (slots_at c (b.born + 1)) g.device m e in new.1

    -- who stood has the clock that it had, and goes on the same bus
    old-children : (x : ℕ) → stands b x ≡ true → child_entries (with_plugged b t a (resources_of b t at a.props)) x ≡ child_entries b x
    old-children x s =
        j.children x (stands-live b kb.firm x s)
        (aside-apart b (PERIPHERAL_BIRTH ∷ ANONYMOUS_BIRTH ∷ []) (kb.places.aside.1.1.0, (kb.places.aside.1.1.1.0, tt)) x s)

    old-clock : (x : ℕ) → stands b x ≡ true → clock_of (with_plugged b t a (resources_of b t at a.props)) x ≡ clock_of b x
    old-clock x s = clock-same b c kb.firm kc.firm x (old-children x s)

    source-old : (q : ℕ) → HasOwner b q → source_for (with_plugged b t a (resources_of b t at a.props)) q ≡ source_for b q
    source-old q (machines u) = source-machines c kc q u ∙ sym (source-machines b kb q u)
    source-old q (bridges p s o) =
        source-bridge c kc p q (old-stands kb.depth b (b.born + 1) at (resources_of b t at a.props).slot a.id t c j kb.firm kb.places p s)
        (ap (list_any (owns_it q)) (old-children p s) ∙ o)
        ∙ ap (λ (u : Option ℕ). unwrap_or u SYSTEM_CLOCK_BIRTH) (old-clock p s)
        ∙ sym (source-bridge b kb p q s o)

    -- a clock that was there goes by what it went by
    less : (n s : ℕ) → n ≤ b.born → source_of (with_plugged b t a (resources_of b t at a.props)) n ≡ Some s → source_of b n ≡ Some s
    less n s le goes = on.source n s ((g.old n le).source s (now.seen n s goes))

    source-same : (n : ℕ) → n ≤ b.born → source_of (with_plugged b t a (resources_of b t at a.props)) n ≡ source_of b n
    source-same n le = go (source_of b n) refl
      where
        none : source_of b n ≡ None → (o : Option ℕ) → source_of c n ≡ o → source_of c n ≡ source_of b n
        none e None q = q ∙ sym e
        none e (Some s) q = absurd (let bad : None ≡ Some s = sym e ∙ less n s le q in cc)

        go : (o : Option ℕ) → source_of b n ≡ o → source_of c n ≡ source_of b n
        go None e = none e (source_of c n) refl
        go (Some s) e =
            let i : IsDeviceClock b n = h.only n s e in
            let stood : stands b i.device ≡ true = kb.places.only i.device i.realized in
            let there : is_live b i.device ≡ true = stands-live b kb.firm i.device stood in
            let home : IsHome b i.device = kb.places.home i.device stood (λ q. cc) in
            hc.fed i.device home.bus n (j.realized i.device there ∙ i.realized) (j.bus_same i.device there ∙ home.on) (old-clock i.device stood ∙ i.its)
            ∙ ap Some (source-old home.bus (kb.places.owner i.device home.bus stood home.on))
            ∙ sym (h.fed i.device home.bus n i.realized home.on i.its)

    -- the source for its bus was there
    source-low : source_for b at ≤ b.born
    source-low = low (source_for b at) (source-live b kb at j.goal.owner)

    -- no clock but its own goes by its own
    apart : (n s : ℕ) → is_fed (clock_of (with_plugged b t a (resources_of b t at a.props)) (b.born + 1)) n ≡ false
        → source_of (with_plugged b t a (resources_of b t at a.props)) n ≡ Some s
        → is_fed (clock_of (with_plugged b t a (resources_of b t at a.props)) (b.born + 1)) s ≡ false
    apart n s other goes = decide (is_fed its_clock s) (λ p. by (young s (fed-is its_clock s p)) (cases_lt b.born n)) (λ p. p)
      where
        by : b.born < s → (b.born < n) ⊎ (n ≤ b.born) → is_fed its_clock s ≡ false
        by high (inl new) = let is : s ≡ source_for b at = (g.new n new).only s (now.seen n s goes) in absurd (omega (arith, high, is, source-low))
        by high (inr le) = let before : s < n = older.older n s (less n s le goes) in absurd (omega (arith, high, le, before))

    -- who is new has no period, and goes by none where it is not its own
    blank : (n : ℕ) → is_live b n ≡ false → slots_at b n ≡ []
    blank n gone = go (record_of b n) gone
      where
        go : (o : Option Record) → is_some o ≡ false → slots_in o ≡ []
        go None e = refl
        go (Some r) e = clash e

    new-own : (n : ℕ) → is_live b n ≡ false → own_period (with_plugged b t a (resources_of b t at a.props)) n ≡ 0
    new-own n gone = now.own n ∙ by (cases_lt b.born n)
      where
        by : (b.born < n) ⊎ (n ≤ b.born) → own_in (slots_at c n) ≡ 0
        by (inl high) = (g.new n high).own
        by (inr le) =
            let fewer : own_in (slots_at c n) ≤ own_in (slots_at b n) = (g.old n le).own in
            let none : own_in (slots_at b n) ≡ 0 = ap own_in (blank n gone) in
            omega (arith, fewer, none)

    new-source : (n : ℕ) → is_fed (clock_of (with_plugged b t a (resources_of b t at a.props)) (b.born + 1)) n ≡ false → is_live b n ≡ false → (o : Option ℕ)
        → source_of (with_plugged b t a (resources_of b t at a.props)) n ≡ o → source_of (with_plugged b t a (resources_of b t at a.props)) n ≡ None
    new-source n other gone None q = q
    new-source n other gone (Some s) q =
        let i : IsDeviceClock c n = hc.only n s q in
        let stood : stands c i.device ≡ true = kc.places.only i.device i.realized in
        by-stand kb.depth b (b.born + 1) at (resources_of b t at a.props).slot a.id t c j kb.firm kb.places i.device stood
        (λ before. clash (sym (clock-live b kb.firm i.device n (sym (old-clock i.device before) ∙ i.its)) ∙ gone))
        (λ is. clash (sym (is-fed its_clock n (ap (clock_of c) (sym is) ∙ i.its)) ∙ other))

    accepted-fed : Fed b (with_plugged b t a (resources_of b t at a.props))
    accepted-fed =
        record {
          clocks = record {
            linked = λ n s goes gone. clash (sym (sources-linked c kc hc n s goes) ∙ gone);
            apart = apart;
            old = λ n other was live.
                let same : SameValues (slots_at b n) (slots_at c n) = (keeping-all b t a (resources_of b t at a.props)).old n (low n was) in
                record {
                  own = now.own n ∙ number-same (codes "period") 0 (slots_at b n) (slots_at c n) same.period ∙ sym (on.own n);
                  mul = now.mul n ∙ number-same (codes "mul") 1 (slots_at b n) (slots_at c n) same.mul ∙ sym (on.mul n);
                  div = now.div n ∙ number-same (codes "div") 1 (slots_at b n) (slots_at c n) same.div ∙ sym (on.div n);
                  source = source-same n (low n was);
                };
            new = λ n other gone live. (new-own n gone, new-source n other gone (source_of c n) refl);
          };
          goes = λ n its. (source_for c at, hc.fed (b.born + 1) at n j.stands_realized j.on its);
        }

  plug-fed : FedOn b (plug b a).board
  plug-fed =
      after-plug (FedOn b) b a (beside-fed b refl) (λ t bus stage. beside-fed (plug_attempt b t bus stage) refl) (λ t at k w hc. accepted-fed t at k w hc)

-- what is kept of clocks is right after a device was added
plugged-periods : (b : Board) (a : Wanted) (v w : Objects) → SoundBoard b → Shows b v → Shows (plug b a).board w
    → FedOrNew (plug b a).board (b.born + 1) v w → PeriodsKept v → PeriodsKept w
plugged-periods b a v w good s t fed kept =
    let after : SoundBoard (plug b a).board = added-good b a good in
    let f : Fed b (plug b a).board = plug-fed b a good.run.devices good.sources good.run.clocks after.run.devices after.sources in
    fed-periods b (plug b a).board (b.born + 1) v w s t after.run.clocks f.clocks f.goes fed kept

pub plug-periods : (b : Board) (a : Wanted) (x : Added) (asked : Asked) (v w : Objects) → SoundBoard b → Shows b v → IsAdded b a x asked w
    → FedOrNew (plug b a).board x.birth v w → PeriodsKept v → PeriodsKept w
plug-periods b a x asked v w good s came fed =
    plugged-periods b a v w good s came.shown (subst (λ (n : ℕ). FedOrNew (plug b a).board n v w) came.birth fed)

-- a device was begun, placed and finished
pub far-fed : (b : Board) (a : Wanted) (p : AttachedDevice) (c : Board) (u v w : Objects) (birth : ℕ) → IsSettled b a p v
    → FedSoFar p.device.birth p.plugging u v → (path : DevicePath) × (p.plugging ≡ Attached path) → birth ≡ p.device.birth → PeriodsBefore v w
    → FedStays c birth v w → FedOrNew c birth u w
far-fed b a p c u v w birth settled fed (path, is) own before stays =
    let s : Target = settled.target.0 in
    let (told, at, slot, open_is, stood, kept) =
    subst (λ (x : Plugging). StandsBy b a s p.device.birth p.slot x v) is settled.target.2 in
    let so_far : FedSoFar birth (Attached path) u v =
    subst (λ (n : ℕ). FedSoFar n (Attached path) u v) (sym own) (subst (λ (x : Plugging). FedSoFar p.device.birth x u v) is fed) in
    fed-then (seated b p.device.birth a (resources_in s.bus.birth at) (pinned_draft b s.kind)) c birth u v w stood.shown (so_far _ stood.shown) before stays
