-- Each object that comes with a device is its child.
use Rattle.std.proofs.Common.{◌≡◌, refl, ap, sym, ◌∙◌, ℕ, zero, suc, ◌+◌, ◌<◌, Bool, true, false, ◌==◌, ◌||◌, List, [], ◌∷◌, ◌++◌, filter_map, Option, Some, None, is_some, option_map, codes, arith}
use Rattle.qo_model.proofs.Common.{⊤, cons_option, option_map_or, option_or, Realize, TypeId, Device, Val, Range, Board, Record, Slot, plain, child, strong, weak, alias, record_of, is_live, slots_at, add, changed_at, fresh, with_added, with_changed, with_val, acted, with_act_on, clock_of, kid_name, first_value, fresh_record, canonical, Given, Resources, Wanted, acted_all, addressed_at, aliased, bus_births, clocked, counted, drafted, fitted, link_named, name_for, owned, parent_for, property_made, properties_made, source_for, stood, with_body_of, with_device, with_given, with_kid, with_new, with_path, with_plugged, with_source, edit, edited, plugged, post, property_name, slots_of, set_named}
use Rattle.std.proofs.lemmas.Bool.{eq-eqb, ne_eqb}
use Rattle.std.proofs.lemmas.List.Elements.{filter_map-append}
use Rattle.std.proofs.lemmas.List.Folds.{list_any-append}
use Rattle.std.proofs.Math.Bool.{or-false, or-true}
use Rattle.qo_values.specs.declared.properties.Val.TheVariants as val
use Rattle.qo_model.specs.declared.properties.Property.{Property}
use Rattle.qo_model.specs.declared.properties.PropertyRole.{PropertyRole}
use Rattle.qo_model.specs.declared.properties.PropertyRole.TheVariants as row
use Rattle.qo_model.proofs.StepLemmas.{found-birth, found-edited, found_at, is_some-map}
use Rattle.qo_sound.proofs.AdditionStepsLemmas.{all-any, KeepsActs, link-by, set-by, stand-by, step-acted_all, step-plugged}
use Rattle.qo_sound.proofs.SearchLemmas.{found-append}
use Rattle.qo_sound.proofs.TestLemmas.{clash, clash-back, decide}
use Rattle.qo_sound_devices.specs.SoundPlaces.{child_entries, child_entry, listed, names_it}
use Rattle.qo_sound_devices.proofs.AddLemmas.{children-given}

abbrev Slots : Type 0
Slots = List (List ℕ × Slot)

abbrev slots_in : Option Record → Slots
slots_in o = option_map_or (λ (r : Record). r.slots) o []

-- what is a child among slots
abbrev has_child : ℕ → Slots → Bool
has_child x slots = listed x (filter_map child_entry slots)

abbrev Keeps : (Record → Record) → Type 0
Keeps change = (x : ℕ) (r : Record) → has_child x r.slots ≡ true → has_child x (change r).slots ≡ true

child-val : (v : Val) (s : List ℕ × Slot) → child_entry (s.0, with_val v s.1) ≡ child_entry s
child-val v (name, plain w) = refl
child-val v (name, child m) = refl
child-val v (name, strong t target) = refl
child-val v (name, weak t target) = refl
child-val v (name, alias m of) = refl

child-fitted : (c : Board) (m : ℕ) (s : List ℕ × Slot) → child_entry (s.0, fitted c m s.1) ≡ child_entry s
child-fitted c m (name, plain w) = refl
child-fitted c m (name, child k) = refl
child-fitted c m (name, strong t None) = refl
child-fitted c m (name, strong t (Some k)) = refl
child-fitted c m (name, weak t None) = refl
child-fitted c m (name, weak t (Some k)) = refl
child-fitted c m (name, alias k of) = refl

children-changed : (change : Slot → Slot) → ((s : List ℕ × Slot) → child_entry (s.0, change s.1) ≡ child_entry s) → (i : ℕ) (slots : Slots)
    → filter_map child_entry (changed_at change i slots) ≡ filter_map child_entry slots
children-changed change same i [] = refl
children-changed change same zero (s ∷ slots) = ap (λ (o : Option (List ℕ × ℕ)). cons_option o (filter_map child_entry slots)) (same s ∙ whole s)
  where
    whole : (x : List ℕ × Slot) → child_entry x ≡ child_entry x
    whole x = refl
children-changed change same (suc i) (s ∷ slots) = ap (cons_option (child_entry s)) (children-changed change same i slots)

keeps-changed : (change : Slot → Slot) → ((s : List ℕ × Slot) → child_entry (s.0, change s.1) ≡ child_entry s) → (i : ℕ) → Keeps (with_changed change i)
keeps-changed change same i x r e = ap (listed x) (children-changed change same i r.slots) ∙ e

keeps-added : (name : List ℕ) (s : Slot) → Keeps (with_added name s)
keeps-added name s x r e =
    ap (listed x) (filter_map-append child_entry r.slots ((name, s) ∷ []))
    ∙ list_any-append (names_it x) (filter_map child_entry r.slots) (filter_map child_entry ((name, s) ∷ []))
    ∙ ap (λ (t : Bool). t || listed x (filter_map child_entry ((name, s) ∷ []))) e

keeps-given : (b : Board) (props : List Given) → Keeps (with_given b props)
keeps-given b props x r e = ap (listed x) (children-given b props r.slots) ∙ e

live-edited : (m x : ℕ) (change : Record → Record) → ((r : Record) → (change r).birth ≡ r.birth) → (c : Board) → is_live (edit m change c) x ≡ is_live c x
live-edited m x change same_birth c = ap is_some (found-edited m change same_birth x c.records) ∙ is_some-map (edited m change) (record_of c x)

-- the board as the device is added to b
module _ (b : Board) (absent : (m : ℕ) → b.born < m → record_of b m ≡ None) where
  pub record Owning (c : Board) : Type 0 where
    pub born : b.born < c.born
    pub there : is_live c (b.born + 1) ≡ true
    pub owned : (x : ℕ) → is_live b x ≡ false → (x == b.born + 1) ≡ false → is_live c x ≡ true → listed x (child_entries c (b.born + 1)) ≡ true

  owning-like : (c d : Board) → d.records ≡ c.records → c.born ≡ d.born → Owning c → Owning d
  owning-like c d same births h =
      record {
        born = let low : b.born < c.born = h.born in omega (arith, low, births);
        there = ap (λ (rs : List Record). is_some (found_at (b.born + 1) rs)) same ∙ h.there;
        owned = λ x high apart live.
            ap (λ (rs : List Record). has_child x (slots_in (found_at (b.born + 1) rs))) same
            ∙ h.owned x high apart (sym (ap (λ (rs : List Record). is_some (found_at x rs)) same) ∙ live);
      }

  -- an edit that lets no child go
  owning-edit : (m : ℕ) (change : Record → Record) → ((r : Record) → (change r).birth ≡ r.birth) → Keeps change → (c : Board) → Owning c
      → Owning (edit m change c)
  owning-edit m change same_birth keeps c h =
      record {
        born = h.born;
        there = live-edited m (b.born + 1) change same_birth c ∙ h.there;
        owned = λ x high apart live. kept x (h.owned x high apart (sym (live-edited m x change same_birth c) ∙ live));
      }
    where
      at_record : (x : ℕ) (r : Record) (t : Bool) → (r.birth == m) ≡ t → has_child x r.slots ≡ true → has_child x (edited m change r).slots ≡ true
      at_record x r true q e = rw (edited, q) (keeps x r e)
      at_record x r false q e = rw (edited, q) e

      kept : (x : ℕ) → has_child x (slots_at c (b.born + 1)) ≡ true → has_child x (slots_at (edit m change c) (b.born + 1)) ≡ true
      kept x e = ap (λ (o : Option Record). has_child x (slots_in o)) (found-edited m change same_birth (b.born + 1) c.records)
          ∙ go (record_of c (b.born + 1)) refl
        where
          go : (o : Option Record) → record_of c (b.born + 1) ≡ o → has_child x (slots_in (option_map (edited m change) o)) ≡ true
          go None q = clash-back (sym (ap is_some q) ∙ h.there)
          go (Some r) q = at_record x r (r.birth == m) refl (sym (ap (λ (o : Option Record). has_child x (slots_in o)) q) ∙ e)

  owning-first : (t : TypeId) → Owning (with_new (fresh (b.born + 1) t) b)
  owning-first t =
      record {
        born = omega arith;
        there = ap is_some own;
        owned = λ x high apart live.
            let away : (b.born + 1 == x) ≡ false = ne_eqb (b.born + 1) x (λ is. clash (sym (eq-eqb x (b.born + 1) (sym is)) ∙ apart)) in
            let none : found_at x (fresh (b.born + 1) t ∷ []) ≡ None = rw away refl in
            let gone : record_of (with_new (fresh (b.born + 1) t) b) x ≡ None =
            found-append x b.records (fresh (b.born + 1) t ∷ [])
            ∙ ap (λ (o : Option Record). option_or o (found_at x (fresh (b.born + 1) t ∷ []))) (gone-from x (record_of b x) refl high) ∙ none in
            clash-back (sym (ap is_some gone) ∙ live);
      }
    where
      gone-from : (x : ℕ) (o : Option Record) → record_of b x ≡ o → is_live b x ≡ false → record_of b x ≡ None
      gone-from x None q k = q
      gone-from x (Some r) q k = clash (sym (ap is_some q) ∙ k)

      own : record_of (with_new (fresh (b.born + 1) t) b) (b.born + 1) ≡ Some (fresh (b.born + 1) t)
      own =
          let here : (b.born + 1 == b.born + 1) ≡ true = eq-eqb (b.born + 1) (b.born + 1) refl in
          let its : found_at (b.born + 1) (fresh (b.born + 1) t ∷ []) ≡ Some (fresh (b.born + 1) t) = rw here refl in
          found-append (b.born + 1) b.records (fresh (b.born + 1) t ∷ [])
          ∙ ap (λ (o : Option Record). option_or o (found_at (b.born + 1) (fresh (b.born + 1) t ∷ []))) (absent (b.born + 1) (omega arith)) ∙ its

  owning-add : (name : List ℕ) (s : Slot) (c : Board) → Owning c → Owning (add (b.born + 1) name s c)
  unfolding add
  owning-add name s c h = owning-edit (b.born + 1) (with_added name s) (λ r. refl) (keeps-added name s) c h

  -- a further object is made and joined to it
  owning-kid : (name : List ℕ) (t : TypeId) (c : Board) → Owning c → Owning (with_kid (b.born + 1) name t c)
  unfolding add
  owning-kid name t c h =
      record {
        born = let low : b.born < c.born = h.born in omega (arith, low);
        there = live-edited (b.born + 1) (b.born + 1) change (λ r. refl) e ∙ kept (b.born + 1) h.there;
        owned = λ x high apart live. by x high apart (sym (live-edited (b.born + 1) x change (λ r. refl) e) ∙ live);
      }
    where
      new : Record
      new = fresh_record (c.born + 1) t

      e : Board
      e = with_new (fresh_record (c.born + 1) t) c

      change : Record → Record
      change = with_added name (child (c.born + 1))

      found : (x : ℕ) → record_of e x ≡ option_or (record_of c x) (found_at x (new ∷ []))
      found x = found-append x c.records (new ∷ [])

      kept : (x : ℕ) → is_live c x ≡ true → is_live e x ≡ true
      kept x live = ap is_some (found x) ∙ go (record_of c x) live
        where
          go : (o : Option Record) → is_some o ≡ true → is_some (option_or o (found_at x (new ∷ []))) ≡ true
          go None k = clash-back k
          go (Some r) k = refl

      its : (r : Record) → record_of c (b.born + 1) ≡ Some r → slots_at (edit (b.born + 1) change e) (b.born + 1) ≡ r.slots ++ (name, child (c.born + 1)) ∷ []
      its r q =
          let own : (r.birth == b.born + 1) ≡ true = eq-eqb r.birth (b.born + 1) (found-birth (b.born + 1) c.records r q) in
          let now : edited (b.born + 1) change r ≡ change r = rw (edited, own) refl in
          ap slots_in
          (found-edited (b.born + 1) change (λ y. refl) (b.born + 1) e.records
          ∙ ap (option_map (edited (b.born + 1) change)) (found (b.born + 1) ∙ ap (λ (o : Option Record). option_or o (found_at (b.born + 1) (new ∷ []))) q)
          ∙ ap Some now)

      all : (x : ℕ) (r : Record) → record_of c (b.born + 1) ≡ Some r → has_child x r.slots || (c.born + 1 == x) ≡ true
          → has_child x (slots_at (edit (b.born + 1) change e) (b.born + 1)) ≡ true
      all x r q k =
          ap (has_child x) (its r q)
          ∙ ap (listed x) (filter_map-append child_entry r.slots ((name, child (c.born + 1)) ∷ []))
          ∙ list_any-append (names_it x) (filter_map child_entry r.slots) ((name, c.born + 1) ∷ [])
          ∙ ap (λ (t : Bool). has_child x r.slots || t) (or-false (c.born + 1 == x)) ∙ k

      by : (x : ℕ) → is_live b x ≡ false → (x == b.born + 1) ≡ false → is_live e x ≡ true
          → has_child x (slots_at (edit (b.born + 1) change e) (b.born + 1)) ≡ true
      by x high apart live = go (record_of c (b.born + 1)) refl (record_of c x) refl
        where
          go : (o : Option Record) → record_of c (b.born + 1) ≡ o → (u : Option Record) → record_of c x ≡ u
              → has_child x (slots_at (edit (b.born + 1) change e) (b.born + 1)) ≡ true
          go None q u p = clash-back (sym (ap is_some q) ∙ h.there)
          go (Some r) q (Some y) p =
              let old : has_child x r.slots ≡ true =
              sym (ap (λ (o : Option Record). has_child x (slots_in o)) q) ∙ h.owned x high apart (ap is_some p) in
              all x r q (rw old refl)
          go (Some r) q None p =
              decide (c.born + 1 == x) (λ is. all x r q (rw is (or-true (has_child x r.slots))))
              (λ is.
              let none : found_at x (new ∷ []) ≡ None = rw is refl in
              let gone : record_of e x ≡ None = found x ∙ ap (λ (o : Option Record). option_or o (found_at x (new ∷ []))) p ∙ none in
              clash-back (sym (ap is_some gone) ∙ live))

  -- what is made
  owning-row : (t : TypeId) (name : List ℕ) (kind : PropertyRole) (c : Board) → Owning c → Owning (property_made (b.born + 1) t name kind c)
  owning-row t name (row.Plain type first) c h = owning-add name (plain (first_value t first)) c h
  owning-row t name (row.Link target true) c h = owning-add name (strong target None) c h
  owning-row t name (row.Link target false) c h = owning-add name (weak target None) c h
  owning-row t name (row.Child k) c h = owning-kid name k c h
  owning-row t name (row.Alias owner of) c h = go (owned c (b.born + 1) (property_name owner))
    where
      go : (o : Option ℕ) → Owning (aliased (b.born + 1) name (property_name of) o c)
      go None = h
      go (Some m) = owning-add name (alias m (property_name of)) c h

  owning-rows : (t : TypeId) (ps : List Property) (c : Board) → Owning c → Owning (properties_made (b.born + 1) t ps c)
  owning-rows t [] c h = h
  owning-rows t (p ∷ ps) c h =
      owning-rows t ps (property_made (b.born + 1) t (property_name p.name) p.role c) (owning-row t (property_name p.name) p.role c h)

  owning-set : (name : List ℕ) (v : Val) (c : Board) → Owning c → Owning (set_named (b.born + 1) name v c)
  owning-set name v c h =
      set-by Owning (b.born + 1) name c h v
      (λ i e. owning-edit (b.born + 1) (with_changed (with_val v) i) (λ r. refl) (keeps-changed (with_val v) (child-val v) i) c h)

  owning-link : (m : ℕ) (name : List ℕ) (target : ℕ) (c : Board) → Owning c → Owning (link_named m name target c)
  owning-link m name target c h =
      link-by Owning m name c h target
      (λ i e. owning-edit m (with_changed (fitted c target) i) (λ r. refl) (keeps-changed (fitted c target) (child-fitted c target) i) c h)

  owning-addressed : (range : Option Range) (c : Board) → Owning c → Owning (addressed_at (b.born + 1) range c)
  owning-addressed None c h = h
  owning-addressed (Some r) c h = owning-set (codes "addr") (val.Uint r.at) c h

  owning-stood : (a : Wanted) (resources : Resources) (c : Board) → Owning c → Owning (stood b (b.born + 1) a resources c)
  unfolding add
  owning-stood a resources c h =
      stand-by Owning b (b.born + 1) a resources
      (record {
        named = λ d k. owning-edit (parent_for a.id) (with_added (name_for b a.id) (child (b.born + 1))) (λ r. refl)
            (keeps-added (name_for b a.id) (child (b.born + 1))) d k;
        on_bus = λ d k. owning-edit resources.bus (with_added (kid_name resources.slot) (strong Device (Some (b.born + 1)))) (λ r. refl)
            (keeps-added (kid_name resources.slot) (strong Device (Some (b.born + 1)))) d k;
        given = λ d k. owning-edit (b.born + 1) (with_given b a.props) (λ r. refl) (keeps-given b a.props) d k;
        placed = owning-set (codes "slot") (val.Uint resources.slot);
        linked = owning-link (b.born + 1) (codes "parent_bus") resources.bus;
        marked = owning-set (codes "realized") (val.Bool true);
        addressed = owning-addressed resources.range;
        bodied = λ d k. owning-edit (b.born + 1) (with_body_of a.id resources.range) (λ r. refl) (λ x r e. e) d k;
      }) c h

  owning-clocked : (source : ℕ) (c : Board) → Owning c → Owning (clocked source (b.born + 1) c)
  owning-clocked source c h = go (clock_of c (b.born + 1))
    where
      go : (o : Option ℕ) → Owning (with_source source o c)
      go None = h
      go (Some m) = owning-link m (codes "source") source c h

  owning-counted : (id : Option (List ℕ)) (c : Board) → Owning c → Owning (counted id c)
  owning-counted None c h = owning-like c _ refl refl h
  owning-counted (Some id) c h = h

  owning-acts : KeepsActs (λ m. ⊤) Owning
  unfolding acted
  owning-acts act m period unbound on c h =
      owning-like (edit m (with_act_on act c.now period) c) (acted act m period c) refl refl
      (owning-edit m (with_act_on act c.now period) (λ r. refl) (λ x r e. e) c h)

  pub owning-all : (t : TypeId) (a : Wanted) (resources : Resources) → Owning (with_plugged b t a resources)
  owning-all t a resources =
      owning-like (edit (b.born + 1) (with_path (canonical e (b.born + 1))) e) _ refl refl
      (owning-edit (b.born + 1) (with_path (canonical e (b.born + 1))) (λ r. refl) (λ x r k. k) e
      (step-plugged (λ m. ⊤) Owning owning-acts (b.born + 1) d (all-any (post d (b.born + 1)))
      (step-acted_all (λ m. ⊤) Owning owning-acts Realize refl ((b.born + 1) ∷ bus_births (b.born + 1) t) (all-any ((b.born + 1) ∷ bus_births (b.born + 1) t))
      (with_device b t a resources)
      (owning-counted a.id _
      (owning-clocked (source_for b resources.bus) (stood b (b.born + 1) a resources (drafted b t))
      (owning-stood a resources (drafted b t) (owning-rows t (slots_of t) (with_new (fresh (b.born + 1) t) b) (owning-first t))))))))
    where
      d : Board
      d = acted_all Realize ((b.born + 1) ∷ bus_births (b.born + 1) t) (with_device b t a resources)

      e : Board
      e = plugged d (b.born + 1)
