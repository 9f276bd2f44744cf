-- A device that is added leaves the claims of all others, and the further objects that it brings claim nothing.
use Rattle.std.proofs.Common.{rules, ◌≡◌, ◌⊎◌, inl, inr, refl, ap, sym, subst, ◌∙◌, ℕ, ◌+◌, ◌<◌, Bool, true, false, ◌==◌, List, [], ◌∷◌, Option, Some, None, option_map, codes, arith}
use Rattle.qo_model.proofs.Common.{option_or, ⊤, Realize, TypeId, Device, Val, Range, Board, Record, Slot, plain, child, strong, weak, alias, record_of, slots_at, add, fresh, with_added, with_changed, with_val, acted, with_act_on, clock_of, kid_name, plain_in, strong_in, index_from, first_value, fresh_record, fresh_slots, canonical, Resources, Wanted, acted_all, addressed_at, aliased, bus_births, clocked, counted, drafted, fitted, link_named, name_for, owned, parent_for, property_made, properties_made, source_for, stood, with_body_of, with_device, with_given, with_new, with_path, with_plugged, with_source, edit, edited, plugged, post, property_name, is_a, slots_of, types, is_named, set_named}
use Rattle.qo_model.specs.declared.properties.Property.{Property}
use Rattle.qo_model.specs.declared.properties.PropertyRole.{PropertyRole}
use Rattle.std.proofs.lemmas.Bool.{eqb-true, eq-eqb}
use Rattle.std.proofs.lemmas.Slice.Eq.{bytes_eq-Decides}
use Rattle.qo_values.specs.declared.properties.Val.TheVariants as val
use Rattle.qo_values.proofs.EachLemmas.{each}
use Rattle.qo_model.specs.declared.properties.PropertyRole.TheVariants as row
use Rattle.qo_model.proofs.FirstSlotLemmas.{Found, found-at}
use Rattle.qo_model.proofs.StepLemmas.{found-edited, found_at, found-birth}
use Rattle.qo_sound.proofs.SearchLemmas.{found-append}
use Rattle.qo_sound.proofs.AdditionStepsLemmas.{all-any, KeepsActs, link-by, set-by, stand-by, step-acted_all, step-plugged}
use Rattle.qo_sound.proofs.ReadLemmas.{plain-fitted}
use Rattle.qo_sound_claims.proofs.DecreaseLemmas.{act-range, at-record, LessRecord, near-none, near-step, NearAt, record-slots}
use Rattle.qo_sound_claims.proofs.SlotLemmas.{ClaimsLess, is_home, is_memdev, less-added, less-filled, less-none, lit_in, OtherLink}

-- an object as new is not realized

fresh-dark : (t : TypeId) → lit_in (fresh_slots t) ≡ false
unfolding types
fresh-dark = each (λ (t : TypeId). lit_in (fresh_slots t) ≡ false) (search rules)

-- the board as the device is added to b
module _ (b : Board) (absent : (m : ℕ) → b.born < m → record_of b m ≡ None) where
  abbrev n : ℕ
  n = b.born + 1

  pub record Growing (c : Board) : Type 0 where
    pub born : b.born < c.born
    pub others : (x : ℕ) → (x == (b.born + 1)) ≡ false → NearAt false (record_of b x) (record_of c x)

  growing-like : (c d : Board) → d.records ≡ c.records → c.born ≡ d.born → Growing c → Growing d
  growing-like c d same births h =
      record {
        born = let low : b.born < c.born = h.born in omega (arith, low, births);
        others = λ x apart. subst (λ (rs : List Record). NearAt false (record_of b x) (found_at x rs)) (sym same) (h.others x apart);
      }

  -- an edit, of another object where it claims no more
  growing-edit : (m : ℕ) (change : Record → Record) → ((r : Record) → (change r).birth ≡ r.birth) → (c : Board)
      → ((r : Record) → record_of c m ≡ Some r → (m == n) ≡ false → LessRecord false r (change r)) → Growing c → Growing (edit m change c)
  growing-edit m change same_birth c less h =
      record { born = h.born; others = λ x apart. rw (found-edited m change same_birth x c.records) (go x apart (record_of c x) refl) }
    where
      at_record : (x : ℕ) → (x == n) ≡ false → (r : Record) → record_of c x ≡ Some r → (t : Bool) → (r.birth == m) ≡ t
          → NearAt false (record_of b x) (Some (edited m change r))
      at_record x apart r e true p =
          let is : x ≡ m = sym (found-birth x c.records r e) ∙ eqb-true r.birth m p in
          rw (edited, p)
          (near-step false (record_of b x) r (change r) (subst (NearAt false (record_of b x)) e (h.others x apart))
          (less r (subst (λ (k : ℕ). record_of c k ≡ Some r) is e) (subst (λ (k : ℕ). (k == n) ≡ false) is apart)))
      at_record x apart r e false p = rw (edited, p) (subst (NearAt false (record_of b x)) e (h.others x apart))

      go : (x : ℕ) → (x == n) ≡ false → (o : Option Record) → record_of c x ≡ o → NearAt false (record_of b x) (option_map (edited m change) o)
      go x apart None e = tt
      go x apart (Some r) e = at_record x apart r e (r.birth == m) refl

  -- of the device itself
  growing-own : (change : Record → Record) → ((r : Record) → (change r).birth ≡ r.birth) → (c : Board) → Growing c → Growing (edit n change c)
  growing-own change same_birth c h =
      growing-edit n change same_birth c (λ r e apart. absurd (let clash : true ≡ false = sym (eq-eqb n n refl) ∙ apart in cc)) h

  growing-slots : (m : ℕ) (change : Record → Record) → ((r : Record) → (change r).birth ≡ r.birth) → ((r : Record) → (change r).kind ≡ r.kind)
      → ((r : Record) → (change r).registers ≡ r.registers) → (c : Board)
      → ((r : Record) → record_of c m ≡ Some r → ClaimsLess (is_a r.kind (codes "mem-dimm")) false r.slots (change r).slots) → Growing c
      → Growing (edit m change c)
  growing-slots m change same_birth same_kind same c less h =
      growing-edit m change same_birth c (λ r e apart. record-slots false change same_kind same r (less r e)) h

  -- an object more
  growing-new : (t : TypeId) (c : Board) → Growing c → Growing (with_new (fresh_record (c.born + 1) t) c)
  growing-new t c h =
      record {
        born = let low : b.born < c.born = h.born in omega (arith, low);
        others = λ x apart. rw (found-append x c.records (r ∷ [])) (go x (record_of c x) (h.others x apart) ((c.born + 1) == x) refl);
      }
    where
      r : Record
      r = fresh_record (c.born + 1) t

      go : (x : ℕ) (o : Option Record) → NearAt false (record_of b x) o → (u : Bool) → ((c.born + 1) == x) ≡ u
          → NearAt false (record_of b x) (option_or o (found_at x (r ∷ [])))
      go x (Some y) near u p = near
      go x None near false p = rw p tt
      go x None near true p =
          let is : c.born + 1 ≡ x = eqb-true (c.born + 1) x p in
          let low : b.born < c.born = h.born in
          let none : record_of b x ≡ None = absent x (omega (arith, is, low)) in
          rw (p, none) (fresh-dark t)

  growing-first : (t : TypeId) → Growing (with_new (fresh n t) b)
  growing-first t =
      record {
        born = omega arith;
        others = λ x apart. rw (found-append x b.records (fresh n t ∷ [])) (go x apart (record_of b x) (n == x) refl);
      }
    where
      go : (x : ℕ) → (x == n) ≡ false → (o : Option Record) → (u : Bool) → (n == x) ≡ u → NearAt false o (option_or o (found_at x (fresh n t ∷ [])))
      go x apart (Some y) u p = near-none false (Some y)
      go x apart None false p = rw p tt
      go x apart None true p =
          absurd (let clash : true ≡ false = sym (eq-eqb x n (sym (eqb-true n x p))) ∙ apart in cc)

  -- a slot more that is not plain, and no link of a backend or to a device's bus
  growing-add : (m : ℕ) (name : List ℕ) (s : Slot) → plain_in s ≡ None → (strong_in s ≡ None) ⊎ OtherLink name → (c : Board) → Growing c
      → Growing (add m name s c)
  unfolding add
  growing-add m name s none other c h =
      growing-slots m (with_added name s) (λ r. refl) (λ r. refl) (λ r. refl) c
      (λ r e. less-added (is_a r.kind (codes "mem-dimm")) false name s none other (inr refl) r.slots) h

  growing-add_own : (name : List ℕ) (s : Slot) (c : Board) → Growing c → Growing (add n name s c)
  unfolding add
  growing-add_own name s c h = growing-own (with_added name s) (λ r. refl) c h

  -- what is made
  growing-row : (t : TypeId) (name : List ℕ) (kind : PropertyRole) (c : Board) → Growing c → Growing (property_made n t name kind c)
  growing-row t name (row.Plain type first) c h = growing-add_own name (plain (first_value t first)) c h
  growing-row t name (row.Link target true) c h = growing-add_own name (strong target None) c h
  growing-row t name (row.Link target false) c h = growing-add_own name (weak target None) c h
  growing-row t name (row.Child k) c h = growing-add_own name (child (c.born + 1)) (with_new (fresh_record (c.born + 1) k) c) (growing-new k c h)
  growing-row t name (row.Alias owner of) c h = go (owned c n (property_name owner))
    where
      go : (o : Option ℕ) → Growing (aliased n name (property_name of) o c)
      go None = h
      go (Some m) = growing-add_own name (alias m (property_name of)) c h

  growing-rows : (t : TypeId) (ps : List Property) (c : Board) → Growing c → Growing (properties_made n t ps c)
  growing-rows t [] c h = h
  growing-rows t (p ∷ ps) c h = growing-rows t ps (property_made n t (property_name p.name) p.role c) (growing-row t (property_name p.name) p.role c h)

  -- where it stands
  growing-set : (name : List ℕ) (v : Val) (c : Board) → Growing c → Growing (set_named n name v c)
  growing-set name v c h = set-by Growing n name c h v (λ i e. growing-own (with_changed (with_val v) i) (λ r. refl) c h)

  growing-link : (name : List ℕ) (m : ℕ) (c : Board) → Growing c → Growing (link_named n name m c)
  growing-link name m c h = link-by Growing n name c h m (λ i e. growing-own (with_changed (fitted c m) i) (λ r. refl) c h)

  growing-addressed : (range : Option Range) (c : Board) → Growing c → Growing (addressed_at n range c)
  growing-addressed None c h = h
  growing-addressed (Some r) c h = growing-set (codes "addr") (val.Uint r.at) c h

  growing-stood : (a : Wanted) (resources : Resources) (c : Board) → Growing c → Growing (stood b n a resources c)
  growing-stood a resources c h =
      stand-by Growing b n a resources
      (record {
        named = growing-add (parent_for a.id) (name_for b a.id) (child n) refl (inl refl);
        on_bus = growing-add resources.bus (kid_name resources.slot) (strong Device (Some n)) refl (inr (record { memdev = refl; home = refl }));
        given = growing-own (with_given b a.props) (λ r. refl);
        placed = growing-set (codes "slot") (val.Uint resources.slot);
        linked = growing-link (codes "parent_bus") resources.bus;
        marked = growing-set (codes "realized") (val.Bool true);
        addressed = growing-addressed resources.range;
        bodied = growing-own (with_body_of a.id resources.range) (λ r. refl);
      }) c h

  -- a clock gets its source
  growing-source : (m source : ℕ) (c : Board) → Growing c → Growing (link_named m (codes "source") source c)
  growing-source m source c h = link-by Growing m (codes "source") c h source there
    where
      there : (i : ℕ) → index_from (is_named (codes "source")) 0 (slots_at c m) ≡ Some i → Growing (edit m (with_changed (fitted c source) i) c)
      there i e =
          let f : Found (is_named (codes "source")) (slots_at c m) i = found-at (is_named (codes "source")) i (slots_at c m) e in
          growing-slots m (with_changed (fitted c source) i) (λ r. refl) (λ r. refl) (λ r. refl) c
          (λ r q.
          less-filled (is_a r.kind (codes "mem-dimm")) (fitted c source) (plain-fitted c source) i r.slots f.entry (at-record c m i f.entry r f.at q)
          (record {
            memdev = ap is_memdev ((bytes_eq-Decides f.entry.0 (codes "source")).0 f.passes);
            home = ap is_home ((bytes_eq-Decides f.entry.0 (codes "source")).0 f.passes);
          })) h

  growing-clocked : (source : ℕ) (c : Board) → Growing c → Growing (clocked source n c)
  growing-clocked source c h = go (clock_of c n)
    where
      go : (o : Option ℕ) → Growing (with_source source o c)
      go None = h
      go (Some m) = growing-source m source c h

  growing-counted : (id : Option (List ℕ)) (c : Board) → Growing c → Growing (counted id c)
  growing-counted None c h = growing-like c _ refl refl h
  growing-counted (Some id) c h = h

  growing-acts : KeepsActs (λ m. ⊤) Growing
  unfolding acted
  growing-acts act m period unbound on c h =
      growing-like (edit m (with_act_on act c.now period) c) (acted act m period c) refl refl
      (growing-edit m (with_act_on act c.now period) (λ r. refl) c
      (λ r e apart.
      record { kind = refl; range = act-range act c.now period r.registers; slots = less-none (is_a r.kind (codes "mem-dimm")) false r.slots }) h)

  pub growing-all : (t : TypeId) (a : Wanted) (resources : Resources) → Growing (with_plugged b t a resources)
  growing-all t a resources =
      growing-like (edit n (with_path (canonical e n)) e) _ refl refl
      (growing-own (with_path (canonical e n)) (λ r. refl) e
      (step-plugged (λ m. ⊤) Growing growing-acts n d (all-any (post d n))
      (step-acted_all (λ m. ⊤) Growing growing-acts Realize refl (n ∷ bus_births n t) (all-any (n ∷ bus_births n t)) (with_device b t a resources)
      (growing-counted a.id _
      (growing-clocked (source_for b resources.bus) (stood b n a resources (drafted b t))
      (growing-stood a resources (drafted b t) (growing-rows t (slots_of t) (with_new (fresh n t) b) (growing-first t))))))))
    where
      d : Board
      d = acted_all Realize (n ∷ bus_births n t) (with_device b t a resources)

      e : Board
      e = plugged d n
