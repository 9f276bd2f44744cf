-- A device that is added leaves the slots of the objects that were there, but for its container and its bus; its children are new.
use Rattle.std.proofs.Common.{◌≡◌, refl, ap, sym, subst, ◌∙◌, ℕ, zero, suc, ◌+◌, ◌<◌, ◌≤◌, Bool, true, false, ◌==◌, ◌||◌, List, [], ◌∷◌, find, map, slice_get, Option, Some, None, codes, arith}
use Rattle.qo_model.proofs.Common.{⊤, AllByRecursion, option_map_or, option_or, bytes_eq, Realize, TypeId, Device, Val, Range, Board, Record, Slot, plain, child, strong, weak, alias, record_of, slots_at, add, changed_at, fresh, with_added, with_changed, with_val, acted, with_act_on, clock_of, kid_name, index_from, first_value, fresh_record, canonical, Given, given_to, slot_given, Resources, Wanted, acted_all, addressed_at, aliased, bus_births, clocked, counted, drafted, fitted, link_named, name_for, owned, parent_for, property_made, properties_made, source_for, stood, with_body_of, with_device, with_given, with_new, with_path, with_plugged, with_source, edit, plugged, post, property_name, slots_of, is_named, set_named}
use Rattle.std.proofs.lemmas.Bool.{eq-eqb, ne_eqb}
use Rattle.std.proofs.lemmas.Option.{same_Some}
use Rattle.std.proofs.lemmas.Slice.Eq.{bytes_eq-Decides}
use Rattle.qo_values.specs.declared.properties.Val.TheVariants as val
use Rattle.qo_model.specs.declared.properties.Property.{Property}
use Rattle.qo_model.specs.declared.properties.PropertyRole.{PropertyRole}
use Rattle.qo_model.specs.declared.properties.PropertyRole.TheVariants as row
use Rattle.qo_model.proofs.FirstSlotLemmas.{Found, found-at}
use Rattle.qo_model.proofs.StepLemmas.{found-edited, found_at, slots-edited}
use Rattle.qo_sound.proofs.AdditionStepsLemmas.{all-any, KeepsActs, link-by, set-by, stand-by, step-acted_all, step-plugged}
use Rattle.qo_sound.proofs.RecordLemmas.{all-append}
use Rattle.qo_sound.proofs.SearchLemmas.{found-append}
use Rattle.qo_sound_clocks.proofs.PlugLemmas.{child-in, edited-at}
use Rattle.qo_sound.proofs.TestLemmas.{clash, decide}
use Rattle.qo_sound_devices.proofs.LikenessLemmas.{other-record}

abbrev Slots : Type 0
Slots = List (List ℕ × Slot)

abbrev slots_in : Option Record → Slots
slots_in o = option_map_or (λ (r : Record). r.slots) o []

-- the links of devices that `qom-set` writes
abbrev pub is_open : List ℕ → Bool
is_open name = bytes_eq name (codes "peer") || bytes_eq name (codes "watch")

-- a child is younger than n, and such a link is empty
abbrev pub IsYoung : ℕ → List ℕ × Slot → Type 0
IsYoung n (name, plain v) = ⊤
IsYoung n (name, child m) = n < m
IsYoung n (name, strong t target) = is_open name ≡ true → target ≡ None
IsYoung n (name, weak t target) = is_open name ≡ true → target ≡ None
IsYoung n (name, alias m of) = ⊤

abbrev AreYoung : ℕ → Slots → Type 0
AreYoung n slots = AllByRecursion (IsYoung n) slots

young-changed : (n i : ℕ) (change : Slot → Slot) (slots : Slots)
    → ((s : List ℕ × Slot) → slice_get slots i ≡ Some s → IsYoung n s → IsYoung n (s.0, change s.1)) → AreYoung n slots → AreYoung n (changed_at change i slots)
young-changed n i change [] keeps h = tt
young-changed n zero change (s ∷ slots) keeps h = (keeps s refl h.0, h.1)
young-changed n (suc i) change (s ∷ slots) keeps h = (h.0, young-changed n i change slots keeps h.1)

young-val : (n : ℕ) (v : Val) (s : List ℕ × Slot) → IsYoung n s → IsYoung n (s.0, with_val v s.1)
young-val n v (name, plain w) h = tt
young-val n v (name, child m) h = h
young-val n v (name, strong t target) h = h
young-val n v (name, weak t target) h = h
young-val n v (name, alias m of) h = tt

young-fitted : (n : ℕ) (c : Board) (m : ℕ) (s : List ℕ × Slot) → is_open s.0 ≡ false → IsYoung n s → IsYoung n (s.0, fitted c m s.1)
young-fitted n c m (name, plain w) shut h = tt
young-fitted n c m (name, child k) shut h = h
young-fitted n c m (name, strong t None) shut h = λ on. clash (sym on ∙ shut)
young-fitted n c m (name, strong t (Some k)) shut h = h
young-fitted n c m (name, weak t None) shut h = λ on. clash (sym on ∙ shut)
young-fitted n c m (name, weak t (Some k)) shut h = h
young-fitted n c m (name, alias k of) shut h = tt

-- nothing is given for such a link
abbrev pub LeavesOpen : List Given → Type 0
LeavesOpen props = (name : List ℕ) → is_open name ≡ true → find (λ (p : Given). bytes_eq p.0 name) props ≡ None

young-given : (n : ℕ) (b : Board) (props : List Given) → LeavesOpen props → (slots : Slots) → AreYoung n slots → AreYoung n (map (slot_given b props) slots)
young-given n b props leaves [] h = tt
young-given n b props leaves (s ∷ slots) h = (one s h.0, young-given n b props leaves slots h.1)
  where
    shut : (x : List ℕ × Slot) → is_open x.0 ≡ false → (v : Val) → IsYoung n x → IsYoung n (x.0, given_to b x.1 v)
    shut (name, plain w) e v k = tt
    shut (name, child m) e v k = k
    shut (name, strong t target) e (val.Text path) k = λ on. clash (sym on ∙ e)
    shut (name, strong t target) e (val.Bool v) k = k
    shut (name, strong t target) e (val.Int v) k = k
    shut (name, strong t target) e (val.Uint v) k = k
    shut (name, strong t target) e val.Nothing k = k
    shut (name, weak t target) e (val.Text path) k = λ on. clash (sym on ∙ e)
    shut (name, weak t target) e (val.Bool v) k = k
    shut (name, weak t target) e (val.Int v) k = k
    shut (name, weak t target) e (val.Uint v) k = k
    shut (name, weak t target) e val.Nothing k = k
    shut (name, alias m of) e v k = tt

    own : (x : List ℕ × Slot) → IsYoung n x → IsYoung n (x.0, x.1)
    own (name, plain w) k = k
    own (name, child m) k = k
    own (name, strong t target) k = k
    own (name, weak t target) k = k
    own (name, alias m of) k = k

    one : (x : List ℕ × Slot) → IsYoung n x → IsYoung n (slot_given b props x)
    one x k = go (find (λ (p : Given). bytes_eq p.0 x.0) props) refl
      where
        go : (o : Option Given) → find (λ (p : Given). bytes_eq p.0 x.0) props ≡ o → IsYoung n (slot_given b props x)
        go None q = rw (slot_given, q) (own x k)
        go (Some g) q =
            rw (slot_given, q)
            (decide (is_open x.0) (λ on. absurd (let clash : None ≡ Some g = sym (leaves x.0 on) ∙ q in cc)) (λ e. shut x e g.1 k))

-- the board as the device is added to b, below one object and on another
module _ (b : Board) (parent bus : ℕ) (parent_old : parent ≤ b.born) (bus_old : bus ≤ b.born) (absent : (m : ℕ) → b.born < m → record_of b m ≡ None) where
  abbrev n : ℕ
  n = b.born + 1

  pub record Staying (c : Board) : Type 0 where
    pub born : b.born < c.born
    pub old : (x : ℕ) → x ≤ b.born → (x == parent) ≡ false → (x == bus) ≡ false → slots_at c x ≡ slots_at b x
    pub young : AllByRecursion (IsYoung (b.born + 1)) (slots_at c (b.born + 1))

  staying-like : (c d : Board) → d.records ≡ c.records → c.born ≡ d.born → Staying c → Staying d
  staying-like c d same births h =
      record {
        born = let low : b.born < c.born = h.born in omega (arith, low, births);
        old = λ x low other apart. ap (λ (rs : List Record). slots_in (found_at x rs)) same ∙ h.old x low other apart;
        young = subst (λ (rs : List Record). AreYoung (b.born + 1) (slots_in (found_at (b.born + 1) rs))) (sym same) h.young;
      }

  -- an edit of another object
  edit-apart : (m x : ℕ) (change : Record → Record) → ((r : Record) → (change r).birth ≡ r.birth) → (c : Board) → (x == m) ≡ false
      → slots_at (edit m change c) x ≡ slots_at c x
  edit-apart m x change same_birth c apart =
      ap slots_in (found-edited m change same_birth x c.records ∙ other-record m x change c refl apart (record_of c x) refl)

  -- an edit of a new object, that brings it no old child
  staying-high : (m : ℕ) → b.born < m → (change : Record → Record) → ((r : Record) → (change r).birth ≡ r.birth)
      → ((r : Record) → AreYoung (b.born + 1) r.slots → AreYoung (b.born + 1) (change r).slots) → (c : Board) → Staying c → Staying (edit m change c)
  staying-high m high change same_birth keeps c h =
      record {
        born = h.born;
        old = λ x low other apart. edit-apart m x change same_birth c (ne_eqb x m (λ is. omega (arith, low, high, is))) ∙ h.old x low other apart;
        young = edited-at (AreYoung (b.born + 1)) m change same_birth c (b.born + 1) (λ apart. h.young)
            (λ r e is. keeps r (subst (AreYoung (b.born + 1)) (ap slots_in e) h.young)) tt;
      }

  -- an edit of the device, at the object that is found
  staying-at : (change : Record → Record) → ((r : Record) → (change r).birth ≡ r.birth) → (c : Board)
      → ((r : Record) → record_of c (b.born + 1) ≡ Some r → AreYoung (b.born + 1) r.slots → AreYoung (b.born + 1) (change r).slots) → Staying c
      → Staying (edit (b.born + 1) change c)
  staying-at change same_birth c keeps h =
      record {
        born = h.born;
        old = λ x low other apart.
            edit-apart (b.born + 1) x change same_birth c (ne_eqb x (b.born + 1) (λ is. omega (arith, low, is))) ∙ h.old x low other apart;
        young = edited-at (AreYoung (b.born + 1)) (b.born + 1) change same_birth c (b.born + 1) (λ apart. h.young)
            (λ r e is. keeps r e (subst (AreYoung (b.born + 1)) (ap slots_in e) h.young)) tt;
      }

  -- an edit of its parent or its bus
  staying-low : (m : ℕ) → m ≤ b.born → ((x : ℕ) → (x == parent) ≡ false → (x == bus) ≡ false → (x == m) ≡ false) → (change : Record → Record)
      → ((r : Record) → (change r).birth ≡ r.birth) → (c : Board) → Staying c → Staying (edit m change c)
  staying-low m low on change same_birth c h =
      record {
        born = h.born;
        old = λ x before other apart. edit-apart m x change same_birth c (on x other apart) ∙ h.old x before other apart;
        young =
            subst (AreYoung (b.born + 1)) (sym (edit-apart m (b.born + 1) change same_birth c (ne_eqb (b.born + 1) m (λ is. omega (arith, low, is))))) h.young;
      }

  -- an edit that leaves slots
  staying-slots : (m : ℕ) (change : Record → Record) → ((r : Record) → (change r).birth ≡ r.birth) → ((r : Record) → (change r).slots ≡ r.slots) → (c : Board)
      → Staying c → Staying (edit m change c)
  staying-slots m change same_birth same c h =
      record {
        born = h.born;
        old = λ x low other apart. kept x ∙ h.old x low other apart;
        young = subst (AreYoung (b.born + 1)) (sym (kept (b.born + 1))) h.young;
      }
    where
      kept : (x : ℕ) → slots_at (edit m change c) x ≡ slots_at c x
      kept x = ap slots_in (found-edited m change same_birth x c.records) ∙ slots-edited m change same (record_of c x)

  -- an object more
  new-apart : (r : Record) (c : Board) (x : ℕ) → (r.birth == x) ≡ false → slots_at (with_new r c) x ≡ slots_at c x
  new-apart r c x apart = ap slots_in (found-append x c.records (r ∷ [])) ∙ rw apart (go (record_of c x))
    where
      go : (o : Option Record) → slots_in (option_or o None) ≡ slots_in o
      go None = refl
      go (Some y) = refl

  staying-first : (t : TypeId) → Staying (with_new (fresh (b.born + 1) t) b)
  staying-first t =
      record {
        born = omega arith;
        old = λ x low other apart. new-apart (fresh (b.born + 1) t) b x (ne_eqb (b.born + 1) x (λ is. omega (arith, low, is)));
        young = subst (AreYoung (b.born + 1)) (sym own) tt;
      }
    where
      own : slots_at (with_new (fresh (b.born + 1) t) b) (b.born + 1) ≡ []
      own =
          let here : (b.born + 1 == b.born + 1) ≡ true = eq-eqb (b.born + 1) (b.born + 1) refl in
          let its : found_at (b.born + 1) (fresh (b.born + 1) t ∷ []) ≡ Some (fresh (b.born + 1) t) = rw here refl in
          ap slots_in (found-append (b.born + 1) b.records (fresh (b.born + 1) t ∷ []))
          ∙ ap (λ (o : Option Record). slots_in (option_or o (found_at (b.born + 1) (fresh (b.born + 1) t ∷ [])))) (absent (b.born + 1) (omega arith))
          ∙ ap slots_in its

  staying-new : (t : TypeId) (c : Board) → Staying c → Staying (with_new (fresh_record (c.born + 1) t) c)
  staying-new t c h =
      let more : b.born < c.born = h.born in
      record {
        born = omega (arith, more);
        old = λ x low other apart.
            new-apart (fresh_record (c.born + 1) t) c x (ne_eqb (c.born + 1) x (λ is. omega (arith, low, more, is))) ∙ h.old x low other apart;
        young = subst (AreYoung (b.born + 1))
            (sym (new-apart (fresh_record (c.born + 1) t) c (b.born + 1) (ne_eqb (c.born + 1) (b.born + 1) (λ is. omega (arith, more, is))))) h.young;
      }

  -- a slot more of the device
  staying-add : (name : List ℕ) (s : Slot) → IsYoung (b.born + 1) (name, s) → (c : Board) → Staying c → Staying (add (b.born + 1) name s c)
  unfolding add
  staying-add name s new c h =
      staying-high (b.born + 1) (omega arith) (with_added name s) (λ r. refl)
      (λ r k. all-append (IsYoung (b.born + 1)) r.slots ((name, s) ∷ []) k (new, tt)) c h

  -- what is made
  staying-row : (t : TypeId) (name : List ℕ) (kind : PropertyRole) (c : Board) → Staying c → Staying (property_made (b.born + 1) t name kind c)
  staying-row t name (row.Plain type first) c h = staying-add name (plain (first_value t first)) tt c h
  staying-row t name (row.Link target true) c h = staying-add name (strong target None) (λ on. refl) c h
  staying-row t name (row.Link target false) c h = staying-add name (weak target None) (λ on. refl) c h
  staying-row t name (row.Child k) c h =
      let more : b.born < c.born = h.born in
      staying-add name (child (c.born + 1)) (omega (arith, more)) (with_new (fresh_record (c.born + 1) k) c) (staying-new k c h)
  staying-row t name (row.Alias owner of) c h = go (owned c (b.born + 1) (property_name owner))
    where
      go : (o : Option ℕ) → Staying (aliased (b.born + 1) name (property_name of) o c)
      go None = h
      go (Some m) = staying-add name (alias m (property_name of)) tt c h

  staying-rows : (t : TypeId) (ps : List Property) (c : Board) → Staying c → Staying (properties_made (b.born + 1) t ps c)
  staying-rows t [] c h = h
  staying-rows t (p ∷ ps) c h =
      staying-rows t ps (property_made (b.born + 1) t (property_name p.name) p.role c) (staying-row t (property_name p.name) p.role c h)

  -- where it stands
  staying-set : (name : List ℕ) (v : Val) (c : Board) → Staying c → Staying (set_named (b.born + 1) name v c)
  staying-set name v c h =
      set-by Staying (b.born + 1) name c h v
      (λ i e. staying-high (b.born + 1) (omega arith) (with_changed (with_val v) i) (λ r. refl)
      (λ r k. young-changed (b.born + 1) i (with_val v) r.slots (λ x e y. young-val (b.born + 1) v x y) k) c h)

  staying-source : (m : ℕ) → b.born + 1 < m → (name : List ℕ) (target : ℕ) (c : Board) → Staying c → Staying (link_named m name target c)
  staying-source m high name target c h =
      link-by Staying m name c h target
      (λ i e. record {
        born = h.born;
        old = λ x low other apart.
            edit-apart m x (with_changed (fitted c target) i) (λ r. refl) c (ne_eqb x m (λ is. omega (arith, low, high, is))) ∙ h.old x low other apart;
        young = subst (AreYoung (b.born + 1))
            (sym (edit-apart m (b.born + 1) (with_changed (fitted c target) i) (λ r. refl) c (ne_eqb (b.born + 1) m (λ is. omega (arith, high, is))))) h.young;
      })

  staying-link : (name : List ℕ) → is_open name ≡ false → (target : ℕ) (c : Board) → Staying c → Staying (link_named (b.born + 1) name target c)
  staying-link name shut target c h =
      link-by Staying (b.born + 1) name c h target there
    where
      there : (i : ℕ) → index_from (is_named name) 0 (slots_at c (b.born + 1)) ≡ Some i → Staying (edit (b.born + 1) (with_changed (fitted c target) i) c)
      there i e =
          let f : Found (is_named name) (slots_at c (b.born + 1)) i = found-at (is_named name) i (slots_at c (b.born + 1)) e in
          let is : f.entry.0 ≡ name = (bytes_eq-Decides f.entry.0 name).0 f.passes in
          staying-at (with_changed (fitted c target) i) (λ r. refl) c
          (λ r q k. young-changed (b.born + 1) i (fitted c target) r.slots (λ x g y.
          let same : f.entry ≡ x = same_Some f.entry x (sym f.at ∙ ap (λ (o : Option Record). slice_get (slots_in o) i) q ∙ g) in
          young-fitted (b.born + 1) c target x (ap (λ (z : List ℕ × Slot). is_open z.0) (sym same) ∙ ap is_open is ∙ shut) y) k) h

  staying-addressed : (range : Option Range) (c : Board) → Staying c → Staying (addressed_at (b.born + 1) range c)
  staying-addressed None c h = h
  staying-addressed (Some r) c h = staying-set (codes "addr") (val.Uint r.at) c h

  staying-stood : (a : Wanted) (resources : Resources) → LeavesOpen a.props → parent_for a.id ≡ parent → resources.bus ≡ bus → (c : Board) → Staying c
      → Staying (stood b (b.born + 1) a resources c)
  unfolding add
  staying-stood a resources leaves on_parent on_bus c h =
      stand-by Staying b (b.born + 1) a resources
      (record {
        named = λ d k. staying-low (parent_for a.id) (subst (λ (m : ℕ). m ≤ b.born) (sym on_parent) parent_old)
            (λ x other apart. ap (λ (m : ℕ). x == m) on_parent ∙ other) (with_added (name_for b a.id) (child (b.born + 1))) (λ r. refl) d k;
        on_bus = λ d k. staying-low resources.bus (subst (λ (m : ℕ). m ≤ b.born) (sym on_bus) bus_old)
            (λ x other apart. ap (λ (m : ℕ). x == m) on_bus ∙ apart) (with_added (kid_name resources.slot) (strong Device (Some (b.born + 1)))) (λ r. refl) d k;
        given =
            λ d k. staying-high (b.born + 1) (omega arith) (with_given b a.props) (λ r. refl) (λ r y. young-given (b.born + 1) b a.props leaves r.slots y) d k;
        placed = staying-set (codes "slot") (val.Uint resources.slot);
        linked = staying-link (codes "parent_bus") refl resources.bus;
        marked = staying-set (codes "realized") (val.Bool true);
        addressed = staying-addressed resources.range;
        bodied = λ d k. staying-slots (b.born + 1) (with_body_of a.id resources.range) (λ r. refl) (λ r. refl) d k;
      }) c h

  -- its clock gets its source
  staying-clocked : (source : ℕ) (c : Board) → Staying c → Staying (clocked source (b.born + 1) c)
  staying-clocked source c h = go (clock_of c (b.born + 1)) refl
    where
      go : (o : Option ℕ) → clock_of c (b.born + 1) ≡ o → Staying (with_source source o c)
      go None q = h
      go (Some m) q =
          let (own, high) = child-in (IsYoung (b.born + 1)) (codes "clk") (slots_at c (b.born + 1)) h.young m q in
          staying-source m high (codes "source") source c h

  staying-counted : (id : Option (List ℕ)) (c : Board) → Staying c → Staying (counted id c)
  staying-counted None c h = staying-like c _ refl refl h
  staying-counted (Some id) c h = h

  staying-acts : KeepsActs (λ m. ⊤) Staying
  unfolding acted
  staying-acts act m period unbound on c h =
      staying-like (edit m (with_act_on act c.now period) c) (acted act m period c) refl refl
      (staying-slots m (with_act_on act c.now period) (λ r. refl) (λ r. refl) c h)

  pub staying-all : (t : TypeId) (a : Wanted) (resources : Resources) → LeavesOpen a.props → parent_for a.id ≡ parent → resources.bus ≡ bus
      → Staying (with_plugged b t a resources)
  staying-all t a resources leaves on_parent on_bus =
      staying-like (edit (b.born + 1) (with_path (canonical e (b.born + 1))) e) _ refl refl
      (staying-slots (b.born + 1) (with_path (canonical e (b.born + 1))) (λ r. refl) (λ r. refl) e
      (step-plugged (λ m. ⊤) Staying staying-acts (b.born + 1) d (all-any (post d (b.born + 1)))
      (step-acted_all (λ m. ⊤) Staying staying-acts Realize refl ((b.born + 1) ∷ bus_births (b.born + 1) t) (all-any ((b.born + 1) ∷ bus_births (b.born + 1) t))
      (with_device b t a resources)
      (staying-counted a.id _
      (staying-clocked (source_for b resources.bus) (stood b (b.born + 1) a resources (drafted b t))
      (staying-stood a resources leaves on_parent on_bus (drafted b t)
      (staying-rows t (slots_of t) (with_new (fresh (b.born + 1) t) b) (staying-first t))))))))
    where
      d : Board
      d = acted_all Realize ((b.born + 1) ∷ bus_births (b.born + 1) t) (with_device b t a resources)

      e : Board
      e = plugged d (b.born + 1)
