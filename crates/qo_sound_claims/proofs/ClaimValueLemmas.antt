-- What a device that is added has under the names of its claims: the value that is given, or that its type begins with; of a DIMM its address and its range.
use Rattle.std.proofs.Common.{◌≡◌, refl, ap, sym, subst, ◌∙◌, ℕ, ◌+◌, ◌<◌, Bool, true, false, cond, ◌==◌, List, [], ◌∷◌, ◌++◌, filter, map, Option, Some, None, option_map, codes, arith}
use Rattle.qo_model.proofs.Common.{option_map_or, option_or, bytes_eq, Act, Realize, Enter, Hold, Exit, TypeId, Device, Val, Range, Board, Record, Slot, plain, child, strong, weak, alias, record_of, slots_at, add, fresh, set, with_added, with_changed, with_val, acted, with_act_on, clock_of, kid_name, Given, index_from, slot_given, first_value, fresh_record, canonical, Resources, Wanted, acted_all, addressed_at, aliased, bus_births, clocked, counted, drafted, fitted, joined, link_named, name_for, owned, parent_for, range_in, property_made, properties_made, source_for, stood, valued, with_body_of, with_device, with_given, with_new, with_path, with_plugged, with_source, edit, edited, is_not_in_reset, phased, plugged, post, property_name, slots_of, is_named, set_named}
use Rattle.qo_model.specs.declared.properties.Property.{Property}
use Rattle.qo_model.specs.declared.properties.PropertyRole.{PropertyRole}
use Rattle.std.proofs.lemmas.Bool.{eq-eqb}
use Rattle.std.proofs.lemmas.Option.{same_Some}
use Rattle.std.proofs.lemmas.Slice.Eq.{bytes_eq-Decides}
use Rattle.qo_values.specs.declared.properties.Val.TheVariants as val
use Rattle.qo_model.specs.declared.properties.PropertyRole.TheVariants as row
use Rattle.qo_model.proofs.FirstSlotLemmas.{named_in, Found, found-at, first-changed, none-found, named-other, other-name}
use Rattle.qo_model.proofs.StepLemmas.{found-edited, found_at, found-birth}
use Rattle.qo_sound.proofs.SearchLemmas.{found-append}
use Rattle.qo_sound.proofs.ReadLemmas.{edit-slots}
use Rattle.qo_sound_devices.proofs.DropLemmas.{edited-slots}
use Rattle.qo_sound_devices.proofs.BusLinkLemmas.{SlotIs, slot-none, slot-more}
use Rattle.qo_sound_devices.proofs.PlainSlotLemmas.{stay-add, stay-rows}
use Rattle.qo_sound_clocks.proofs.SlotLemmas.{Slots}
use Rattle.qo_sound_clocks.proofs.DependenceLemmas.{acted-slots}
use Rattle.qo_sound_claims.specs.ClaimsStay.{ranges_at}
use Rattle.qo_sound_claims.proofs.DecreaseLemmas.{act-range, at-record}

slot-last : (name own : List ℕ) (s : Slot) → bytes_eq own name ≡ true → (slots : Slots) → named_in name slots ≡ None → SlotIs name s (slots ++ (own, s) ∷ [])
slot-last name own s is [] e = rw is refl
slot-last name own s is (x ∷ slots) e = go (bytes_eq x.0 name) refl (slot-last name own s is slots)
  where
    go : (t : Bool) → bytes_eq x.0 name ≡ t → (named_in name slots ≡ None → SlotIs name s (slots ++ (own, s) ∷ []))
        → SlotIs name s ((x ∷ slots) ++ (own, s) ∷ [])
    go true p rest = absurd (let clash : Some x.1 ≡ None = rw p at e in cc)
    go false p rest = rw p (rest (rw p at e))

none-last : (name own : List ℕ) (s : Slot) → bytes_eq own name ≡ false → (slots : Slots) → named_in name slots ≡ None
    → named_in name (slots ++ (own, s) ∷ []) ≡ None
none-last name own s apart [] e = rw apart refl
none-last name own s apart (x ∷ slots) e = go (bytes_eq x.0 name) refl (none-last name own s apart slots)
  where
    go : (t : Bool) → bytes_eq x.0 name ≡ t → (named_in name slots ≡ None → named_in name (slots ++ (own, s) ∷ []) ≡ None)
        → named_in name ((x ∷ slots) ++ (own, s) ∷ []) ≡ None
    go true p rest = absurd (let clash : Some x.1 ≡ None = rw p at e in cc)
    go false p rest = rw p (rest (rw p at e))

-- with the values given
slot-given : (b : Board) (props : List Given) (name : List ℕ) (s : Slot) (slots : Slots) → SlotIs name s slots
    → SlotIs name (slot_given b props (name, s)).1 (map (slot_given b props) slots)
slot-given b props name s [] e = absurd (let clash : None ≡ Some s = e in cc)
slot-given b props name s (x ∷ slots) e = go (bytes_eq x.0 name) refl (slot-given b props name s slots)
  where
    go : (t : Bool) → bytes_eq x.0 name ≡ t → (SlotIs name s slots → SlotIs name (slot_given b props (name, s)).1 (map (slot_given b props) slots))
        → SlotIs name (slot_given b props (name, s)).1 (map (slot_given b props) (x ∷ slots))
    go true p rest =
        let own : x.0 ≡ name = (bytes_eq-Decides x.0 name).0 p in
        let is : x.1 ≡ s = same_Some x.1 s (rw p at e) in
        rw p
        (ap (λ (k : List ℕ). Some (slot_given b props (k, x.1)).1) own ∙ ap (λ (y : Slot). Some (slot_given b props (name, y)).1) is)
    go false p rest = rw p (rest (rw p at e))

-- the slot that the first row of a name begins with
abbrev pub plain_row : TypeId → PropertyRole → Option Slot
plain_row t (row.Plain type first) = Some (plain (first_value t first))
plain_row t (row.Link target true) = Some (strong target None)
plain_row t kind = None

abbrev pub first_row : TypeId → List ℕ → List Property → Option Slot
first_row t name [] = None
first_row t name (p ∷ ps) = cond (bytes_eq (property_name p.name) name) (plain_row t p.role) (first_row t name ps)

-- an object's slots after an edit of it, and of any
own-edit : (P Q : Slots → Type 0) → (P [] → ⊥) → (n : ℕ) (change : Record → Record) → ((r : Record) → (change r).birth ≡ r.birth) → (c : Board)
    → ((r : Record) → record_of c n ≡ Some r → P r.slots → Q (change r).slots) → P (slots_at c n) → Q (slots_at (edit n change c) n)
own-edit P Q never n change same_birth c keeps h = go (record_of c n) refl
  where
    go : (o : Option Record) → record_of c n ≡ o → Q (slots_at (edit n change c) n)
    go None e = absurd (never (subst (λ (x : Option Record). P (option_map_or (λ (r : Record). r.slots) x [])) e h))
    go (Some r) e =
        subst Q (sym (edited-slots c n change same_birth r e))
        (keeps r e (subst (λ (x : Option Record). P (option_map_or (λ (y : Record). y.slots) x [])) e h))

any-edit : (P : Slots → Type 0) → (n m : ℕ) (change : Record → Record) → ((r : Record) → (change r).birth ≡ r.birth) → (c : Board)
    → ((r : Record) → record_of c m ≡ Some r → P r.slots → P (change r).slots) → P (slots_at c n) → P (slots_at (edit m change c) n)
any-edit P n m change same_birth c keeps h = edit-slots (λ xs ys. P xs → P ys) (λ xs k. k) m change same_birth c keeps n h

-- an object without a slot of a name
record Bare (n : ℕ) (name : List ℕ) (c : Board) : Type 0 where
  it : Record
  found : record_of c n ≡ Some it
  none : named_in name it.slots ≡ None

own-added : (n : ℕ) (name : List ℕ) (s : Slot) (c : Board) (r : Record) → record_of c n ≡ Some r → record_of (add n name s c) n ≡ Some (with_added name s r)
unfolding add
own-added n name s c r e =
    let own : (r.birth == n) ≡ true = eq-eqb r.birth n (found-birth n c.records r e) in
    found-edited n (with_added name s) (λ x. refl) n c.records ∙ ap (option_map (edited n (with_added name s))) e ∙ rw (edited, own) refl

module _ (n : ℕ) (name : List ℕ) where
  bare-add : (own : List ℕ) (s : Slot) → bytes_eq own name ≡ false → (c : Board) → Bare n name c → Bare n name (add n own s c)
  bare-add own s apart c h =
      record { it = with_added own s h.it; found = own-added n own s c h.it h.found; none = none-last name own s apart h.it.slots h.none }

  bare-new : (r : Record) (c : Board) → Bare n name c → Bare n name (with_new r c)
  bare-new r c h =
      record { it = h.it; found = found-append n c.records (r ∷ []) ∙ ap (λ (o : Option Record). option_or o (found_at n (r ∷ []))) h.found; none = h.none }

  bare-row : (t : TypeId) (own : List ℕ) (kind : PropertyRole) → bytes_eq own name ≡ false → (c : Board) → Bare n name c
      → Bare n name (property_made n t own kind c)
  bare-row t own (row.Plain type first) apart c h = bare-add own (plain (first_value t first)) apart c h
  bare-row t own (row.Link target true) apart c h = bare-add own (strong target None) apart c h
  bare-row t own (row.Link target false) apart c h = bare-add own (weak target None) apart c h
  bare-row t own (row.Child k) apart c h =
      bare-add own (child (c.born + 1)) apart (with_new (fresh_record (c.born + 1) k) c) (bare-new (fresh_record (c.born + 1) k) c h)
  bare-row t own (row.Alias owner of) apart c h = go (owned c n (property_name owner))
    where
      go : (o : Option ℕ) → Bare n name (aliased n own (property_name of) o c)
      go None = h
      go (Some m) = bare-add own (alias m (property_name of)) apart c h

  added-is : (own : List ℕ) (s : Slot) → bytes_eq own name ≡ true → (c : Board) → Bare n name c → SlotIs name s (slots_at (add n own s c) n)
  added-is own s is c h =
      ap (λ (o : Option Record). named_in name (option_map_or (λ (r : Record). r.slots) o [])) (own-added n own s c h.it h.found)
      ∙ slot-last name own s is h.it.slots h.none

  row-is : (t : TypeId) (own : List ℕ) (kind : PropertyRole) (s : Slot) → plain_row t kind ≡ Some s → bytes_eq own name ≡ true → (c : Board) → Bare n name c
      → SlotIs name s (slots_at (property_made n t own kind c) n)
  row-is t own (row.Plain type first) s e is c h =
      subst (λ (x : Slot). SlotIs name x (slots_at (property_made n t own (row.Plain type first) c) n)) (same_Some (plain (first_value t first)) s e)
      (added-is own (plain (first_value t first)) is c h)
  row-is t own (row.Link target true) s e is c h =
      subst (λ (x : Slot). SlotIs name x (slots_at (property_made n t own (row.Link target true) c) n)) (same_Some (strong target None) s e)
      (added-is own (strong target None) is c h)
  row-is t own (row.Link target false) s e is c h = absurd (let clash : None ≡ Some s = e in cc)
  row-is t own (row.Child k) s e is c h = absurd (let clash : None ≡ Some s = e in cc)
  row-is t own (row.Alias owner of) s e is c h = absurd (let clash : None ≡ Some s = e in cc)

  rows-are : (t : TypeId) (s : Slot) (ps : List Property) → first_row t name ps ≡ Some s → (c : Board) → Bare n name c
      → SlotIs name s (slots_at (properties_made n t ps c) n)
  rows-are t s [] e c h = absurd (let clash : None ≡ Some s = e in cc)
  rows-are t s (p ∷ ps) e c h = go (bytes_eq (property_name p.name) name) refl (rows-are t s ps)
    where
      go : (u : Bool) → bytes_eq (property_name p.name) name ≡ u
          → (first_row t name ps ≡ Some s → (d : Board) → Bare n name d → SlotIs name s (slots_at (properties_made n t ps d) n))
          → SlotIs name s (slots_at (properties_made n t (p ∷ ps) c) n)
      go true q rest =
          stay-rows (SlotIs name s) (slot-none name s) (slot-more name s) n t ps (property_made n t (property_name p.name) p.role c)
          (row-is t (property_name p.name) p.role s (rw q at e) q c h)
      go false q rest = rest (rw q at e) (property_made n t (property_name p.name) p.role c) (bare-row t (property_name p.name) p.role q c h)

  -- where another name is set, or linked
  set-other : (own : List ℕ) (v : Val) (s : Slot) → bytes_eq own name ≡ false → (c : Board) → SlotIs name s (slots_at c n)
      → SlotIs name s (slots_at (set_named n own v c) n)
  unfolding set
  set-other own v s apart c h = go (index_from (is_named own) 0 (slots_at c n)) refl
    where
      go : (o : Option ℕ) → index_from (is_named own) 0 (slots_at c n) ≡ o → SlotIs name s (slots_at (set_named n own v c) n)
      go None e = rw (set_named, e) h
      go (Some i) e =
          let f : Found (is_named own) (slots_at c n) i = found-at (is_named own) i (slots_at c n) e in
          rw (set_named, e)
          (own-edit (SlotIs name s) (SlotIs name s) (slot-none name s) n (with_changed (with_val v) i) (λ r. refl) c
          (λ r q k. named-other (with_val v) name i r.slots f.entry (at-record c n i f.entry r f.at q) (other-name own name apart f.entry f.passes) ∙ k) h)

  link-other : (m : ℕ) (own : List ℕ) (target : ℕ) (s : Slot) → bytes_eq own name ≡ false → (c : Board) → SlotIs name s (slots_at c n)
      → SlotIs name s (slots_at (link_named m own target c) n)
  link-other m own target s apart c h = go (index_from (is_named own) 0 (slots_at c m)) refl
    where
      go : (o : Option ℕ) → index_from (is_named own) 0 (slots_at c m) ≡ o → SlotIs name s (slots_at (link_named m own target c) n)
      go None e = rw (link_named, e) h
      go (Some i) e =
          let f : Found (is_named own) (slots_at c m) i = found-at (is_named own) i (slots_at c m) e in
          rw (link_named, e)
          (any-edit (SlotIs name s) n m (with_changed (fitted c target) i) (λ r. refl) c
          (λ r q k.
          named-other (fitted c target) name i r.slots f.entry (at-record c m i f.entry r f.at q) (other-name own name apart f.entry f.passes) ∙ k) h)

  -- where it is set itself
  set-own : (v w : Val) (c : Board) → SlotIs name (plain w) (slots_at c n) → SlotIs name (plain v) (slots_at (set_named n name v c) n)
  unfolding set
  set-own v w c h = go (index_from (is_named name) 0 (slots_at c n)) refl
    where
      go : (o : Option ℕ) → index_from (is_named name) 0 (slots_at c n) ≡ o → SlotIs name (plain v) (slots_at (set_named n name v c) n)
      go None e = absurd (let clash : None ≡ Some (plain w) = sym (none-found name (slots_at c n) 0 e) ∙ h in cc)
      go (Some i) e =
          rw (set_named, e)
          (own-edit (SlotIs name (plain w)) (SlotIs name (plain v)) (slot-none name (plain w)) n (with_changed (with_val v) i) (λ r. refl) c
          (λ r q k.
          first-changed (with_val v) name r.slots 0 i i
          (ap (λ (o : Option Record). index_from (is_named name) 0 (option_map_or (λ (x : Record). x.slots) o [])) (sym q) ∙ e) (omega arith)
          ∙ ap (option_map (with_val v)) k) h)

  -- acts leave it
  acted-is : (s : Slot) (act : Act) (m : ℕ) (c : Board) → SlotIs name s (slots_at c n) → SlotIs name s (slots_at (acted act m 0 c) n)
  acted-is s act m c h = ap (named_in name) (acted-slots act m 0 c n) ∙ h

  acted_all-is : (s : Slot) (act : Act) (ms : List ℕ) (c : Board) → SlotIs name s (slots_at c n) → SlotIs name s (slots_at (acted_all act ms c) n)
  acted_all-is s act [] c h = h
  acted_all-is s act (m ∷ ms) c h = acted_all-is s act ms (acted act m 0 c) (acted-is s act m c h)

  phased-is : (s : Slot) (act : Act) (ms : List ℕ) (c : Board) → SlotIs name s (slots_at c n) → SlotIs name s (slots_at (phased act ms c) n)
  phased-is s act [] c h = h
  phased-is s act (m ∷ ms) c h = phased-is s act ms (acted act m 0 c) (acted-is s act m c h)

  plugged-is : (s : Slot) (d : ℕ) (c : Board) → SlotIs name s (slots_at c n) → SlotIs name s (slots_at (plugged c d) n)
  unfolding plugged
  plugged-is s d c h =
      let c1 : Board = phased Enter (post c d) c in
      let c2 : Board = phased Hold (post c d) c1 in
      phased-is s Exit (filter (is_not_in_reset c) (post c d)) c2 (phased-is s Hold (post c d) c1 (phased-is s Enter (post c d) c h))

-- the range of an object

range-edit : (n m : ℕ) (change : Record → Record) → ((r : Record) → (change r).birth ≡ r.birth)
    → ((r : Record) → range_in (change r).registers ≡ range_in r.registers) → (c : Board) → ranges_at (edit m change c) n ≡ ranges_at c n
range-edit n m change same_birth same c =
    ap (option_map (λ (r : Record). range_in r.registers)) (found-edited m change same_birth n c.records) ∙ go (record_of c n)
  where
    at_record : (r : Record) (t : Bool) → (r.birth == m) ≡ t → range_in (edited m change r).registers ≡ range_in r.registers
    at_record r true p = rw (edited, p) (same r)
    at_record r false p = rw (edited, p) refl

    go : (o : Option Record)
        → option_map (λ (r : Record). range_in r.registers) (option_map (edited m change) o) ≡ option_map (λ (r : Record). range_in r.registers) o
    go None = refl
    go (Some r) = ap Some (at_record r (r.birth == m) refl)

range-acted : (n : ℕ) (act : Act) (m : ℕ) (c : Board) → ranges_at (acted act m 0 c) n ≡ ranges_at c n
unfolding acted
range-acted n act m c = range-edit n m (with_act_on act c.now 0) (λ r. refl) (λ r. act-range act c.now 0 r.registers) c

range-acted_all : (n : ℕ) (act : Act) (ms : List ℕ) (c : Board) → ranges_at (acted_all act ms c) n ≡ ranges_at c n
range-acted_all n act [] c = refl
range-acted_all n act (m ∷ ms) c = range-acted_all n act ms (acted act m 0 c) ∙ range-acted n act m c

range-phased : (n : ℕ) (act : Act) (ms : List ℕ) (c : Board) → ranges_at (phased act ms c) n ≡ ranges_at c n
range-phased n act [] c = refl
range-phased n act (m ∷ ms) c = range-phased n act ms (acted act m 0 c) ∙ range-acted n act m c

range-plugged : (n d : ℕ) (c : Board) → ranges_at (plugged c d) n ≡ ranges_at c n
unfolding plugged
range-plugged n d c =
    let c1 : Board = phased Enter (post c d) c in
    let c2 : Board = phased Hold (post c d) c1 in
    range-phased n Exit (filter (is_not_in_reset c) (post c d)) c2 ∙ range-phased n Hold (post c d) c1 ∙ range-phased n Enter (post c d) c

range-link : (n m : ℕ) (name : List ℕ) (target : ℕ) (c : Board) → ranges_at (link_named m name target c) n ≡ ranges_at c n
range-link n m name target c = go (index_from (is_named name) 0 (slots_at c m)) refl
  where
    go : (o : Option ℕ) → index_from (is_named name) 0 (slots_at c m) ≡ o → ranges_at (link_named m name target c) n ≡ ranges_at c n
    go None e = rw (link_named, e) refl
    go (Some i) e = rw (link_named, e) (range-edit n m (with_changed (fitted c target) i) (λ r. refl) (λ r. refl) c)

range-clocked : (n source : ℕ) (c : Board) → ranges_at (clocked source n c) n ≡ ranges_at c n
range-clocked n source c = go (clock_of c n)
  where
    go : (o : Option ℕ) → ranges_at (with_source source o c) n ≡ ranges_at c n
    go None = refl
    go (Some m) = range-link n m (codes "source") source c

range-counted : (n : ℕ) (id : Option (List ℕ)) (c : Board) → ranges_at (counted id c) n ≡ ranges_at c n
range-counted n None c = refl
range-counted n (Some id) c = refl

-- a device that gets its range
range-body : (n : ℕ) (id : Option (List ℕ)) (g : Range) (c : Board) (r : Record) → record_of c n ≡ Some r
    → ranges_at (edit n (with_body_of id (Some g)) c) n ≡ Some (g ∷ [])
range-body n id g c r e =
    let own : (r.birth == n) ≡ true = eq-eqb r.birth n (found-birth n c.records r e) in
    ap (option_map (λ (x : Record). range_in x.registers)) (found-edited n (with_body_of id (Some g)) (λ x. refl) n c.records)
    ∙ ap (λ (o : Option Record). option_map (λ (x : Record). range_in x.registers) (option_map (edited n (with_body_of id (Some g))) o)) e
    ∙ rw (edited, own) refl

-- names that are neither set nor linked for every device
pub record Apart (name : List ℕ) : Type 0 where
  pub slot : bytes_eq (codes "slot") name ≡ false
  pub parent_bus : bytes_eq (codes "parent_bus") name ≡ false
  pub realized : bytes_eq (codes "realized") name ≡ false
  pub source : bytes_eq (codes "source") name ≡ false

module _ (b : Board) (absent : (m : ℕ) → b.born < m → record_of b m ≡ None) (t : TypeId) (a : Wanted) (resources : Resources) where
  abbrev n : ℕ
  n = b.born + 1

  bare : (name : List ℕ) → Bare n name (with_new (fresh n t) b)
  bare name =
      record {
        it = fresh n t;
        found =
            let own : (n == n) ≡ true = eq-eqb n n refl in
            found-append n b.records (fresh n t ∷ [])
            ∙ ap (λ (o : Option Record). option_or o (found_at n (fresh n t ∷ []))) (absent n (omega arith))
            ∙ rw own refl;
        none = refl;
      }

  abbrev has_values : Board
  has_values = valued b (b.born + 1) a.props resources (joined b (b.born + 1) a resources (drafted b t))

  -- with the values given
  valued-is : (name : List ℕ) → Apart name → (s : Slot) → first_row t name (slots_of t) ≡ Some s
      → SlotIs name (slot_given b a.props (name, s)).1 (slots_at has_values n)
  valued-is name apart s e =
      let c : Board = joined b n a resources (drafted b t) in
      let c3 : Board = edit n (with_given b a.props) c in
      let c4 : Board = set_named n (codes "slot") (val.Uint resources.slot) c3 in
      let c5 : Board = link_named n (codes "parent_bus") resources.bus c4 in
      let x : Slot = (slot_given b a.props (name, s)).1 in
      set-other n name (codes "realized") (val.Bool true) x apart.realized c5
      (link-other n name n (codes "parent_bus") resources.bus x apart.parent_bus c4
      (set-other n name (codes "slot") (val.Uint resources.slot) x apart.slot c3
      (own-edit (SlotIs name s) (SlotIs name x) (slot-none name s) n (with_given b a.props) (λ r. refl) c (λ r q k. slot-given b a.props name s r.slots k)
      (stay-add (SlotIs name s) (slot-none name s) (slot-more name s) n resources.bus (kid_name resources.slot) (strong Device (Some n)) _
      (stay-add (SlotIs name s) (slot-none name s) (slot-more name s) n (parent_for a.id) (name_for b a.id) (child n) (drafted b t)
      (rows-are n name t s (slots_of t) e (with_new (fresh n t) b) (bare name)))))))

  -- the board as the device stands, has been realized, and has been plugged
  abbrev c1 : Board
  c1 = stood b n a resources (drafted b t)

  abbrev c2 : Board
  c2 = acted_all Realize (n ∷ bus_births n t) (with_device b t a resources)

  abbrev c3 : Board
  c3 = plugged c2 n

  -- at its address
  addressed-is : (name : List ℕ) → bytes_eq (codes "addr") name ≡ false → (s : Slot) (range : Option Range) → SlotIs name s (slots_at has_values n)
      → SlotIs name s (slots_at (addressed_at n range has_values) n)
  addressed-is name apart s None h = h
  addressed-is name apart s (Some g) h = set-other n name (codes "addr") (val.Uint g.at) s apart has_values h

  -- and in its place
  plugged-is_so : (name : List ℕ) → Apart name → (s : Slot) → SlotIs name s (slots_at (addressed_at n resources.range has_values) n)
      → SlotIs name s (slots_at (with_plugged b t a resources) n)
  plugged-is_so name apart s h =
      any-edit (SlotIs name s) n n (with_path (canonical c3 n)) (λ r. refl) c3 (λ r e k. k)
      (plugged-is n name s n c2
      (acted_all-is n name s Realize (n ∷ bus_births n t) (with_device b t a resources)
      (counted-is a.id (clocked (source_for b resources.bus) n c1)
      (clocked-is
      (any-edit (SlotIs name s) n n (with_body_of a.id resources.range) (λ r. refl) (addressed_at n resources.range has_values) (λ r e k. k) h)))))
    where
      counted-is : (id : Option (List ℕ)) (c : Board) → SlotIs name s (slots_at c n) → SlotIs name s (slots_at (counted id c) n)
      counted-is None c k = k
      counted-is (Some id) c k = k

      clocked-is : SlotIs name s (slots_at c1 n) → SlotIs name s (slots_at (clocked (source_for b resources.bus) n c1) n)
      clocked-is k = go (clock_of c1 n)
        where
          go : (o : Option ℕ) → SlotIs name s (slots_at (with_source (source_for b resources.bus) o c1) n)
          go None = k
          go (Some m) = link-other n name m (codes "source") (source_for b resources.bus) s apart.source c1 k

  -- what is given for a name, or what its type begins with
  pub own-is : (name : List ℕ) → Apart name → bytes_eq (codes "addr") name ≡ false → (s : Slot) → first_row t name (slots_of t) ≡ Some s
      → named_in name (slots_at (with_plugged b t a resources) (b.born + 1)) ≡ Some (slot_given b a.props (name, s)).1
  own-is name apart other s e =
      plugged-is_so name apart (slot_given b a.props (name, s)).1
      (addressed-is name other (slot_given b a.props (name, s)).1 resources.range (valued-is name apart s e))

  -- the address, and the registers
  pub own-addr : (g : Range) → resources.range ≡ Some g → (w x : Val) → first_row t (codes "addr") (slots_of t) ≡ Some (plain w)
      → (slot_given b a.props (codes "addr", plain w)).1 ≡ plain x
      → named_in (codes "addr") (slots_at (with_plugged b t a resources) (b.born + 1)) ≡ Some (plain (val.Uint g.at))
  own-addr g is w x e given =
      plugged-is_so (codes "addr") (record { slot = refl; parent_bus = refl; realized = refl; source = refl }) (plain (val.Uint g.at))
      (subst (λ (o : Option Range). SlotIs (codes "addr") (plain (val.Uint g.at)) (slots_at (addressed_at n o has_values) n)) (sym is)
      (set-own n (codes "addr") (val.Uint g.at) x has_values
      (valued-is (codes "addr") (record { slot = refl; parent_bus = refl; realized = refl; source = refl }) (plain w) e ∙ ap Some given)))

  pub own-range : (g : Range) → resources.range ≡ Some g → (name : List ℕ) → Apart name → bytes_eq (codes "addr") name ≡ false → (s : Slot)
      → first_row t name (slots_of t) ≡ Some s → ranges_at (with_plugged b t a resources) (b.born + 1) ≡ Some (g ∷ [])
  own-range g is name apart other s e =
      range-edit n n (with_path (canonical c3 n)) (λ r. refl) (λ r. refl) c3
      ∙ range-plugged n n c2
      ∙ range-acted_all n Realize (n ∷ bus_births n t) (with_device b t a resources)
      ∙ range-counted n a.id (clocked (source_for b resources.bus) n c1)
      ∙ range-clocked n (source_for b resources.bus) c1
      ∙ body (record_of c0 n) refl
    where
      c0 : Board
      c0 = addressed_at n resources.range has_values

      there : SlotIs name (slot_given b a.props (name, s)).1 (slots_at c0 n)
      there = addressed-is name other (slot_given b a.props (name, s)).1 resources.range (valued-is name apart s e)

      body : (o : Option Record) → record_of c0 n ≡ o → ranges_at c1 n ≡ Some (g ∷ [])
      body None q =
          absurd
          (slot-none name (slot_given b a.props (name, s)).1
          (subst (λ (x : Option Record). SlotIs name (slot_given b a.props (name, s)).1 (option_map_or (λ (r : Record). r.slots) x [])) q there))
      body (Some r) q =
          subst (λ (o : Option Range). ranges_at (edit n (with_body_of a.id o) c0) n ≡ Some (g ∷ [])) (sym is) (range-body n a.id g c0 r q)
