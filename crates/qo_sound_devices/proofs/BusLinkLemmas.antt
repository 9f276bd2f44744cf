-- The link of a device that is added holds its bus.
use Rattle.std.proofs.Common.{rules, ◌≡◌, refl, ap, sym, ◌∙◌, ℕ, ◌+◌, Bool, true, false, List, [], ◌∷◌, ◌++◌, find, map, Option, Some, None, option_map, option_and_then, codes, arith}
use Rattle.qo_model.proofs.Common.{option_map_or, bytes_eq, Code, E18, TypeId, Device, Bus, Val, Board, Record, Slot, child, strong, record_of, slots_at, with_changed, bus_of, kid_name, strong_in, Given, index_from, refusal_by, refusal_of, slot_given, is_of, Resources, Wanted, drafted, fitted, joined, link_named, name_for, parent_for, valued, with_given, property_named, edit, is_a, types, is_named, set_named}
use Rattle.std.proofs.lemmas.Slice.Eq.{bytes_eq-Decides}
use Rattle.qo_values.specs.declared.properties.Val.TheVariants as val
use Rattle.qo_values.proofs.EachLemmas.{each}
use Rattle.qo_model.proofs.FirstSlotLemmas.{named_in, first-changed, none-found}
use Rattle.qo_sound.proofs.FirmBoardLemmas.{WellFormed}
use Rattle.qo_sound_devices.proofs.DropLemmas.{edited-slots}
use Rattle.qo_sound_devices.proofs.PlainSlotLemmas.{stay-add, stay-given}
use Rattle.qo_sound_devices.proofs.RealizationLemmas.{rows-stay, slot-set}

-- a slot under a name
abbrev pub SlotIs : List ℕ → Slot → List (List ℕ × Slot) → Type 0
SlotIs name s slots = named_in name slots ≡ Some s

pub slot-none : (name : List ℕ) (s : Slot) → SlotIs name s [] → ⊥
slot-none name s e = absurd (let clash : None ≡ Some s = e in cc)

pub slot-more : (name : List ℕ) (s : Slot) (y : List ℕ × Slot) (slots : List (List ℕ × Slot)) → SlotIs name s slots → SlotIs name s (slots ++ y ∷ [])
slot-more name s y [] e = absurd (let clash : None ≡ Some s = e in cc)
slot-more name s y (x ∷ slots) e = go (bytes_eq x.0 name) refl (slot-more name s y slots)
  where
    go : (t : Bool) → bytes_eq x.0 name ≡ t → (SlotIs name s slots → SlotIs name s (slots ++ y ∷ [])) → SlotIs name s ((x ∷ slots) ++ y ∷ [])
    go true p rest = rw p (rw p at e)
    go false p rest = rw p (rest (rw p at e))

-- nothing is given for it
slot-given : (b : Board) (props : List Given) (name : List ℕ) (s : Slot) → find (λ (p : Given). bytes_eq p.0 name) props ≡ None → (slots : List (List ℕ × Slot))
    → SlotIs name s slots → SlotIs name s (map (slot_given b props) slots)
slot-given b props name s none [] e = e
slot-given b props name s none (x ∷ slots) e = go (bytes_eq x.0 name) refl (slot-given b props name s none slots)
  where
    same : bytes_eq x.0 name ≡ true → (slot_given b props x).1 ≡ x.1
    same p =
        let gone : find (λ (q : Given). bytes_eq q.0 x.0) props ≡ None =
        ap (λ (own : List ℕ). find (λ (q : Given). bytes_eq q.0 own) props) ((bytes_eq-Decides x.0 name).0 p) ∙ none in
        rw (slot_given, gone) refl

    go : (t : Bool) → bytes_eq x.0 name ≡ t → (SlotIs name s slots → SlotIs name s (map (slot_given b props) slots))
        → SlotIs name s (map (slot_given b props) (x ∷ slots))
    go true p rest = rw p (ap Some (same p) ∙ rw p at e)
    go false p rest = rw p (rest (rw p at e))

-- it is no property that may be given
parent-row : (t : TypeId) (v : Val) (b : Board) → is_a t (codes "device") ≡ true → refusal_by b (property_named t (codes "parent_bus")) v ≡ Some E18
unfolding types
parent-row = each (λ (t : TypeId). (v : Val) (b : Board) → is_a t (codes "device") ≡ true → refusal_by b (property_named t (codes "parent_bus")) v ≡ Some E18)
    (search rules)

none-given : (b : Board) (t : TypeId) → is_a t (codes "device") ≡ true → (props : List Given) → refusal_of b t props ≡ None
    → find (λ (p : Given). bytes_eq p.0 (codes "parent_bus")) props ≡ None
none-given b t device [] e = refl
none-given b t device (p ∷ props) e = go (bytes_eq p.0 (codes "parent_bus")) refl (refusal_by b (property_named t p.0) p.1) refl (none-given b t device props)
  where
    go : (u : Bool) → bytes_eq p.0 (codes "parent_bus") ≡ u → (o : Option Code) → refusal_by b (property_named t p.0) p.1 ≡ o
        → (refusal_of b t props ≡ None → find (λ (q : Given). bytes_eq q.0 (codes "parent_bus")) props ≡ None) → find
        (λ (q : Given). bytes_eq q.0 (codes "parent_bus")) (p ∷ props) ≡ None
    go u q (Some code) r rest = absurd (let clash : Some code ≡ None = rw (refusal_of, r) at e in cc)
    go false q None r rest = rw q (rest (rw (refusal_of, r) at e))
    go true q None r rest =
        let own : p.0 ≡ codes "parent_bus" = (bytes_eq-Decides p.0 (codes "parent_bus")).0 q in
        absurd (let clash : None ≡ Some E18 = sym r ∙ ap (λ (name : List ℕ). refusal_by b (property_named t name) p.1) own ∙ parent-row t p.1 b device in cc)

-- its own link is filled
slot-linked : (n : ℕ) (name : List ℕ) (m : ℕ) (s : Slot) (c : Board) → SlotIs name s (slots_at c n)
    → named_in name (slots_at (link_named n name m c) n) ≡ Some (fitted c m s)
slot-linked n name m s c h = go (index_from (is_named name) 0 (slots_at c n)) refl
  where
    there : (i : ℕ) → index_from (is_named name) 0 (slots_at c n) ≡ Some i → (o : Option Record) → record_of c n ≡ o
        → named_in name (slots_at (edit n (with_changed (fitted c m) i) c) n) ≡ Some (fitted c m s)
    there i e None q =
        absurd
        (let clash : None ≡ Some s = sym (ap (λ (o : Option Record). named_in name (option_map_or (λ (r : Record). r.slots) o [])) q) ∙ h in cc)
    there i e (Some r) q =
        let was : slots_at c n ≡ r.slots = ap (λ (o : Option Record). option_map_or (λ (y : Record). y.slots) o []) q in
        ap (named_in name) (edited-slots c n (with_changed (fitted c m) i) (λ y. refl) r q)
        ∙ first-changed (fitted c m) name r.slots 0 i i (ap (index_from (is_named name) 0) (sym was) ∙ e) (omega arith)
        ∙ ap (option_map (fitted c m)) (sym (ap (named_in name) was) ∙ h)

    go : (o : Option ℕ) → index_from (is_named name) 0 (slots_at c n) ≡ o → named_in name (slots_at (link_named n name m c) n) ≡ Some (fitted c m s)
    go None e = absurd (let clash : None ≡ Some s = sym (none-found name (slots_at c n) 0 e) ∙ h in cc)
    go (Some i) e = rw (link_named, e) (there i e (record_of c n) refl)

module _ (b : Board) (t : TypeId) (firm : WellFormed b) (device : is_a t (codes "device") ≡ true) (a : Wanted) (resources : Resources)
    (given : refusal_of b t a.props ≡ None) where
  abbrev n : ℕ
  n = b.born + 1

  abbrev begun : Board
  begun = joined b (b.born + 1) a resources (drafted b t)

  abbrev given_to_it : Board
  given_to_it = edit (b.born + 1) (with_given b a.props) (joined b (b.born + 1) a resources (drafted b t))

  abbrev slotted : Board
  slotted = set_named (b.born + 1) (codes "slot") (val.Uint resources.slot)
      (edit (b.born + 1) (with_given b a.props) (joined b (b.born + 1) a resources (drafted b t)))

  empty-link : SlotIs (codes "parent_bus") (strong Bus None) (slots_at slotted n)
  empty-link =
      slot-set n (codes "parent_bus") (codes "slot") (val.Uint resources.slot) refl given_to_it
      ∙ stay-given (SlotIs (codes "parent_bus") (strong Bus None)) none more n b a.props
      (slot-given b a.props (codes "parent_bus") (strong Bus None) (none-given b t device a.props given)) begun
      (stay-add (SlotIs (codes "parent_bus") (strong Bus None)) none more n resources.bus (kid_name resources.slot) (strong Device (Some n)) _
      (stay-add (SlotIs (codes "parent_bus") (strong Bus None)) none more n (parent_for a.id) (name_for b a.id) (child n) (drafted b t)
      (rows-stay b t firm device (SlotIs (codes "parent_bus") (strong Bus None)) none more refl)))
    where
      none : SlotIs (codes "parent_bus") (strong Bus None) [] → ⊥
      none = slot-none (codes "parent_bus") (strong Bus None)

      more : (y : List ℕ × Slot) (slots : List (List ℕ × Slot)) → SlotIs (codes "parent_bus") (strong Bus None) slots
          → SlotIs (codes "parent_bus") (strong Bus None) (slots ++ y ∷ [])
      more = slot-more (codes "parent_bus") (strong Bus None)

  pub holds-bus :
      is_of (set_named (b.born + 1) (codes "slot") (val.Uint resources.slot)
      (edit (b.born + 1) (with_given b a.props) (joined b (b.born + 1) a resources (drafted b t))))
      (codes "bus") resources.bus ≡ true
      → bus_of (valued b (b.born + 1) a.props resources (joined b (b.born + 1) a resources (drafted b t))) (b.born + 1) ≡ Some resources.bus
  holds-bus is =
      ap (option_and_then strong_in)
      (slot-set n (codes "parent_bus") (codes "realized") (val.Bool true) refl (link_named n (codes "parent_bus") resources.bus slotted))
      ∙ ap (option_and_then strong_in) (slot-linked n (codes "parent_bus") resources.bus (strong Bus None) slotted empty-link)
      ∙ rw is refl
