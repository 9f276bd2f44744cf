-- A device that is added reads as realized.
use Rattle.std.proofs.Common.{rules, ◌≡◌, refl, ap, sym, subst, ◌∙◌, ℕ, ◌+◌, true, false, ◌==◌, List, [], ◌∷◌, ◌++◌, drop, slice_get, Option, Some, None, is_some, option_map, option_and_then, codes, arith}
use Rattle.qo_model.proofs.Common.{IsDistinct, option_map_or, bytes_eq, TypeId, Device, Bus, Val, Board, Record, Slot, plain, child, strong, weak, alias, record_of, slots_at, add, fresh, set, with_added, with_changed, with_val, is_realized, is_true, kid_name, number_in, bus_slot_of, plain_in, init_notes, index_from, first_value, Resources, Wanted, drafted, fitted, joined, link_named, name_for, parent_for, properties_made, valued, with_given, with_new, edit, edited, property, is_a, slots_of, types, up_to, is_named, set_named}
use Rattle.qo_model.specs.declared.properties.Access.TheVariants.{Never, Add}
use Rattle.qo_model.specs.declared.properties.Property.{Property}
use Rattle.std.proofs.lemmas.Bool.{eq-eqb}
use Rattle.qo_values.specs.declared.properties.PropType.TheVariants as ty
use Rattle.qo_values.specs.declared.properties.Val.TheVariants as val
use Rattle.qo_values.proofs.EachLemmas.{each}
use Rattle.qo_model.specs.declared.properties.PropertyRole.TheVariants as row
use Rattle.qo_model.specs.declared.properties.First.TheVariants as first
use Rattle.qo_model.specs.declared.properties.PropertyName.TheVariants as prop
use Rattle.qo_model.proofs.FirstSlotLemmas.{named_in, Found, found-at, first-changed, none-found, named-changed, named-other, other-name}
use Rattle.qo_model.proofs.StepLemmas.{found-edited}
use Rattle.qo_sound.proofs.FirmBoardLemmas.{WellFormed}
use Rattle.qo_sound.proofs.NewObjectLemmas.{grown-new}
use Rattle.qo_sound.proofs.ReadLemmas.{plain-fitted}
use Rattle.qo_sound_devices.proofs.DropLemmas.{edited-slots}
use Rattle.qo_sound_devices.proofs.PlainSlotLemmas.{kept-append, kept-given_at, kept-link, kept-set, PlainIn, stay-add, stay-rows}
use Rattle.qo_sound_devices.proofs.UnrealizingLemmas.{reads}

-- the rows of a device begin so
abbrev first_rows : List Property
first_rows =
    property prop.Type (row.Plain ty.Text first.TypeName) Never
    ∷ property prop.Realized (row.Plain ty.Bool (first.Bool false)) Never
    ∷ property prop.ParentBus (row.Link Bus true) Never
    ∷ property prop.Slot (row.Plain (up_to 255) first.Nothing) Add
    ∷ []

device-rows : (t : TypeId) → is_a t (codes "device") ≡ true → slots_of t ≡ first_rows ++ drop 4 (slots_of t)
unfolding types
device-rows = each (λ (t : TypeId). is_a t (codes "device") ≡ true → slots_of t ≡ first_rows ++ drop 4 (slots_of t)) (search rules)

own-added : (n : ℕ) (name : List ℕ) (s : Slot) (c : Board) (r : Record) → r.birth ≡ n → record_of c n ≡ Some r
    → record_of (add n name s c) n ≡ Some (with_added name s r)
unfolding add
own-added n name s c r is e =
    let own : (r.birth == n) ≡ true = eq-eqb r.birth n is in
    found-edited n (with_added name s) (λ x. refl) n c.records ∙ ap (option_map (edited n (with_added name s))) e ∙ rw (edited, own) refl

begun-found : (b : Board) (t : TypeId) → WellFormed b → record_of (with_new (fresh (b.born + 1) t) b) (b.born + 1) ≡ Some (fresh (b.born + 1) t)
unfolding IsDistinct
begun-found b t firm = grown-new b (fresh (b.born + 1) t) (b.notes ++ init_notes (b.born + 1) t) firm (record { birth = refl; names = tt; lone = tt })

-- a value that is set where a plain slot is, is read
set-value : (v : Val) (o : Option Slot) → is_some (option_and_then plain_in o) ≡ true → option_and_then plain_in (option_map (with_val v) o) ≡ Some v
set-value v None e = absurd (let clash : false ≡ true = e in cc)
set-value v (Some (plain w)) e = refl
set-value v (Some (child m)) e = absurd (let clash : false ≡ true = e in cc)
set-value v (Some (strong t target)) e = absurd (let clash : false ≡ true = e in cc)
set-value v (Some (weak t target)) e = absurd (let clash : false ≡ true = e in cc)
set-value v (Some (alias m property)) e = absurd (let clash : false ≡ true = e in cc)

pub set-read : (n : ℕ) (name : List ℕ) (v : Val) (c : Board) → PlainIn name (slots_at c n)
    → option_and_then plain_in (named_in name (slots_at (set_named n name v c) n)) ≡ Some v
unfolding set
set-read n name v c e = go (index_from (is_named name) 0 (slots_at c n)) refl
  where
    there : (i : ℕ) → index_from (is_named name) 0 (slots_at c n) ≡ Some i → (o : Option Record) → record_of c n ≡ o
        → option_and_then plain_in (named_in name (slots_at (edit n (with_changed (with_val v) i) c) n)) ≡ Some v
    there i k None q =
        absurd
        (let clash : false ≡ true =
        sym (ap (λ (o : Option Record). is_some (option_and_then plain_in (named_in name (option_map_or (λ (r : Record). r.slots) o [])))) q) ∙ e in
        cc)
    there i k (Some r) q =
        let was : slots_at c n ≡ r.slots = ap (λ (o : Option Record). option_map_or (λ (y : Record). y.slots) o []) q in
        ap (λ (ss : List (List ℕ × Slot)). option_and_then plain_in (named_in name ss)) (edited-slots c n (with_changed (with_val v) i) (λ y. refl) r q)
        ∙ ap (option_and_then plain_in) (first-changed (with_val v) name r.slots 0 i i (ap (index_from (is_named name) 0) (sym was) ∙ k) (omega arith))
        ∙ set-value v (named_in name r.slots) (sym (ap (λ (ss : List (List ℕ × Slot)). is_some (option_and_then plain_in (named_in name ss))) was) ∙ e)

    go : (o : Option ℕ) → index_from (is_named name) 0 (slots_at c n) ≡ o
        → option_and_then plain_in (named_in name (slots_at (set_named n name v c) n)) ≡ Some v
    go None k =
        absurd
        (let clash : false ≡ true = sym (ap (λ (o : Option Slot). is_some (option_and_then plain_in o)) (none-found name (slots_at c n) 0 k)) ∙ e in cc)
    go (Some i) k = rw (set_named, k) (there i k (record_of c n) refl)

-- a value stays where another name is set, and where a link is filled
pub slot-set : (n : ℕ) (name own : List ℕ) (v : Val) → bytes_eq own name ≡ false → (c : Board)
    → named_in name (slots_at (set_named n own v c) n) ≡ named_in name (slots_at c n)
unfolding set
slot-set n name own v apart c = go (index_from (is_named own) 0 (slots_at c n)) refl
  where
    go : (o : Option ℕ) → index_from (is_named own) 0 (slots_at c n) ≡ o → named_in name (slots_at (set_named n own v c) n) ≡ named_in name (slots_at c n)
    go None e = rw (set_named, e) refl
    go (Some i) e =
        let f : Found (is_named own) (slots_at c n) i = found-at (is_named own) i (slots_at c n) e in
        rw (set_named, e)
        (reads (with_val v) n i c (named_in name)
        (λ slots q. named-other (with_val v) name i slots f.entry (ap (λ (x : List (List ℕ × Slot)). slice_get x i) (sym q) ∙ f.at)
        (other-name own name apart f.entry f.passes)) n)

set-other : (n : ℕ) (name own : List ℕ) (v : Val) → bytes_eq own name ≡ false → (c : Board)
    → option_and_then plain_in (named_in name (slots_at (set_named n own v c) n)) ≡ option_and_then plain_in (named_in name (slots_at c n))
set-other n name own v apart c = ap (option_and_then plain_in) (slot-set n name own v apart c)

link-other : (n : ℕ) (name own : List ℕ) (m : ℕ) (c : Board)
    → option_and_then plain_in (named_in name (slots_at (link_named n own m c) n)) ≡ option_and_then plain_in (named_in name (slots_at c n))
link-other n name own m c = go (index_from (is_named own) 0 (slots_at c n)) refl
  where
    there : (i : ℕ) (o : Option Record) → record_of c n ≡ o
        → option_and_then plain_in (named_in name (slots_at (edit n (with_changed (fitted c m) i) c) n))
        ≡ option_and_then plain_in (named_in name (slots_at c n))
    there i None q =
        ap (λ (o : Option Record). option_and_then plain_in (named_in name (option_map_or (λ (r : Record). r.slots) o [])))
        (found-edited n (with_changed (fitted c m) i) (λ r. refl) n c.records ∙ ap (option_map (edited n (with_changed (fitted c m) i))) q ∙ sym q)
    there i (Some r) q =
        ap (λ (ss : List (List ℕ × Slot)). option_and_then plain_in (named_in name ss)) (edited-slots c n (with_changed (fitted c m) i) (λ y. refl) r q)
        ∙ named-changed plain_in (fitted c m) (plain-fitted c m) name i r.slots
        ∙ sym (ap (λ (o : Option Record). option_and_then plain_in (named_in name (option_map_or (λ (y : Record). y.slots) o []))) q)

    go : (o : Option ℕ) → index_from (is_named own) 0 (slots_at c n) ≡ o
        → option_and_then plain_in (named_in name (slots_at (link_named n own m c) n)) ≡ option_and_then plain_in (named_in name (slots_at c n))
    go None e = rw (link_named, e) refl
    go (Some i) e = rw (link_named, e) (there i (record_of c n) refl)

module _ (b : Board) (t : TypeId) (firm : WellFormed b) (device : is_a t (codes "device") ≡ true) where
  abbrev n : ℕ
  n = b.born + 1

  abbrev c0 : Board
  c0 = with_new (fresh (b.born + 1) t) b

  abbrev r1 : Record
  r1 = with_added (codes "type") (plain (first_value t first.TypeName)) (fresh (b.born + 1) t)

  abbrev r2 : Record
  r2 = with_added (codes "realized") (plain (first_value t (first.Bool false))) r1

  abbrev r3 : Record
  r3 = with_added (codes "parent_bus") (strong Bus None) r2

  abbrev r4 : Record
  r4 = with_added (codes "slot") (plain (first_value t first.Nothing)) r3

  abbrev c1 : Board
  c1 = add n (codes "type") (plain (first_value t first.TypeName)) c0

  abbrev c2 : Board
  c2 = add n (codes "realized") (plain (first_value t (first.Bool false))) c1

  abbrev c3 : Board
  c3 = add n (codes "parent_bus") (strong Bus None) c2

  found4 : record_of (properties_made n t first_rows c0) n ≡ Some r4
  found4 =
      own-added n (codes "slot") (plain (first_value t first.Nothing)) c3 r3 refl
      (own-added n (codes "parent_bus") (strong Bus None) c2 r2 refl
      (own-added n (codes "realized") (plain (first_value t (first.Bool false))) c1 r1 refl
      (own-added n (codes "type") (plain (first_value t first.TypeName)) c0 (fresh n t) refl (begun-found b t firm))))

  -- what is so after the first rows stays so, where it stays so with a slot more after
  pub rows-stay : (P : List (List ℕ × Slot) → Type 0) → (P [] → ⊥) → ((y : List ℕ × Slot) (slots : List (List ℕ × Slot)) → P slots → P (slots ++ y ∷ []))
      → P
      ((codes "type", plain (first_value t first.TypeName)) ∷ (codes "realized", plain (first_value t (first.Bool false)))
      ∷ (codes "parent_bus", strong Bus None) ∷ (codes "slot", plain (first_value t first.Nothing)) ∷ []) → P
      (slots_at (drafted b t) (b.born + 1))
  rows-stay P never more begins =
      subst (λ (ps : List Property). P (slots_at (properties_made n t ps c0) n)) (sym (device-rows t device))
      (stay-rows P never more n t (drop 4 (slots_of t)) (properties_made n t first_rows c0)
      (subst (λ (o : Option Record). P (option_map_or (λ (x : Record). x.slots) o [])) (sym found4) begins))

  -- what is plain after the first rows stays so
  rows-plain : (name : List ℕ) → PlainIn name r4.slots → PlainIn name (slots_at (drafted b t) (b.born + 1))
  rows-plain name begins = rows-stay (PlainIn name) (λ e. absurd (let clash : false ≡ true = e in cc)) (kept-append name) begins

  joined-plain : (name : List ℕ) (a : Wanted) (resources : Resources) → PlainIn name r4.slots
      → PlainIn name (slots_at (joined b (b.born + 1) a resources (drafted b t)) (b.born + 1))
  joined-plain name a resources begins =
      stay-add (PlainIn name) never (kept-append name) n resources.bus (kid_name resources.slot) (strong Device (Some n))
      (add (parent_for a.id) (name_for b a.id) (child n) (drafted b t))
      (stay-add (PlainIn name) never (kept-append name) n (parent_for a.id) (name_for b a.id) (child n) (drafted b t) (rows-plain name begins))
    where
      never : PlainIn name [] → ⊥
      never e = absurd (let clash : false ≡ true = e in cc)

  pub valued-realized : (a : Wanted) (resources : Resources)
      → is_realized (valued b (b.born + 1) a.props resources (joined b (b.born + 1) a resources (drafted b t))) (b.born + 1) ≡ true
  valued-realized a resources =
      let c : Board = joined b n a resources (drafted b t) in
      let c3 : Board = edit n (with_given b a.props) c in
      let c4 : Board = set_named n (codes "slot") (val.Uint resources.slot) c3 in
      let c5 : Board = link_named n (codes "parent_bus") resources.bus c4 in
      let there : PlainIn (codes "realized") (slots_at c5 n) =
      kept-link (codes "realized") n (codes "parent_bus") resources.bus c4
      (kept-set (codes "realized") n (codes "slot") (val.Uint resources.slot) c3
      (kept-given_at (codes "realized") n b a.props c (joined-plain (codes "realized") a resources refl))) in
      ap (λ (o : Option Val). option_map_or is_true o false) (set-read n (codes "realized") (val.Bool true) c5 there)

  pub valued-at : (a : Wanted) (resources : Resources)
      → bus_slot_of (valued b (b.born + 1) a.props resources (joined b (b.born + 1) a resources (drafted b t))) (b.born + 1) ≡ Some resources.slot
  valued-at a resources =
      let c : Board = joined b n a resources (drafted b t) in
      let c3 : Board = edit n (with_given b a.props) c in
      let c4 : Board = set_named n (codes "slot") (val.Uint resources.slot) c3 in
      let c5 : Board = link_named n (codes "parent_bus") resources.bus c4 in
      let there : PlainIn (codes "slot") (slots_at c3 n) = kept-given_at (codes "slot") n b a.props c (joined-plain (codes "slot") a resources refl) in
      ap (option_and_then number_in)
      (set-other n (codes "slot") (codes "realized") (val.Bool true) refl c5
      ∙ link-other n (codes "slot") (codes "parent_bus") resources.bus c4
      ∙ set-read n (codes "slot") (val.Uint resources.slot) c3 there)
