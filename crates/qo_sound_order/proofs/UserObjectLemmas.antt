-- `object-add` keeps objects in order: the new one is the youngest, its name is an id, and it has no children.
use Rattle.std.proofs.Common.{◌≡◌, refl, ap, sym, ◌∙◌, rules, ℕ, ◌+◌, ◌<◌, ◌≤◌, true, false, not, List, [], ◌∷◌, ◌++◌, filter_map, codes, Option, Some, None, is_some, arith}
use Rattle.qo_model.proofs.Common.{option_map_or, is_id, fresh_registers, OBJECTS_BIRTH, PERIPHERAL_BIRTH, Code, E21, E22, E23, TypeId, Board, Record, child, is_live, record_of, slots_at, with_added, among, Given, added_as, barred, fresh_slots, given_slots, object_add, with_object, edit, TypeInfo, is_a, types}
use Rattle.std.proofs.lemmas.Bool.{ne_eqb, not-false}
use Rattle.qo_values.proofs.EachLemmas.{each}
use Rattle.qo_values.proofs.ListLemmas.{all-imply}
use Rattle.qo_model.proofs.ComesToLemmas.{addition-comes}
use Rattle.qo_sound.proofs.AddLemmas.{creatable, unbarred}
use Rattle.qo_sound.proofs.DraftLemmas.{found-low}
use Rattle.qo_sound.proofs.FirmBoardLemmas.{WellFormed}
use Rattle.qo_sound.proofs.RecordLemmas.{all-append}
use Rattle.qo_sound_devices.specs.SoundPlaces.{child_entries, child_entry, kid_entries, kid_entry}
use Rattle.qo_sound_devices.proofs.AddLemmas.{children-given, entries-added, entry-added}
use Rattle.qo_sound_devices.proofs.PlacesLemmas.{IsThere, children-there, kids-there, linked-at}
use Rattle.qo_sound_shapes.proofs.BoardLemmas.{all-edit, all-new}
use Rattle.qo_sound_order.specs.SoundOrder.{HasId}
use Rattle.qo_sound_order.proofs.EntryLemmas.{Below, ascends-more}
use Rattle.qo_sound_order.proofs.OrderedLemmas.{InOrder, Ordered, named_by_ids}

-- what is named on a sound board was born
pub there-low : (b : Board) → WellFormed b → (n : ℕ) → is_live b n ≡ true → n < b.born + 1
there-low b firm n there = go (record_of b n) refl
  where
    go : (o : Option Record) → record_of b n ≡ o → n < b.born + 1
    go None e = absurd (let clash : false ≡ true = sym (ap is_some e) ∙ there in cc)
    go (Some r) e = let low : n ≤ b.born = found-low b.born n b.records r firm.within e in omega (arith, low)

pub children-low : (b : Board) → WellFormed b → (n : ℕ) → Below (b.born + 1) (child_entries b n)
children-low b firm n =
    all-imply (IsThere b) (λ (e : List ℕ × ℕ). e.1 < b.born + 1) (λ e there. there-low b firm e.1 there) (child_entries b n)
    (children-there b (slots_at b n) (linked-at b firm n))

pub kids-low : (b : Board) → WellFormed b → (n : ℕ) → Below (b.born + 1) (kid_entries b n)
kids-low b firm n =
    all-imply (IsThere b) (λ (e : List ℕ × ℕ). e.1 < b.born + 1) (λ e there. there-low b firm e.1 there) (kid_entries b n)
    (kids-there b (slots_at b n) (linked-at b firm n))

-- no new object is one of the containers
pub new-apart : (n : ℕ) → 8 ≤ n → among named_by_ids (n + 1) ≡ false
new-apart n begun = rw (ne_eqb (n + 1) OBJECTS_BIRTH (λ e. omega (arith, e, begun)), ne_eqb (n + 1) PERIPHERAL_BIRTH (λ e. omega (arith, e, begun))) refl

-- a new object has no children, and no user's object is a bus
pub fresh-childless : (t : TypeId) → filter_map child_entry (fresh_slots t) ≡ []
unfolding types
fresh-childless = each (λ (t : TypeId). filter_map child_entry (fresh_slots t) ≡ []) (search rules)

creatable-apart : (t : TypeId) → is_a t (codes "user-creatable") ≡ true → is_a t (codes "bus") ≡ false
unfolding types
creatable-apart = each (λ (t : TypeId). is_a t (codes "user-creatable") ≡ true → is_a t (codes "bus") ≡ false) (search rules)

-- what nothing bars has an id
barred-id : (b : Board) (row : TypeInfo) (id : List ℕ) → barred b row id ≡ None → is_id id ≡ true
barred-id b row id e =
    let first = unbarred row.is_abstract E21 _ e in
    let second = unbarred (not (is_a row.id (codes "user-creatable"))) E22 _ first.1 in
    let third = unbarred (not (is_id id)) E23 _ second.1 in
    not-false (is_id id) third.0

module _ (b : Board) (t : TypeId) (id : List ℕ) (props : List Given) (firm : WellFormed b) (may : is_a t (codes "user-creatable") ≡ true)
    (good : is_id id ≡ true) where
  abbrev n : ℕ
  n = b.born + 1

  abbrev new : Record
  new = record { birth = b.born + 1; kind = t; slots = given_slots b t props; registers = fresh_registers t; device_id = None; kept_path = None }

  childless : filter_map child_entry (given_slots b t props) ≡ []
  childless = children-given b props (fresh_slots t) ∙ fresh-childless t

  new-ordered : Ordered new
  new-ordered =
      record {
        children = rw childless (tt, tt);
        kids = λ bus. absurd (let clash : true ≡ false = sym bus ∙ creatable-apart t may in cc);
        ids = λ its. absurd (let clash : true ≡ false = sym its ∙ new-apart b.born firm.begun in cc);
      }

  grown : (r : Record) → record_of b OBJECTS_BIRTH ≡ Some r → r.birth ≡ OBJECTS_BIRTH → Ordered r → Ordered (with_added id (child (b.born + 1)) r)
  grown r e own h =
      let slots : slots_at b OBJECTS_BIRTH ≡ r.slots = ap (λ (o : Option Record). option_map_or (λ (x : Record). x.slots) o []) e in
      let low : Below (b.born + 1) (filter_map child_entry r.slots) = rw slots at (children-low b firm OBJECTS_BIRTH) in
      let begun : 8 ≤ b.born = firm.begun in
      let above : r.birth < b.born + 1 = omega (arith, own, begun) in
      let children : filter_map child_entry (r.slots ++ (id, child (b.born + 1)) ∷ []) ≡ filter_map child_entry r.slots ++ (id, b.born + 1) ∷ [] =
      entry-added child_entry (id, child (b.born + 1)) (id, b.born + 1) refl r.slots in
      let kids : filter_map kid_entry (r.slots ++ (id, child (b.born + 1)) ∷ []) ≡ filter_map kid_entry r.slots =
      entries-added kid_entry (id, child (b.born + 1)) refl r.slots in
      record {
        children = rw children (ascends-more r.birth (b.born + 1) id (filter_map child_entry r.slots) above low h.children);
        kids = λ bus. rw kids (h.kids bus);
        ids = λ its. rw children (all-append HasId (filter_map child_entry r.slots) ((id, b.born + 1) ∷ []) (h.ids its) (good, tt));
      }

  pub order-object : InOrder b → InOrder (with_object b t id props)
  order-object h =
      all-new Ordered new (edit OBJECTS_BIRTH (with_added id (child (b.born + 1))) b) (with_object b t id props) refl new-ordered
      (all-edit Ordered OBJECTS_BIRTH (with_added id (child (b.born + 1))) (λ r. refl) b grown h)

pub order-added : (b : Board) (driver id : List ℕ) (props : List Given) → WellFormed b → InOrder b → InOrder (object_add b driver id props).board
order-added b driver id props firm h = addition-comes InOrder b driver id props h (λ row e o is. by row e o)
  where
    by : (row : TypeInfo) → barred b row id ≡ None → (o : Option Code) → InOrder (added_as b row.id id props o).board
    by row e None = order-object b row.id id props firm (creatable b row id e) (barred-id b row id e) h
    by row e (Some code) = h
