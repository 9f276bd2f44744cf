-- Where a ring, a user's object or a device with an id is added to a board that has a description, it has one after it.
use Rattle.std.proofs.Common.{◌≡◌, refl, ap, ap₂, sym, subst, ◌∙◌, ℕ, ◌+◌, true, List, [], ◌∷◌, ◌++◌, map, Option, Some, None, Result, Ok, Err}
use Rattle.std.proofs.lemmas.List.{map-append}
use Rattle.qo_model.proofs.Common.{ANONYMOUS_BIRTH, OBJECTS_BIRTH, Code, E20, TypeId, Board, Slot, child, with_added, Given, added_as, barred, object_add, refusal_of, slot_given, with_object, fresh_slots, children_in, edited, TypeInfo, type_named}
use Rattle.qo_model.specs.Objects.{added_by, Changed}
use Rattle.qo_save.specs.Described.{is_describable}
use Rattle.qo_save.specs.Description.{ObjectItem, RingItem}
use Rattle.qo_save.specs.Rebuilding.{add_object, add_ring, ring_barred}
use Rattle.qo_sound_clocks.proofs.StepsLemmas.{same_ok}
use Rattle.qo_sound_devices.proofs.AddLemmas.{children-given}
use Rattle.qo_sound_order.proofs.UserObjectLemmas.{fresh-childless}
use Rattle.qo_good.specs.GoodBoards.{IsWhole}
use Rattle.qo_good.proofs.ItemLemmas.{births_in}
use Rattle.qo_good.proofs.PartLemmas.{anonymous-kind, objects-kind}
use Rattle.qo_good.proofs.PlaceLemmas.{entries-children}
use Rattle.qo_rebuilt.proofs.GrowthLemmas.{kind-live}
use Rattle.qo_rebuilt.proofs.KinLemmas.{Kin, kin, kin_of, is_tidy, describable-kin}
use Rattle.qo_rebuilt.proofs.KinGrowthLemmas.{kin-grown, live-kin, tidy-more, with_more}

-- slots with values given name the same children
pub given-children : (b : Board) (props : List Given) (slots : List (List ℕ × Slot)) → children_in (map (slot_given b props) slots) ≡ children_in slots
given-children b props slots =
    sym (entries-children (map (slot_given b props) slots)) ∙ ap births_in (children-given b props slots) ∙ entries-children slots

fresh-children : (t : TypeId) → children_in (fresh_slots t) ≡ []
fresh-children t = sym (entries-children (fresh_slots t)) ∙ ap births_in (fresh-childless t)

-- ---- rings

pub describable-ring : (r : RingItem) (b c : Board) → add_ring r b ≡ Ok c → is_describable b ≡ true → is_describable c ≡ true
describable-ring r b c e says = go (ring_barred b r) e
  where
    d : Board
    d = record b { rings = b.rings ++ record { id = r.id; size = r.size; bytes = [] } ∷ [] }

    same : is_describable d ≡ true
    same = says

    go : (o : Option Code) → (elim o as (λ _. Result Board Code) [ Some code ↦ Err code | None ↦ Ok d ]) ≡ Ok c → is_describable c ≡ true
    go None f = subst (λ (x : Board). is_describable x ≡ true) (same_ok d c f) same
    go (Some code) f = absurd (let clash : Err code ≡ Ok c = f in cc)

-- ---- what is there

module _ (b : Board) (h : IsWhole b) (says : is_describable b ≡ true) where
  tidy : is_tidy (kin_of b) b.pending ≡ true
  tidy = sym (describable-kin b) ∙ says

  -- ---- users' objects

  kin-object : (t : TypeId) (id : List ℕ) (props : List Given) → kin_of (with_object b t id props) ≡ with_more OBJECTS_BIRTH (b.born + 1) [] (kin_of b)
  kin-object t id props =
      map-append kin (map (edited OBJECTS_BIRTH (with_added id (child (b.born + 1)))) b.records) _
      ∙ ap₂ (λ (ks : List Kin) (ns : List ℕ). ks ++ (b.born + 1, ns) ∷ []) (kin-grown OBJECTS_BIRTH id (b.born + 1) b.records)
      (given-children b props (fresh_slots t) ∙ fresh-children t)

  object-kept : (t : TypeId) (id : List ℕ) (props : List Given) → is_describable (with_object b t id props) ≡ true
  object-kept t id props =
      describable-kin (with_object b t id props)
      ∙ ap (λ (ks : List Kin). is_tidy ks b.pending) (kin-object t id props)
      ∙ tidy-more OBJECTS_BIRTH (b.born + 1) [] (kin_of b) (live-kin b OBJECTS_BIRTH (kind-live b OBJECTS_BIRTH _ (objects-kind b h.order))) b.pending
      (live-kin b ANONYMOUS_BIRTH (kind-live b ANONYMOUS_BIRTH _ (anonymous-kind b h.order))) refl tidy

  object-added : (driver id : List ℕ) (props : List Given) → (object_add b driver id props).refusal ≡ None
      → is_describable (object_add b driver id props).board ≡ true
  object-added driver id props = go (type_named driver)
    where
      by_refusal : (t : TypeId) (o : Option Code) → (added_as b t id props o).refusal ≡ None → is_describable (added_as b t id props o).board ≡ true
      by_refusal t None e = object-kept t id props
      by_refusal t (Some code) e = absurd (let clash : Some code ≡ None = e in cc)

      by : (row : TypeInfo) (o : Option Code) → (added_by b row id props o).refusal ≡ None → is_describable (added_by b row id props o).board ≡ true
      by row (Some code) e = absurd (let clash : Some code ≡ None = e in cc)
      by row None e = by_refusal row.id (refusal_of b row.id props) e

      added_to : Option TypeInfo → Changed
      added_to o = elim o as (λ _. Changed) [ None ↦ record { refusal = Some E20; board = b } | Some row ↦ added_by b row id props (barred b row id) ]

      go : (o : Option TypeInfo) → (added_to o).refusal ≡ None → is_describable (added_to o).board ≡ true
      go None e = absurd (let clash : Some E20 ≡ None = e in cc)
      go (Some row) e = by row (barred b row id) e

pub describable-object : (o : ObjectItem) (b c : Board) → IsWhole b → add_object o b ≡ Ok c → is_describable b ≡ true → is_describable c ≡ true
describable-object o b c h e says = go (object_add b o.kind o.id o.props).refusal (object-added b h says o.kind o.id o.props) e
  where
    d : Board
    d = (object_add b o.kind o.id o.props).board

    go : (r : Option Code) → (r ≡ None → is_describable d ≡ true) → (elim r as (λ _. Result Board Code) [ Some code ↦ Err code | None ↦ Ok d ]) ≡ Ok c
        → is_describable c ≡ true
    go None kept f = subst (λ (x : Board). is_describable x ≡ true) (same_ok d c f) (kept refl)
    go (Some code) kept f = absurd (let clash : Err code ≡ Ok c = f in cc)
