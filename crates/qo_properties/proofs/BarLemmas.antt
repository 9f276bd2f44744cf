-- The row of a type that a name gives, and what it refuses.
use Rattle.std.proofs.Common.{◌≡◌, refl, ap, sym, ◌∙◌, ap₂, ◌<◌, ◌≤◌, leb, cond, Bool, true, false, ◌||◌, List, [], ◌∷◌, length, ℕ, codes, find}
use Rattle.std.proofs.Common.{Option, Some, None, is_some, option_map, arith}
use Rattle.std.specs.List.{AllByRecursion, list_any}
use Rattle.qo_values.proofs.ListLemmas.{found-has}
use Rattle.qo_values.specs.Ids.{is_id}
use Rattle.std.proofs.lemmas.Bool.Decides.{nat_tests}
use Rattle.std.proofs.lemmas.Cmp.{nat_list_eq_equiv}
use Rattle.std.specs.Option.{option_map_or}
use Rattle.std.specs.Str.{bytes_eq}
use Rattle.std.proofs.lemmas.Option.{same_Some}
use Rattle.std.proofs.lemmas.List.{length-map}
use Rattle.qo_values.specs.Kinds.{type_name}
use Rattle.qo_values.specs.declared.births.TheConstants.{OBJECTS_BIRTH}
use Rattle.qo_values.specs.declared.codes.Code.TheVariants.{E15, E20, E21, E22, E23, E24, E43}
use Rattle.qo_values.specs.declared.codes.Code.{Code}
use Rattle.qo_values.specs.declared.kinds.TypeId.{TypeId}
use Rattle.qo_values.specs.declared.limits.TheConstants.{LIVE_OBJECTS_MAX}
use Rattle.qo_model.specs.Types.{TypeInfo, is_a, type_named, info_of, types}
use Rattle.qo_types.specs.Rows.{is_abstract}
use Rattle.qo_model.specs.Board.{Board, is_live}
use Rattle.qo_model.specs.Board as board
use Rattle.qo_model.specs.Objects.{barred, barred_by, has_slot}
use Rattle.qo_slots.specs.declared.keys.Key.{Key}
use Rattle.qo_heap.specs.Rows.{IsLive}
use Rattle.qo_object.specs.Content.{Content}
use Rattle.qo_object.specs.BoardObject.{shown_slots}
use Rattle.qo_object.specs.Slots.{Named}
use Rattle.qo_heap.specs.Board.{Shows, record_of}
use Rattle.qo_heap.specs.Objects.{Objects, content_of, slots_of}
use Rattle.qo_heap.proofs.HeapLemmas.{is_some-find}
use Rattle.qo_heap.proofs.BoardReads.{shows-live, shows-live_key, shows-slots}
use Rattle.qo_properties.specs.Changes.{place_refusal, info_refusal, type_refusal}

-- each row is that of its own type
rows-own : AllByRecursion (λ (r : TypeInfo). info_of r.id ≡ Some r) types
unfolding types
rows-own = (refl, (refl, (refl, (refl, (refl, (refl, (refl, (refl, (refl, (refl, (refl, (refl, (refl, (refl, (refl, (refl, tt))))))))))))))))

pub row-own : (name : List ℕ) (row : TypeInfo) → type_named name ≡ Some row → info_of row.id ≡ Some row
row-own name row e = found-has (λ (r : TypeInfo). info_of r.id ≡ Some r) (λ (r : TypeInfo). bytes_eq (type_name r.id) name) types row rows-own e

-- what the row of a type says, where a name gives the type
module _ (name : List ℕ) (t : TypeId) (is : Some t ≡ option_map (λ (x : TypeInfo). x.id) (type_named name)) where
  pub by_row : (P : Option TypeInfo → Type 0) → ((row : TypeInfo) → type_named name ≡ Some row → row.id ≡ t → is_abstract t ≡ row.is_abstract → P (Some row))
      → P (type_named name)
  by_row P given = go (type_named name) refl
    where
      go : (o : Option TypeInfo) → type_named name ≡ o → P o
      go None e = absurd (let clash : Some t ≡ None = is ∙ ap (option_map (λ (x : TypeInfo). x.id)) e in cc)
      go (Some row) e =
          let same : t ≡ row.id = same_Some t row.id (is ∙ ap (option_map (λ (x : TypeInfo). x.id)) e) in
          let row_is : info_of t ≡ Some row = ap info_of same ∙ row-own name row e in
          given row e (sym same) (ap (λ (o : Option TypeInfo). option_map_or (λ (x : TypeInfo). x.is_abstract) o false) row_is)

  pub refused-abstract : is_abstract t ≡ true → Some E21 ≡ type_refusal name
  refused-abstract is_so = by_row (λ o. Some E21 ≡ option_map_or info_refusal o (Some E20))
      (λ row e same tells. let so : row.is_abstract ≡ true = sym tells ∙ is_so in rw (info_refusal, so) refl)

  pub refused-use : is_abstract t ≡ false → is_a t (codes "user-creatable") ≡ false → Some E22 ≡ type_refusal name
  refused-use so_not use_not =
      by_row (λ o. Some E22 ≡ option_map_or info_refusal o (Some E20)) (λ row e same tells. let so : row.is_abstract ≡ false = sym tells ∙ so_not in
      let not_so : is_a row.id (codes "user-creatable") ≡ false = ap (λ (k : TypeId). is_a k (codes "user-creatable")) same ∙ use_not in
      rw (info_refusal, so, not_so) refl)

  pub allowed : is_abstract t ≡ false → is_a t (codes "user-creatable") ≡ true → None ≡ type_refusal name
  allowed so_not use_yes =
      by_row (λ o. None ≡ option_map_or info_refusal o (Some E20)) (λ row e same tells. let so : row.is_abstract ≡ false = sym tells ∙ so_not in
      let its : is_a row.id (codes "user-creatable") ≡ true = ap (λ (k : TypeId). is_a k (codes "user-creatable")) same ∙ use_yes in
      rw (info_refusal, so, its) refl)

-- the slots of `/objects`, and the objects

taken-shown : (b : Board) (v : Objects) → Shows b v → (n : ℕ) (name : List ℕ) → has_slot b n name ≡ list_any (λ (s : Named). bytes_eq name s.0) (slots_of v n)
taken-shown b v s n name = ap (list_any (λ (t : List ℕ × board.Slot). bytes_eq t.0 name)) (shows-slots b v s n) ∙ go (slots_of v n)
  where
    go : (slots : List Named)
        → list_any (λ (t : List ℕ × board.Slot). bytes_eq t.0 name) (shown_slots slots) ≡ list_any (λ (t : Named). bytes_eq name t.0) slots
    go [] = refl
    go (t ∷ slots) = ap₂ (λ (x y : Bool). x || y) (nat_list_eq_equiv.symm t.0 name) (go slots)

-- what is told of a view is told of the slot
pub found-told : {A : Type 0} (f : A → Named) (o : Option A) (x : Option Named) (t : Bool) → option_map f o ≡ x → is_some o ≡ t → is_some x ≡ t
found-told f None x t e is = ap is_some (sym e) ∙ is
found-told f (Some a) x t e is = ap is_some (sym e) ∙ is

-- a slot of a name is taken where a look-up by the name finds one
pub taken-is : {A : Type 0} (f : A → Named) (o : Option A) (b : Board) (v : Objects) → Shows b v → (n : ℕ) (name : List ℕ) (t : Bool)
    → option_map f o ≡ find (λ (s : Named). bytes_eq name s.0) (slots_of v n) → is_some o ≡ t → has_slot b n name ≡ t
taken-is f o b v s n name t e some =
    taken-shown b v s n name ∙ sym (is_some-find (λ (x : Named). bytes_eq name x.0) (slots_of v n))
    ∙ found-told f o (find (λ (x : Named). bytes_eq name x.0) (slots_of v n)) t e some

pub many-shown : (b : Board) (v : Objects) → Shows b v → length b.records ≡ length v.rows
many-shown b v s = ap (λ (l : List board.Record). length l) s.records ∙ length-map v.rows record_of

pub place-gone : (b : Board) (v : Objects) → Shows b v → (id : List ℕ) → content_of v 8 ≡ None → Some E15 ≡ place_refusal b id
place-gone b v s id none =
    let gone : is_live b OBJECTS_BIRTH ≡ false = shows-live b v s OBJECTS_BIRTH ∙ ap (λ (o : Option Content). is_some o) none in
    rw (place_refusal, gone) refl

-- `/objects`, by its name
module _ (b : Board) (v : Objects) (s : Shows b v) (key : Key) (live : IsLive v.rows key) (is : key.birth ≡ OBJECTS_BIRTH) (id : List ℕ) where
  lives : is_live b OBJECTS_BIRTH ≡ true
  lives = ap (is_live b) (sym is) ∙ shows-live_key b v s key live

  at-objects : (t : Bool) → has_slot b key.birth id ≡ t → has_slot b OBJECTS_BIRTH id ≡ t
  at-objects t e = ap (λ (n : ℕ). has_slot b n id) (sym is) ∙ e

  pub place-taken : has_slot b key.birth id ≡ true → Some E24 ≡ place_refusal b id
  place-taken taken = rw (place_refusal, lives, at-objects true taken) refl

  pub place-full : has_slot b key.birth id ≡ false → LIVE_OBJECTS_MAX ≤ length v.rows → Some E43 ≡ place_refusal b id
  place-full none many =
      let so : leb LIVE_OBJECTS_MAX (length b.records) ≡ true = grind (arith, nat_tests, many-shown b v s, many) in
      rw (place_refusal, lives, at-objects false none, so) refl

  pub place-vacant : has_slot b key.birth id ≡ false → length v.rows < LIVE_OBJECTS_MAX → None ≡ place_refusal b id
  place-vacant none few =
      let so : leb LIVE_OBJECTS_MAX (length b.records) ≡ false = grind (arith, nat_tests, many-shown b v s, few) in
      rw (place_refusal, lives, at-objects false none, so) refl

-- the refusals in order

module _ (b : Board) (driver id : List ℕ) where
  by_type : (row : TypeInfo) (code : Code) → info_refusal row ≡ Some code → barred b row id ≡ Some code
  by_type row code e = go row.is_abstract refl (is_a row.id (codes "user-creatable")) refl
    where
      go : (t : Bool) → row.is_abstract ≡ t → (u : Bool) → is_a row.id (codes "user-creatable") ≡ u → barred b row id ≡ Some code
      go true p u q = let same : Some E21 ≡ Some code = rw (info_refusal, p) at e in rw (barred, p) same
      go false p false q = let same : Some E22 ≡ Some code = rw (info_refusal, p, q) at e in rw (barred, p, q) same
      go false p true q = absurd (let clash : None ≡ Some code = rw (info_refusal, p, q) at e in cc)

  by_rest : (row : TypeInfo) → info_refusal row ≡ None → barred b row id ≡ cond (is_id id) (place_refusal b id) (Some E23)
  by_rest row e = go row.is_abstract refl (is_a row.id (codes "user-creatable")) refl (is_id id) refl
    where
      go : (t : Bool) → row.is_abstract ≡ t → (u : Bool) → is_a row.id (codes "user-creatable") ≡ u → (w : Bool) → is_id id ≡ w
          → barred b row id ≡ cond (is_id id) (place_refusal b id) (Some E23)
      go true p u q w r = absurd (let clash : Some E21 ≡ None = rw (info_refusal, p) at e in cc)
      go false p false q w r = absurd (let clash : Some E22 ≡ None = rw (info_refusal, p, q) at e in cc)
      go false p true q true r = rw (barred, p, q, r) refl
      go false p true q false r = rw (barred, p, q, r) refl

  pub barred-type : (code : Code) → type_refusal driver ≡ Some code → barred_by b driver id ≡ Some code
  barred-type code e = go (type_named driver) e
    where
      go : (o : Option TypeInfo) → option_map_or info_refusal o (Some E20) ≡ Some code
          → option_map_or (λ (row : TypeInfo). barred b row id) o (Some E20) ≡ Some code
      go None same = same
      go (Some row) same = by_type row code same

  pub barred-rest : type_refusal driver ≡ None → barred_by b driver id ≡ cond (is_id id) (place_refusal b id) (Some E23)
  barred-rest e = go (type_named driver) e
    where
      go : (o : Option TypeInfo) → option_map_or info_refusal o (Some E20) ≡ None
          → option_map_or (λ (row : TypeInfo). barred b row id) o (Some E20) ≡ cond (is_id id) (place_refusal b id) (Some E23)
      go None clash = absurd (let other : Some E20 ≡ None = clash in cc)
      go (Some row) same = by_rest row same

  pub barred-id : type_refusal driver ≡ None → is_id id ≡ false → barred_by b driver id ≡ Some E23
  barred-id e is = barred-rest e ∙ ap (λ (t : Bool). cond t (place_refusal b id) (Some E23)) is

  pub barred-place : type_refusal driver ≡ None → is_id id ≡ true → barred_by b driver id ≡ place_refusal b id
  barred-place e is = barred-rest e ∙ ap (λ (t : Bool). cond t (place_refusal b id) (Some E23)) is
