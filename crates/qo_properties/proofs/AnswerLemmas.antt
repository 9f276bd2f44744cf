-- What the calls on users' objects answer.
use Rattle.std.proofs.Common.{◌≡◌, refl, ap, sym, subst, ◌∙◌, ℕ, true, false, List, [], Option, Some, None, Ok, Err, is_some, option_map, inl, inr}
use Rattle.std.specs.Option.{option_map_or}
use Rattle.qo_values.specs.declared.births.TheConstants.{OBJECTS_BIRTH}
use Rattle.qo_values.specs.declared.codes.Code.TheVariants.{E15, E20, E33, E50}
use Rattle.qo_values.specs.declared.codes.Code.{Code}
use Rattle.qo_values.specs.declared.kinds.TypeId.{TypeId}
use Rattle.qo_model.specs.Types.{TypeInfo, type_named}
use Rattle.qo_model.specs.Board.{Board, is_live, slots_at}
use Rattle.qo_model.specs.Objects.{Changed, Given, added_as, added_by, attempted_as, barred, barred_by, is_object_named, object_add, object_del, index_from, refusal_of, sever, with_attempt, with_object}
use Rattle.qo_model.specs.Paths.{attached}
use Rattle.qo_model.specs.Release.{let_go}
use Rattle.qo_object.specs.Content.{Content}
use Rattle.qo_object.specs.BoardObject.{shown_slots}
use Rattle.qo_heap.specs.Board.{Shows}
use Rattle.qo_heap.specs.Objects.{Objects, content_of, slots_of}
use Rattle.qo_heap.proofs.BoardReads.{shows-live, shows-slots}
use Rattle.qo_properties.specs.Additions.{Adds, IsTried, given_up}
use Rattle.qo_properties.specs.Changes.{IsAnswered, severed}
use Rattle.qo_properties.specs.declared.refusals.Refusal.{Refusal}
use Rattle.qo_properties.specs.declared.refusals.Refusal.TheVariants.{Refused, Memory}
use Rattle.qo_properties.proofs.AddLemmas.{shows-tried}

-- the place of a user's object
place-shown : (b : Board) (v : Objects) → Shows b v → (id : List ℕ) (n : ℕ) → n ≡ 8 → (o : Option ℕ)
    → o ≡ index_from (is_object_named id) 0 (shown_slots (slots_of v n)) → index_from (is_object_named id) 0 (slots_at b OBJECTS_BIRTH) ≡ o
place-shown b v s id n is o e =
    ap (λ (m : ℕ). index_from (is_object_named id) 0 (slots_at b m)) (sym is) ∙ ap (index_from (is_object_named id) 0) (shows-slots b v s n) ∙ sym e

pub del-none : (b : Board) (v : Objects) → Shows b v → (id : List ℕ) (n : ℕ) → n ≡ 8 → None ≡ index_from (is_object_named id) 0 (shown_slots (slots_of v n))
    → IsAnswered {T = Unit} (object_del b id) (Err E15) v
del-none b v s id n is e = rw (object_del, place-shown b v s id n is None e) (record { refusal = refl; board = s })

pub del-absent : (b : Board) (v : Objects) → Shows b v → (id : List ℕ) → content_of v 8 ≡ None → IsAnswered {T = Unit} (object_del b id) (Err E15) v
del-absent b v s id none =
    del-none b v s id 8 refl
    (sym (ap (λ (o : Option Content). index_from (is_object_named id) 0 (shown_slots (option_map_or (λ (c : Content). c.slots) o []))) none))

pub del-done : (b : Board) (v w : Objects) → Shows b v → (id : List ℕ) (n i : ℕ) → n ≡ 8
    → Some i ≡ index_from (is_object_named id) 0 (shown_slots (slots_of v n)) → Shows (let_go b n i) w → IsAnswered {T = Unit} (object_del b id) (Ok tt) w
del-done b v w s id n i is e now =
    rw (object_del, place-shown b v s id n is (Some i) e) (record { refusal = refl; board = subst (λ (m : ℕ). Shows (let_go b m i) w) is now })

-- severing
pub sever-absent : (b : Board) (v : Objects) → Shows b v → (n : ℕ) → content_of v n ≡ None → IsAnswered {T = Unit} (sever b n) (Err E33) v
sever-absent b v s n none =
    let gone : is_live b n ≡ false = shows-live b v s n ∙ ap (λ (o : Option Content). is_some o) none in
    rw (sever, gone) (record { refusal = refl; board = s })

pub sever-attached : (b : Board) (v : Objects) → Shows b v → (n m : ℕ) → m ≡ n → is_live b m ≡ true → attached b m ≡ true
    → IsAnswered {T = Unit} (sever b n) (Err E50) v
sever-attached b v s n m same live is =
    subst (λ (k : ℕ). IsAnswered {T = Unit} (sever b k) (Err E50) v) same (rw (sever, live, is) (record { refusal = refl; board = s }))

pub sever-done : (b : Board) (w : Objects) (n m : ℕ) → m ≡ n → is_live b m ≡ true → attached b m ≡ false → Shows (severed b m) w
    → IsAnswered {T = Unit} (sever b n) (Ok tt) w
sever-done b w n m same live is now =
    subst (λ (k : ℕ). IsAnswered {T = Unit} (sever b k) (Ok tt) w) same (rw (sever, live, is) (record { refusal = refl; board = now }))

-- adding

module _ (b : Board) (driver id : List ℕ) (props : List Given) where
  pub add-barred : (code : Code) → barred_by b driver id ≡ Some code → object_add b driver id props ≡ record { refusal = Some code; board = b }
  add-barred code e = go (type_named driver) e
    where
      go : (o : Option TypeInfo) → option_map_or (λ (row : TypeInfo). barred b row id) o (Some E20) ≡ Some code
          → elim o as (λ x. Changed) [ None ↦ record { refusal = Some E20; board = b } | Some row ↦ added_by b row id props (barred b row id) ]
          ≡ record { refusal = Some code; board = b }
      go None same = ap (λ (c : Option Code). record { refusal = c; board = b }) same
      go (Some row) same = ap (added_by b row id props) same

  pub add-open : (t : TypeId) → barred_by b driver id ≡ None → option_map (λ (r : TypeInfo). r.id) (type_named driver) ≡ Some t
      → object_add b driver id props ≡ added_as b t id props (refusal_of b t props)
  add-open t e is = go (type_named driver) e is
    where
      go : (o : Option TypeInfo) → option_map_or (λ (row : TypeInfo). barred b row id) o (Some E20) ≡ None → option_map (λ (r : TypeInfo). r.id) o ≡ Some t
          → elim o as (λ x. Changed) [ None ↦ record { refusal = Some E20; board = b } | Some row ↦ added_by b row id props (barred b row id) ]
          ≡ added_as b t id props (refusal_of b t props)
      go None clash its = cc
      go (Some row) none its =
          let same : row.id ≡ t = cc its in
          ap (added_by b row id props) none ∙ ap (λ (k : TypeId). added_as b k id props (refusal_of b k props)) same

  pub attempted-is : (t : TypeId) → barred_by b driver id ≡ None → option_map (λ (r : TypeInfo). r.id) (type_named driver) ≡ Some t
      → attempted_as b driver id ≡ with_attempt b t
  attempted-is t open_so is = rw (attempted_as, open_so) (go (type_named driver) is)
    where
      go : (o : Option TypeInfo) → option_map (λ (r : TypeInfo). r.id) o ≡ Some t
          → option_map_or (λ (row : TypeInfo). with_attempt b row.id) o b ≡ with_attempt b t
      go None its = cc
      go (Some row) its = let same : row.id ≡ t = cc its in ap (with_attempt b) same

  -- the calls' answers
  pub adds-barred : (v : Objects) → Shows b v → (code : Code) → barred_by b driver id ≡ Some code → Adds b driver id props (Err (Refused code)) v
  adds-barred v s code e = let is = add-barred code e in (ap (λ (c : Changed). c.refusal) is, subst (λ (c : Changed). Shows c.board v) (sym is) s)

  pub adds-refused : (w : Objects) (t : TypeId) (code : Code) → barred_by b driver id ≡ None → option_map (λ (r : TypeInfo). r.id) (type_named driver) ≡ Some t
      → Some code ≡ refusal_of b t props → Shows (with_attempt b t) w → Adds b driver id props (Err (Refused code)) w
  adds-refused w t code open_so is e s =
      let its = add-open t open_so is ∙ ap (added_as b t id props) (sym e) in
      (ap (λ (c : Changed). c.refusal) its, subst (λ (c : Changed). Shows c.board w) (sym its) s)

  pub adds-done : (w : Objects) (t : TypeId) → barred_by b driver id ≡ None → option_map (λ (r : TypeInfo). r.id) (type_named driver) ≡ Some t
      → None ≡ refusal_of b t props → Shows (with_object b t id props) w → Adds b driver id props (Ok tt) w
  adds-done w t open_so is e s =
      let its = add-open t open_so is ∙ ap (added_as b t id props) (sym e) in
      (ap (λ (c : Changed). c.refusal) its, subst (λ (c : Changed). Shows c.board w) (sym its) s)

  pub adds-tried : (v w : Objects) → Shows b v → (t : TypeId) → barred_by b driver id ≡ None → option_map (λ (r : TypeInfo). r.id) (type_named driver) ≡ Some t
      → IsTried t v w → Adds b driver id props (Err Memory) w
  adds-tried v w s t open_so is (inl same) = inl (subst (λ (x : Objects). Shows b x) (sym same) s)
  adds-tried v w s t open_so is (inr same) =
      inr (subst (λ (x : Objects). Shows (attempted_as b driver id) x) (sym same)
      (subst (λ (d : Board). Shows d (given_up t v)) (sym (attempted-is t open_so is)) (shows-tried b v s t)))

  pub adds-not : (v : Objects) → Shows b v → (r : Refusal) → ((code : Code) → r ≡ Refused code → barred_by b driver id ≡ Some code)
      → Adds b driver id props (Err r) v
  adds-not v s (Refused code) is = adds-barred v s code (is code refl)
  adds-not v s Memory is = inl s
