-- A device that is made over the heap, property by property, is the board's.
use Rattle.std.proofs.Common.{◌≡◌, refl, ap, sym, subst, ◌∙◌, ℕ, zero, suc, ◌+◌, ◌<◌, ◌≤◌, true, false, eqb, is_some, option_to_list, append-nil, length-append, Bool, List, [], ◌∷◌, ◌++◌, length, map, filter_map, take, slice_get, append_assoc, inl, inr, Option, Some, None, option_map, replicate, arith}
use Rattle.std.specs.Prelude.{◌⊎◌, IfSome}
use Rattle.std.specs.List.{AllZip}
use Rattle.std.specs.Option.{option_map_or}
use Rattle.std.proofs.lemmas.List.{map-append, take_all}
use Rattle.qo_values.specs.declared.kinds.TypeId.{TypeId}
use Rattle.qo_kinds.proofs.BodyLemmas.{fresh-bare, fresh-registers, fresh-timely}
use Rattle.qo_slots.specs.declared.keys.Key.{Key}
use Rattle.qo_heap.specs.Rows.{IsLive}
use Rattle.qo_model.specs.Board as board
use Rattle.qo_model.specs.Board.{Board}
use Rattle.qo_model.specs.Changes.{add, make}
use Rattle.qo_model.specs.Devices.{child_named}
use Rattle.qo_model.specs.Objects.{Given, with_attempt}
use Rattle.qo_model.specs.Opening.{fresh_record}
use Rattle.qo_model.specs.Plug.{aliased, owned, property_made, properties_made, with_kid, with_new}
use Rattle.qo_model.specs.Release.{edit}
use Rattle.qo_model.specs.RowNames.{property_name}
use Rattle.qo_model.specs.Types as types
use Rattle.qo_model.specs.declared.properties.Property.{Property}
use Rattle.qo_model.specs.declared.properties.PropertyName.{PropertyName}
use Rattle.qo_model.specs.declared.properties.PropertyRole.{PropertyRole}
use Rattle.qo_model.specs.declared.properties.PropertyRole.TheVariants as row
use Rattle.qo_heap.proofs.Logs.{all_lem}
use Rattle.qo_heap.specs.Log.{IsLogOf, noted_all}
use Rattle.qo_life.specs.Life.{init_notes}
use Rattle.qo_object.specs.Content.{Content, as_made, fresh, with_slot, without_pin}
use Rattle.qo_object.specs.declared.slots.Slot.{Slot}
use Rattle.qo_object.specs.declared.slots.Slot.TheVariants.{Plain, Child, Link, Alias}
use Rattle.qo_object.specs.BoardObject.{shown_slot}
use Rattle.qo_object.specs.Slots.{Named}
use Rattle.qo_heap.specs.Board.{Shows, pins_in, record_of}
use Rattle.qo_heap.specs.Objects.{IsHeap, Objects, content_of, slots_of, with_edit}
use Rattle.qo_heap.proofs.BoardObjects.{content-edited, live-content}
use Rattle.qo_heap.proofs.BoardChanges.{shows-added, shows-made}
use Rattle.qo_properties.specs.Additions.{IsChild, given_up, with_newest}
use Rattle.qo_properties.specs.declared.adding.filling.InitialValue.{InitialValue}
use Rattle.qo_properties.specs.declared.adding.filling.InitialValue.TheVariants as fill
use Rattle.qo_properties.specs.Filling.{Fits, filled, filled_with, spent, spent_at, value_alone, value_at}
use Rattle.qo_properties.specs.NewSlots.{begun, first_slots, new_slots, slot_begun}
use Rattle.qo_properties.proofs.AddKept.{fresh-kept}
use Rattle.qo_properties.proofs.AddLemmas.{child-unpinned, newest-beside, newest-content, newest-live, shows-tried}
use Rattle.qo_properties.proofs.NewSlotLemmas.{RowAt, new-shown, past, row-at}
use Rattle.qo_properties.proofs.PlannedLemmas.{zip-at}
use Rattle.qo_properties.proofs.PlanningLemmas.{placed-at, zip-length}
use Rattle.qo_properties.proofs.SlotsLemmas.{filled-end}
use Rattle.qo_plug.specs.Drafts.{Fell, Grows, HasPlanned, IsDraft, Makes, MakesGiven, bare, created, given_draft, stopped, unjoined, is_own, own_slots, own_slots_of, value_given, valued_slots, with_values}
use Rattle.qo_plug.proofs.GrowthLemmas.{grows-edit, grows-newest, grows-none, grows-then, live-low, row-before}
use Rattle.qo_plug.proofs.PlannedSlots.{alone-twice, begun-made, begun-own, filled-more, spent-all, spent-next, spent_until, value-got, value-next}
use Rattle.qo_plug.proofs.ValueLemmas.{created-given, values-add, values-alias, values-kid, values-owned}

-- what is no child names none as a child
pub no-child : (s : Slot) → ((key : Key) → s ≡ Child key → ⊥) → child_named (shown_slot s) ≡ None
no-child (Plain v) other = refl
no-child (Child key) other = absurd (other key refl)
no-child (Link ty true target) other = refl
no-child (Link ty false target) other = refl
no-child (Alias key name) other = refl

-- the own slots of an object with a slot more
own-push : (slots : List Named) (s : Named) → own_slots (slots ++ s ∷ []) ≡ own_slots slots ++ own_slots (s ∷ [])
own-push [] s = refl
own-push (x ∷ xs) s = go (is_own x.1) refl (own-push xs s)
  where
    go : (t : Bool) → is_own x.1 ≡ t → own_slots (xs ++ s ∷ []) ≡ own_slots xs ++ own_slots (s ∷ [])
        → own_slots ((x ∷ xs) ++ s ∷ []) ≡ own_slots (x ∷ xs) ++ own_slots (s ∷ [])
    go true p rest = rw p (ap (λ (l : List Named). x ∷ l) rest)
    go false p rest = rw p rest

slots-edited : (v : Objects) (o : Key) (f : Content → Content) → IsLive v.rows o → (c : Content) → content_of v o.birth ≡ Some c
    → slots_of (with_edit o.birth f v) o.birth ≡ (f c).slots
slots-edited v o f live c there =
    ap (λ (x : Option Content). option_map_or (λ (d : Content). d.slots) x []) (content-edited v o.birth f ∙ ap (option_map f) there)

pub own-added : (v w : Objects) (o : Key) (name : List ℕ) (slot : Slot) → IsLive v.rows o → w ≡ with_edit o.birth (with_slot name slot) v
    → own_slots_of w o.birth ≡ own_slots_of v o.birth ++ own_slots ((name, slot) ∷ [])
own-added v w o name slot live is =
    let (c, there) = live-content v o live in
    ap (λ (x : Objects). own_slots_of x o.birth) is
    ∙ ap own_slots (slots-edited v o (with_slot name slot) live c there)
    ∙ own-push c.slots (name, slot)
    ∙ ap (λ (x : Option Content). own_slots (option_map_or (λ (d : Content). d.slots) x []) ++ own_slots ((name, slot) ∷ [])) (sym there)

pub own-aliased : (v w : Objects) (o key : Key) (name of : List ℕ) → IsLive v.rows o → w ≡ with_edit o.birth (with_slot name (Alias key of)) v
    → own_slots_of w o.birth ≡ own_slots_of v o.birth
own-aliased v w o key name of live is = own-added v w o name (Alias key of) live is ∙ append-nil (own_slots_of v o.birth)

-- an object gained the slot of a row, with the value planned for it
module _ (v w : Objects) (o : Key) (t : TypeId) (p : Property) (f : InitialValue) (x : Slot) (begins : begun t p.role ≡ Some x)
    (is : w ≡ with_edit o.birth (with_slot (property_name p.name) (filled_with (value_alone f) x)) v) where
  abbrev gained : Named
  gained = (property_name p.name, x)

  slot-here : slot_begun t p ≡ Some gained
  slot-here = ap (option_map (λ (y : Slot). (property_name p.name, y))) begins

  pub slot-own : IsLive v.rows o → own_slots_of w o.birth ≡ own_slots_of v o.birth ++ filled (value_alone f ∷ []) (option_to_list (slot_begun t p))
  slot-own live =
      let own : is_own (filled_with (value_alone f) x) ≡ true = begun-own t p.role f x begins in
      own-added v w o (property_name p.name) (filled_with (value_alone f) x) live is
      ∙ ap (λ (l : List Named). own_slots_of v o.birth ++ l) (rw own refl)
      ∙ ap (λ (y : Option Named). own_slots_of v o.birth ++ filled (value_alone f ∷ []) (option_to_list y)) (sym slot-here)

  pub slot-shown : (b : Board) (props : List Given) → IfSome (slot_begun t p) (HasPlanned b props f)
      → MakesGiven b props o.birth (property_made o.birth t (property_name p.name) p.role) v w
  slot-shown b props told c s =
      let has : HasPlanned b props f gained = rw slot-here at told in
      let made : edit o.birth (with_values b props) (property_made o.birth t (property_name p.name) p.role c)
      ≡ add o.birth (property_name p.name) (shown_slot (filled_with (value_alone f) x)) (edit o.birth (with_values b props) c) =
      ap (edit o.birth (with_values b props)) (begun-made o.birth t (property_name p.name) p.role x begins c)
      ∙ values-add b props o.birth (property_name p.name) (shown_slot x) (shown_slot (filled_with (value_alone f) x)) has c in
      subst (λ (d : Board). Shows d w) (sym made)
      (subst (Shows (add o.birth (property_name p.name) (shown_slot (filled_with (value_alone f) x)) (edit o.birth (with_values b props) c))) (sym is)
      (shows-added (edit o.birth (with_values b props) c) v s o.birth (property_name p.name) (filled_with (value_alone f) x)))

  pub slot-grows : Grows v w
  slot-grows = grows-edit v w o.birth (with_slot (property_name p.name) (filled_with (value_alone f) x)) (λ c. refl) is

-- an alias of what a child has, made
pub alias-shown : (v w : Objects) (o key : Key) (name own of own_of : List ℕ) → name ≡ own → of ≡ own_of
    → w ≡ with_edit o.birth (with_slot name (Alias key of)) v
    → (c : Board) → Shows c v → (child : Option ℕ) → Some key.birth ≡ child → Shows (aliased o.birth own own_of child c) w
alias-shown v w o key name own of own_of named passes is c s child there =
    subst (λ (x : Option ℕ). Shows (aliased o.birth own own_of x c) w) there
    (subst (Shows (aliased o.birth own own_of (Some key.birth) c)) (sym is)
    (subst (λ (n : List ℕ). Shows (add o.birth n (board.alias key.birth own_of) c) (with_edit o.birth (with_slot name (Alias key of)) v)) named
    (subst (λ (n : List ℕ). Shows (add o.birth name (board.alias key.birth n) c) (with_edit o.birth (with_slot name (Alias key of)) v)) passes
    (shows-added c v s o.birth name (Alias key of)))))

-- a further object

-- one more object, the newest, with its first slots
shows-new : (c : Board) (v : Objects) → Shows c v → (o : Key) (t : TypeId) → o.birth ≡ v.born + 1
    → Shows (with_new (fresh_record (c.born + 1) t) c) (with_newest o (as_made t (new_slots t) 0) v)
shows-new c v s o t birth =
    record {
      records =
          (λ j. s.records j ++ record {
            birth = its j;
            kind = t;
            slots = sym (new-shown t (types.slots_of t)) j;
            registers = sym (fresh-registers t) j;
            device_id = None;
            kept_path = None;
          } ∷ [])
          ∙ sym (map-append record_of v.rows ((o, as_made t (new_slots t) 0) ∷ []));
      born = ap (λ (k : ℕ). k + 1) s.born;
      pins = s.pins ∙ sym (pins-last v.rows);
      notes = subst (λ (k : ℕ). IsLogOf (c.notes ++ init_notes k t) (noted_all (init_notes o.birth t) v.log)) (sym its)
          (all_lem c.notes (init_notes o.birth t) v.log s.notes);
      events = s.events;
      now = s.now;
    }
  where
    its : c.born + 1 ≡ o.birth
    its = ap (λ (k : ℕ). k + 1) s.born ∙ sym birth

    pins-last : (rows : List (Key × Content)) → pins_in (rows ++ (o, as_made t (new_slots t) 0) ∷ []) ≡ pins_in rows
    pins-last [] = refl
    pins-last (row ∷ rows) = ap (λ (l : List ℕ). replicate row.1.pins row.0.birth ++ l) (pins-last rows)

module _ {v w : Objects} {o parent : Key} {name : List ℕ} {t : TypeId} (good : IsHeap v) (live : IsLive v.rows parent)
    (made : IsChild v w o parent name t (new_slots t)) (x : Objects) (unpinned : x ≡ with_edit o.birth without_pin w) where
  kid-is : x ≡ with_newest o (as_made t (new_slots t) 0) (with_edit parent.birth (with_slot name (Child o)) v)
  kid-is = child-unpinned good made x unpinned

  pub kid-shown : (c : Board) → Shows c v → Shows (with_kid parent.birth name t c) x
  kid-shown c s =
      let its : o.birth ≡ c.born + 1 = made.birth ∙ sym (ap (λ (k : ℕ). k + 1) s.born) in
      let newest : Objects = with_newest o (as_made t (new_slots t) 0) v in
      let same : with_edit parent.birth (with_slot name (Child o)) newest ≡ x =
      newest-beside v newest (with_edit parent.birth (with_slot name (Child o)) newest) o parent (as_made t (new_slots t) 0) (with_slot name (Child o)) good
      made.birth live refl refl ∙ sym kid-is in
      subst (λ (y : Objects). Shows (with_kid parent.birth name t c) y) same
      (subst (λ (k : ℕ). Shows (add parent.birth name (board.child k) (with_new (fresh_record (c.born + 1) t) c))
      (with_edit parent.birth (with_slot name (Child o)) newest)) its
      (shows-added (with_new (fresh_record (c.born + 1) t) c) newest (shows-new c v s o t made.birth) parent.birth name (Child o)))

  -- of its parent's own slots there are no more
  pub kid-own : own_slots_of x parent.birth ≡ own_slots_of v parent.birth
  kid-own =
      let beside : Objects = with_edit parent.birth (with_slot name (Child o)) v in
      let (c, there) = live-content v parent live in
      let low : parent.birth ≤ v.born = live-low v good parent live in
      let other : eqb o.birth parent.birth ≡ false = grind (arith, made.birth, low) in
      ap (λ (y : Objects). own_slots_of y parent.birth) kid-is
      ∙ ap (λ (r : Option (Key × Content)). own_slots (option_map_or (λ (d : Content). d.slots) (option_map (λ (row : Key × Content). row.1) r) []))
      (row-before beside.rows o (as_made t (new_slots t) 0) parent.birth other)
      ∙ own-added v beside parent name (Child o) live refl
      ∙ append-nil (own_slots_of v parent.birth)

  pub kid-grows : Grows v x
  kid-grows =
      let beside : Objects = with_edit parent.birth (with_slot name (Child o)) v in
      subst (Grows v) (sym kid-is)
      (grows-then v beside (with_newest o (as_made t (new_slots t) 0) beside) (grows-edit v beside parent.birth (with_slot name (Child o)) (λ c. refl) refl)
      (grows-newest beside o (as_made t (new_slots t) 0) made.birth (fresh-kept t) refl (fresh-timely t v.time)))

-- a device as it is created
pub shows-created : (b : Board) (v : Objects) → Shows b v → IsHeap v → (t : TypeId) (o : Key) → o.birth ≡ v.born + 1
    → Shows (created b t) (with_newest o (fresh t) v)
shows-created b v s good t o birth =
    let made : Shows (make t b) (record v { rows = v.rows ++ (o, fresh t) ∷ []; born = v.born + 1 }) = shows-made b v s good t o birth in
    record {
      records = made.records;
      born = made.born;
      pins = made.pins;
      notes =
          subst (λ (k : ℕ). IsLogOf (b.notes ++ init_notes k t) (noted_all (init_notes o.birth t) v.log)) (birth ∙ sym (ap (λ (k : ℕ). k + 1) s.born))
          (all_lem b.notes (init_notes o.birth t) v.log s.notes);
      events = made.events;
      now = made.now;
    }

-- property by property

rows-next : (n : ℕ) (t : TypeId) (k : ℕ) (ps : List Property) (p : Property) (c : Board) → slice_get ps k ≡ Some p
    → properties_made n t (take (suc k) ps) c ≡ property_made n t (property_name p.name) p.role (properties_made n t (take k ps) c)
rows-next n t k [] p c at = cc
rows-next n t zero (q ∷ ps) p c at = let same : q ≡ p = cc in ap (λ (r : Property). property_made n t (property_name r.name) r.role c) same
rows-next n t (suc k) (q ∷ ps) p c at = rows-next n t k ps p (property_made n t (property_name q.name) q.role c) at

pub rows-more : (n : ℕ) (t : TypeId) (k : ℕ) (ps : List Property) (p : Property) (c : Board) → slice_get ps k ≡ Some p
    → properties_made n t (take (k + 1) ps) c ≡ property_made n t (property_name p.name) p.role (properties_made n t (take k ps) c)
rows-more n t k ps p c at = let more : k + 1 ≡ suc k = omega arith in ap (λ (j : ℕ). properties_made n t (take j ps) c) more ∙ rows-next n t k ps p c at

-- a further object and an alias, made where values were given

pub kid-given : (b : Board) (props : List Given) (v w : Objects) (o : Key) (t u : TypeId) (p : Property) → p.role ≡ row.Child u → IsHeap v → IsLive v.rows o
    → Makes (with_kid o.birth (property_name p.name) u) v w
    → MakesGiven b props o.birth (property_made o.birth t (property_name p.name) p.role) v w
kid-given b props v w o t u p kind good live makes c s =
    let low : o.birth ≤ v.born = live-low v good o live in
    let born : c.born ≡ v.born = s.born in
    subst (λ (k : PropertyRole). Shows (edit o.birth (with_values b props) (property_made o.birth t (property_name p.name) k c)) w) (sym kind)
    (subst (λ (d : Board). Shows d w) (sym (values-kid b props o.birth (property_name p.name) u c (omega (arith, low, born))))
    (makes (edit o.birth (with_values b props) c) s))

pub alias-given : (b : Board) (props : List Given) (v w : Objects) (n : ℕ) (t : TypeId) (p : Property) (owner of : PropertyName) → p.role ≡ row.Alias owner of
    → Makes (λ c. aliased n (property_name p.name) (property_name of) (owned c n (property_name owner)) c) v w
    → MakesGiven b props n (property_made n t (property_name p.name) p.role) v w
alias-given b props v w n t p owner of kind makes c s =
    let same : edit n (with_values b props) (aliased n (property_name p.name) (property_name of) (owned c n (property_name owner)) c)
    ≡ aliased n (property_name p.name) (property_name of) (owned (edit n (with_values b props) c) n (property_name owner)) (edit n (with_values b props) c) =
    values-alias b props n (property_name p.name) (property_name of) (owned c n (property_name owner)) c
    ∙ ap (λ (m : Option ℕ). aliased n (property_name p.name) (property_name of) m (edit n (with_values b props) c))
    (sym (values-owned b props n c (property_name owner))) in
    subst (λ (k : PropertyRole). Shows (edit n (with_values b props) (property_made n t (property_name p.name) k c)) w) (sym kind)
    (subst (λ (d : Board). Shows d w) (sym same) (makes (edit n (with_values b props) c) s))

-- so many properties were made, with the values of so many own slots, which are taken out of the plan
pub record Reached (o : Key) (t : TypeId) (plan : List InitialValue) (k at : ℕ) (v w : Objects) (left : List InitialValue) : Type 0 where
  pub within : k ≤ length (types.slots_of t)
  pub place : at ≡ length (first_slots k t)
  pub shown : (b : Board) (props : List Given) → AllZip (HasPlanned b props) plan (new_slots t)
      → MakesGiven b props o.birth (properties_made o.birth t (take k (types.slots_of t))) v w
  pub own : own_slots_of w o.birth ≡ own_slots_of v o.birth ++ filled (map value_alone plan) (first_slots k t)
  pub left_is : left ≡ spent_until at plan
  pub grows : Grows v w

pub reached-none : (o : Key) (t : TypeId) (plan : List InitialValue) (v : Objects) → Reached o t plan 0 0 v v plan
reached-none o t plan v =
    record {
      within = omega arith;
      place = refl;
      shown = λ b props has c s. s;
      own = sym (append-nil (own_slots_of v o.birth)) ∙ ap (λ (l : List Named). own_slots_of v o.birth ++ l) (sym (filled-end (map value_alone plan)));
      left_is = refl;
      grows = grows-none v v refl;
    }

-- what the next value is
pub record NextValue (t : TypeId) (role : PropertyRole) (at next : ℕ) (plan left : List InitialValue) (f : InitialValue) : Type 0 where
  pub own : (u : TypeId) → is_some (begun u role) ≡ true → (f ≡ value_at at plan) × (next ≡ at + 1) × (left ≡ spent_at at plan)
  pub other : (u : TypeId) → is_some (begun u role) ≡ false → (f ≡ fill.Default) × (next ≡ at) × (left ≡ plan)

module _ (o : Key) (t : TypeId) (plan : List InitialValue) (fitting : AllZip Fits plan (new_slots t)) (k at next : ℕ) (p : Property) (v u w : Objects)
    (left less : List InitialValue) (f : InitialValue) (here : Some p ≡ slice_get (types.slots_of t) k) (r : Reached o t plan k at v u left)
    (value : NextValue t p.role at next left less f) where
  next-row : RowAt t k p
  next-row = row-at t k p here

  placed : IfSome (slot_begun t p) (λ (s : Named). slice_get (new_slots t) at ≡ Some s)
  placed = subst (λ (n : ℕ). IfSome (slot_begun t p) (λ (s : Named). slice_get (new_slots t) n ≡ Some s)) (sym r.place)
      (placed-at (slot_begun t) (types.slots_of t) k p (sym here))

  -- of a row with a slot
  module _ (x : Slot) (begins : begun t p.role ≡ Some x) where
    abbrev slot : Named
    slot = (property_name p.name, x)

    begins-here : slot_begun t p ≡ Some slot
    begins-here = ap (option_map (λ (y : Slot). (property_name p.name, y))) begins

    stands : slice_get (new_slots t) at ≡ Some slot
    stands = rw begins-here at placed

    taken : (f ≡ value_at at left) × (next ≡ at + 1) × (less ≡ spent_at at left)
    taken = value.own t (rw begins refl)

    value-is : f ≡ value_at at plan
    value-is = taken.0 ∙ ap (value_at at) r.left_is ∙ value-next at plan

    own-told : (b : Board) (props : List Given) → AllZip (HasPlanned b props) plan (new_slots t) → HasPlanned b props f slot
    own-told b props has =
        let (g, got, planned) = zip-at (HasPlanned b props) plan (new_slots t) at slot has stands in
        let same : value_alone f ≡ value_alone g = ap value_alone (value-is ∙ value-got at plan g got) ∙ alone-twice g in
        subst (λ (h : InitialValue). (slot.0, shown_slot (filled_with h slot.1)) ≡ value_given b props (slot.0, shown_slot slot.1)) (sym same) planned

    own-more : filled (map value_alone plan) (first_slots k t) ++ filled (value_alone f ∷ []) (option_to_list (slot_begun t p))
        ≡ filled (map value_alone plan) (first_slots (k + 1) t)
    own-more =
        let (g, got, fit) = zip-at Fits plan (new_slots t) at slot fitting stands in
        let same : value_alone f ≡ value_alone g = ap value_alone (value-is ∙ value-got at plan g got) ∙ alone-twice g in
        let there : slice_get plan (length (first_slots k t)) ≡ Some g = subst (λ (n : ℕ). slice_get plan n ≡ Some g) r.place got in
        ap (λ (h : InitialValue). filled (map value_alone plan) (first_slots k t) ++ filled (h ∷ []) (option_to_list (slot_begun t p))) same
        ∙ ap (λ (y : Option Named). filled (map value_alone plan) (first_slots k t) ++ filled (value_alone g ∷ []) (option_to_list y)) begins-here
        ∙ sym (filled-more plan (first_slots k t) slot g there)
        ∙ ap (filled (map value_alone plan)) (ap (λ (y : Option Named). first_slots k t ++ option_to_list y) (sym begins-here) ∙ sym next-row.next)

    own-place : next ≡ length (first_slots (k + 1) t)
    own-place =
        let more : first_slots (k + 1) t ≡ first_slots k t ++ slot ∷ [] = next-row.next
        ∙ ap (λ (y : Option Named). first_slots k t ++ option_to_list y) begins-here in
        let longer : length (first_slots (k + 1) t) ≡ length (first_slots k t) + 1 = ap (λ (l : List Named). length l) more
        ∙ length-append (first_slots k t) (slot ∷ []) in
        taken.1 ∙ ap (λ (n : ℕ). n + 1) r.place ∙ sym longer

    own-left : less ≡ spent_until next plan
    own-left =
        let one : suc at ≡ next = (let n : suc at ≡ at + 1 = omega arith in n) ∙ sym taken.1 in
        taken.2 ∙ ap (spent_at at) r.left_is ∙ spent-next at plan ∙ ap (λ (n : ℕ). spent_until n plan) one

  -- of a row without one
  module _ (none : begun t p.role ≡ None) where
    none-here : slot_begun t p ≡ None
    none-here = ap (option_map (λ (y : Slot). (property_name p.name, y))) none

    passed : (f ≡ fill.Default) × (next ≡ at) × (less ≡ left)
    passed = value.other t (rw none refl)

    no-more : first_slots (k + 1) t ≡ first_slots k t
    no-more = next-row.next ∙ ap (λ (y : Option Named). first_slots k t ++ option_to_list y) none-here ∙ append-nil (first_slots k t)

    other-more : filled (map value_alone plan) (first_slots k t) ++ filled (value_alone f ∷ []) (option_to_list (slot_begun t p))
        ≡ filled (map value_alone plan) (first_slots (k + 1) t)
    other-more =
        ap (λ (y : Option Named). filled (map value_alone plan) (first_slots k t) ++ filled (value_alone f ∷ []) (option_to_list y)) none-here
        ∙ append-nil (filled (map value_alone plan) (first_slots k t))
        ∙ ap (filled (map value_alone plan)) (sym no-more)

    other-place : next ≡ length (first_slots (k + 1) t)
    other-place = passed.1 ∙ r.place ∙ ap (λ (l : List Named). length l) (sym no-more)

    other-left : less ≡ spent_until next plan
    other-left = passed.2 ∙ r.left_is ∙ ap (λ (n : ℕ). spent_until n plan) (sym passed.1)

  row-told : (b : Board) (props : List Given) → AllZip (HasPlanned b props) plan (new_slots t) → IfSome (slot_begun t p) (HasPlanned b props f)
  row-told b props has = go (begun t p.role) refl
    where
      go : (y : Option Slot) → begun t p.role ≡ y → IfSome (slot_begun t p) (HasPlanned b props f)
      go None e = rw e tt
      go (Some x) e = rw e (own-told x e b props has)

  pub reached-more : ((b : Board) (props : List Given) → IfSome (slot_begun t p) (HasPlanned b props f)
      → MakesGiven b props o.birth (property_made o.birth t (property_name p.name) p.role) u w)
      → own_slots_of w o.birth ≡ own_slots_of u o.birth ++ filled (value_alone f ∷ []) (option_to_list (slot_begun t p))
      → Grows u w
      → Reached o t plan (k + 1) next v w less
  reached-more makes own grows =
      let below : k < length (types.slots_of t) = next-row.within in
      record {
        within = omega (arith, below);
        place = by own-place other-place;
        shown = λ b props has c s.
            subst (λ (d : Board). Shows (edit o.birth (with_values b props) d) w) (sym (rows-more o.birth t k (types.slots_of t) p c (sym here)))
            (makes b props (row-told b props has) (properties_made o.birth t (take k (types.slots_of t)) c) (r.shown b props has c s));
        own =
            own
            ∙ ap (λ (l : List Named). l ++ filled (value_alone f ∷ []) (option_to_list (slot_begun t p))) r.own
            ∙ append_assoc (own_slots_of v o.birth) (filled (map value_alone plan) (first_slots k t))
            (filled (value_alone f ∷ []) (option_to_list (slot_begun t p)))
            ∙ ap (λ (l : List Named). own_slots_of v o.birth ++ l) (by own-more other-more);
        left_is = by own-left other-left;
        grows = grows-then v u w r.grows grows;
      }
    where
      by : {A : Type 0} → ((x : Slot) → begun t p.role ≡ Some x → A) → (begun t p.role ≡ None → A) → A
      by {A = A} some none = go (begun t p.role) refl
        where
          go : (y : Option Slot) → begun t p.role ≡ y → A
          go None e = none e
          go (Some x) e = some x e

  -- memory wants for it
  pub fell-at : (b : Board) (props : List Given) → AllZip (HasPlanned b props) plan (new_slots t)
      → (w ≡ u) ⊎ ((further : TypeId) × (p.role ≡ row.Child further) × (w ≡ given_up further u)) → Fell b props o.birth t v w
  fell-at b props has (inl same) =
      stopped k (λ c s.
      subst (Shows (edit o.birth (with_values b props) (properties_made o.birth t (take k (types.slots_of t)) c))) (sym same) (r.shown b props has c s))
  fell-at b props has (inr (further, kind, is)) =
      unjoined k p further (sym here) kind
      (λ c s. subst (Shows (edit o.birth (with_values b props) (with_attempt (properties_made o.birth t (take k (types.slots_of t)) c) further))) (sym is)
      (shows-tried (edit o.birth (with_values b props) (properties_made o.birth t (take k (types.slots_of t)) c)) u (r.shown b props has c s) further))

-- all properties were made
module _ (o : Key) (t : TypeId) (plan : List InitialValue) (fitting : AllZip Fits plan (new_slots t)) (k at : ℕ) (v w : Objects) (left : List InitialValue)
    (end : None ≡ slice_get (types.slots_of t) k) (r : Reached o t plan k at v w left) where
  at-end : k ≡ length (types.slots_of t)
  at-end =
      let most : length (types.slots_of t) ≤ k = past (types.slots_of t) k (sym end) in
      let within : k ≤ length (types.slots_of t) = r.within in
      omega (arith, most, within)

  all-rows : take k (types.slots_of t) ≡ types.slots_of t
  all-rows = ap (λ (n : ℕ). take n (types.slots_of t)) at-end ∙ take_all (length (types.slots_of t)) (types.slots_of t) (omega arith)

  all-first : first_slots k t ≡ new_slots t
  all-first = ap (filter_map (slot_begun t)) all-rows

  pub all-shown : (b : Board) (props : List Given) → AllZip (HasPlanned b props) plan (new_slots t)
      → MakesGiven b props o.birth (properties_made o.birth t (types.slots_of t)) v w
  all-shown b props has c s =
      subst (λ (ps : List Property). Shows (edit o.birth (with_values b props) (properties_made o.birth t ps c)) w) all-rows (r.shown b props has c s)

  pub all-own : own_slots_of w o.birth ≡ own_slots_of v o.birth ++ valued_slots t plan
  all-own = r.own ∙ ap (λ (l : List Named). own_slots_of v o.birth ++ filled (map value_alone plan) l) all-first

  pub all-left : left ≡ map spent plan
  all-left =
      let many : at ≡ length plan = r.place ∙ ap (λ (l : List Named). length l) all-first ∙ sym (zip-length Fits plan (new_slots t) fitting) in
      r.left_is ∙ ap (λ (n : ℕ). spent_until n plan) many ∙ spent-all plan

-- a device that was created, and then made
module _ (v u w : Objects) (o : Key) (t : TypeId) (good : IsHeap v) (birth : o.birth ≡ v.born + 1) (is : u ≡ with_newest o (fresh t) v) (more : Grows u w) where
  created-grows : Grows v u
  created-grows = subst (Grows v) (sym is) (grows-newest v o (fresh t) birth (fresh-kept t) refl (fresh-timely t v.time))

  pub drafting-grows : Grows v w
  drafting-grows = grows-then v u w created-grows more

  pub draft-live : IsLive w.rows o
  draft-live = more.names o (newest-live v u o (fresh t) good birth is)

  pub draft-rest : option_map bare (content_of w o.birth) ≡ Some (bare (fresh t))
  draft-rest =
      let born : u.born ≡ v.born + 1 = ap (λ (x : Objects). x.born) is in
      more.rest o.birth (omega (arith, birth, born)) ∙ ap (option_map bare) (newest-content v u o (fresh t) good birth is)

  pub drafted-is : (plan : List InitialValue) → own_slots_of w o.birth ≡ own_slots_of u o.birth ++ valued_slots t plan → IsDraft t plan v w o
  drafted-is plan own =
      record {
        birth = birth;
        live = draft-live;
        rest = draft-rest;
        own = own ∙ ap (λ (x : Option Content). own_slots (option_map_or (λ (d : Content). d.slots) x []) ++ valued_slots t plan)
            (newest-content v u o (fresh t) good birth is);
      }

  pub at-birth : (b : Board) → Shows b v → o.birth ≡ b.born + 1
  at-birth b s = birth ∙ sym (ap (λ (k : ℕ). k + 1) s.born)

  -- with the values that were given it is as it was created, since it has no slots yet
  pub created-shown : (b : Board) (props : List Given) → Shows b v → Shows (edit (b.born + 1) (with_values b props) (created b t)) u
  created-shown b props s =
      subst (λ (d : Board). Shows d u) (sym (created-given b props v s good t)) (subst (Shows (created b t)) (sym is) (shows-created b v s good t o birth))

  pub drafted-shown : (b : Board) (props : List Given) → MakesGiven b props o.birth (properties_made o.birth t (types.slots_of t)) u w → Shows b v
      → Shows (given_draft b t props) w
  drafted-shown b props makes s =
      subst (λ (n : ℕ). Shows (edit n (with_values b props) (created b t)) u
      → Shows (edit n (with_values b props) (properties_made n t (types.slots_of t) (created b t))) w)
      (at-birth b s) (makes (created b t)) (created-shown b props s)
