-- What is written to the board, by its heap.
use Rattle.std.proofs.Common.{◌≡◌, refl, ap, sym, subst, ◌∙◌, ℕ, zero, suc, Bool, true, false, cond, nat_lt, List, [], ◌∷◌, Option, Some, None, is_some, IfSome}
use Rattle.std.proofs.Common.{option_map}
use Rattle.std.specs.Prelude.{position, Result, Ok, Err}
use Rattle.std.specs.List.{position_or_len}
use Rattle.std.specs.Option.{option_and_then, option_map_or}
use Rattle.std.specs.Str.{bytes_eq}
use Rattle.std.proofs.lemmas.Cmp.{nat_list_eq_equiv}
use Rattle.std.proofs.lemmas.Option.{IfSome_then}
use Rattle.qo_values.specs.declared.codes.Code.{Code}
use Rattle.qo_values.specs.declared.codes.Code.TheVariants.{E17, E18, E19}
use Rattle.qo_values.specs.declared.kinds.TypeId.{TypeId}
use Rattle.qo_values.specs.declared.properties.Val.{Val}
use Rattle.qo_values.specs.declared.properties.Val.TheVariants as val
use Rattle.qo_values.specs.declared.properties.PropType.{PropType}
use Rattle.qo_values.specs.Properties.{admits}
use Rattle.qo_slots.specs.declared.keys.Key.{Key}
use Rattle.qo_heap.specs.Rows.{IsLive}
use Rattle.qo_object.specs.declared.slots.Slot.{Slot}
use Rattle.qo_object.specs.declared.slots.Slot.TheVariants.{Plain, Child, Link, Alias}
use Rattle.qo_object.specs.Content.{Content, dropped_at, empty_link_at}
use Rattle.qo_object.specs.BoardObject.{birth_of, shown_slot, shown_slots}
use Rattle.qo_object.specs.Slots.{Named, is_empty_link, let_go_at, referent, slot_in}
use Rattle.qo_object.proofs.BoardObjectLemmas.{length-shown, shown-held}
use Rattle.qo_model.specs.Board as board
use Rattle.qo_model.specs.Changes.{set}
use Rattle.qo_model.specs.Properties.{link_written, pointed_at, relinked, property_named, write, written_by}
use Rattle.qo_model.specs.Release.{after, drop_slot, finalize}
use Rattle.qo_model.specs.declared.properties.Property.{Property}
use Rattle.qo_heap.specs.Objects as heap
use Rattle.qo_heap.specs.Objects.{IsHeap, Objects, content_of, with_edit}
use Rattle.qo_heap.specs.Board.{Shows}
use Rattle.qo_heap.proofs.BoardObjects.{content-edited, live-content}
use Rattle.qo_heap.proofs.HeapLemmas.{live-edit}
use Rattle.qo_life.proofs.ReleaseLemmas.{held-live}
use Rattle.qo_heap.proofs.BoardReads.{shows-kind, shows-slot_at, shows-slots}
use Rattle.qo_properties.specs.Writes.{is_link_at, is_plain, is_plain_at, link_type, link_type_at, to_link, to_plain}

-- who is there stays there
pub some-live : (P Q : Key → Type 0) → ((key : Key) → P key → Q key) → (o : Option Key) → IfSome o P → IfSome o Q
some-live P Q more o all = IfSome_then o {P = P} {Q = Q} all more

-- the place of a name

place-shown : (name : List ℕ) (slots : List Named)
    → position_or_len (λ (s : List ℕ × board.Slot). bytes_eq s.0 name) (shown_slots slots) ≡ position_or_len (λ (t : Named). bytes_eq name t.0) slots
place-shown name [] = refl
place-shown name (t ∷ slots) = rw (nat_list_eq_equiv.symm t.0 name, place-shown name slots) refl

pub shows-place_of : (b : board.Board) (v : Objects) → Shows b v → (n : ℕ) (name : List ℕ)
    → position (λ (s : List ℕ × board.Slot). bytes_eq s.0 name) (board.slots_at b n) ≡ position (λ (t : Named). bytes_eq name t.0) (heap.slots_of v n)
shows-place_of b v s n name =
    ap (position (λ (t : List ℕ × board.Slot). bytes_eq t.0 name)) (shows-slots b v s n)
    ∙ (λ j. cond (nat_lt (place-shown name (heap.slots_of v n) j) (length-shown (heap.slots_of v n) j)) (Some (place-shown name (heap.slots_of v n) j)) None)

-- a write by the row of the property

module _ (b : board.Board) (v : Objects) (s : Shows b v) (n : ℕ) (name : List ℕ) (val : Val) where
  pub write-none : None ≡ position (λ (t : Named). bytes_eq name t.0) (heap.slots_of v n) → Err E17 ≡ write b n name val
  write-none none =
      sym (ap (λ (o : Option ℕ). elim o [ None ↦ Err E17 | Some i ↦ written_by b n i (option_and_then (λ t. property_named t name) (board.kind_of b n)) val ])
      (shows-place_of b v s n name ∙ sym none))

  by-place : (i : ℕ) (kind : TypeId) → Some i ≡ position (λ (t : Named). bytes_eq name t.0) (heap.slots_of v n)
      → option_map (λ (c : Content). c.kind) (content_of v n) ≡ Some kind → write b n name val ≡ written_by b n i (property_named kind name) val
  by-place i kind there is =
      ap (λ (o : Option ℕ). elim o [ None ↦ Err E17 | Some j ↦ written_by b n j (option_and_then (λ t. property_named t name) (board.kind_of b n)) val ])
      (shows-place_of b v s n name ∙ sym there)
      ∙ ap (λ (o : Option TypeId). written_by b n i (option_and_then (λ t. property_named t name) o) val) (shows-kind b v s n ∙ is)

  pub write-no_row : (i : ℕ) (kind : TypeId) → Some i ≡ position (λ (t : Named). bytes_eq name t.0) (heap.slots_of v n)
      → option_map (λ (c : Content). c.kind) (content_of v n) ≡ Some kind → None ≡ property_named kind name → Err E18 ≡ write b n name val
  write-no_row i kind there is none = sym (by-place i kind there is ∙ ap (λ (o : Option Property). written_by b n i o val) (sym none))

  pub write-row : (i : ℕ) (kind : TypeId) (r : Property) → Some i ≡ position (λ (t : Named). bytes_eq name t.0) (heap.slots_of v n)
      → option_map (λ (c : Content). c.kind) (content_of v n) ≡ Some kind → Some r ≡ property_named kind name
      → written_by b n i (Some r) val ≡ write b n name val
  write-row i kind r there is its = sym (by-place i kind there is ∙ ap (λ (o : Option Property). written_by b n i o val) (sym its))

-- what stands in the slot that is written

to-plain-slot : (b : board.Board) (n i : ℕ) (ty : PropType) (val : Val) (o : Option Slot)
    → to_plain b n i ty (option_map shown_slot o) val ≡ cond (option_map_or is_plain o false) (cond (admits ty val) (Ok (set n i val b)) (Err E19)) (Err E18)
to-plain-slot b n i ty val None = refl
to-plain-slot b n i ty val (Some (Plain old)) = refl
to-plain-slot b n i ty val (Some (Child key)) = refl
to-plain-slot b n i ty val (Some (Link t true target)) = refl
to-plain-slot b n i ty val (Some (Link t false target)) = refl
to-plain-slot b n i ty val (Some (Alias key of)) = refl

abbrev to_typed : board.Board → ℕ → ℕ → Val → Option TypeId → Result board.Board Code
to_typed b n i val None = Err E18
to_typed b n i val (Some t) = link_written b n i t val

to-link-slot : (b : board.Board) (n i : ℕ) (val : Val) (o : Option Slot)
    → to_link b n i (option_map shown_slot o) val ≡ to_typed b n i val (option_and_then link_type o)
to-link-slot b n i val None = refl
to-link-slot b n i val (Some (Plain old)) = refl
to-link-slot b n i val (Some (Child key)) = refl
to-link-slot b n i val (Some (Link t true target)) = refl
to-link-slot b n i val (Some (Link t false target)) = refl
to-link-slot b n i val (Some (Alias key of)) = refl

module _ (b : board.Board) (v : Objects) (s : Shows b v) (n i : ℕ) (val : Val) where
  pub plain-is : (ty : PropType) (plain : Bool) → is_plain_at v n i ≡ plain
      → to_plain b n i ty (board.slot_at b n i) val ≡ cond plain (cond (admits ty val) (Ok (set n i val b)) (Err E19)) (Err E18)
  plain-is ty plain is =
      ap (λ (o : Option board.Slot). to_plain b n i ty o val) (shows-slot_at b v s n i)
      ∙ to-plain-slot b n i ty val (slot_in (heap.slots_of v n) i)
      ∙ ap (λ (t : Bool). cond t (cond (admits ty val) (Ok (set n i val b)) (Err E19)) (Err E18)) is

  link-is : (o : Option TypeId) → link_type_at v n i ≡ o → to_link b n i (board.slot_at b n i) val ≡ to_typed b n i val o
  link-is o is =
      ap (λ (x : Option board.Slot). to_link b n i x val) (shows-slot_at b v s n i)
      ∙ to-link-slot b n i val (slot_in (heap.slots_of v n) i)
      ∙ ap (to_typed b n i val) is

  pub no-link : None ≡ link_type_at v n i → to_link b n i (board.slot_at b n i) val ≡ Err E18
  no-link none = link-is None (sym none)

  pub a-link : (t : TypeId) → Some t ≡ link_type_at v n i → to_link b n i (board.slot_at b n i) val ≡ link_written b n i t val
  a-link t some = link-is (Some t) (sym some)

-- a link takes only texts
pub no-text : (b : board.Board) (n i : ℕ) (t : TypeId) (v : Val) → ((path : List ℕ) → v ≡ val.Text path → ⊥) → link_written b n i t v ≡ Err E19
no-text b n i t (val.Bool x) none = refl
no-text b n i t (val.Int x) none = refl
no-text b n i t (val.Uint x) none = refl
no-text b n i t (val.Text path) none = absurd (none path refl)
no-text b n i t val.Nothing none = refl

pub link-there : (v : Objects) (n i : ℕ) (t : TypeId) → Some t ≡ link_type_at v n i → is_link_at v n i ≡ true
link-there v n i t e = ap (λ (o : Option TypeId). is_some o) (sym e)

-- links

link-slot : (o : Option Slot) → is_some (option_and_then link_type o) ≡ true → (s : Slot) × (o ≡ Some s)
link-slot None is = cc
link-slot (Some s) is = (s, refl)

pub relinked-is : (b : board.Board) (v : Objects) → Shows b v → (n i : ℕ) (target : Option ℕ) (was : Option Key) → is_link_at v n i ≡ true → was
    ≡ option_and_then referent (slot_in (heap.slots_of v n) i) → after finalize (pointed_at target n i (drop_slot b n i)) (birth_of was) ≡ relinked b n i target
relinked-is b v s n i target was link e =
    let (t, there) = link-slot (slot_in (heap.slots_of v n) i) link in
    let shown : board.slot_at b n i ≡ Some (shown_slot t) = shows-slot_at b v s n i ∙ ap (option_map shown_slot) there in
    let its : board.referent (shown_slot t) ≡ birth_of was = shown-held t ∙ ap birth_of (sym (e ∙ ap (option_and_then referent) there)) in
    ap (after finalize (pointed_at target n i (drop_slot b n i))) (sym its)
    ∙ sym (ap (λ (o : Option board.Slot). elim o [ None ↦ b | Some x ↦ after finalize (pointed_at target n i (drop_slot b n i)) (board.referent x) ]) shown)

-- what is held is there, also once it was let go
pub held-live_dropped : (v : Objects) → IsHeap v → (n i : ℕ) (was : Option Key) → was ≡ option_and_then referent (slot_in (heap.slots_of v n) i)
    → IfSome was (IsLive (with_edit n (dropped_at i) v).rows)
held-live_dropped v good n i was e = go (slot_in (heap.slots_of v n) i) refl e
  where
    go : (o : Option Slot) → slot_in (heap.slots_of v n) i ≡ o → was ≡ option_and_then referent o → IfSome was (IsLive (with_edit n (dropped_at i) v).rows)
    go None p q = subst (λ (x : Option Key). IfSome x (IsLive (with_edit n (dropped_at i) v).rows)) (sym q) tt
    go (Some s) p q =
        subst (λ (x : Option Key). IfSome x (IsLive (with_edit n (dropped_at i) v).rows)) (sym q)
        (IfSome_then (referent s) (held-live v good n i s p) (live-edit n (dropped_at i) v.rows))

-- a link that was let go has no target
emptied : (slots : List Named) (i : ℕ) → is_some (option_and_then link_type (slot_in slots i)) ≡ true
    → option_map_or is_empty_link (slot_in (let_go_at i slots) i) false ≡ true
emptied [] i is = cc
emptied ((name, Plain val) ∷ slots) zero is = cc
emptied ((name, Child key) ∷ slots) zero is = cc
emptied ((name, Link ty strong target) ∷ slots) zero is = refl
emptied ((name, Alias key of) ∷ slots) zero is = cc
emptied (t ∷ slots) (suc i) is = emptied slots i is

pub emptied-link : (v : Objects) (o : Key) (i : ℕ) → IsLive v.rows o → is_link_at v o.birth i ≡ true
    → option_map (λ (c : Content). empty_link_at c i) (content_of (with_edit o.birth (dropped_at i) v) o.birth) ≡ Some true
emptied-link v o i live link =
    let (c, there) = live-content v o live in
    let its : is_some (option_and_then link_type (slot_in c.slots i)) ≡ true =
    ap (λ (x : Option Content). is_some (option_and_then link_type (slot_in (option_map_or (λ (d : Content). d.slots) x []) i))) (sym there) ∙ link in
    ap (option_map (λ (d : Content). empty_link_at d i)) (content-edited v o.birth (dropped_at i) ∙ ap (option_map (dropped_at i)) there)
    ∙ ap Some (emptied c.slots i its)
