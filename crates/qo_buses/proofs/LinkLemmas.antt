-- A link that is pointed where it stands empty and its target is of its type.
use Rattle.std.proofs.Common.{◌≡◌, refl, ap, sym, subst, ◌∙◌, ℕ, zero, suc, Bool, true, false, List, [], ◌∷◌, find}
use Rattle.std.proofs.Common.{position, slice_get, option_map, Option, Some, None}
use Rattle.std.specs.Option.{option_map_or}
use Rattle.std.specs.Str.{bytes_eq}
use Rattle.std.proofs.lemmas.Option.{same_Some}
use Rattle.qo_values.specs.Kinds.{type_name}
use Rattle.qo_values.specs.declared.kinds.TypeId.{TypeId}
use Rattle.qo_values.specs.declared.properties.Val.{Val}
use Rattle.qo_slots.specs.declared.keys.Key.{Key}
use Rattle.qo_heap.specs.Rows.{IsLive}
use Rattle.qo_object.specs.declared.slots.Slot.{Slot}
use Rattle.qo_object.specs.declared.slots.Slot.TheVariants.{Link}
use Rattle.qo_object.specs.Content.{Content, empty_link_at, pointed_at, set_at}
use Rattle.qo_object.specs.BoardObject.{shown, shown_slot, shown_slots}
use Rattle.qo_object.specs.Slots.{Named, changed_at, is_empty_link, pointed, slot_in}
use Rattle.qo_model.specs.Board as board
use Rattle.qo_model.specs.Changes.{with_changed}
use Rattle.qo_model.specs.Changes as changes
use Rattle.qo_model.specs.Objects.{index_from}
use Rattle.qo_model.specs.Paths.{is_of, only_of}
use Rattle.qo_model.specs.Plug.{fitted, link_named}
use Rattle.qo_model.specs.Release as release
use Rattle.qo_model.specs.Types.{is_a}
use Rattle.qo_model.specs.Unplug.{is_named, set_named}
use Rattle.qo_heap.specs.Log.{Log, noted_all}
use Rattle.qo_heap.specs.Objects.{IsHeap, Objects, content_of, slots_of, with_edit}
use Rattle.qo_heap.specs.Board.{Shows, pins_in}
use Rattle.qo_heap.proofs.BookLemmas.{book-edit}
use Rattle.qo_heap.proofs.HeapLemmas.{edit-same, live-edit}
use Rattle.qo_values.proofs.ListLemmas.{position-find}
use Rattle.qo_heap.proofs.BoardChanges.{shows-set}
use Rattle.qo_heap.proofs.BoardEdits.{pins-edited, shows-at}
use Rattle.qo_heap.proofs.BoardObjects.{live-content}
use Rattle.qo_heap.proofs.SlotPlaces.{named-place}
use Rattle.qo_life.specs.Life.{Goes, with_log}
use Rattle.qo_life.proofs.TreeLemmas.{edit-bodies, edit-sides, goes-none, goes-same, heap-with_log, live-before_edit}
use Rattle.qo_buses.proofs.LeavingLemmas.{shows-index_from}
use Rattle.qo_buses.proofs.WayLemmas.{of-is}

-- one slot changed
changed-shown : (f : Slot → Slot) (g : board.Slot → board.Slot) (i : ℕ) (slots : List Named) (s : Slot) → slot_in slots i ≡ Some s
    → shown_slot (f s) ≡ g (shown_slot s) → shown_slots (changed_at f i slots) ≡ changes.changed_at g i (shown_slots slots)
changed-shown f g i [] s at same = refl
changed-shown f g zero (t ∷ slots) s at same =
    let is : t.1 ≡ s = same_Some t.1 s at in
    let here : shown_slot (f t.1) ≡ g (shown_slot t.1) = ap (λ (x : Slot). shown_slot (f x)) is ∙ same ∙ ap (λ (x : Slot). g (shown_slot x)) (sym is) in
    ap (λ (x : board.Slot). (t.0, x) ∷ shown_slots slots) here
changed-shown f g (suc i) (t ∷ slots) s at same = ap (λ (ss : List (List ℕ × board.Slot)). (t.0, shown_slot t.1) ∷ ss) (changed-shown f g i slots s at same)

kept-shown : (g : board.Slot → board.Slot) (i : ℕ) (slots : List Named) (s : Slot) → slot_in slots i ≡ Some s → shown_slot s ≡ g (shown_slot s)
    → shown_slots slots ≡ changes.changed_at g i (shown_slots slots)
kept-shown g i [] s at same = refl
kept-shown g zero (t ∷ slots) s at same =
    let is : t.1 ≡ s = same_Some t.1 s at in
    let here : shown_slot t.1 ≡ g (shown_slot t.1) = ap shown_slot is ∙ same ∙ ap (λ (x : Slot). g (shown_slot x)) (sym is) in
    ap (λ (x : board.Slot). (t.0, x) ∷ shown_slots slots) here
kept-shown g (suc i) (t ∷ slots) s at same = ap (λ (ss : List (List ℕ × board.Slot)). (t.0, shown_slot t.1) ∷ ss) (kept-shown g i slots s at same)

module _ (b : board.Board) (v : Objects) (s : Shows b v) (good : IsHeap v) (n : ℕ) (name : List ℕ) where
  -- no slot of the name
  pub link-unnamed : (m : ℕ) → index_from (is_named name) 0 (board.slots_at b n) ≡ None → link_named n name m b ≡ b
  link-unnamed m none = rw (link_named, none) refl

  module _ (i : ℕ) (at : index_from (is_named name) 0 (board.slots_at b n) ≡ Some i) (c : Content) (there : content_of v n ≡ Some c) where
    -- a slot that stays
    pub shows-unlinked : (m : ℕ) (what : Slot) → slot_in c.slots i ≡ Some what → fitted b m (shown_slot what) ≡ shown_slot what
        → Shows (link_named n name m b) v
    shows-unlinked m what is same =
        let its = kept-shown (fitted b m) i c.slots what is (sym same) in
        let all = shows-at n (λ (x : Content). x) (with_changed (fitted b m) i) b v s good c there
        (ap (λ (ss : List (List ℕ × board.Slot)). record (shown n c) { slots = ss }) its) (λ d. refl) in
        rw (link_named, at) (subst (Shows (release.edit n (with_changed (fitted b m) i) b)) (edit-same n v) all)

    -- a link that is pointed
    pub shows-linked : (key : Key) (what : Slot) → slot_in c.slots i ≡ Some what → shown_slot (pointed key what) ≡ fitted b key.birth (shown_slot what)
        → Shows (link_named n name key.birth b) (with_edit n (pointed_at key i) v)
    shows-linked key what is same =
        let its = changed-shown (pointed key) (fitted b key.birth) i c.slots what is same in
        rw (link_named, at)
        (shows-at n (pointed_at key i) (with_changed (fitted b key.birth) i) b v s good c there
        (ap (λ (ss : List (List ℕ × board.Slot)). record (shown n c) { slots = ss }) its) (λ d. refl))

-- what a link comes to
pub fits-strong : (b : board.Board) (t : TypeId) (strong : Bool) (key : Key) → is_of b (type_name t) key.birth ≡ true
    → shown_slot (pointed key (Link t strong None)) ≡ fitted b key.birth (shown_slot (Link t strong None))
fits-strong b t true key is = rw (fitted, only_of, is) refl
fits-strong b t false key is = rw (fitted, only_of, is) refl

pub fits-not : (b : board.Board) (t : TypeId) (strong : Bool) (m : ℕ) → is_of b (type_name t) m ≡ false
    → fitted b m (shown_slot (Link t strong None)) ≡ shown_slot (Link t strong None)
fits-not b t true m is = rw (fitted, only_of, is) refl
fits-not b t false m is = rw (fitted, only_of, is) refl

-- the type of an object, on the boards of the heap
of-fits : (b : board.Board) (v : Objects) → Shows b v → (n : ℕ) (wanted : List ℕ) (t : Bool)
    → option_map (λ (c : Content). is_a c.kind wanted) (content_of v n) ≡ Some t → is_of b wanted n ≡ t
of-fits b v s n wanted t is = go (content_of v n) refl is
  where
    go : (o : Option Content) → content_of v n ≡ o → option_map (λ (c : Content). is_a c.kind wanted) o ≡ Some t → is_of b wanted n ≡ t
    go None p q = cc
    go (Some c) p q = of-is b v s n c.kind wanted (ap (option_map (λ (d : Content). d.kind)) p) ∙ same_Some (is_a c.kind wanted) t q

-- the steps of the heap

module _ (v : Objects) (good : IsHeap v) (o : Key) (live : IsLive v.rows o) (name : List ℕ) where
  place-of : (b : board.Board) (log : Log) → Shows b (with_log log v) → (i : Option ℕ)
      → i ≡ position (λ (t : Named). bytes_eq name t.0) (slots_of v o.birth) → index_from (is_named name) 0 (board.slots_at b o.birth) ≡ i
  place-of b log s i e = shows-index_from (is_named name) b (with_log log v) s o.birth ∙ named-place name (slots_of v o.birth) ∙ sym e

  pub goes-unnamed : (m : ℕ) → None ≡ position (λ (t : Named). bytes_eq name t.0) (slots_of v o.birth) → Goes (link_named o.birth name m) v v
  goes-unnamed m e =
      goes-same (λ b. b) (link_named o.birth name m) v v (goes-none v)
      (λ b log s. link-unnamed b (with_log log v) s (heap-with_log v log good) o.birth name m (place-of b log s None e))

  module _ (i : ℕ) (at : Some i ≡ position (λ (t : Named). bytes_eq name t.0) (slots_of v o.birth)) (t : Named)
      (found : Some t ≡ find (λ (u : Named). bytes_eq name u.0) (slots_of v o.birth)) where
    its-slot : (c : Content) → content_of v o.birth ≡ Some c → slot_in c.slots i ≡ Some t.1
    its-slot c there =
        let slots : slots_of v o.birth ≡ c.slots = ap (λ (x : Option Content). option_map_or (λ (d : Content). d.slots) x []) there in
        let stands : slice_get (slots_of v o.birth) i ≡ Some t = position-find (λ (u : Named). bytes_eq name u.0) (slots_of v o.birth) i (sym at) ∙ sym found in
        ap (λ (l : List Named). slot_in l i) (sym slots) ∙ ap (option_map (λ (u : Named). u.1)) stands

    pub goes-unlinked : (m : ℕ) → ((b : board.Board) (log : Log) → Shows b (with_log log v) → fitted b m (shown_slot t.1) ≡ shown_slot t.1)
        → Goes (link_named o.birth name m) v v
    unfolding noted_all
    goes-unlinked m same =
        let (c, there) = live-content v o live in
        record {
          more = [];
          log = refl;
          shown =
              λ b log s. shows-unlinked b (with_log log v) s (heap-with_log v log good) o.birth name i (place-of b log s (Some i) at) c there m t.1
              (its-slot c there) (same b log s);
          names = λ key here. here;
          bodies = λ n d is_there. ap (option_map (λ (x : Content). x.body)) is_there;
          sides = λ n d is_there. ap (option_map (λ (x : Content). x.side)) is_there;
          book = λ out h. h;
          time = refl;
          spare = refl;
        }

    module _ (ty : TypeId) (strong : Bool) (is : t.1 ≡ Link ty strong None) where
      pub goes-misfit : (key : Key) → option_map (λ (c : Content). is_a c.kind (type_name ty)) (content_of v key.birth) ≡ Some false
          → Goes (link_named o.birth name key.birth) v v
      goes-misfit key fits =
          goes-unlinked key.birth
          (λ b log s. ap (λ (x : Slot). fitted b key.birth (shown_slot x)) is
          ∙ fits-not b ty strong key.birth (of-fits b (with_log log v) s key.birth (type_name ty) false fits) ∙ ap shown_slot (sym is))

      pub goes-linked : (key : Key) → option_map (λ (c : Content). is_a c.kind (type_name ty)) (content_of v key.birth) ≡ Some true
          → Goes (link_named o.birth name key.birth) v (with_edit o.birth (pointed_at key i) v)
      unfolding noted_all
      goes-linked key fits =
          let (c, there) = live-content v o live in
          record {
            more = [];
            log = refl;
            shown = λ b log s.
                shows-linked b (with_log log v) s (heap-with_log v log good) o.birth name i (place-of b log s (Some i) at) c there key t.1 (its-slot c there)
                (ap (λ (x : Slot). shown_slot (pointed key x)) is
                ∙ fits-strong b ty strong key (of-fits b (with_log log v) s key.birth (type_name ty) true fits)
                ∙ ap (λ (x : Slot). fitted b key.birth (shown_slot x)) (sym is));
            names = live-before_edit o.birth (pointed_at key i) v.rows;
            bodies = edit-bodies v o.birth (pointed_at key i) (λ d. refl);
            sides = edit-sides v o.birth (pointed_at key i) (λ d. refl);
            book = λ out h. book-edit out v o.birth (pointed_at key i) (λ d. refl) h;
            time = refl;
            spare = refl;
          }

      pub open-link : option_map (λ (c : Content). empty_link_at c i) (content_of v o.birth) ≡ Some true
      open-link =
          let (c, there) = live-content v o live in
          ap (option_map (λ (d : Content). empty_link_at d i)) there
          ∙ ap (λ (x : Option Slot). Some (option_map_or is_empty_link x false)) (its-slot c there ∙ ap Some is)

  -- a value that is set
  pub goes-unset : (val : Val) → None ≡ position (λ (t : Named). bytes_eq name t.0) (slots_of v o.birth) → Goes (set_named o.birth name val) v v
  goes-unset val e =
      goes-same (λ b. b) (set_named o.birth name val) v v (goes-none v)
      (λ b log s. let at : index_from (is_named name) 0 (board.slots_at b o.birth) ≡ None = place-of b log s None e in rw (set_named, at) refl)

  pub goes-set : (val : Val) (i : ℕ) → Some i ≡ position (λ (t : Named). bytes_eq name t.0) (slots_of v o.birth)
      → Goes (set_named o.birth name val) v (with_edit o.birth (set_at val i) v)
  unfolding noted_all
  goes-set val i e =
      record {
        more = [];
        log = refl;
        shown = λ b log s.
            let at : index_from (is_named name) 0 (board.slots_at b o.birth) ≡ Some i = place-of b log s (Some i) e in
            rw (set_named, at) (shows-set b (with_log log v) s o.birth i val);
        names = live-before_edit o.birth (set_at val i) v.rows;
        bodies = edit-bodies v o.birth (set_at val i) (λ d. refl);
        sides = edit-sides v o.birth (set_at val i) (λ d. refl);
        book = λ out h. book-edit out v o.birth (set_at val i) (λ d. refl) h;
        time = refl;
        spare = refl;
      }

  pub set-pins : (w : Objects) (val : Val) (i : ℕ) → w ≡ with_edit o.birth (set_at val i) v → pins_in w.rows ≡ pins_in v.rows
  set-pins w val i e = ap (λ (x : Objects). pins_in x.rows) e ∙ pins-edited o.birth (set_at val i) (λ c. refl) v.rows

  pub set-live : (w : Objects) (val : Val) (i : ℕ) → w ≡ with_edit o.birth (set_at val i) v → (other : Key) → IsLive v.rows other → IsLive w.rows other
  set-live w val i e other here = rw e (live-edit o.birth (set_at val i) v.rows other here)

  pub point-pins : (w : Objects) (key : Key) (i : ℕ) → w ≡ with_edit o.birth (pointed_at key i) v → pins_in w.rows ≡ pins_in v.rows
  point-pins w key i e = ap (λ (x : Objects). pins_in x.rows) e ∙ pins-edited o.birth (pointed_at key i) (λ c. refl) v.rows

  pub point-live : (w : Objects) (key : Key) (i : ℕ) → w ≡ with_edit o.birth (pointed_at key i) v → (other : Key) → IsLive v.rows other → IsLive w.rows other
  point-live w key i e other here = rw e (live-edit o.birth (pointed_at key i) v.rows other here)
