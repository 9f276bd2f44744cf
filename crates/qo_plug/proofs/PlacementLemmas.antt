-- A device takes its place on the heap: joining and what of it is taken back, and all of it on the boards.
use Rattle.std.proofs.Common.{◌≡◌, refl, ap, sym, subst, ◌∙◌, ℕ, Bool, true, false, cond, eqb, List, [], ◌∷◌, ◌++◌, length, remove, append_assoc, Option, Some, None, IfSome, IfNone, option_map}
use Rattle.std.specs.Prelude.{option_and_then}
use Rattle.std.specs.Option.{option_map_or}
use Rattle.std.proofs.lemmas.Option.{same_Some}
use Rattle.qo_values.specs.declared.kinds.TypeId.{TypeId}
use Rattle.qo_values.specs.declared.ranges.Range.{Range}
use Rattle.qo_values.specs.declared.kinds.TypeId.TheVariants.{Device}
use Rattle.qo_slots.specs.declared.keys.Key.{Key}
use Rattle.qo_claims.specs.declared.claims.Claimed.{Claimed}
use Rattle.qo_heap.specs.Rows.{IsLive, edit, object_at}
use Rattle.qo_kinds.specs.Bodies.{IsBare, registers_of}
use Rattle.qo_kinds.specs.declared.bodies.Body.{Body}
use Rattle.qo_kinds.specs.declared.kept_set.KeptSet.{KeptSet}
use Rattle.qo_model.specs.Board as board
use Rattle.qo_model.specs.Changes.{add}
use Rattle.qo_model.specs.Devices.{clock_of, kid_name}
use Rattle.qo_model.specs.Paths.{canonical}
use Rattle.qo_model.specs.Plug.{Resources, Wanted, joined, name_for, source_for, stood, with_source}
use Rattle.qo_object.specs.declared.slots.Slot.{Slot}
use Rattle.qo_object.specs.declared.slots.Slot.TheVariants.{Child, Link}
use Rattle.qo_object.specs.Content.{Content, HasNoClaim, cut_at, dropped_at, empty_link_at, with_slot}
use Rattle.qo_object.specs.Slots.{Named, is_empty_link, let_go_at, slot_in}
use Rattle.qo_heap.specs.Board.{Shows}
use Rattle.qo_heap.specs.Book.{IsBook}
use Rattle.qo_heap.specs.Objects.{IsHeap, Objects, content_of, slots_of, with_edit}
use Rattle.qo_heap.proofs.BookLemmas.{book-edit}
use Rattle.qo_heap.proofs.HeapLemmas.{live-edit}
use Rattle.qo_heap.proofs.HeapLemmas.{edit-same as heap-same}
use Rattle.qo_heap.proofs.BoardChanges.{shows-added}
use Rattle.qo_heap.proofs.BoardObjects.{content-edited, content-other, live-content}
use Rattle.qo_life.proofs.TreeLemmas.{read-content}
use Rattle.qo_properties.proofs.FillingLemmas.{edit-twice}
use Rattle.qo_plug.specs.OwnSlots.{is_own, own_slots, own_slots_of}
use Rattle.qo_plug.specs.Placement.{Alike, IsAttachment, Stood, joined_on, kept_in, named, with_book, own_of}
use Rattle.qo_properties.specs.KeptClaims.{SameKept, all_kept}
use Rattle.qo_plug.proofs.BodyLemmas.{SameOwn, kept-given, of-bodies}
use Rattle.qo_plug.proofs.PlacementBoards.{kinds-stood, seated-path, source-missing}
use Rattle.qo_plug.proofs.PlacementFills.{edit-on}
use Rattle.qo_plug.proofs.PlacementSteps.{alike-edit, alike-kept, alike-then, shows-book, shows-kept}

-- the last slot

last-link : (name : List ℕ) (t : TypeId) (strong : Bool) (to : Option Key) (slots : List Named)
    → let_go_at (length slots) (slots ++ (name, Link t strong to) ∷ []) ≡ slots ++ (name, Link t strong None) ∷ []
last-link name t strong to [] = refl
last-link name t strong to (s ∷ slots) = ap (λ (ss : List Named). s ∷ ss) (last-link name t strong to slots)

last-child : (name : List ℕ) (key : Key) (slots : List Named) → let_go_at (length slots) (slots ++ (name, Child key) ∷ []) ≡ slots
last-child name key [] = refl
last-child name key (s ∷ slots) = ap (λ (ss : List Named). s ∷ ss) (last-child name key slots)

last-slot : (s : Named) (slots : List Named) → slot_in (slots ++ s ∷ []) (length slots) ≡ Some s.1
last-slot s [] = refl
last-slot s (t ∷ slots) = last-slot s slots

last-cut : (s : Named) (slots : List Named) → remove (slots ++ s ∷ []) (length slots) ≡ slots
last-cut s [] = refl
last-cut s (t ∷ slots) = ap (λ (ss : List Named). t ∷ ss) (last-cut s slots)

-- who is there, over edits
pub edited-live : (v w : Objects) (n : ℕ) (f : Content → Content) → w ≡ with_edit n f v → (key : Key) → IsLive v.rows key → IsLive w.rows key
edited-live v w n f is key live = subst (λ (x : Objects). IsLive x.rows key) (sym is) (live-edit n f v.rows key live)

twice : (n : ℕ) (f g : Content → Content) (v : Objects) → with_edit n f (with_edit n g v) ≡ with_edit n (λ (c : Content). f (g c)) v
twice n f g v = edit-twice n f g (λ (c : Content). f (g c)) (λ c. refl) v

module _ (v : Objects) (good : IsHeap v) (o : Key) (live : IsLive v.rows o) (name : List ℕ) (at : ℕ) (end : at ≡ length (slots_of v o.birth)) where
  abbrev own : Content
  own = (live-content v o live).0

  there : content_of v o.birth ≡ Some own
  there = (live-content v o live).1

  at-end : at ≡ length own.slots
  at-end = end ∙ ap (λ (x : Option Content). length (option_map_or (λ (d : Content). d.slots) x [])) there

  -- a link that was added last is emptied, and cut
  module _ (to : Key) (u w : Objects) (first : u ≡ with_edit o.birth (with_slot name (Link Device true (Some to))) v)
      (second : w ≡ with_edit o.birth (dropped_at at) u) where
    emptied : w ≡ with_edit o.birth (λ (c : Content). dropped_at at (with_slot name (Link Device true (Some to)) c)) v
    emptied = second ∙ ap (with_edit o.birth (dropped_at at)) first ∙ twice o.birth (dropped_at at) (with_slot name (Link Device true (Some to))) v

    dropped : dropped_at at (with_slot name (Link Device true (Some to)) own) ≡ with_slot name (Link Device true None) own
    dropped =
        ap (λ (k : ℕ). dropped_at k (with_slot name (Link Device true (Some to)) own)) at-end
        ∙ ap (λ (ss : List Named). record own { slots = ss }) (last-link name Device true (Some to) own.slots)

    pub empty-link : option_map (λ (c : Content). empty_link_at c at) (content_of w o.birth) ≡ Some true
    empty-link =
        ap (λ (x : Objects). option_map (λ (c : Content). empty_link_at c at) (content_of x o.birth)) emptied
        ∙ ap (option_map (λ (c : Content). empty_link_at c at))
        (content-edited v o.birth (λ (c : Content). dropped_at at (with_slot name (Link Device true (Some to)) c))
        ∙ ap (option_map (λ (c : Content). dropped_at at (with_slot name (Link Device true (Some to)) c))) there)
        ∙ ap (λ (c : Content). Some (empty_link_at c at)) dropped
        ∙ ap (λ (k : ℕ). Some (option_map_or is_empty_link (slot_in (own.slots ++ (name, Link Device true None) ∷ []) k) false)) at-end
        ∙ ap (λ (x : Option Slot). Some (option_map_or is_empty_link x false)) (last-slot (name, Link Device true None) own.slots)

    pub link-undone : (x : Objects) → x ≡ with_edit o.birth (cut_at at) w → x ≡ v
    link-undone x third =
        third
        ∙ ap (with_edit o.birth (cut_at at)) emptied
        ∙ twice o.birth (cut_at at) (λ (c : Content). dropped_at at (with_slot name (Link Device true (Some to)) c)) v
        ∙ edit-on v good o.birth (λ (c : Content). cut_at at (dropped_at at (with_slot name (Link Device true (Some to)) c))) (λ (c : Content). c) own there
        (ap (cut_at at) dropped
        ∙ ap (λ (k : ℕ). cut_at k (with_slot name (Link Device true None) own)) at-end
        ∙ ap (λ (ss : List Named). record own { slots = ss }) (last-cut (name, Link Device true None) own.slots))
        ∙ heap-same o.birth v

  -- a child slot that was added last is let go
  pub child-undone : (to : Key) (u w : Objects) → u ≡ with_edit o.birth (with_slot name (Child to)) v → w ≡ with_edit o.birth (dropped_at at) u → w ≡ v
  child-undone to u w first second =
      second
      ∙ ap (with_edit o.birth (dropped_at at)) first
      ∙ twice o.birth (dropped_at at) (with_slot name (Child to)) v
      ∙ edit-on v good o.birth (λ (c : Content). dropped_at at (with_slot name (Child to) c)) (λ (c : Content). c) own there
      (ap (λ (k : ℕ). dropped_at k (with_slot name (Child to) own)) at-end
      ∙ ap (λ (ss : List Named). record own { slots = ss }) (last-child name to own.slots))
      ∙ heap-same o.birth v

-- a place for an event is kept free
pub reserved-shows : (b : board.Board) (v w : Objects) (e : ℕ) → w ≡ record v { events = record v.events { spare = e } } → Shows b v → Shows b w
reserved-shows b v w e is s =
    subst (Shows b) (sym is) (record { records = s.records; born = s.born; pins = s.pins; notes = s.notes; events = s.events; now = s.now })

pub reserved-book : (out : List Claimed) (v w : Objects) (e : ℕ) → w ≡ record v { events = record v.events { spare = e } } → IsBook out v → IsBook out w
reserved-book out v w e is h = subst (IsBook out) (sym is) (λ x. h x)

-- what bodies keep, where the claims that were taken are given back
pub returned-kept : (v u w x : Objects) (e : ℕ) → u ≡ record v { events = record v.events { spare = e } } → w ≡ with_book w.claims u → x ≡ with_book x.claims w
    → SameKept v x
returned-kept v u w x e first second third n = ap (λ (y : Objects). all_kept y n) third ∙ ap (λ (y : Objects). all_kept y n) second
    ∙ ap (λ (y : Objects). all_kept y n) first

-- the objects once the device has joined
pub rows-joined : (h0 h1 h2 h3 : Objects) (e : ℕ) (container bus o : Key) (name : List ℕ) (slot : ℕ)
    → h1 ≡ record h0 { events = record h0.events { spare = e } } → h2 ≡ with_book h2.claims h1
    → h3 ≡ joined_on container name bus slot o h2 → h3.rows ≡ (joined_on container name bus slot o h0).rows
rows-joined h0 h1 h2 h3 e container bus o name slot first second third =
    ap (λ (x : Objects). x.rows) third
    ∙ ap (λ (rows : List (Key × Content)).
    edit bus.birth (with_slot (kid_name slot) (Link Device true (Some o))) (edit container.birth (with_slot name (Child o)) rows))
    (ap (λ (x : Objects). x.rows) second ∙ ap (λ (x : Objects). x.rows) first)

own-child : (name : List ℕ) (key : Key) (slots : List Named) → own_slots (slots ++ (name, Child key) ∷ []) ≡ own_slots slots
own-child name key [] = refl
own-child name key (s ∷ slots) = go (is_own s.1) (own-child name key slots)
  where
    go : (t : Bool) → own_slots (slots ++ (name, Child key) ∷ []) ≡ own_slots slots
        → cond t (s ∷ own_slots (slots ++ (name, Child key) ∷ [])) (own_slots (slots ++ (name, Child key) ∷ []))
        ≡ cond t (s ∷ own_slots slots) (own_slots slots)
    go true rest = ap (λ (ss : List Named). s ∷ ss) rest
    go false rest = rest

own-read : (o : Option Content)
    → own_slots (option_map_or (λ (c : Content). c.slots) o []) ≡ option_map_or (λ (l : List Named). l) (option_map (λ (c : Content). own_slots c.slots) o) []
own-read None = refl
own-read (Some c) = refl

own-same : (x y : Option Content) → option_map (λ (c : Content). own_slots c.slots) x ≡ option_map (λ (c : Content). own_slots c.slots) y
    → own_slots (option_map_or (λ (c : Content). c.slots) x []) ≡ own_slots (option_map_or (λ (c : Content). c.slots) y [])
own-same x y same = own-read x ∙ ap (λ (l : Option (List Named)). option_map_or (λ (k : List Named). k) l []) same ∙ sym (own-read y)

module _ (v w : Objects) (container bus o : Key) (name : List ℕ) (slot : ℕ) (rows : w.rows ≡ (joined_on container name bus slot o v).rows) where
  abbrev mid : Objects
  mid = with_edit container.birth (with_slot name (Child o)) v

  read-joined : {A : Type 0} (g : Content → A) → ((x : List ℕ) (s : Slot) (c : Content) → g (with_slot x s c) ≡ g c) → (n : ℕ)
      → option_map g (content_of w n) ≡ option_map g (content_of v n)
  read-joined g same n =
      ap (λ (l : List (Key × Content)). option_map g (object_at l n)) rows
      ∙ read-content g bus.birth (with_slot (kid_name slot) (Link Device true (Some o))) (same (kid_name slot) (Link Device true (Some o))) mid n
      ∙ read-content g container.birth (with_slot name (Child o)) (same name (Child o)) v n

  pub joined-alike : Alike v w
  joined-alike =
      alike-then v mid w (alike-edit v mid container.birth (with_slot name (Child o)) (λ c. refl) (λ c. refl) refl)
      (alike-edit mid w bus.birth (with_slot (kid_name slot) (Link Device true (Some o))) (λ c. refl) (λ c. refl) rows)

  pub joined-ids : (n : ℕ) → option_map (λ (c : Content). c.device_id) (content_of w n) ≡ option_map (λ (c : Content). c.device_id) (content_of v n)
  joined-ids = read-joined (λ (c : Content). c.device_id) (λ x s c. refl)

  pub joined-registers : (n : ℕ)
      → option_map (λ (c : Content). registers_of c.body) (content_of w n) ≡ option_map (λ (c : Content). registers_of c.body) (content_of v n)
  joined-registers = read-joined (λ (c : Content). registers_of c.body) (λ x s c. refl)

  pub joined-own_parts : SameOwn v w
  joined-own_parts = read-joined own_of (λ x s c. refl)

  pub joined-bare : (n : ℕ) → IfSome (content_of v n) HasNoClaim → IfSome (content_of w n) (λ c. IsBare c.body)
  joined-bare n new = go (content_of v n) (content_of w n) (of-bodies (λ (b : Body). b) (content_of v n) (content_of w n) (joined-own_parts n)) new
    where
      go : (x y : Option Content) → option_map (λ (c : Content). c.body) y ≡ option_map (λ (c : Content). c.body) x → IfSome x HasNoClaim
          → IfSome y (λ c. IsBare c.body)
      go x None same h = tt
      go None (Some d) same h = cc
      go (Some c) (Some d) same h = subst (λ (b : Body). IsBare b) (sym (same_Some d.body c.body same)) h.0

  pub joined-own : eqb o.birth bus.birth ≡ false → own_slots_of w o.birth ≡ own_slots_of v o.birth
  joined-own apart =
      own-same (content_of w o.birth) (content_of v o.birth)
      (ap (λ (l : List (Key × Content)). option_map (λ (c : Content). own_slots c.slots) (object_at l o.birth)) rows
      ∙ ap (option_map (λ (c : Content). own_slots c.slots)) (content-other mid bus.birth o.birth (with_slot (kid_name slot) (Link Device true (Some o))) apart)
      ∙ read-content (λ (c : Content). own_slots c.slots) container.birth (with_slot name (Child o)) (λ c. own-child name o c.slots) v o.birth)

pub kept-own : (v w : Objects) (n m : ℕ) (k : KeptSet) → w.rows ≡ edit n (kept_in k) v.rows → own_slots_of w m ≡ own_slots_of v m
kept-own v w n m k rows =
    own-same (content_of w m) (content_of v m)
    (ap (λ (l : List (Key × Content)). option_map (λ (c : Content). own_slots c.slots) (object_at l m)) rows
    ∙ read-content (λ (c : Content). own_slots c.slots) n (kept_in k) (λ c. refl) v m)

pub kept-ids : (v w : Objects) (n m : ℕ) (k : KeptSet) → w.rows ≡ edit n (kept_in k) v.rows
    → option_map (λ (c : Content). c.device_id) (content_of w m) ≡ option_map (λ (c : Content). c.device_id) (content_of v m)
kept-ids v w n m k rows =
    ap (λ (l : List (Key × Content)). option_map (λ (c : Content). c.device_id) (object_at l m)) rows
    ∙ read-content (λ (c : Content). c.device_id) n (kept_in k) (λ c. refl) v m

pub still-unnamed : (x y : Option Content) → option_map (λ (c : Content). c.device_id) y ≡ option_map (λ (c : Content). c.device_id) x → IfSome x HasNoClaim
    → option_and_then (λ (c : Content). c.device_id) y ≡ None
still-unnamed x None same h = refl
still-unnamed None (Some d) same h = cc
still-unnamed (Some c) (Some d) same h = same_Some d.device_id c.device_id same ∙ h.1

pub joined-book : (out : List Claimed) (v w : Objects) (container bus o : Key) (name : List ℕ) (slot : ℕ) → w ≡ joined_on container name bus slot o v
    → IsBook out v → IsBook out w
joined-book out v w container bus o name slot is h =
    subst (IsBook out) (sym is)
    (book-edit out (with_edit container.birth (with_slot name (Child o)) v) bus.birth (with_slot (kid_name slot) (Link Device true (Some o))) (λ c. refl)
    (book-edit out v container.birth (with_slot name (Child o)) (λ c. refl) h))

pub joined-shown : (b c : board.Board) (a : Wanted) (v w : Objects) (container bus o : Key) (name : List ℕ) (slot : ℕ) (range : Option Range)
    (id : Option (List ℕ))
    → w ≡ joined_on container name bus slot o v → Shows c v → IsAttachment b a container.birth name id
    → Shows (joined b o.birth a (record { bus = bus.birth; slot = slot; range = range }) c) w
joined-shown b c a v w container bus o name slot range id is s attachment =
    let child : Shows (add container.birth name (board.child o.birth) c) (with_edit container.birth (with_slot name (Child o)) v) =
    shows-added c v s container.birth name (Child o) in
    let link : Shows (add bus.birth (kid_name slot) (board.strong Device (Some o.birth)) (add container.birth name (board.child o.birth) c)) w =
    subst (Shows (add bus.birth (kid_name slot) (board.strong Device (Some o.birth)) (add container.birth name (board.child o.birth) c))) (sym is)
    (shows-added (add container.birth name (board.child o.birth) c) (with_edit container.birth (with_slot name (Child o)) v) child bus.birth (kid_name slot)
    (Link Device true (Some o))) in
    subst (λ (n : ℕ). Shows (add bus.birth (kid_name slot) (board.strong Device (Some o.birth)) (add n (name_for b a.id) (board.child o.birth) c)) w)
    (sym attachment.parent_is)
    (subst (λ (l : List ℕ). Shows (add bus.birth (kid_name slot) (board.strong Device (Some o.birth)) (add container.birth l (board.child o.birth) c)) w)
    (sym attachment.name_is) link)

pub named-alike : (v w : Objects) (n : ℕ) (id : Option (List ℕ)) → w ≡ with_edit n (named id) v → Alike v w
named-alike v w n id is = alike-edit v w n (named id) (λ c. refl) (λ c. refl) (ap (λ (x : Objects). x.rows) is)

pub source-shown : (d : board.Board) (v w : Objects) (n its source : ℕ) (r : Option Key) → IfSome r (λ o. o.birth ≡ source)
    → IfNone r (board.kind_of d source ≡ None)
    → IfSome r (λ o. Shows (with_source o.birth (clock_of d n) d) w) → IfNone r (w ≡ v) → its ≡ source → Shows d v → Shows (with_source its (clock_of d n) d) w
source-shown d v w n its source None some none shown same is s =
    subst (λ (m : ℕ). Shows (with_source m (clock_of d n) d) w) (sym is)
    (subst (λ (e : board.Board). Shows e w) (sym (source-missing source (clock_of d n) d none)) (subst (Shows d) (sym same) s))
source-shown d v w n its source (Some o) some none shown same is s =
    subst (λ (m : ℕ). Shows (with_source m (clock_of d n) d) w) (some ∙ sym is) shown

-- all of it
pub stands : (b c : board.Board) (a : Wanted) (o : Key) (resources : Resources) (path : List ℕ) (v w : Objects) (r : Option Key)
    → canonical (joined b o.birth a resources c) o.birth ≡ Some path
    → Shows (stood b o.birth a resources c) v
    → IfSome r (λ x. x.birth ≡ source_for c resources.bus) → IfNone r (board.kind_of c (source_for c resources.bus) ≡ None)
    → ((d : board.Board) → Shows d v → IfSome r (λ x. Shows (with_source x.birth (clock_of d o.birth) d) w)) → IfNone r (w ≡ v)
    → source_for b resources.bus ≡ source_for c resources.bus → Stood b c o.birth a resources path w
stands b c a o resources path v w r way s some none shown same is =
    let d : board.Board = stood b o.birth a resources c in
    record {
      shown = source-shown d v w o.birth (source_for b resources.bus) (source_for c resources.bus) r some (missing r none) (shown d s) same is s;
      path_is = seated-path b o.birth a resources c path way;
    }
  where
    missing : (r : Option Key) → IfNone r (board.kind_of c (source_for c resources.bus) ≡ None)
        → IfNone r (board.kind_of (stood b o.birth a resources c) (source_for c resources.bus) ≡ None)
    missing None e = kinds-stood b o.birth a resources c (source_for c resources.bus) ∙ e
    missing (Some x) e = tt

-- the steps up to the claims that the body keeps
module _ (h0 h1 h2 h3 h4 : Objects) (e : ℕ) (o container bus : Key) (name : List ℕ) (slot : ℕ) (k : KeptSet)
    (first : h1 ≡ record h0 { events = record h0.events { spare = e } }) (second : h2 ≡ with_book h2.claims h1)
    (third : h3 ≡ joined_on container name bus slot o h2) (fourth : h4 ≡ with_edit o.birth (kept_in k) h3) where
  joined-rows : h3.rows ≡ (joined_on container name bus slot o h0).rows
  joined-rows = rows-joined h0 h1 h2 h3 e container bus o name slot first second third

  pub placed-alike : Alike h0 h4
  placed-alike = alike-then h0 h3 h4 (joined-alike h0 h3 container bus o name slot joined-rows) (alike-kept h3 h4 o.birth k fourth)

  pub placed-ids : (n : ℕ) → option_map (λ (c : Content). c.device_id) (content_of h4 n) ≡ option_map (λ (c : Content). c.device_id) (content_of h0 n)
  placed-ids n = kept-ids h3 h4 o.birth n k (ap (λ (x : Objects). x.rows) fourth) ∙ joined-ids h0 h3 container bus o name slot joined-rows n

  pub placed-own : eqb o.birth bus.birth ≡ false → own_slots_of h4 o.birth ≡ own_slots_of h0 o.birth
  placed-own apart = kept-own h3 h4 o.birth o.birth k (ap (λ (x : Objects). x.rows) fourth) ∙ joined-own h0 h3 container bus o name slot joined-rows apart

  pub placed-registers : (n : ℕ)
      → option_map (λ (c : Content). registers_of c.body) (content_of h4 n) ≡ option_map (λ (c : Content). registers_of c.body) (content_of h0 n)
  placed-registers n =
      ap (λ (l : List (Key × Content)). option_map (λ (c : Content). registers_of c.body) (object_at l n)) (ap (λ (x : Objects). x.rows) fourth)
      ∙ read-content (λ (c : Content). registers_of c.body) o.birth (kept_in k) (λ c. refl) h3 n
      ∙ joined-registers h0 h3 container bus o name slot joined-rows n

  pub placed-claims : SameKept (with_edit o.birth (kept_in k) h0) h4
  placed-claims n = ap (λ (x : Objects). all_kept x n) fourth ∙ kept-given h0 h3 o.birth k (joined-own_parts h0 h3 container bus o name slot joined-rows) n

  pub placed-book : (kept labels out : List Claimed) → ((out : List Claimed) → IsBook (kept ++ out) h3 → IsBook out h4)
      → IsBook ((kept ++ labels) ++ out) h2 → IsBook (labels ++ out) h4
  placed-book kept labels out put h =
      put (labels ++ out)
      (subst (λ (l : List Claimed). IsBook l h3) (append_assoc kept labels out) (joined-book ((kept ++ labels) ++ out) h2 h3 container bus o name
      slot third h))

  module _ (b c : board.Board) (a : Wanted) (id : Option (List ℕ)) (range : Option Range) (s : Shows c h0)
      (attachment : IsAttachment b a container.birth name id) where
    abbrev its_resources : Resources
    its_resources = record { bus = bus.birth; slot = slot; range = range }

    pub placed-shown : Shows (joined b o.birth a its_resources c) h3
    placed-shown =
        joined-shown b c a h2 h3 container bus o name slot range id third (shows-book c h1 h2 h2.claims second (reserved-shows c h0 h1 e first s)) attachment

    pub placed-kept : Shows (joined b o.birth a its_resources c) h4
    placed-kept = shows-kept (joined b o.birth a its_resources c) h3 h4 o.birth k fourth placed-shown

  pub reserved-live : (key : Key) → IsLive h1.rows key → IsLive h0.rows key
  reserved-live key live = subst (λ (x : Objects). IsLive x.rows key) first live
