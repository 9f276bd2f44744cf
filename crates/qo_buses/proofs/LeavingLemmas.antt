-- A device leaves its bus: the steps of the heap are those of the boards.
use Rattle.std.proofs.Common.{◌≡◌, refl, ap, sym, subst, ◌∙◌, ℕ, zero, suc, Bool, true, false, codes, List, [], ◌∷◌}
use Rattle.std.proofs.Common.{position, Option, Some, None, option_map, IfSome}
use Rattle.std.specs.Option.{option_and_then, option_map_or}
use Rattle.qo_slots.specs.declared.keys.Key.{Key}
use Rattle.qo_heap.specs.Rows.{IsLive}
use Rattle.qo_object.specs.declared.slots.Slot.{Slot}
use Rattle.qo_object.specs.declared.slots.Slot.TheVariants.{Plain, Child, Link, Alias}
use Rattle.qo_object.specs.Content.{Content, cut_at, dropped_at, empty_link_at, named_at}
use Rattle.qo_object.specs.BoardObject.{birth_of, shown_slot, shown_slots}
use Rattle.qo_object.specs.Slots.{Named, is_empty_link, is_strong, let_go_at, named_in, names_child, referent, slot_in, target_of}
use Rattle.qo_object.proofs.BoardObjectLemmas.{shown-held}
use Rattle.qo_model.specs.Board.{Board}
use Rattle.qo_model.specs.Board as board
use Rattle.qo_model.specs.Changes.{cut}
use Rattle.qo_model.specs.Devices.{bus_of}
use Rattle.qo_model.specs.Objects.{index_from}
use Rattle.qo_model.specs.Paths.{is_child}
use Rattle.qo_model.specs.Release.{after, drop_slot, finalize, let_go}
use Rattle.qo_model.specs.Unplug.{is_child_slot, is_named, left_bus, let_go_where, names_kid, take_slot, take_where}
use Rattle.qo_heap.specs.Log.{noted_all}
use Rattle.qo_heap.specs.Objects.{IsHeap, Objects, content_of, slots_of, with_edit}
use Rattle.qo_heap.specs.Board.{Shows}
use Rattle.qo_heap.proofs.BookLemmas.{book-edit}
use Rattle.qo_heap.proofs.BoardChanges.{shows-cut}
use Rattle.qo_heap.proofs.BoardObjects.{content-edited, live-content, named-live}
use Rattle.qo_heap.proofs.BoardReads.{shows-slot_at, shows-slots}
use Rattle.qo_heap.proofs.SlotPlaces.{found-place}
use Rattle.qo_life.specs.Life.{Goes, with_log}
use Rattle.qo_life.proofs.TreeLemmas.{edit-bodies, edit-sides, goes-drop, goes-none, goes-same, goes-then, live-before_edit, shows-notes}

-- a slot cut
pub goes-cut : (v : Objects) (n i : ℕ) → Goes (λ b. cut n i b) v (with_edit n (cut_at i) v)
unfolding noted_all
goes-cut v n i =
    record {
      more = [];
      log = refl;
      shown = λ b log s. shows-cut b (with_log log v) s n i;
      names = live-before_edit n (cut_at i) v.rows;
      bodies = edit-bodies v n (cut_at i) (λ c. refl);
      sides = edit-sides v n (cut_at i) (λ c. refl);
      book = λ out h. book-edit out v n (cut_at i) (λ c. refl) h;
      time = refl;
      spare = refl;
    }

-- a strong link taken away

-- what it held is what it named
strong-held : (o : Option Slot) → option_map is_strong o ≡ Some true → option_and_then target_of o ≡ option_and_then referent o
strong-held None is = refl
strong-held (Some (Plain val)) is = refl
strong-held (Some (Child key)) is = refl
strong-held (Some (Link ty true target)) is = refl
strong-held (Some (Link ty false target)) is = cc
strong-held (Some (Alias key name)) is = refl

named-slots : (o : Option Content) (i : ℕ) → option_and_then (λ (c : Content). named_at c i) o ≡ named_in (option_map_or (λ (c : Content). c.slots) o []) i
named-slots None zero = refl
named-slots None (suc i) = refl
named-slots (Some c) i = refl

pub link-held : (v : Objects) (n i : ℕ) (was : Option Key) → was ≡ option_and_then (λ (c : Content). named_at c i) (content_of v n)
    → option_map is_strong (slot_in (slots_of v n) i) ≡ Some true → was ≡ option_and_then referent (slot_in (slots_of v n) i)
link-held v n i was e is = e ∙ named-slots (content_of v n) i ∙ strong-held (slot_in (slots_of v n) i) is

-- and it is there
pub link-live : (v : Objects) → IsHeap v → (o : Key) → IsLive v.rows o → (i : ℕ) (was : Option Key)
    → was ≡ option_and_then (λ (c : Content). named_at c i) (content_of v o.birth) → IfSome was (IsLive v.rows)
link-live v good o live i None e = tt
link-live v good o live i (Some key) e =
    let (c, there) = live-content v o live in
    let named : named_at c i ≡ Some key = sym (e ∙ ap (option_and_then (λ (d : Content). named_at d i)) there) in
    named-live v good o.birth i c there key named

-- it has no target once it was let go
emptied : (slots : List Named) (i : ℕ) → option_map is_strong (slot_in slots i) ≡ Some true
    → option_map_or is_empty_link (slot_in (let_go_at i slots) i) false ≡ true
emptied [] zero is = cc
emptied [] (suc i) is = cc
emptied ((name, Plain val) ∷ slots) zero is = cc
emptied ((name, Child key) ∷ slots) zero is = cc
emptied ((name, Link ty strong target) ∷ slots) zero is = refl
emptied ((name, Alias key of) ∷ slots) zero is = cc
emptied (t ∷ slots) (suc i) is = emptied slots i is

pub link-emptied : (v : Objects) (o : Key) (i : ℕ) → IsLive v.rows o → option_map is_strong (slot_in (slots_of v o.birth) i) ≡ Some true
    → option_map (λ (c : Content). empty_link_at c i) (content_of (with_edit o.birth (dropped_at i) v) o.birth) ≡ Some true
link-emptied v o i live is =
    let (c, there) = live-content v o live in
    let its : option_map is_strong (slot_in c.slots i) ≡ Some true =
    ap (λ (x : Option Content). option_map is_strong (slot_in (option_map_or (λ (d : Content). d.slots) x []) i)) (sym there) ∙ is in
    ap (option_map (λ (d : Content). empty_link_at d i)) (content-edited v o.birth (dropped_at i) ∙ ap (option_map (dropped_at i)) there)
    ∙ ap Some (emptied c.slots i its)

taken-is : (b : Board) (n i : ℕ) (s : Slot) → board.slot_at b n i ≡ Some (shown_slot s)
    → take_slot b n i ≡ after finalize (cut n i (drop_slot b n i)) (birth_of (referent s))
taken-is b n i s e = rw (take_slot, e) (ap (after finalize (cut n i (drop_slot b n i))) (shown-held s))

pub goes-taken : (v u x w : Objects) (n i : ℕ) (was : Option Key) → option_map is_strong (slot_in (slots_of v n) i) ≡ Some true
    → was ≡ option_and_then referent (slot_in (slots_of v n) i) → u ≡ with_edit n (dropped_at i) v → x ≡ with_edit n (cut_at i) u
    → Goes (λ b. after finalize b (birth_of was)) x w → Goes (λ b. take_slot b n i) v w
goes-taken v u x w n i was strong e dropped cuts following = go (slot_in (slots_of v n) i) refl strong e
  where
    first : Goes (λ b. drop_slot b n i) v u
    first = subst (λ (y : Objects). Goes (λ b. drop_slot b n i) v y) (sym dropped) (goes-drop v n i)

    second : Goes (λ b. cut n i b) u x
    second = subst (λ (y : Objects). Goes (λ b. cut n i b) u y) (sym cuts) (goes-cut u n i)

    all : Goes (λ b. after finalize (cut n i (drop_slot b n i)) (birth_of was)) v w
    all =
        goes-then (λ b. cut n i (drop_slot b n i)) (λ b. after finalize b (birth_of was)) v x w
        (goes-then (λ b. drop_slot b n i) (λ b. cut n i b) v u x first second) following

    go : (o : Option Slot) → slot_in (slots_of v n) i ≡ o → option_map is_strong o ≡ Some true → was ≡ option_and_then referent o
        → Goes (λ b. take_slot b n i) v w
    go None p is q = cc
    go (Some s) p is q =
        goes-same (λ b. after finalize (cut n i (drop_slot b n i)) (birth_of was)) (λ b. take_slot b n i) v w all
        (λ b log t. taken-is b n i s (shows-slot_at b (with_log log v) t n i ∙ ap (option_map shown_slot) p)
        ∙ ap (λ (k : Option Key). after finalize (cut n i (drop_slot b n i)) (birth_of k)) (sym q))

-- what is taken or let go by the place of a slot

module _ (p : List ℕ × board.Slot → Bool) where
  -- on the boards of the heap
  pub shows-index_from : (b : Board) (v : Objects) → Shows b v → (n : ℕ) → index_from p 0 (board.slots_at b n) ≡ index_from p 0 (shown_slots (slots_of v n))
  shows-index_from b v s n = ap (index_from p 0) (shows-slots b v s n)

  -- what is there is taken; where there is none, nothing is
  pub goes-take_where : (v w : Objects) (n i : ℕ) → index_from p 0 (shown_slots (slots_of v n)) ≡ Some i → Goes (λ b. take_slot b n i) v w
      → Goes (take_where p n) v w
  goes-take_where v w n i is following =
      goes-same (λ b. take_slot b n i) (take_where p n) v w following
      (λ b log s. let at : index_from p 0 (board.slots_at b n) ≡ Some i = shows-index_from b (with_log log v) s n ∙ is in rw (take_where, at) refl)

  pub goes-take_none : (v : Objects) (n : ℕ) → index_from p 0 (shown_slots (slots_of v n)) ≡ None → Goes (take_where p n) v v
  goes-take_none v n is =
      goes-same (λ b. b) (take_where p n) v v (goes-none v)
      (λ b log s. let at : index_from p 0 (board.slots_at b n) ≡ None = shows-index_from b (with_log log v) s n ∙ is in rw (take_where, at) refl)

  pub goes-go_where : (v w : Objects) (n i : ℕ) → index_from p 0 (shown_slots (slots_of v n)) ≡ Some i → Goes (λ b. let_go b n i) v w
      → Goes (let_go_where p n) v w
  goes-go_where v w n i is following =
      goes-same (λ b. let_go b n i) (let_go_where p n) v w following
      (λ b log s. let at : index_from p 0 (board.slots_at b n) ≡ Some i = shows-index_from b (with_log log v) s n ∙ is in rw (let_go_where, at) refl)

  pub goes-go_none : (v : Objects) (n : ℕ) → index_from p 0 (shown_slots (slots_of v n)) ≡ None → Goes (let_go_where p n) v v
  goes-go_none v n is =
      goes-same (λ b. b) (let_go_where p n) v v (goes-none v)
      (λ b log s. let at : index_from p 0 (board.slots_at b n) ≡ None = shows-index_from b (with_log log v) s n ∙ is in rw (let_go_where, at) refl)

-- the whole

pub goes-left : (v u w : Objects) (c : Board) → Shows c v → (d m : ℕ) → ((b : Board) → Shows b v → Some m ≡ bus_of b d)
    → Goes (take_where (names_kid d) m) v u → Goes (let_go_where (is_named (codes "parent_bus")) d) u w → Goes (left_bus d) v w
goes-left v u w c t d m is first second =
    goes-same (λ b. let_go_where (is_named (codes "parent_bus")) d (take_where (names_kid d) m b)) (left_bus d) v w
    (goes-then (take_where (names_kid d) m) (let_go_where (is_named (codes "parent_bus")) d) v u w first second)
    (λ b log s. let there : bus_of b d ≡ Some m = sym (is (record b { notes = c.notes }) (shows-notes b c log v s t)) in rw (left_bus, there) refl)

pub goes-stayed : (v : Objects) (c : Board) → Shows c v → (d : ℕ) → ((b : Board) → Shows b v → None ≡ bus_of b d) → Goes (left_bus d) v v
goes-stayed v c t d is =
    goes-same (λ b. b) (left_bus d) v v (goes-none v)
    (λ b log s. let there : bus_of b d ≡ None = sym (is (record b { notes = c.notes }) (shows-notes b c log v s t)) in rw (left_bus, there) refl)

-- the place of a child, as a look-up finds it

child-shown : (n : ℕ) (s : Slot) → is_child n (shown_slot s) ≡ names_child n s
child-shown n (Plain val) = refl
child-shown n (Child key) = refl
child-shown n (Link ty true target) = refl
child-shown n (Link ty false target) = refl
child-shown n (Alias key name) = refl

pub child-place : (d : ℕ) (slots : List Named) → index_from (is_child_slot d) 0 (shown_slots slots) ≡ position (λ (t : Named). names_child d t.1) slots
child-place d slots = found-place (is_child_slot d) (λ (t : Named). names_child d t.1) (λ t. child-shown d t.1) slots

-- the slots of an object that is not there
pub place-gone : (p : List ℕ × board.Slot → Bool) (v : Objects) (n : ℕ) → content_of v n ≡ None → index_from p 0 (shown_slots (slots_of v n)) ≡ None
place-gone p v n gone = ap (λ (x : Option Content). index_from p 0 (shown_slots (option_map_or (λ (d : Content). d.slots) x []))) gone
