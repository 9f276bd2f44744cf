-- The strong links of an object let go, while it is held from outside the tree.
use Rattle.std.proofs.Common.{◌≡◌, refl, ap, sym, subst, ◌∙◌, ℕ, zero, suc, ◌+◌, ◌-◌, ◌<◌, true, false, not, eqb, List, [], length, Option, Some, None, option_map, arith}
use Rattle.std.specs.Option.{option_map_or}
use Rattle.qo_slots.specs.declared.keys.Key.{Key}
use Rattle.qo_heap.specs.Rows.{IsLive}
use Rattle.qo_model.specs.Board.{Board, is_live, slot_at, slots_at, referent}
use Rattle.qo_model.specs.Board as board
use Rattle.qo_model.specs.Objects.{severed_from}
use Rattle.qo_model.specs.Release.{drop_slot, let_go, pin, unpin}
use Rattle.qo_model.proofs.PinLemmas.{put-among}
use Rattle.qo_heap.specs.Log.{empty_log, noted_all}
use Rattle.qo_object.specs.Content.{Content, with_pin}
use Rattle.qo_object.specs.BoardObject.{shown_slot}
use Rattle.qo_object.specs.Slots.{is_strong, slot_in}
use Rattle.qo_object.specs.declared.slots.Slot.{Slot}
use Rattle.qo_object.specs.declared.slots.Slot.TheVariants.{Plain, Child, Link, Alias}
use Rattle.qo_heap.specs.Objects.{IsHeap, Objects, content_of, pins_of, slots_of, with_edit}
use Rattle.qo_heap.proofs.BookLemmas.{book-edit}
use Rattle.qo_heap.proofs.BoardReads.{shows-live, shows-live_key, shows-pinned, shows-slot_at, shows-slots}
use Rattle.qo_object.proofs.BoardObjectLemmas.{length-shown}
use Rattle.qo_heap.proofs.BoardEdits.{shows-pin}
use Rattle.qo_heap.proofs.BoardObjects.{content-edited, live-content}
use Rattle.qo_life.specs.Life.{Goes, with_log}
use Rattle.qo_life.proofs.HeldLemmas.{IsHeld, held-after, held-drop}
use Rattle.qo_life.proofs.TreeLemmas.{edit-bodies, edit-sides, tree, tree-shows, tree-after, heap-with_log, goes-none, goes-same, goes-then, goes-names, live-before_edit}
use Rattle.qo_properties.specs.Changes.{is_strong_in, severed, severed_at}

-- one slot

-- a slot that is a strong link, or that is none
severed-is : (b : Board) (n i : ℕ) (o : Option Slot) → slot_at b n i ≡ option_map shown_slot o → option_map_or is_strong o false ≡ true
    → severed_at n i b ≡ let_go b n i
severed-is b n i None e is = cc
severed-is b n i (Some (Plain val)) e is = cc
severed-is b n i (Some (Child key)) e is = cc
severed-is b n i (Some (Link ty true target)) e is = rw (severed_at, e) refl
severed-is b n i (Some (Link ty false target)) e is = cc
severed-is b n i (Some (Alias key name)) e is = cc

severed-not : (b : Board) (n i : ℕ) (o : Option Slot) → slot_at b n i ≡ option_map shown_slot o → option_map_or is_strong o false ≡ false → severed_at n i b ≡ b
severed-not b n i None e is = rw (severed_at, e) refl
severed-not b n i (Some (Plain val)) e is = rw (severed_at, e) refl
severed-not b n i (Some (Child key)) e is = rw (severed_at, e) refl
severed-not b n i (Some (Link ty true target)) e is = cc
severed-not b n i (Some (Link ty false target)) e is = rw (severed_at, e) refl
severed-not b n i (Some (Alias key name)) e is = rw (severed_at, e) refl

pub goes-severed : (v w : Objects) (n i : ℕ) → is_strong_in (slots_of v n) i ≡ true → Goes (λ b. let_go b n i) v w → Goes (severed_at n i) v w
goes-severed v w n i is goes =
    goes-same (λ b. let_go b n i) (severed_at n i) v w goes (λ b log s. severed-is b n i (slot_in (slots_of v n) i) (shows-slot_at b (with_log log v) s n i) is)

pub goes-unsevered : (v : Objects) (n i : ℕ) → is_strong_in (slots_of v n) i ≡ false → Goes (severed_at n i) v v
goes-unsevered v n i is =
    goes-same (λ b. b) (severed_at n i) v v (goes-none v) (λ b log s. severed-not b n i (slot_in (slots_of v n) i) (shows-slot_at b (with_log log v) s n i) is)

-- all slots, one after another
severed-first : (b : Board) (n i k : ℕ) → severed_from (suc k) i n b ≡ severed_from k (suc i) n (severed_at n i b)
severed-first b n i k = go (slot_at b n i) refl
  where
    go : (o : Option board.Slot) → slot_at b n i ≡ o → severed_from (suc k) i n b ≡ severed_from k (suc i) n (severed_at n i b)
    go None p = rw (severed_from, severed_at, p) refl
    go (Some (board.plain v)) p = rw (severed_from, severed_at, p) refl
    go (Some (board.child m)) p = rw (severed_from, severed_at, p) refl
    go (Some (board.strong t target)) p = rw (severed_from, severed_at, p) refl
    go (Some (board.weak t target)) p = rw (severed_from, severed_at, p) refl
    go (Some (board.alias m property)) p = rw (severed_from, severed_at, p) refl

-- an object that is there, and held from outside the tree, stays so

module _ (x : ℕ) where
  let_go-held : (b : Board) (n i : ℕ) → IsHeld x b → IsHeld x (let_go b n i)
  unfolding let_go
  let_go-held b n i h = go (slot_at b n i) refl
    where
      go : (o : Option board.Slot) → slot_at b n i ≡ o → IsHeld x (let_go b n i)
      go None p = rw (let_go, p) h
      go (Some s) p =
          rw (let_go, p) (held-after x (drop_slot b n i) (board.referent s) (held-drop x b n i h))

  severed-held : (b : Board) (n i : ℕ) → IsHeld x b → IsHeld x (severed_at n i b)
  severed-held b n i h = go (slot_at b n i) refl
    where
      go : (o : Option board.Slot) → slot_at b n i ≡ o → IsHeld x (severed_at n i b)
      go None p = rw (severed_at, p) h
      go (Some (board.plain v)) p = rw (severed_at, p) h
      go (Some (board.child m)) p = rw (severed_at, p) h
      go (Some (board.strong t target)) p = rw (severed_at, p) (let_go-held b n i h)
      go (Some (board.weak t target)) p = rw (severed_at, p) h
      go (Some (board.alias m property)) p = rw (severed_at, p) h

-- the strong links let go, up to a place

pub record Severing (v u : Objects) (o : Key) (count i : ℕ) : Type 0 where
  pub step : Board → Board
  pub goes : Goes step v u
  pub rest : (b : Board) → severed_from (count - i) i o.birth (step b) ≡ severed_from count 0 o.birth (pin b o.birth)
  pub live : IsLive u.rows o
  pub held : IsHeld o.birth (tree u)

goes-pin : (v : Objects) → IsHeap v → (n : ℕ) (c : Content) → content_of v n ≡ Some c → Goes (λ b. pin b n) v (with_edit n with_pin v)
unfolding noted_all
goes-pin v good n c there =
    record {
      more = [];
      log = refl;
      shown = λ b log s. shows-pin b (with_log log v) s (heap-with_log v log good) n c there;
      names = live-before_edit n with_pin v.rows;
      bodies = edit-bodies v n with_pin (λ d. refl);
      sides = edit-sides v n with_pin (λ d. refl);
      book = λ out h. book-edit out v n with_pin (λ c. refl) h;
      time = refl;
      spare = refl;
    }

held-pin : (b : Board) (n : ℕ) → is_live b n ≡ true → IsHeld n (pin b n)
unfolding pin
held-pin b n live = record { live = live; pinned = put-among n b.pins }

goes-held : (step : Board → Board) (v w : Objects) → Goes step v w → (n : ℕ) → IsHeld n (step (tree v)) → IsHeld n (tree w)
goes-held step v w goes n h = subst (λ (b : Board). IsHeld n b) (tree-after step v w goes) (record { live = h.live; pinned = h.pinned })

held-live : (v w : Objects) (step : Board → Board) → Goes step v w → (o : Key) → IsLive v.rows o → IsHeld o.birth (tree w) → IsLive w.rows o
held-live v w step goes o live h = goes-names step v w goes o live (sym (shows-live (tree w) (with_log empty_log w) (tree-shows w) o.birth) ∙ h.live)

pub severing-first : (v u : Objects) → IsHeap v → (o : Key) (count : ℕ) → IsLive v.rows o → u ≡ with_edit o.birth with_pin v → Severing v u o count 0
severing-first v u good o count live is =
    let (c, there) = live-content v o live in
    let goes : Goes (λ b. pin b o.birth) v u = subst (λ (x : Objects). Goes (λ b. pin b o.birth) v x) (sym is) (goes-pin v good o.birth c there) in
    let held =
    goes-held (λ b. pin b o.birth) v u goes o.birth (held-pin (tree v) o.birth (shows-live_key (tree v) (with_log empty_log v) (tree-shows v) o live)) in
    record {
      step = λ b. pin b o.birth;
      goes = goes;
      rest = λ b. ap (λ (k : ℕ). severed_from k 0 o.birth (pin b o.birth)) (let all : count - 0 ≡ count = omega arith in all);
      live = held-live v u (λ b. pin b o.birth) goes o live held;
      held = held;
    }

severing-suc : (v u w : Objects) (o : Key) (count i : ℕ) → Severing v u o count i → i < count → Goes (severed_at o.birth i) u w → Severing v w o count (suc i)
severing-suc v u w o count i sev within goes =
    let held = goes-held (severed_at o.birth i) u w goes o.birth (severed-held o.birth (tree u) o.birth i sev.held) in
    let left : count - i ≡ suc (count - suc i) = omega arith in
    record {
      step = λ b. severed_at o.birth i (sev.step b);
      goes = goes-then sev.step (severed_at o.birth i) v u w sev.goes goes;
      rest = λ b. sym (severed-first (sev.step b) o.birth i (count - suc i)) ∙ ap (λ (k : ℕ). severed_from k i o.birth (sev.step b)) (sym left) ∙ sev.rest b;
      live = held-live u w (severed_at o.birth i) goes o sev.live held;
      held = held;
    }

pub severing-next : (v u w : Objects) (o : Key) (count i : ℕ) → Severing v u o count i → i < count → Goes (severed_at o.birth i) u w
    → Severing v w o count (i + 1)
severing-next v u w o count i sev within goes =
    let more : suc i ≡ i + 1 = omega arith in
    subst (λ (j : ℕ). Severing v w o count j) more (severing-suc v u w o count i sev within goes)

pub severing-pinned : (v u : Objects) (o : Key) (count i : ℕ) → IsHeap u → Severing v u o count i → 0 < pins_of u o.birth
severing-pinned v u o count i good sev =
    go (pins_of u o.birth) (sym (shows-pinned (tree u) (with_log empty_log u) (tree-shows u) (heap-with_log u empty_log good) o.birth) ∙ sev.held.pinned)
  where
    go : (k : ℕ) → not (eqb k 0) ≡ true → 0 < k
    go zero e = cc
    go (suc k) e = omega arith

pub severing-last : (v u w : Objects) (o : Key) (count i : ℕ) → Severing v u o count i → i ≡ count → count ≡ length (slots_of v o.birth)
    → Goes (λ b. unpin b o.birth) u w → Goes (λ b. severed b o.birth) v w
severing-last v u w o count i sev end is goes =
    goes-same (λ b. unpin (sev.step b) o.birth) (λ b. severed b o.birth) v w
    (goes-then sev.step (λ b. unpin b o.birth) v u w sev.goes goes)
    (λ b log s.
    let none : count - i ≡ 0 = omega arith in
    let many : length (slots_at b o.birth) ≡ count =
    ap (λ (l : List (List ℕ × board.Slot)). length l) (shows-slots b (with_log log v) s o.birth) ∙ length-shown (slots_of v o.birth) ∙ sym is in
    ap (λ (k : ℕ). unpin (severed_from k 0 o.birth (pin b o.birth)) o.birth) many
    ∙ ap (λ (d : Board). unpin d o.birth) (sym (sev.rest b) ∙ ap (λ (k : ℕ). severed_from k i o.birth (sev.step b)) none))

-- a pin changes no slots
pub pinned-slots : (v u : Objects) (n : ℕ) → u ≡ with_edit n with_pin v → length (slots_of u n) ≡ length (slots_of v n)
pinned-slots v u n is =
    ap (λ (x : Objects). length (slots_of x n)) is
    ∙ ap (λ (o : Option Content). length (option_map_or (λ (c : Content). c.slots) o [])) (content-edited v n with_pin) ∙ go (content_of v n)
  where
    go : (o : Option Content)
        → length (option_map_or (λ (c : Content). c.slots) (option_map with_pin o) []) ≡ length (option_map_or (λ (c : Content). c.slots) o [])
    go None = refl
    go (Some c) = refl
