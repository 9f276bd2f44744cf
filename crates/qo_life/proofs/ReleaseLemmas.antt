-- The steps of a release over a heap.
use Rattle.std.proofs.lemmas.Bool.Decides.{nat_tests}
use Rattle.std.proofs.Common.{◌≡◌, refl, ap, sym, subst, ◌∙◌, ℕ, zero, suc, ◌+◌, ◌-◌, ◌*◌, ◌<◌, ◌≤◌, Bool, true, false, not, ◌==◌, eqb, nat_eq, nat_lt, slice_get, List, [], ◌∷◌, count_by, Option, Some, None, is_some, option_map, IfSome, arith}
use Rattle.std.specs.List.{list_any}
use Rattle.std.specs.Option.{option_map_or}
use Rattle.std.proofs.lemmas.Bool.{eqb-true, eq-eqb}
use Rattle.std.proofs.lemmas.Option.{same_Some}
use Rattle.qo_slots.specs.declared.keys.Key.{Key}
use Rattle.qo_heap.specs.Rows.{IsLive}
use Rattle.qo_model.specs.Board.{Board}
use Rattle.qo_model.specs.Board as board
use Rattle.qo_model.specs.References.{refs}
use Rattle.qo_model.specs.Release.{drop_slot, next_index, finish, holding, width, after, finalize, let_go, unpin}
use Rattle.qo_model.specs.Release as release
use Rattle.qo_model.proofs.ReleaseLemmas.{after-holding, drop-holding, drop-falls, end_of, end_of-first, end_of-none, end_of-some, finalize-shrinks, place-falls, place-lt-width}
use Rattle.qo_heap.specs.Log.{Log, empty_log, noted_all}
use Rattle.qo_object.specs.declared.slots.Slot.{Slot}
use Rattle.qo_object.specs.declared.slots.Slot.TheVariants.{Plain, Child, Link, Alias}
use Rattle.qo_object.specs.Slots.{Named, left_of, let_go_at, referent, slot_in, target_of}
use Rattle.qo_object.specs.Content.{Content, dropped_at, reference_count}
use Rattle.qo_object.specs.Content as content
use Rattle.qo_object.specs.BoardObject.{birth_of, shown, shown_slot}
use Rattle.qo_object.proofs.BoardObjectLemmas.{shown-held, reference_count-shown}
use Rattle.qo_heap.specs.Board.{Shows}
use Rattle.qo_heap.specs.Objects.{IsHeap, Objects, content_of, ended, pins_of, refs_of, slots_of, with_edit}
use Rattle.qo_heap.proofs.HeapLemmas.{edit-is, edit-same, live-edit, slot-live}
use Rattle.qo_heap.proofs.BoardReads.{shows-live, shows-live_key, shows-pinned, shows-record, shows-refs, shows-slot_at}
use Rattle.qo_life.specs.Life.{Goes, next_at, with_log}
use Rattle.qo_life.proofs.BoardLemmas.{Stays, let_go-stays, none-held}
use Rattle.qo_life.proofs.TreeLemmas.{tree, tree-shows, heap-with_log, tree-after, goes-none, goes-same, goes-then, goes-drop, goes-unpin, goes-end, goes-names}

-- a slot of the heap on the boards of the heap
pub slot-shown : (b : Board) (v : Objects) → Shows b v → (n i : ℕ) (o : Option Slot) → slot_in (slots_of v n) i ≡ o
    → board.slot_at b n i ≡ option_map shown_slot o
slot-shown b v s n i o is = shows-slot_at b v s n i ∙ ap (option_map shown_slot) is

pub next-shown : (i : ℕ) (s : Slot) → next_index (shown_slot s) i ≡ next_at i s
next-shown i (Plain val) = refl
next-shown i (Child key) = refl
next-shown i (Link ty true target) = refl
next-shown i (Link ty false target) = refl
next-shown i (Alias key name) = refl

-- no slot, nothing let go
let_go-none : (b : Board) (n i : ℕ) → board.slot_at b n i ≡ None → let_go b n i ≡ b
unfolding let_go
let_go-none b n i e = rw (let_go, e) refl

let_go-some : (b : Board) (n i : ℕ) (s : Slot) → board.slot_at b n i ≡ Some (shown_slot s)
    → let_go b n i ≡ after finalize (drop_slot b n i) (birth_of (referent s))
unfolding let_go
let_go-some b n i s e = rw (let_go, e) (ap (after finalize (drop_slot b n i)) (shown-held s))

pub goes-past : (v : Objects) (n i : ℕ) → slot_in (slots_of v n) i ≡ None → Goes (λ b. let_go b n i) v v
goes-past v n i is = goes-same (λ b. b) (λ b. let_go b n i) v v (goes-none v) (λ b log s. let_go-none b n i (slot-shown b (with_log log v) s n i None is))

-- a slot let go, and the end of what it held
pub goes-let_go : (v w : Objects) (n i : ℕ) (s : Slot) → slot_in (slots_of v n) i ≡ Some s
    → Goes (λ b. after finalize b (birth_of (referent s))) (with_edit n (dropped_at i) v) w → Goes (λ b. let_go b n i) v w
goes-let_go v w n i s is later =
    goes-same (λ b. after finalize (drop_slot b n i) (birth_of (referent s))) (λ b. let_go b n i) v w
    (goes-then (λ b. drop_slot b n i) (λ b. after finalize b (birth_of (referent s))) v (with_edit n (dropped_at i) v) w (goes-drop v n i) later)
    (λ b log t. let_go-some b n i s (slot-shown b (with_log log v) t n i (Some s) is))

-- what is given of an option that is there
pub given : {X Y : Type 0} (f : X → Y) (o : Option X) (y : Y) → Some y ≡ option_map f o → (x : X) × ((o ≡ Some x) × (f x ≡ y))
given f None y e = cc
given f (Some x) y e = (x, (refl, sym (same_Some y (f x) e)))

-- none is given of none
pub none-given : {X Y : Type 0} (f : X → Y) (o : Option X) → None ≡ option_map f o → o ≡ None
none-given f None e = refl
none-given f (Some x) e = cc

-- a slot that names nothing stays as it is where it is let go
left-unnamed : (name : List ℕ) (s : Slot) (slots : List Named) → is_some (target_of s) ≡ false
    → elim (left_of s) [ None ↦ slots | Some left ↦ (name, left) ∷ slots ] ≡ (name, s) ∷ slots
left-unnamed name (Plain val) slots none = refl
left-unnamed name (Child key) slots none = cc
left-unnamed name (Link ty strong None) slots none = refl
left-unnamed name (Link ty strong (Some key)) slots none = cc
left-unnamed name (Alias key of) slots none = refl

let_go-unnamed : (slots : List Named) (i : ℕ) (s : Slot) → slot_in slots i ≡ Some s → is_some (target_of s) ≡ false → let_go_at i slots ≡ slots
let_go-unnamed [] i s there none = refl
let_go-unnamed (t ∷ slots) zero s there none =
    left-unnamed t.0 t.1 slots (subst (λ (x : Slot). is_some (target_of x) ≡ false) (sym (same_Some t.1 s there)) none)
let_go-unnamed (t ∷ slots) (suc i) s there none = ap (λ (l : List Named). t ∷ l) (let_go-unnamed slots i s there none)

pub unnamed-stays : (v : Objects) → IsHeap v → (n i : ℕ) (names : Bool) → names ≡ false
    → Some names ≡ option_map (λ (s : Slot). is_some (target_of s)) (slot_in (slots_of v n) i) → v ≡ with_edit n (dropped_at i) v
unnamed-stays v good n i names off e =
    let (s, (there, same)) = given (λ (s : Slot). is_some (target_of s)) (slot_in (slots_of v n) i) names e in
    go (content_of v n) refl s there (same ∙ off)
  where
    go : (o : Option Content) → content_of v n ≡ o → (s : Slot) → slot_in (option_map_or (λ (c : Content). c.slots) o []) i ≡ Some s
        → is_some (target_of s) ≡ false → v ≡ with_edit n (dropped_at i) v
    go None p s there none = cc
    go (Some c) p s there none =
        let stays : c ≡ dropped_at i c = ap (λ (l : List Named). record c { slots = l }) (sym (let_go-unnamed c.slots i s there none)) in
        sym (edit-same n v) ∙ sym (edit-is v good n (λ (x : Content). x) c c p refl) ∙ edit-is v good n (dropped_at i) c c p stays

-- as the code has it: what was held, and the heap after the slot let go
pub goes-turn : (v u w : Objects) (n i : ℕ) (was : Option Key) → Some was ≡ option_map referent (slot_in (slots_of v n) i) → u ≡ with_edit n (dropped_at i) v
    → Goes (λ b. after finalize b (birth_of was)) u w → Goes (λ b. let_go b n i) v w
goes-turn v u w n i was e is later =
    let (s, (there, same)) = given referent (slot_in (slots_of v n) i) was e in
    goes-let_go v w n i s there
    (subst (λ (o : Option Key). Goes (λ b. after finalize b (birth_of o)) (with_edit n (dropped_at i) v) w) (sym same)
    (subst (λ (x : Objects). Goes (λ b. after finalize b (birth_of was)) x w) is later))

-- what a slot holds is there
held-named : (P : Key → Type 0) (s : Slot) → IfSome (target_of s) P → IfSome (referent s) P
held-named P (Plain val) named = tt
held-named P (Child k) named = named
held-named P (Link ty true target) named = named
held-named P (Link ty false target) named = tt
held-named P (Alias k name) named = tt

pub held-live : (v : Objects) → IsHeap v → (n i : ℕ) (s : Slot) → slot_in (slots_of v n) i ≡ Some s → IfSome (referent s) (IsLive v.rows)
held-live v good n i s is = go (slice_get (slots_of v n) i) refl is
  where
    go : (o : Option Named) → slice_get (slots_of v n) i ≡ o → option_map (λ (t : Named). t.1) o ≡ Some s → IfSome (referent s) (IsLive v.rows)
    go None p q = cc
    go (Some t) p q =
        subst (λ (x : Slot). IfSome (referent x) (IsLive v.rows)) (same_Some t.1 s q) (held-named (IsLive v.rows) t.1 (slot-live v good n i t (sym p)))

pub turn-live : (v u : Objects) → IsHeap v → (n i : ℕ) (was : Option Key) → Some was ≡ option_map referent (slot_in (slots_of v n) i)
    → u ≡ with_edit n (dropped_at i) v → IfSome was (IsLive u.rows)
turn-live v u good n i None e is = tt
turn-live v u good n i (Some key) e is =
    let (s, (there, same)) = given referent (slot_in (slots_of v n) i) (Some key) e in
    let live : IsLive v.rows key = subst (λ (o : Option Key). IfSome o (IsLive v.rows)) same (held-live v good n i s there) in
    subst (λ (x : Objects). IsLive x.rows key) (sym is) (live-edit n (dropped_at i) v.rows key live)

-- an object that still has references stays, and one that has none ends
-- who has no references, and who has some, as a test says
pub unheld-none : (n : ℕ) (held : Bool) → held ≡ nat_lt 0 n → held ≡ false → n ≡ 0
unheld-none n held is off = grind (arith, nat_tests)

pub held-some : (n : ℕ) (held : Bool) → held ≡ nat_lt 0 n → held ≡ true → n ≡ 0 → ⊥
held-some n held is on none = grind (arith, nat_tests)

pub goes-held : (v : Objects) → IsHeap v → (n : ℕ) → (refs_of v n ≡ 0 → ⊥) → Goes (λ b. after finalize b (Some n)) v v
goes-held v good n some =
    goes-same (λ b. b) (λ b. after finalize b (Some n)) v v (goes-none v)
    (λ b log s. go b (shows-refs b (with_log log v) s (heap-with_log v log good) n) (refs b n == 0) refl)
  where
    go : (b : Board) → refs b n ≡ refs_of v n → (t : Bool) → (refs b n == 0) ≡ t → after finalize b (Some n) ≡ b
    go b same true p = absurd (some (sym same ∙ eqb-true (refs b n) 0 p))
    go b same false p = rw (after, p) refl

pub goes-free : (v w : Objects) → IsHeap v → (n : ℕ) → refs_of v n ≡ 0 → Goes (λ b. finalize b n) v w → Goes (λ b. after finalize b (Some n)) v w
goes-free v w good n none ends =
    goes-same (λ b. finalize b n) (λ b. after finalize b (Some n)) v w ends
    (λ b log s. let free : (refs b n == 0) ≡ true = eq-eqb (refs b n) 0 (shows-refs b (with_log log v) s (heap-with_log v log good) n ∙ none) in
    rw (after, free) refl)

-- a pin less
pub goes-drop_pin : (v w : Objects) → IsHeap v → (n : ℕ) → 0 < pins_of v n → Goes (λ b. after finalize b (Some n)) (with_edit n content.without_pin v) w
    → Goes (λ b. unpin b n) v w
unfolding unpin
goes-drop_pin v w good n some later =
    goes-same (λ b. after finalize (release.without_pin b n) (Some n)) (λ b. unpin b n) v w
    (goes-then (λ b. release.without_pin b n) (λ b. after finalize b (Some n)) v (with_edit n content.without_pin v) w (goes-unpin v good n some) later)
    (λ b log s. let pinned : list_any (nat_eq n) b.pins ≡ true =
    shows-pinned b (with_log log v) s (heap-with_log v log good) n ∙ is_some_more (pins_of v n) some in rw (unpin, pinned) refl)
  where
    is_some_more : (k : ℕ) → 0 < k → not (eqb k 0) ≡ true
    is_some_more k less = let other : eqb k 0 ≡ false = grind arith in rw other refl
