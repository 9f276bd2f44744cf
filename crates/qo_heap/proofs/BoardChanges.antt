-- What a board shows, where an object is made and where its slots are added, pointed, set and cut.
use Rattle.std.proofs.Common.{◌≡◌, refl, ap, sym, ◌∙◌, ℕ, zero, suc, ◌+◌, ◌≤◌, true, false, leb, List, [], ◌∷◌, ◌++◌, remove, replicate, None, append_assoc, arith}
use Rattle.std.specs.List.{AllByRecursion}
use Rattle.std.proofs.lemmas.Bool.Decides.{nat_tests}
use Rattle.std.proofs.lemmas.List.{map-append}
use Rattle.qo_values.specs.declared.kinds.TypeId.{TypeId}
use Rattle.qo_values.specs.declared.properties.Val.{Val}
use Rattle.qo_kinds.proofs.BodyLemmas.{fresh-registers}
use Rattle.qo_slots.specs.declared.keys.Key.{Key}
use Rattle.qo_heap.specs.Rows.{Rises, births}
use Rattle.qo_heap.proofs.RowsLemmas.{rises-up}
use Rattle.qo_model.specs.Board as board
use Rattle.qo_model.specs.Changes.{make, point, set, cut, add, with_changed, with_cut, with_added}
use Rattle.qo_model.specs.Changes as changes
use Rattle.qo_model.specs.Release.{put_in_order}
use Rattle.qo_object.specs.declared.slots.Slot.{Slot}
use Rattle.qo_object.specs.declared.slots.Slot.TheVariants.{Plain, Child, Link, Alias}
use Rattle.qo_object.specs.Slots.{Named, changed_at, pointed, with_val}
use Rattle.qo_object.specs.Content.{Content, fresh, with_slot, pointed_at, set_at, cut_at}
use Rattle.qo_object.specs.BoardObject.{shown, shown_slot, shown_slots}
use Rattle.qo_object.proofs.BoardObjectLemmas.{shown-with_slot}
use Rattle.qo_heap.specs.Objects.{IsHeap, Objects, with_edit}
use Rattle.qo_heap.specs.Board.{Shows, record_of, pins_in}
use Rattle.qo_heap.proofs.BoardEdits.{all-replicate, shows-edit}

-- an object made

pins-upto : (above last : ℕ) (rows : List (Key × Content)) → Rises above (births rows) last → AllByRecursion (λ m. m ≤ last) (pins_in rows)
pins-upto above last [] rises = tt
pins-upto above last (row ∷ rows) rises =
    all-replicate (λ (m : ℕ). m ≤ last) row.1.pins row.0.birth (pins_in rows) (rises-up row.0.birth last (births rows) rises.1)
    (pins-upto row.0.birth last rows rises.1)

put-last : (n last : ℕ) (xs : List ℕ) → last ≤ n → AllByRecursion (λ m. m ≤ last) xs → put_in_order n xs ≡ xs ++ n ∷ []
put-last n last [] le all = refl
put-last n last (m ∷ ms) le all =
    let here : m ≤ last = all.0 in
    let stays : leb m n ≡ true = grind (arith, nat_tests) in
    rw stays (ap (λ (l : List ℕ). m ∷ l) (put-last n last ms le all.1))

pins-added : (rows : List (Key × Content)) (key : Key) (kind : TypeId) → pins_in (rows ++ (key, fresh kind) ∷ []) ≡ pins_in rows ++ key.birth ∷ []
pins-added [] key kind = refl
pins-added (row ∷ rows) key kind = ap (λ (ms : List ℕ). replicate row.1.pins row.0.birth ++ ms) (pins-added rows key kind)
    ∙ sym (append_assoc (replicate row.1.pins row.0.birth) (pins_in rows) (key.birth ∷ []))

pub shows-made : (b : board.Board) (v : Objects) → Shows b v → IsHeap v → (kind : TypeId) (key : Key) → key.birth ≡ v.born + 1
    → Shows (make kind b) (record v { rows = v.rows ++ (key, fresh kind) ∷ []; born = v.born + 1 })
unfolding make
shows-made b v s good kind key birth =
    let next : b.born + 1 ≡ v.born + 1 = ap (λ (k : ℕ). k + 1) s.born in
    let its : b.born + 1 ≡ key.birth = next ∙ sym birth in
    record {
      records = (λ j. s.records j
          ++ record { birth = its j; kind = kind; slots = []; registers = sym (fresh-registers kind) j; device_id = None; kept_path = None } ∷ [])
          ∙ sym (map-append record_of v.rows ((key, fresh kind) ∷ []));
      born = next;
      pins =
          (λ j. put_in_order (its j) (s.pins j))
          ∙ put-last key.birth v.born (pins_in v.rows) (omega arith) (pins-upto 0 v.born v.rows good.rising)
          ∙ sym (pins-added v.rows key kind);
      notes = s.notes;
      events = s.events;
      now = s.now;
    }

-- a slot changed

pub changed-shown : (f : Slot → Slot) (g : board.Slot → board.Slot) → ((s : Slot) → shown_slot (f s) ≡ g (shown_slot s)) → (i : ℕ) (slots : List Named)
    → shown_slots (changed_at f i slots) ≡ changes.changed_at g i (shown_slots slots)
changed-shown f g same i [] = refl
changed-shown f g same zero (s ∷ slots) = ap (λ (t : board.Slot). (s.0, t) ∷ shown_slots slots) (same s.1)
changed-shown f g same (suc i) (s ∷ slots) = ap (λ (ss : List (List ℕ × board.Slot)). (s.0, shown_slot s.1) ∷ ss) (changed-shown f g same i slots)

pointed-shown : (key : Key) (s : Slot) → shown_slot (pointed key s) ≡ changes.pointed key.birth (shown_slot s)
pointed-shown key (Plain val) = refl
pointed-shown key (Child k) = refl
pointed-shown key (Link ty true target) = refl
pointed-shown key (Link ty false target) = refl
pointed-shown key (Alias k name) = refl

valued-shown : (val : Val) (s : Slot) → shown_slot (with_val val s) ≡ changes.with_val val (shown_slot s)
valued-shown val (Plain old) = refl
valued-shown val (Child key) = refl
valued-shown val (Link ty true target) = refl
valued-shown val (Link ty false target) = refl
valued-shown val (Alias key name) = refl

pub shows-pointed : (b : board.Board) (v : Objects) → Shows b v → (n i : ℕ) (key : Key) → Shows (point n i key.birth b) (with_edit n (pointed_at key i) v)
unfolding point
shows-pointed b v s n i key =
    shows-edit n (pointed_at key i) b v s (with_changed (changes.pointed key.birth) i)
    (λ m c. ap (λ (slots : List (List ℕ × board.Slot)). record (shown m c) { slots = slots })
    (changed-shown (pointed key) (changes.pointed key.birth) (pointed-shown key) i c.slots))
    (λ c. refl)

pub shows-set : (b : board.Board) (v : Objects) → Shows b v → (n i : ℕ) (val : Val) → Shows (set n i val b) (with_edit n (set_at val i) v)
unfolding set
shows-set b v s n i val =
    shows-edit n (set_at val i) b v s (with_changed (changes.with_val val) i)
    (λ m c. ap (λ (slots : List (List ℕ × board.Slot)). record (shown m c) { slots = slots })
    (changed-shown (with_val val) (changes.with_val val) (valued-shown val) i c.slots))
    (λ c. refl)

-- a slot removed, a slot more

removed-shown : (i : ℕ) (slots : List Named) → shown_slots (remove slots i) ≡ remove (shown_slots slots) i
removed-shown zero [] = refl
removed-shown (suc i) [] = refl
removed-shown zero (s ∷ slots) = refl
removed-shown (suc i) (s ∷ slots) = ap (λ (ss : List (List ℕ × board.Slot)). (s.0, shown_slot s.1) ∷ ss) (removed-shown i slots)

pub shows-cut : (b : board.Board) (v : Objects) → Shows b v → (n i : ℕ) → Shows (cut n i b) (with_edit n (cut_at i) v)
unfolding cut
shows-cut b v s n i =
    shows-edit n (cut_at i) b v s (with_cut i)
    (λ m c. ap (λ (slots : List (List ℕ × board.Slot)). record (shown m c) { slots = slots }) (removed-shown i c.slots)) (λ c. refl)

pub shows-added : (b : board.Board) (v : Objects) → Shows b v → (n : ℕ) (name : List ℕ) (slot : Slot)
    → Shows (add n name (shown_slot slot) b) (with_edit n (with_slot name slot) v)
unfolding add
shows-added b v s n name slot = shows-edit n (with_slot name slot) b v s (with_added name (shown_slot slot)) (λ m c. shown-with_slot m name slot c) (λ c. refl)
