-- What a board shows, where an object of the heap ends.
use Rattle.std.proofs.Common.{◌≡◌, refl, ap, sym, subst, ◌∙◌, ℕ, ◌<◌, ◌≤◌, Bool, true, false, not, eqb, List, [], ◌∷◌, ◌++◌, map, filter, replicate, Option, Some, None, option_map, append-nil, arith}
use Rattle.std.specs.Prelude.{option_and_then, option_to_list}
use Rattle.std.specs.Option.{option_map_or}
use Rattle.std.proofs.lemmas.Bool.{eqb-true}
use Rattle.qo_slots.specs.declared.keys.Key.{Key}
use Rattle.qo_heap.specs.Rows.{Rises, births, object_at, without}
use Rattle.qo_model.specs.Board as board
use Rattle.qo_model.specs.declared.notes.Note.{Note}
use Rattle.qo_model.specs.Release.{finish}
use Rattle.qo_model.specs.Release as release
use Rattle.qo_heap.specs.Log.{IsLogOf, noted_all}
use Rattle.qo_heap.proofs.Logs.{all_lem}
use Rattle.qo_events.specs.Queue.{Waiting}
use Rattle.qo_object.specs.Content.{Content}
use Rattle.qo_object.specs.BoardObject.{shown}
use Rattle.qo_object.proofs.BoardObjectLemmas.{forgotten_is_shown}
use Rattle.qo_heap.specs.Objects.{IsHeap, Objects, content_of, pins_of, refs_of, ended, final_notes, forgets, with_kept_event}
use Rattle.qo_heap.specs.Board.{Shows, pins_in}
use Rattle.qo_heap.proofs.BoardReads.{records_of, shows-record}

ended-records : (n : ℕ) (rows : List (Key × Content))
    → map (release.forgotten n) (filter (λ (r : board.Record). not (eqb r.birth n)) (records_of rows)) ≡ records_of (map (forgets n) (without n rows))
ended-records n [] = refl
ended-records n (row ∷ rows) = go (eqb row.0.birth n) refl (ended-records n rows)
  where
    go : (b : Bool) → eqb row.0.birth n ≡ b → map (release.forgotten n) (filter (λ (r : board.Record). not (eqb r.birth n)) (records_of rows))
        ≡ records_of (map (forgets n) (without n rows)) → map (release.forgotten n)
        (filter (λ (r : board.Record). not (eqb r.birth n)) (records_of (row ∷ rows))) ≡ records_of (map (forgets n) (without n (row ∷ rows)))
    go true is rest = rw is rest
    go false is rest = let here = sym (forgotten_is_shown row.0.birth n row.1) in rw is (λ j. here j ∷ rest j)

-- the pins of those that are left
pins-forgot : (n : ℕ) (rows : List (Key × Content)) → pins_in (map (forgets n) rows) ≡ pins_in rows
pins-forgot n [] = refl
pins-forgot n (row ∷ rows) = ap (λ (ms : List ℕ). replicate row.1.pins row.0.birth ++ ms) (pins-forgot n rows)

without-high : (n above last : ℕ) (rows : List (Key × Content)) → n ≤ above → Rises above (births rows) last → without n rows ≡ rows
without-high n above last [] le rises = refl
without-high n above last (row ∷ rows) le rises =
    let up : above < row.0.birth = rises.0 in
    let other : eqb row.0.birth n ≡ false = grind arith in
    rw other (ap (λ (l : List (Key × Content)). row ∷ l) (without-high n row.0.birth last rows (omega arith) rises.1))

pins-without : (n above last : ℕ) (rows : List (Key × Content)) → Rises above (births rows) last
    → option_map_or (λ (c : Content). c.pins) (object_at rows n) 0 ≡ 0 → pins_in (without n rows) ≡ pins_in rows
pins-without n above last [] rises none = refl
pins-without n above last (row ∷ rows) rises none = go (eqb row.0.birth n) refl (pins-without n row.0.birth last rows rises.1)
  where
    go : (b : Bool) → eqb row.0.birth n ≡ b → (option_map_or (λ (c : Content). c.pins) (object_at rows n) 0 ≡ 0 → pins_in (without n rows) ≡ pins_in rows)
        → pins_in (without n (row ∷ rows)) ≡ pins_in (row ∷ rows)
    go true is later =
        let same : row.0.birth ≡ n = eqb-true row.0.birth n is in
        let stay = without-high n row.0.birth last rows (omega arith) rises.1 in
        let unpinned : row.1.pins ≡ 0 = rw is at none in
        rw (is, stay, unpinned) refl
    go false is later = rw is (ap (λ (ms : List ℕ). replicate row.1.pins row.0.birth ++ ms) (later (rw is at none)))

-- an event for which a place was promised waits after the others
kept-list : (w : Waiting) (e : Option board.DeviceEvent) → w.list ++ option_to_list e ≡ (with_kept_event e w).list
kept-list w None = append-nil w.list
kept-list w (Some e) = refl

-- an object without references ends
pub shows-ended : (b : board.Board) (v : Objects) → Shows b v → IsHeap v → (n : ℕ) (c : Content) → content_of v n ≡ Some c → refs_of v n ≡ 0
    → Shows (finish b n) (ended n c v)
unfolding finish
shows-ended b v s good n c there free =
    let unpinned : pins_of v n ≡ 0 = omega arith in
    let found : board.record_of b n ≡ Some (shown n c) = shows-record b v s n ∙ ap (option_map (shown n)) there in
    let said : option_map_or release.final_notes (board.record_of b n) [] ≡ final_notes n c.kind =
    ap (λ (o : Option board.Record). option_map_or release.final_notes o []) found in
    let told : option_to_list (option_and_then release.deleted_event (board.record_of b n)) ≡ option_to_list (release.deleted_event (shown n c)) =
    ap (λ (o : Option board.Record). option_to_list (option_and_then release.deleted_event o)) found in
    record {
      records = ap (λ (rs : List board.Record). map (release.forgotten n) (filter (λ (r : board.Record). not (eqb r.birth n)) rs)) s.records
          ∙ ended-records n v.rows;
      born = s.born;
      pins = s.pins ∙ sym (pins-forgot n (without n v.rows) ∙ pins-without n 0 v.born v.rows good.rising unpinned);
      notes = subst (λ (ns : List Note). IsLogOf (b.notes ++ ns) (noted_all (final_notes n c.kind) v.log)) (sym said)
          (all_lem b.notes (final_notes n c.kind) v.log s.notes);
      events = (λ j. s.events j ++ told j) ∙ kept-list v.events (release.deleted_event (shown n c));
      now = s.now;
    }
