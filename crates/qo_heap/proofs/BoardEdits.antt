-- What a board shows, where one object of the heap is changed.
use Rattle.std.proofs.Common.{◌≡◌, refl, ap, sym, ◌∙◌, ℕ, zero, suc, ◌-◌, ◌<◌, ◌≤◌, Bool, true, false, eqb, leb, List, [], ◌∷◌, ◌++◌, map, replicate, Some, append_assoc, arith}
use Rattle.std.specs.List.{AllByRecursion}
use Rattle.std.specs.Option.{option_map_or}
use Rattle.std.proofs.lemmas.Bool.{eqb-true}
use Rattle.std.proofs.lemmas.Bool.Decides.{nat_tests}
use Rattle.std.proofs.lemmas.List.{replicate_more}
use Rattle.std.proofs.lemmas.Option.{same_Some}
use Rattle.qo_slots.specs.declared.keys.Key.{Key}
use Rattle.qo_heap.specs.Rows.{Rises, births, edit, object_at}
use Rattle.qo_heap.proofs.RowsLemmas.{edit-above}
use Rattle.qo_model.specs.Board as board
use Rattle.qo_model.specs.declared.notes.Note.{Note}
use Rattle.qo_model.specs.Release.{drop_slot, with_dropped, pin, without_pin, put_in_order, without_first}
use Rattle.qo_model.specs.Release as release
use Rattle.qo_heap.proofs.Logs.{one_lem}
use Rattle.qo_object.specs.Content.{Content, dropped_at, with_pin}
use Rattle.qo_object.specs.Content as content
use Rattle.qo_object.specs.BoardObject.{shown}
use Rattle.qo_object.proofs.BoardObjectLemmas.{shown-dropped}
use Rattle.qo_heap.specs.Objects.{IsHeap, Objects, content_of, pins_of, with_edit, with_note}
use Rattle.qo_heap.specs.Board.{Shows, record_of, pins_in}
use Rattle.qo_heap.proofs.BoardReads.{records_of}

-- one object edited

module _ (n : ℕ) (f : Content → Content) where
  edit-records : (g : board.Record → board.Record) → ((m : ℕ) (c : Content) → shown m (f c) ≡ g (shown m c)) → (rows : List (Key × Content))
      → records_of (edit n f rows) ≡ map (release.edited n g) (records_of rows)
  edit-records g same [] = refl
  edit-records g same (row ∷ rows) = go (eqb row.0.birth n) refl (edit-records g same rows)
    where
      go : (b : Bool) → eqb row.0.birth n ≡ b → records_of (edit n f rows) ≡ map (release.edited n g) (records_of rows)
          → records_of (edit n f (row ∷ rows)) ≡ map (release.edited n g) (records_of (row ∷ rows))
      go true is rest = rw is (λ j. same row.0.birth row.1 j ∷ rest j)
      go false is rest = rw is (ap (λ (rs : List board.Record). record_of row ∷ rs) rest)

  -- an edit that does not show
  pub edit-unseen : ((m : ℕ) (c : Content) → shown m (f c) ≡ shown m c) → (rows : List (Key × Content)) → records_of (edit n f rows) ≡ records_of rows
  edit-unseen same [] = refl
  edit-unseen same (row ∷ rows) = go (eqb row.0.birth n) refl (edit-unseen same rows)
    where
      go : (b : Bool) → eqb row.0.birth n ≡ b → records_of (edit n f rows) ≡ records_of rows → records_of (edit n f (row ∷ rows)) ≡ records_of (row ∷ rows)
      go true is rest = rw is (λ j. same row.0.birth row.1 j ∷ rest j)
      go false is rest = rw is (ap (λ (rs : List board.Record). record_of row ∷ rs) rest)

  -- an edit that keeps the pins
  pub pins-edited : ((c : Content) → (f c).pins ≡ c.pins) → (rows : List (Key × Content)) → pins_in (edit n f rows) ≡ pins_in rows
  pins-edited same [] = refl
  pins-edited same (row ∷ rows) = go (eqb row.0.birth n) refl (pins-edited same rows)
    where
      go : (b : Bool) → eqb row.0.birth n ≡ b → pins_in (edit n f rows) ≡ pins_in rows → pins_in (edit n f (row ∷ rows)) ≡ pins_in (row ∷ rows)
      go true is rest = rw is (λ j. replicate (same row.1 j) row.0.birth ++ rest j)
      go false is rest = rw is (ap (λ (ms : List ℕ). replicate row.1.pins row.0.birth ++ ms) rest)

  -- an edit that keeps the pins is the board's edit that shows the same
  pub shows-edit : (b : board.Board) (v : Objects) → Shows b v → (g : board.Record → board.Record) → ((m : ℕ) (c : Content) → shown m (f c) ≡ g (shown m c))
      → ((c : Content) → (f c).pins ≡ c.pins) → Shows (release.edit n g b) (with_edit n f v)
  shows-edit b v s g same kept =
      record {
        records = ap (map (release.edited n g)) s.records ∙ sym (edit-records g same v.rows);
        born = s.born;
        pins = s.pins ∙ sym (pins-edited kept v.rows);
        notes = s.notes;
        events = s.events;
        now = s.now;
      }

-- one object edited: it alone has its birth
module _ (n : ℕ) (f : Content → Content) (g : board.Record → board.Record) where
  records-later : (above last : ℕ) (rows : List (Key × Content)) → n ≤ above → Rises above (births rows) last
      → records_of (edit n f rows) ≡ map (release.edited n g) (records_of rows)
  records-later above last [] le rises = refl
  records-later above last (row ∷ rows) le rises =
      let up : above < row.0.birth = rises.0 in
      let other : eqb row.0.birth n ≡ false = grind arith in
      rw other (ap (λ (rs : List board.Record). record_of row ∷ rs) (records-later row.0.birth last rows (omega arith) rises.1))

  records-at : (above last : ℕ) (rows : List (Key × Content)) (c : Content) → Rises above (births rows) last → object_at rows n ≡ Some c
      → shown n (f c) ≡ g (shown n c) → records_of (edit n f rows) ≡ map (release.edited n g) (records_of rows)
  records-at above last [] c rises there same = cc
  records-at above last (row ∷ rows) c rises there same = go (eqb row.0.birth n) refl (records-at row.0.birth last rows c rises.1)
    where
      go : (t : Bool) → eqb row.0.birth n ≡ t
          → (object_at rows n ≡ Some c → shown n (f c) ≡ g (shown n c) → records_of (edit n f rows) ≡ map (release.edited n g) (records_of rows))
          → records_of (edit n f (row ∷ rows)) ≡ map (release.edited n g) (records_of (row ∷ rows))
      go true is rest =
          let at : row.0.birth ≡ n = eqb-true row.0.birth n is in
          let own : row.1 ≡ c = same_Some row.1 c (rw is at there) in
          let here : shown row.0.birth (f row.1) ≡ g (shown row.0.birth row.1) =
          (λ j. shown (at j) (f (own j))) ∙ same ∙ (λ j. g (shown (sym at j) (sym own j))) in
          let later = records-later row.0.birth last rows (omega arith) rises.1 in
          rw is (λ j. here j ∷ later j)
      go false is rest = rw is (ap (λ (rs : List board.Record). record_of row ∷ rs) (rest (rw is at there) same))

  pub shows-at : (b : board.Board) (v : Objects) → Shows b v → IsHeap v → (c : Content) → content_of v n ≡ Some c → shown n (f c) ≡ g (shown n c)
      → ((d : Content) → (f d).pins ≡ d.pins) → Shows (release.edit n g b) (with_edit n f v)
  shows-at b v s good c there same pins =
      record {
        records = ap (map (release.edited n g)) s.records ∙ sym (records-at 0 v.born v.rows c good.rising there same);
        born = s.born;
        pins = s.pins ∙ sym (pins-edited n f pins v.rows);
        notes = s.notes;
        events = s.events;
        now = s.now;
      }

-- a slot let go
pub shows-drop_slot : (b : board.Board) (v : Objects) → Shows b v → (n i : ℕ) → Shows (drop_slot b n i) (with_edit n (dropped_at i) v)
unfolding drop_slot
shows-drop_slot b v s n i = shows-edit n (dropped_at i) b v s (with_dropped i) (λ m c. shown-dropped m i c) (λ c. refl)

-- a note more
pub shows-note : (b : board.Board) (v : Objects) → Shows b v → (note : Note) → Shows (record b { notes = b.notes ++ note ∷ [] }) (with_note note v)
shows-note b v s note = record { records = s.records; born = s.born; pins = s.pins; notes = one_lem b.notes v.log note s.notes; events = s.events; now = s.now }

-- pins

-- an object of rising births is above the number before them
pub there-above : (n above last : ℕ) (rows : List (Key × Content)) (c : Content) → Rises above (births rows) last → object_at rows n ≡ Some c → above < n
there-above n above last [] c rises there = cc
there-above n above last (row ∷ rows) c rises there = go (eqb row.0.birth n) refl (there-above n row.0.birth last rows c rises.1)
  where
    go : (b : Bool) → eqb row.0.birth n ≡ b → (object_at rows n ≡ Some c → row.0.birth < n) → above < n
    go true is later = let up : above < row.0.birth = rises.0 in omega (arith, eqb-true row.0.birth n is)
    go false is later =
        let up : above < row.0.birth = rises.0 in
        let more : row.0.birth < n = later (rw is at there) in
        omega arith

-- what all members have, equal ones before others have
pub all-replicate : (P : ℕ → Type 0) (k m : ℕ) (xs : List ℕ) → P m → AllByRecursion P xs → AllByRecursion P (replicate k m ++ xs)
all-replicate P zero m xs here all = all
all-replicate P (suc k) m xs here all = (here, all-replicate P k m xs here all)

pub pins-above : (n above last : ℕ) (rows : List (Key × Content)) → n ≤ above → Rises above (births rows) last → AllByRecursion (λ m. n < m) (pins_in rows)
pins-above n above last [] le rises = tt
pins-above n above last (row ∷ rows) le rises =
    let up : above < row.0.birth = rises.0 in
    all-replicate (λ (m : ℕ). n < m) row.1.pins row.0.birth (pins_in rows) (omega arith) (pins-above n row.0.birth last rows (omega arith) rises.1)

-- a number put in order

put-same : (n k m : ℕ) (xs : List ℕ) → m ≤ n → put_in_order n (replicate k m ++ xs) ≡ replicate k m ++ put_in_order n xs
put-same n zero m xs le = refl
put-same n (suc k) m xs le =
    let stays : leb m n ≡ true = grind (arith, nat_tests) in
    rw stays (ap (λ (ms : List ℕ). m ∷ ms) (put-same n k m xs le))

put-first : (n : ℕ) (xs : List ℕ) → AllByRecursion (λ m. n < m) xs → put_in_order n xs ≡ n ∷ xs
put-first n [] above = refl
put-first n (m ∷ ms) above =
    let up : n < m = above.0 in
    let goes : leb m n ≡ false = grind (arith, nat_tests) in
    rw goes refl

pins-more : (n above last : ℕ) (rows : List (Key × Content)) (c : Content) → Rises above (births rows) last → object_at rows n ≡ Some c
    → pins_in (edit n with_pin rows) ≡ put_in_order n (pins_in rows)
pins-more n above last [] c rises there = cc
pins-more n above last (row ∷ rows) c rises there = go (eqb row.0.birth n) refl (pins-more n row.0.birth last rows c rises.1)
  where
    go : (b : Bool) → eqb row.0.birth n ≡ b → (object_at rows n ≡ Some c → pins_in (edit n with_pin rows) ≡ put_in_order n (pins_in rows))
        → pins_in (edit n with_pin (row ∷ rows)) ≡ put_in_order n (pins_in (row ∷ rows))
    go true is later =
        let same : row.0.birth ≡ n = eqb-true row.0.birth n is in
        let stay = edit-above n with_pin row.0.birth last rows (omega arith) rises.1 in
        let put = put-same n row.1.pins row.0.birth (pins_in rows) (omega arith) in
        let first = put-first n (pins_in rows) (pins-above n row.0.birth last rows (omega arith) rises.1) in
        rw (is, stay, put, first, ← replicate_more row.1.pins row.0.birth, append_assoc (replicate row.1.pins row.0.birth) (row.0.birth ∷ []) (pins_in rows))
        (ap (λ (m : ℕ). replicate row.1.pins row.0.birth ++ m ∷ pins_in rows) same)
    go false is later =
        let there' : object_at rows n ≡ Some c = rw is at there in
        let more : row.0.birth < n = there-above n row.0.birth last rows c rises.1 there' in
        rw (is, later there', put-same n row.1.pins row.0.birth (pins_in rows) (omega arith)) refl

pub shows-pin : (b : board.Board) (v : Objects) → Shows b v → IsHeap v → (n : ℕ) (c : Content) → content_of v n ≡ Some c
    → Shows (pin b n) (with_edit n with_pin v)
unfolding pin
shows-pin b v s good n c there =
    record {
      records = s.records ∙ sym (edit-unseen n with_pin (λ m d. refl) v.rows);
      born = s.born;
      pins = ap (put_in_order n) s.pins ∙ sym (pins-more n 0 v.born v.rows c good.rising there);
      notes = s.notes;
      events = s.events;
      now = s.now;
    }

-- a pin less

first-past : (n k m : ℕ) (xs : List ℕ) → eqb m n ≡ false → without_first n (replicate k m ++ xs) ≡ replicate k m ++ without_first n xs
first-past n zero m xs other = refl
first-past n (suc k) m xs other = rw other (ap (λ (ms : List ℕ). m ∷ ms) (first-past n k m xs other))

first-here : (n k m : ℕ) (xs : List ℕ) → eqb m n ≡ true → 0 < k → without_first n (replicate k m ++ xs) ≡ replicate (k - 1) m ++ xs
first-here n zero m xs same some = absurd (omega arith)
first-here n (suc k) m xs same some = let less : k ≡ suc k - 1 = omega arith in rw same (ap (λ (j : ℕ). replicate j m ++ xs) less)

pins-less : (n above last : ℕ) (rows : List (Key × Content)) → Rises above (births rows) last → 0 < option_map_or (λ (c : Content). c.pins) (object_at rows n) 0
    → pins_in (edit n content.without_pin rows) ≡ without_first n (pins_in rows)
pins-less n above last [] rises some = absurd (omega arith)
pins-less n above last (row ∷ rows) rises some = go (eqb row.0.birth n) refl (pins-less n row.0.birth last rows rises.1)
  where
    go : (b : Bool) → eqb row.0.birth n ≡ b
        → (0 < option_map_or (λ (c : Content). c.pins) (object_at rows n) 0 → pins_in (edit n content.without_pin rows) ≡ without_first n (pins_in rows))
        → pins_in (edit n content.without_pin (row ∷ rows)) ≡ without_first n (pins_in (row ∷ rows))
    go true is later =
        let same : row.0.birth ≡ n = eqb-true row.0.birth n is in
        let stay = edit-above n content.without_pin row.0.birth last rows (omega arith) rises.1 in
        let here : 0 < row.1.pins = rw is at some in
        rw (is, stay, first-here n row.1.pins row.0.birth (pins_in rows) is here) refl
    go false is later =
        let rest : 0 < option_map_or (λ (c : Content). c.pins) (object_at rows n) 0 = rw is at some in
        rw (is, later rest, first-past n row.1.pins row.0.birth (pins_in rows) is) refl

pub shows-without_pin : (b : board.Board) (v : Objects) → Shows b v → IsHeap v → (n : ℕ) → 0 < pins_of v n
    → Shows (without_pin b n) (with_edit n content.without_pin v)
shows-without_pin b v s good n some =
    record {
      records = s.records ∙ sym (edit-unseen n content.without_pin (λ m d. refl) v.rows);
      born = s.born;
      pins = ap (without_first n) s.pins ∙ sym (pins-less n 0 v.born v.rows good.rising some);
      notes = s.notes;
      events = s.events;
      now = s.now;
    }
