-- The steps of a heap as steps of a board: alone, one after another, and as seen on the tree of the heap.
use Rattle.std.proofs.Common.{◌≡◌, refl, ap, sym, subst, ◌∙◌, ℕ, ◌<◌, Bool, true, false, eqb, List, [], ◌∷◌, ◌++◌, map, Option, Some, None, is_some, option_map, IsSomeAnd}
use Rattle.std.proofs.lemmas.Bool.{eqb-true}
use Rattle.std.proofs.lemmas.Option.{same_Some}
use Rattle.qo_slots.specs.declared.keys.Key.{Key}
use Rattle.qo_heap.specs.Rows.{IsLive, edit, without, row_at}
use Rattle.qo_model.specs.Board.{Board, DeviceEvent, Record}
use Rattle.qo_model.specs.Release.{drop_slot, finish}
use Rattle.qo_model.specs.Release as release
use Rattle.qo_heap.specs.Log.{Log, empty_log, noted_all}
use Rattle.qo_heap.proofs.Logs.{none_lem, parts_lem}
use Rattle.qo_object.specs.Content.{Content, dropped_at, forgotten}
use Rattle.qo_object.specs.Content as content
use Rattle.qo_heap.specs.Board.{Shows, record_of, pins_in}
use Rattle.qo_heap.specs.Objects.{IsHeap, Objects, content_of, ended, final_notes, forgets, pins_of, refs_of, with_edit}
use Rattle.qo_heap.proofs.BoardEdits.{shows-drop_slot, shows-without_pin}
use Rattle.qo_object.specs.BoardObject.{shown}
use Rattle.qo_heap.proofs.EndLemmas.{kept-spare}
use Rattle.qo_heap.proofs.BoardEnds.{shows-ended}
use Rattle.qo_heap.proofs.BoardObjects.{content-edited, content-gone, content-left, content-other}
use Rattle.qo_heap.proofs.BookLemmas.{book-edit, book-ended}
use Rattle.qo_life.specs.Life.{Goes, KeepsNames, with_log}

-- the tree of a heap: a board with its objects, births, pins, events and time, and nothing beside them
abbrev pub tree_with : List Record → ℕ → List ℕ → List DeviceEvent → ℕ → Board
tree_with records born pins events now =
    record {
      records = records;
      born = born;
      anonymous = 0;
      now = now;
      running = false;
      holds = [];
      pending = [];
      notices = [];
      rings = [];
      pins = pins;
      notes = [];
      events = events;
    }

abbrev pub tree : Objects → Board
tree v = tree_with (map record_of v.rows) v.born (pins_in v.rows) v.events.list v.time

pub tree-shows : (v : Objects) → Shows (tree v) (with_log empty_log v)
tree-shows v = record { records = refl; born = refl; pins = refl; notes = none_lem; events = refl; now = refl }

-- other notes, the same heap
pub shows-notes : (b c : Board) (log : Log) (v : Objects) → Shows b (with_log log v) → Shows c v → Shows (record b { notes = c.notes }) v
shows-notes b c log v s t = record { records = s.records; born = s.born; pins = s.pins; notes = t.notes; events = s.events; now = s.now }

-- another log, the same heap
pub heap-with_log : (v : Objects) (log : Log) → IsHeap v → IsHeap (with_log log v)
heap-with_log v log good = record { rising = good.rising; few = good.few; linked = good.linked }

-- the tree after a step
pub tree-after : (step : Board → Board) (v w : Objects) → Goes step v w
    → tree_with (step (tree v)).records (step (tree v)).born (step (tree v)).pins (step (tree v)).events (step (tree v)).now ≡ tree w
tree-after step v w g =
    let s = g.shown (tree v) empty_log (tree-shows v) in
    λ j. tree_with (s.records j) (s.born j) (s.pins j) (s.events j) (s.now j)

-- no step, a step that is another on all boards of the heap, and a step after a step
pub goes-none : (v : Objects) → Goes (λ b. b) v v
unfolding noted_all
goes-none v = record {
  more = [];
  log = refl;
  shown = λ b log s. s;
  names = λ key live. live;
  bodies = λ n c there. ap (option_map (λ (d : Content). d.body)) there;
  sides = λ n c there. ap (option_map (λ (d : Content). d.side)) there;
  book = λ out h. h;
  time = refl;
  spare = refl;
}

pub goes-same : (f g : Board → Board) (v w : Objects) → Goes f v w → ((b : Board) (log : Log) → Shows b (with_log log v) → g b ≡ f b) → Goes g v w
goes-same f g v w go is =
    record {
      more = go.more;
      log = go.log;
      shown = λ b log s. subst (λ (c : Board). Shows c (with_log (noted_all go.more log) w)) (sym (is b log s)) (go.shown b log s);
      names = go.names;
      bodies = go.bodies;
      sides = go.sides;
      book = go.book;
      time = go.time;
      spare = go.spare;
    }

pub goes-then : (f g : Board → Board) (v u w : Objects) → Goes f v u → Goes g u w → Goes (λ b. g (f b)) v w
goes-then f g v u w first then =
    record {
      more = first.more ++ then.more;
      log = then.log ∙ ap (noted_all then.more) first.log ∙ sym (parts_lem first.more then.more v.log);
      shown = λ b log s. subst (λ (l : Log). Shows (g (f b)) (with_log l w)) (sym (parts_lem first.more then.more log))
          (then.shown (f b) (noted_all first.more log) (first.shown b log s));
      names = λ key live. first.names key (then.names key live);
      bodies = λ n c there. both (λ d. d.body) first.bodies n c (content_of u n) refl (then.bodies n c there);
      sides = λ n c there. both (λ d. d.side) first.sides n c (content_of u n) refl (then.sides n c there);
      book = λ out h. then.book out (first.book out h);
      time = then.time ∙ first.time;
      spare = then.spare ∙ first.spare;
    }
  where
    both : {A : Type 0} (g : Content → A) → ((n : ℕ) (d : Content) → content_of u n ≡ Some d → option_map g (content_of v n) ≡ Some (g d)) → (n : ℕ) (c : Content)
        (o : Option Content) → content_of u n ≡ o → option_map g o ≡ Some (g c) → option_map g (content_of v n) ≡ Some (g c)
    both g before n c None p e = cc
    both g before n c (Some d) p e = before n d p ∙ e

-- what is read of an object, over an edit of one
module _ {A : Type 0} (g : Content → A) (n : ℕ) (f : Content → Content) (same : (c : Content) → g (f c) ≡ g c) where
  pub read-content : (v : Objects) (m : ℕ) → option_map g (content_of (with_edit n f v) m) ≡ option_map g (content_of v m)
  read-content v m = go (eqb m n) refl
    where
      two : (o : Option Content) → option_map g (option_map f o) ≡ option_map g o
      two None = refl
      two (Some c) = ap Some (same c)

      go : (t : Bool) → eqb m n ≡ t → option_map g (content_of (with_edit n f v) m) ≡ option_map g (content_of v m)
      go true p =
          subst (λ (k : ℕ). option_map g (content_of (with_edit n f v) k) ≡ option_map g (content_of v k)) (sym (eqb-true m n p))
          (ap (option_map g) (content-edited v n f) ∙ two (content_of v n))
      go false p = ap (option_map g) (content-other v n m f p)

-- who is there has what it had, where an edit leaves that, and where an end does
edit-leaves : {A : Type 0} (g : Content → A) (v : Objects) (n : ℕ) (f : Content → Content) → ((c : Content) → g (f c) ≡ g c) → (m : ℕ) (d : Content)
    → content_of (with_edit n f v) m ≡ Some d → option_map g (content_of v m) ≡ Some (g d)
edit-leaves g v n f same m d there = sym (read-content g n f same v m) ∙ ap (option_map g) there

end-leaves : {A : Type 0} (g : Content → A) (v : Objects) (n : ℕ) (x : Content) → ((c : Content) → g (forgotten n c) ≡ g c) → (m : ℕ) (d : Content)
    → content_of (ended n x v) m ≡ Some d → option_map g (content_of v m) ≡ Some (g d)
end-leaves {A} g v n x same m d there = go (eqb m n) refl
  where
    left : (o : Option Content) → option_map (forgotten n) o ≡ Some d → option_map g o ≡ Some (g d)
    left None e = cc
    left (Some c) e = ap Some (sym (same c) ∙ ap g (same_Some (forgotten n c) d e))

    go : (t : Bool) → eqb m n ≡ t → option_map g (content_of v m) ≡ Some (g d)
    go true p =
        absurd
        (let clash : None ≡ Some d = sym (ap (λ (k : ℕ). content_of (ended n x v) k) (eqb-true m n p) ∙ content-gone v n x) ∙ there in cc)
    go false p = left (content_of v m) (sym (content-left v n m x p) ∙ there)

-- the body, and what is kept beside the tree
pub edit-bodies : (v : Objects) (n : ℕ) (f : Content → Content) → ((c : Content) → (f c).body ≡ c.body) → (m : ℕ) (d : Content)
    → content_of (with_edit n f v) m ≡ Some d → option_map (λ (c : Content). c.body) (content_of v m) ≡ Some d.body
edit-bodies v n f same m d there = edit-leaves (λ (c : Content). c.body) v n f same m d there

pub edit-sides : (v : Objects) (n : ℕ) (f : Content → Content) → ((c : Content) → (f c).side ≡ c.side) → (m : ℕ) (d : Content)
    → content_of (with_edit n f v) m ≡ Some d → option_map (λ (c : Content). c.side) (content_of v m) ≡ Some d.side
edit-sides v n f same m d there = edit-leaves (λ (c : Content). c.side) v n f same m d there

-- who is there after an edit was there before it
pub live-before_edit : (n : ℕ) (f : Content → Content) (rows : List (Key × Content)) (key : Key) → IsLive (edit n f rows) key → IsLive rows key
live-before_edit n f [] key live = live
live-before_edit n f (row ∷ rows) key live = by (eqb row.0.birth n) refl (eqb row.0.birth key.birth) refl (live-before_edit n f rows key)
  where
    by : (a : Bool) → eqb row.0.birth n ≡ a → (b : Bool) → eqb row.0.birth key.birth ≡ b → (IsLive (edit n f rows) key → IsLive rows key)
        → IsLive (row ∷ rows) key
    by true p true q rest = let here : row.0.index ≡ key.index = rw (p, q) at live in rw q here
    by true p false q rest = let later : IsLive (edit n f rows) key = rw (p, q) at live in rw q (rest later)
    by false p true q rest = let here : row.0.index ≡ key.index = rw (p, q) at live in rw q here
    by false p false q rest = let later : IsLive (edit n f rows) key = rw (p, q) at live in rw q (rest later)

-- and who is there after an end, before it
none-left : (n : ℕ) (rows : List (Key × Content)) (key : Key) → eqb key.birth n ≡ true → row_at (map (forgets n) (without n rows)) key.birth ≡ None
none-left n [] key is = refl
none-left n (row ∷ rows) key is = by (eqb row.0.birth n) refl (none-left n rows key is)
  where
    by : (a : Bool) → eqb row.0.birth n ≡ a → row_at (map (forgets n) (without n rows)) key.birth ≡ None
        → row_at (map (forgets n) (without n (row ∷ rows))) key.birth ≡ None
    by true p rest = rw p rest
    by false p rest =
        let other : eqb row.0.birth key.birth ≡ false = rw (eqb-true key.birth n is) p in
        rw (p, other) rest

live-before_end : (n : ℕ) (rows : List (Key × Content)) (key : Key) → IsLive (map (forgets n) (without n rows)) key → IsLive rows key
live-before_end n [] key live = live
live-before_end n (row ∷ rows) key live = by (eqb row.0.birth n) refl (eqb row.0.birth key.birth) refl (live-before_end n rows key)
  where
    by : (a : Bool) → eqb row.0.birth n ≡ a → (b : Bool) → eqb row.0.birth key.birth ≡ b → (IsLive (map (forgets n) (without n rows)) key → IsLive rows key)
        → IsLive (row ∷ rows) key
    by true p true q rest =
        let later : IsLive (map (forgets n) (without n rows)) key = rw p at live in
        let same : eqb key.birth n ≡ true = rw (← eqb-true row.0.birth key.birth q) p in
        absurd (subst (λ (o : Option (Key × Content)). IsSomeAnd o (λ r. r.0.index ≡ key.index)) (none-left n rows key same) later)
    by true p false q rest = let later : IsLive (map (forgets n) (without n rows)) key = rw p at live in rw q (rest later)
    by false p true q rest = let here : row.0.index ≡ key.index = rw (p, q) at live in rw q here
    by false p false q rest = let later : IsLive (map (forgets n) (without n rows)) key = rw (p, q) at live in rw q (rest later)

-- a slot let go, a pin less, an end
pub goes-drop : (v : Objects) (n i : ℕ) → Goes (λ b. drop_slot b n i) v (with_edit n (dropped_at i) v)
unfolding noted_all
goes-drop v n i =
    record {
      more = [];
      log = refl;
      shown = λ b log s. shows-drop_slot b (with_log log v) s n i;
      names = live-before_edit n (dropped_at i) v.rows;
      bodies = edit-bodies v n (dropped_at i) (λ c. refl);
      sides = edit-sides v n (dropped_at i) (λ c. refl);
      book = λ out h. book-edit out v n (dropped_at i) (λ c. refl) h;
      time = refl;
      spare = refl;
    }

pub goes-unpin : (v : Objects) → IsHeap v → (n : ℕ) → 0 < pins_of v n → Goes (λ b. release.without_pin b n) v (with_edit n content.without_pin v)
unfolding noted_all
goes-unpin v good n some =
    record {
      more = [];
      log = refl;
      shown = λ b log s. shows-without_pin b (with_log log v) s (heap-with_log v log good) n some;
      names = live-before_edit n content.without_pin v.rows;
      bodies = edit-bodies v n content.without_pin (λ c. refl);
      sides = edit-sides v n content.without_pin (λ c. refl);
      book = λ out h. book-edit out v n content.without_pin (λ c. refl) h;
      time = refl;
      spare = refl;
    }

pub goes-end : (v : Objects) → IsHeap v → (n : ℕ) (c : Content) → content_of v n ≡ Some c → refs_of v n ≡ 0 → Goes (λ b. finish b n) v (ended n c v)
goes-end v good n c there free =
    record {
      more = final_notes n c.kind;
      log = refl;
      shown = λ b log s. shows-ended b (with_log log v) s (heap-with_log v log good) n c there free;
      names = live-before_end n v.rows;
      bodies = end-leaves (λ (x : Content). x.body) v n c (λ x. refl);
      sides = end-leaves (λ (x : Content). x.side) v n c (λ x. refl);
      book = λ out h. book-ended out v good n c there h;
      time = refl;
      spare = kept-spare v.events (release.deleted_event (shown n c));
    }

-- who was there and is still there has the same name
pub goes-names : (step : Board → Board) (v w : Objects) → Goes step v w → KeepsNames v w
goes-names step v w g key live there = go (row_at w.rows key.birth) refl there
  where
    found : (rows : List (Key × Content)) (n : ℕ) (row : Key × Content) → row_at rows n ≡ Some row → row.0.birth ≡ n
    found [] n row e = cc
    found (r ∷ rows) n row e = by (eqb r.0.birth n) refl (found rows n row)
      where
        by : (b : Bool) → eqb r.0.birth n ≡ b → (row_at rows n ≡ Some row → row.0.birth ≡ n) → row.0.birth ≡ n
        by true p rest = let same : r ≡ row = cc (rw p at e) in ap (λ (x : Key × Content). x.0.birth) (sym same) ∙ eqb-true r.0.birth n p
        by false p rest = rest (rw p at e)

    go : (o : Option (Key × Content)) → row_at w.rows key.birth ≡ o → is_some (option_map (λ (row : Key × Content). row.1) o) ≡ true → IsLive w.rows key
    go None p some = cc
    go (Some row) p some =
        let same : row.0.birth ≡ key.birth = found w.rows key.birth row p in
        let now : IsLive w.rows row.0 = rw (same, p) refl in
        let before : IsLive v.rows row.0 = g.names row.0 now in
        let then : IsSomeAnd (row_at v.rows key.birth) (λ r. r.0.index ≡ row.0.index) = rw same at before in
        rw p (one (row_at v.rows key.birth) then live)
      where
        one : (x : Option (Key × Content)) → IsSomeAnd x (λ r. r.0.index ≡ row.0.index) → IsSomeAnd x (λ r. r.0.index ≡ key.index) → row.0.index ≡ key.index
        one None a b = absurd a
        one (Some r) a b = sym a ∙ b

-- on the boards of the heap with its own log
pub goes-shows : (step : Board → Board) (v w : Objects) → Goes step v w → (b : Board) → Shows b v → Shows (step b) w
goes-shows step v w g b s = subst (λ (l : Log). Shows (step b) (with_log l w)) (sym g.log) (g.shown b v.log s)
