-- The final notes of an object, as they are added one after another.
use Rattle.std.proofs.Common.{◌≡◌, refl, ap, sym, ◌∙◌, ℕ, ◌+◌, ◌<◌, ◌≤◌, Bool, true, false, cond, eqb, List, [], ◌∷◌, ◌++◌, map, filter, length, take, get_or, if◌then◌else◌, sum_by, count_by, Option, Some, None, is_some, IfSome, arith}
use Rattle.std.specs.List.{AllByRecursion}
use Rattle.std.proofs.lemmas.Bool.{eqb-true, eq-eqb}
use Rattle.std.proofs.lemmas.List.{take_more, take_all}
use Rattle.std.proofs.lemmas.List.Sums.{sum_by-append, sum_by-cons}
use Rattle.qo_claims.specs.Book.{ClaimsTaken}
use Rattle.qo_slots.specs.declared.keys.Key.{Key}
use Rattle.qo_object.specs.Content.{Content, fresh, forgotten, holding}
use Rattle.qo_object.specs.Slots.{holds, each_changed, forgotten_in}
use Rattle.qo_object.specs.declared.slots.Slot.{Slot}
use Rattle.qo_object.specs.declared.slots.Slot.TheVariants.{Plain, Child, Link, Alias}
use Rattle.qo_heap.specs.Rows.{IsLive, Rises, births, without}
use Rattle.qo_heap.proofs.RowsLemmas.{rises-lower}
use Rattle.qo_heap.specs.Log.{Log, noted, noted_all}
use Rattle.qo_heap.proofs.Logs.{parts_lem}
use Rattle.qo_heap.specs.Objects.{HasPlaces, Objects, IsHeap, content_of, final_notes, has_path, refs_of, targets, forgets, with_kept_event}
use Rattle.qo_heap.proofs.BookLemmas.{sum-ended}
use Rattle.qo_events.specs.Queue.{Waiting}
use Rattle.qo_object.specs.BoardObject.{shown}
use Rattle.qo_model.specs.Board.{DeviceEvent}
use Rattle.qo_model.specs.Release.{deleted_event}
use Rattle.qo_heap.proofs.HeapLemmas.{targets_in}
use Rattle.qo_values.proofs.ListLemmas.{all-imply}
use Rattle.qo_values.specs.declared.kinds.TypeId.{TypeId}
use Rattle.qo_values.specs.declared.limits.TheConstants.{LIVE_OBJECTS_MAX}
use Rattle.qo_model.specs.declared.notes.Deed.TheVariants.{Final}
use Rattle.qo_model.specs.declared.notes.Note.{Note}
use Rattle.qo_model.specs.Types.{chain, has_finalizer}
use Rattle.qo_model.proofs.StepLemmas.{is_some-map}

-- the final notes for some types
abbrev pub final_note : ℕ → TypeId → Note
final_note n t = record { birth = n; deed = Final t }

abbrev pub finals_in : ℕ → List TypeId → List Note
finals_in n ts = map (final_note n) (filter has_finalizer ts)

-- one type more, with a finalizer or without
pub finals_in-more : (n : ℕ) (ts : List TypeId) (t : TypeId) → finals_in n (ts ++ t ∷ []) ≡ finals_in n ts ++ cond (has_finalizer t) (final_note n t ∷ []) []
finals_in-more n [] t = by (has_finalizer t)
  where
    by : (b : Bool) → map (final_note n) (cond b (t ∷ []) []) ≡ cond b (final_note n t ∷ []) []
    by true = refl
    by false = refl
finals_in-more n (x ∷ ts) t = by (has_finalizer x) (finals_in-more n ts t)
  where
    by : (b : Bool) → finals_in n (ts ++ t ∷ []) ≡ finals_in n ts ++ cond (has_finalizer t) (final_note n t ∷ []) []
        → map (final_note n) (cond b (x ∷ filter has_finalizer (ts ++ t ∷ [])) (filter has_finalizer (ts ++ t ∷ [])))
        ≡ map (final_note n) (cond b (x ∷ filter has_finalizer ts) (filter has_finalizer ts)) ++ cond (has_finalizer t) (final_note n t ∷ []) []
    by true rest = ap (λ (l : List Note). final_note n x ∷ l) rest
    by false rest = rest

-- no note
pub noted-none : (log : Log) → noted_all [] log ≡ log
unfolding noted_all
noted-none log = refl

-- an object that nothing holds: no slot of any other does
pub none-holds : (n : ℕ) (rows : List (Key × Content)) → sum_by (λ (row : Key × Content). holding n row.1) rows ≡ 0
    → AllByRecursion (λ (row : Key × Content). holding n row.1 ≡ 0) rows
none-holds n [] none = tt
none-holds n (row ∷ rows) none =
    let split = sum_by-cons (λ (r : Key × Content). holding n r.1) row rows in
    (omega (arith, split, none), none-holds n rows (omega (arith, split, none)))

-- what the slots of an object name once it forgot n, where none held n: what is so of it, and not n
module _ (P : Key → Type 0) (n : ℕ) where
  abbrev pub Other : Key → Type 0
  Other key = P key × (eqb key.birth n ≡ false)

  held-other : (key : Key) (slots : List (List ℕ × Slot)) (name : List ℕ) (s : Slot) → holds n s ≡ eqb key.birth n
      → count_by (λ (x : List ℕ × Slot). holds n x.1) ((name, s) ∷ slots) ≡ 0
      → (eqb key.birth n ≡ false) × (count_by (λ (x : List ℕ × Slot). holds n x.1) slots ≡ 0)
  held-other key slots name s is none = go (eqb key.birth n) refl
    where
      go : (b : Bool) → eqb key.birth n ≡ b → (eqb key.birth n ≡ false) × (count_by (λ (x : List ℕ × Slot). holds n x.1) slots ≡ 0)
      go true e = absurd (let split = sum_by-cons (λ (x : List ℕ × Slot). cond (holds n x.1) 1 0) (name, s) slots in
          let here : cond {A = ℕ} (holds n s) 1 0 ≡ 1 = rw (is, e) refl in omega (arith, split, none, here))
      go false e = (e, let split = sum_by-cons (λ (x : List ℕ × Slot). cond (holds n x.1) 1 0) (name, s) slots in omega (arith, split, none))

  rest-none : (slots : List (List ℕ × Slot)) (s : List ℕ × Slot) → count_by (λ (x : List ℕ × Slot). holds n x.1) (s ∷ slots) ≡ 0
      → count_by (λ (x : List ℕ × Slot). holds n x.1) slots ≡ 0
  rest-none slots s none = let split = sum_by-cons (λ (x : List ℕ × Slot). cond (holds n x.1) 1 0) s slots in omega (arith, split, none)

  pub targets-forgotten : (slots : List (List ℕ × Slot)) → AllByRecursion P (targets_in slots) → count_by (λ (s : List ℕ × Slot). holds n s.1) slots ≡ 0
      → AllByRecursion Other (targets_in (each_changed (forgotten_in n) slots))
  targets-forgotten [] all none = tt
  targets-forgotten ((name, Plain val) ∷ slots) all none = targets-forgotten slots all (rest-none slots (name, Plain val) none)
  targets-forgotten ((name, Alias key of) ∷ slots) all none = targets-forgotten slots all (rest-none slots (name, Alias key of) none)
  targets-forgotten ((name, Child key) ∷ slots) all none =
      let (differs, rest) = held-other key slots name (Child key) refl none in
      ((all.0, differs), targets-forgotten slots all.1 rest)
  targets-forgotten ((name, Link ty true None) ∷ slots) all none = targets-forgotten slots all (rest-none slots (name, Link ty true None) none)
  targets-forgotten ((name, Link ty true (Some key)) ∷ slots) all none =
      let (differs, rest) = held-other key slots name (Link ty true (Some key)) refl none in
      ((all.0, differs), targets-forgotten slots all.1 rest)
  targets-forgotten ((name, Link ty false None) ∷ slots) all none = targets-forgotten slots all (rest-none slots (name, Link ty false None) none)
  targets-forgotten ((name, Link ty false (Some key)) ∷ slots) all none =
      go (eqb key.birth n) refl (targets-forgotten slots all.1 (rest-none slots (name, Link ty false (Some key)) none))
    where
      go : (b : Bool) → eqb key.birth n ≡ b → AllByRecursion Other (targets_in (each_changed (forgotten_in n) slots))
          → AllByRecursion Other (targets_in (each_changed (forgotten_in n) ((name, Link ty false (Some key)) ∷ slots)))
      go true e rest = rw e rest
      go false e rest = rw e ((all.0, e), rest)

-- who is there is still there when another goes
pub live-without : (n : ℕ) (rows : List (Key × Content)) (key : Key) → IsLive rows key → eqb key.birth n ≡ false → IsLive (map (forgets n) (without n rows)) key
live-without n [] key live differs = live
live-without n (row ∷ rows) key live differs = go (eqb row.0.birth n) refl (eqb row.0.birth key.birth) refl (live-without n rows key)
  where
    go : (a : Bool) → eqb row.0.birth n ≡ a → (b : Bool) → eqb row.0.birth key.birth ≡ b
        → (IsLive rows key → eqb key.birth n ≡ false → IsLive (map (forgets n) (without n rows)) key) → IsLive (map (forgets n) (without n (row ∷ rows))) key
    go true a true b later = absurd (let x : row.0.birth ≡ n = eqb-true row.0.birth n a in let y : row.0.birth ≡ key.birth = eqb-true row.0.birth key.birth b in
        cc (differs, eq-eqb key.birth n (sym y ∙ x)))
    go true a false b later = rw a (later (rw b at live) differs)
    go false a true b later = let here : row.0.index ≡ key.index = rw b at live in rw (a, b) here
    go false a false b later = rw (a, b) (later (rw b at live) differs)

rises-without : (n above last : ℕ) (rows : List (Key × Content)) → Rises above (births rows) last → Rises above (births (map (forgets n) (without n rows))) last
rises-without n above last [] rises = rises
rises-without n above last (row ∷ rows) rises = go (eqb row.0.birth n) refl (rises-without n row.0.birth last rows rises.1)
  where
    go : (b : Bool) → eqb row.0.birth n ≡ b → Rises row.0.birth (births (map (forgets n) (without n rows))) last
        → Rises above (births (map (forgets n) (without n (row ∷ rows)))) last
    go true e rest = let up : above < row.0.birth = rises.0 in
        rw e (rises-lower above row.0.birth last (births (map (forgets n) (without n rows))) (omega arith) rest)
    go false e rest = rw e (rises.0, rest)

pub length-without : (n : ℕ) (rows : List (Key × Content)) → length (map (forgets n) (without n rows)) ≤ length rows
length-without n [] = omega arith
length-without n (row ∷ rows) = go (eqb row.0.birth n) refl (length-without n rows)
  where
    go : (b : Bool) → eqb row.0.birth n ≡ b → length (map (forgets n) (without n rows)) ≤ length rows
        → length (map (forgets n) (without n (row ∷ rows))) ≤ length (row ∷ rows)
    go true e rest = rw e (omega arith)
    go false e rest = rw e (omega arith)

-- rows of which none holds n, without n and its weak links, name what is there
linked-without : (n : ℕ) (by rows : List (Key × Content)) → AllByRecursion (λ (row : Key × Content). AllByRecursion (IsLive by) (targets row.1)) rows
    → AllByRecursion (λ (row : Key × Content). holding n row.1 ≡ 0) rows
    → AllByRecursion (λ (row : Key × Content). AllByRecursion (IsLive (map (forgets n) (without n by))) (targets row.1)) (map (forgets n) (without n rows))
linked-without n by [] linked none = tt
linked-without n by (row ∷ rows) linked none = go (eqb row.0.birth n) refl (linked-without n by rows linked.1 none.1)
  where
    there : AllByRecursion (IsLive (map (forgets n) (without n by))) (targets (forgotten n row.1))
    there =
        all-imply (λ (key : Key). IsLive by key × (eqb key.birth n ≡ false)) (IsLive (map (forgets n) (without n by)))
        (λ key both. live-without n by key both.0 both.1) (targets (forgotten n row.1)) (targets-forgotten (IsLive by) n row.1.slots linked.0 none.0)

    go : (b : Bool) → eqb row.0.birth n ≡ b → AllByRecursion (λ (r : Key × Content). AllByRecursion (IsLive (map (forgets n) (without n by))) (targets r.1))
        (map (forgets n) (without n rows)) → AllByRecursion (λ (r : Key × Content). AllByRecursion (IsLive (map (forgets n) (without n by))) (targets r.1))
        (map (forgets n) (without n (row ∷ rows)))
    go true e rest = rw e rest
    go false e rest = rw e (there, rest)

-- the heap without an object to which nothing referred
pub heap-ended : (v : Objects) → IsHeap v → (n : ℕ) → refs_of v n ≡ 0 → (log : Log) (claims : ClaimsTaken) (events : Waiting)
    → IsHeap (record v { rows = map (forgets n) (without n v.rows); log = log; claims = claims; events = events })
heap-ended v good n free log claims events =
    record {
      rising = rises-without n 0 v.born v.rows good.rising;
      few = let less = length-without n v.rows in let few : length v.rows ≤ LIVE_OBJECTS_MAX = good.few in omega arith;
      linked = linked-without n v.rows v.rows good.linked (none-holds n v.rows (let sum : refs_of v n ≡ 0 = free in omega arith));
    }

-- an event in its place: one place less is promised
kept-place : (w : Waiting) (e : Option DeviceEvent) (rest : ℕ) → w.promised ≡ cond (is_some e) 1 0 + rest → (with_kept_event e w).promised ≡ rest
kept-place w None rest is = omega (arith, is)
kept-place w (Some e) rest is = omega (arith, is)

-- and no free place is taken
pub kept-spare : (w : Waiting) (e : Option DeviceEvent) → (with_kept_event e w).spare ≡ w.spare
kept-spare w None = refl
kept-spare w (Some e) = refl

-- the paths that are kept, by that of one object and those of the others
paths-parts : (v : Objects) → IsHeap v → (n : ℕ) (c : Content) → content_of v n ≡ Some c
    → count_by has_path v.rows ≡ cond (is_some c.kept_path) 1 0 + count_by has_path (map (forgets n) (without n v.rows))
paths-parts v good n c there =
    sum-ended (λ (row : Key × Content). cond {A = ℕ} (has_path row) 1 0) n (λ row. refl) 0 v.born v.rows good.rising c there (λ key. refl)

-- a place is promised to an object whose path is kept
pub path-place : (v : Objects) → IsHeap v → HasPlaces v → (n : ℕ) (c : Content) → content_of v n ≡ Some c → IfSome c.kept_path (λ p. 1 ≤ v.events.promised)
path-place v good places n c there = go c.kept_path (places ∙ paths-parts v good n c there)
  where
    go : (o : Option (List ℕ)) → v.events.promised ≡ cond (is_some o) 1 0 + count_by has_path (map (forgets n) (without n v.rows))
        → IfSome o (λ p. 1 ≤ v.events.promised)
    go None is = tt
    go (Some p) is = omega (arith, is)

-- and it has what waits, where an object ended
pub places-ended : (v : Objects) → IsHeap v → HasPlaces v → (n : ℕ) (c : Content) → content_of v n ≡ Some c
    → (with_kept_event (deleted_event (shown n c)) v.events).promised ≡ count_by has_path (map (forgets n) (without n v.rows))
places-ended v good places n c there =
    let left : ℕ = count_by has_path (map (forgets n) (without n v.rows)) in
    let event : is_some (deleted_event (shown n c)) ≡ is_some c.kept_path =
    is_some-map (λ (path : List ℕ). record { deleted = true; id = c.device_id; path = path }) c.kept_path in
    kept-place v.events (deleted_event (shown n c)) left (places ∙ paths-parts v good n c there ∙ ap (λ (b : Bool). cond {A = ℕ} b 1 0 + left) (sym event))

-- the heap with an object more
pub live-more : (rows more : List (Key × Content)) (key : Key) → IsLive rows key → IsLive (rows ++ more) key
live-more [] more key live = absurd live
live-more (row ∷ rows) more key live = go (eqb row.0.birth key.birth) refl (live-more rows more key)
  where
    go : (b : Bool) → eqb row.0.birth key.birth ≡ b → (IsLive rows key → IsLive (rows ++ more) key) → IsLive (row ∷ rows ++ more) key
    go true e later = let here : row.0.index ≡ key.index = rw e at live in rw e here
    go false e later = rw e (later (rw e at live))

rises-more : (above last : ℕ) (rows : List (Key × Content)) (key : Key) (c : Content) → key.birth ≡ last + 1 → Rises above (births rows) last
    → Rises above (births (rows ++ (key, c) ∷ [])) (last + 1)
rises-more above last [] key c is rises = (omega arith, omega arith)
rises-more above last (row ∷ rows) key c is rises = (rises.0, rises-more row.0.birth last rows key c is rises.1)

all-more : (P : Key × Content → Type 0) (rows : List (Key × Content)) (row : Key × Content) → AllByRecursion P rows → P row
    → AllByRecursion P (rows ++ row ∷ [])
all-more P [] row all here = (here, tt)
all-more P (r ∷ rows) row all here = (all.0, all-more P rows row all.1 here)

length-more : (rows : List (Key × Content)) (row : Key × Content) → length (rows ++ row ∷ []) ≡ length rows + 1
length-more [] row = refl
length-more (r ∷ rows) row = let rest = length-more rows row in omega arith

pub heap-more : (v : Objects) → IsHeap v → (key : Key) (kind : TypeId) → key.birth ≡ v.born + 1 → length v.rows < LIVE_OBJECTS_MAX
    → IsHeap (record v { rows = v.rows ++ (key, fresh kind) ∷ []; born = v.born + 1 })
heap-more v good key kind is below =
    record {
      rising = rises-more 0 v.born v.rows key (fresh kind) is good.rising;
      few = let size = length-more v.rows (key, fresh kind) in omega arith;
      linked =
          all-more (λ (row : Key × Content). AllByRecursion (IsLive (v.rows ++ (key, fresh kind) ∷ [])) (targets row.1)) v.rows (key, fresh kind)
          (all-imply (λ (row : Key × Content). AllByRecursion (IsLive v.rows) (targets row.1))
          (λ (row : Key × Content). AllByRecursion (IsLive (v.rows ++ (key, fresh kind) ∷ [])) (targets row.1))
          (λ row all. all-imply (IsLive v.rows) (IsLive (v.rows ++ (key, fresh kind) ∷ [])) (λ k live. live-more v.rows ((key, fresh kind) ∷ []) k live)
          (targets row.1) all)
          v.rows good.linked)
          tt;
    }

pub paths-more : (rows : List (Key × Content)) (key : Key) (kind : TypeId) → count_by has_path (rows ++ (key, fresh kind) ∷ []) ≡ count_by has_path rows
paths-more rows key kind =
    let f : Key × Content → ℕ = λ row. cond {A = ℕ} (has_path row) 1 0 in
    omega (arith, sum_by-append f rows ((key, fresh kind) ∷ []), sum_by-cons f (key, fresh kind) [])

-- one note
pub noted-one : (note : Note) (log : Log) → noted_all (note ∷ []) log ≡ noted note log
unfolding noted_all
noted-one note log = refl

-- one type more
note-step : (n : ℕ) (ts : List TypeId) (place : ℕ) (d : TypeId) (first before after : Log) → place < length ts
    → before ≡ noted_all (finals_in n (take place ts)) first
    → after ≡ noted_all (if has_finalizer (get_or ts place d) then final_note n (get_or ts place d) ∷ [] else []) before
    → after ≡ noted_all (finals_in n (take (place + 1) ts)) first
note-step n ts place d first before after within is more =
    let t = get_or ts place d in
    let notes : List Note = if has_finalizer t then final_note n t ∷ [] else [] in
    more
    ∙ ap (λ (log : Log). noted_all notes log) is
    ∙ sym (parts_lem (finals_in n (take place ts)) notes first)
    ∙ ap (λ (ns : List Note). noted_all ns first)
    (sym (ap (λ (l : List TypeId). finals_in n l) (take_more ts place d within) ∙ finals_in-more n (take place ts) t))

-- all of them
note-all : (n : ℕ) (kind : TypeId) (ts : List TypeId) (place : ℕ) (first after : Log) → place ≤ length ts → length ts ≤ place → ts ≡ chain kind
    → after ≡ noted_all (finals_in n (take place ts)) first → after ≡ noted_all (final_notes n kind) first
note-all n kind ts place first after low high same is =
    let end : place ≡ length ts = omega arith in
    is ∙ ap (λ (l : List TypeId). noted_all (finals_in n l) first) (ap (λ (k : ℕ). take k ts) end ∙ take_all (length ts) ts (omega arith) ∙ same)

-- so it is of the heap whose log it is
pub heap-note-step : (n : ℕ) (ts : List TypeId) (place : ℕ) (d : TypeId) (first before after : Objects) → place < length ts
    → before ≡ record first { log = noted_all (finals_in n (take place ts)) first.log }
    → after
    ≡ record before { log = noted_all (if has_finalizer (get_or ts place d) then final_note n (get_or ts place d) ∷ [] else []) before.log }
    → after ≡ record first { log = noted_all (finals_in n (take (place + 1) ts)) first.log }
heap-note-step n ts place d first before after within is more =
    let t = get_or ts place d in
    let notes : List Note = if has_finalizer t then final_note n t ∷ [] else [] in
    let log : Log = noted_all (finals_in n (take place ts)) first.log in
    more
    ∙ ap (λ (v : Objects). record v { log = noted_all notes v.log }) is
    ∙ ap (λ (l : Log). record first { log = l }) (note-step n ts place d first.log log (noted_all notes log) within refl refl)

pub heap-note-all : (n : ℕ) (kind : TypeId) (ts : List TypeId) (place : ℕ) (first after : Objects) → place ≤ length ts → length ts ≤ place → ts ≡ chain kind
    → after ≡ record first { log = noted_all (finals_in n (take place ts)) first.log }
    → after ≡ record first { log = noted_all (final_notes n kind) first.log }
heap-note-all n kind ts place first after low high same is =
    is
    ∙ ap (λ (l : Log). record first { log = l }) (note-all n kind ts place first.log (noted_all (finals_in n (take place ts)) first.log) low high same refl)
