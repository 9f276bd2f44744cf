-- What the fields of a heap stand for, and what an edit of one object leaves of them.
use Rattle.std.proofs.Common.{◌≡◌, refl, ap, sym, subst, ◌∙◌, ℕ, ◌+◌, ◌*◌, ◌^◌, ◌<◌, ◌≤◌, List, [], ◌∷◌, ◌++◌, map, length, min, sum_by, count_by, Result, Ok, Err, IfOk, IfErr, Option, Some, None, option_map, is_some, arith}
use Rattle.std.specs.List.{AllByRecursion}
use Rattle.std.proofs.lemmas.Option.{same_Some}
use Rattle.qo_values.specs.declared.kinds.TypeId.{TypeId}
use Rattle.qo_values.specs.declared.limits.TheConstants.{LIVE_OBJECTS_MAX, NOTES_KEPT}
use Rattle.qo_values.proofs.ListLemmas.{all-imply}
use Rattle.qo_claims.specs.Book.{ClaimsTaken}
use Rattle.qo_events.specs.Queue.{Waiting, promised}
use Rattle.qo_slots.specs.declared.keys.Key.{Key}
use Rattle.qo_slots.specs.Table.{Table, with_value}
use Rattle.qo_object.specs.Slots.{Named}
use Rattle.qo_object.specs.Content.{Content, fresh, reference_count, with_path}
use Rattle.qo_heap.specs.Keeping.{IsCounted, IsKept, IsShort, all_less, all_more, entry_forgets, holders, holds_in, owners, parent_in, plain, unheld, with_object}
use Rattle.qo_heap.specs.Order.{IsOrdered, rows_in}
use Rattle.qo_heap.specs.Rows.{IsLive, edit, object_at, without}
use Rattle.qo_heap.specs.Objects.{HasPlaces, IsHeap, Objects, content_of, forgets, has_path, objects_in, refs_of, with_edit}
use Rattle.qo_heap.specs.WeakLinks.{weak_names}
use Rattle.qo_heap.specs.WeakLists.{HasWeakLists}
use Rattle.qo_heap.specs.declared.entries.Entry.{Entry}
use Rattle.qo_heap.specs.declared.entries.Hold.{Hold}
use Rattle.qo_heap.specs.declared.heap.Heap.TheInside.{Inside}
use Rattle.qo_heap.proofs.BoardObjects.{live-content}
use Rattle.qo_heap.proofs.EndLemmas.{heap-ended, heap-more, paths-more}
use Rattle.qo_heap.proofs.HeapLemmas.{AreThere, Edited, KeptPath, edited-heap, path-heap, targets_in}
use Rattle.qo_heap.proofs.HoldLemmas.{Moves, child_of_birth, no-moves}
use Rattle.qo_heap.proofs.KeepingLemmas.{all-object, counted-lost, counted-won, holders-few, kept-as, live-entry, object-counted, once-lost, once-won, plain-edited, plain-left, plain-less, plain-more, plain-there, short-after}
use Rattle.qo_heap.proofs.KeptEnds.{kept-ended, kept-made, unborn}
use Rattle.qo_heap.proofs.RowsLemmas.{edit-as, rows-rise}
use Rattle.qo_heap.proofs.ValueLemmas.{Written, written}
use Rattle.qo_heap.proofs.WeakCalls.{made-lists}
use Rattle.qo_heap.proofs.WeakChanges.{same-lists}

-- the objects that the fields of a heap stand for, and these with what is kept of them
abbrev pub objects_inside : Inside → Objects
objects_inside h = objects_in h.table h.order.items h.claims h.notes.items h.total h.time h.events

abbrev pub entries : Inside → List (Key × Entry)
entries h = rows_in h.table h.order.items

-- what is so of the fields of every heap
abbrev pub IsInside : Inside → Type 0
IsInside h =
    (IsHeap (objects_inside h) × HasPlaces (objects_inside h))
    × (IsOrdered h.table h.order.items
    × (IsKept (entries h) × (HasWeakLists (entries h) × ((h.notes.capacity ≡ NOTES_KEPT) × (length h.notes.items ≡ min h.total NOTES_KEPT)))))

-- what is kept of an object that is there
pub counted-there : (h : Inside) → IsInside h → (o : Key) (e : Entry) → object_at (entries h) o.birth ≡ Some e
    → (e.held ≡ holders o.birth (objects_inside h).rows) × (e.parent ≡ parent_in (objects_inside h).rows o.birth)
counted-there h good o e there =
    all-object (λ (n : ℕ) (x : Entry). (x.held ≡ holders n (objects_inside h).rows) × (x.parent ≡ parent_in (objects_inside h).rows n)) (entries h)
    (all-imply (IsCounted (objects_inside h).rows)
    (λ (row : Key × Entry). (row.1.held ≡ holders row.0.birth (objects_inside h).rows) × (row.1.parent ≡ parent_in (objects_inside h).rows row.0.birth))
    (λ row counted. (counted.held, counted.parent)) (entries h) good.1.1.0.counts)
    o.birth e there

-- it is held at most so often
pub held-few : (h : Inside) → IsInside h → (x : ℕ) → holders x (objects_inside h).rows ≤ 281474976710656
held-few h good x =
    let few : length (objects_inside h).rows ≤ LIVE_OBJECTS_MAX = good.0.0.few in
    let all : holders x (objects_inside h).rows ≤ length (objects_inside h).rows * 4294967296 = holders-few x (objects_inside h).rows good.1.1.0.short in
    omega arith

pub entries-few : (h : Inside) → IsInside h → AllByRecursion (λ (row : Key × Entry). row.1.held ≤ 281474976710656) (entries h)
entries-few h good =
    all-imply (IsCounted (objects_inside h).rows) (λ (row : Key × Entry). row.1.held ≤ 281474976710656)
    (λ row counted. omega (arith, counted.held, held-few h good row.0.birth)) (entries h) good.1.1.0.counts

-- it has not too many slots
pub short-own : (h : Inside) → IsInside h → (o : Key) (e : Entry) → object_at (entries h) o.birth ≡ Some e → length e.object.slots ≤ 2 ^ 32
short-own h good o e there =
    all-object (λ (n : ℕ) (c : Content). length c.slots ≤ 2 ^ 32) (objects_inside h).rows good.1.1.0.short o.birth e.object (plain-there (entries h) o.birth e there)

-- a table in which one object was changed, and what is kept of each is right
pub record Changes (h : Inside) (o : Key) (f : Content → Content) (t : Table Entry) : Type 0 where
  pub ordered : IsOrdered t h.order.items
  pub rows : plain (rows_in t h.order.items) ≡ edit o.birth f (objects_inside h).rows
  pub kept : IsKept (rows_in t h.order.items)
  pub born : t.born ≡ h.table.born

-- a heap in whose table one object was changed by an edit that names what is there
pub record EditedInside (h : Inside) (o : Key) (f : Content → Content) (t : Table Entry) : Type 0 where
  pub good : IsInside (record h { table = t })
  pub now : objects_inside (record h { table = t }) ≡ with_edit o.birth f (objects_inside h)

pub changed-inside : (h : Inside) → IsInside h → (o : Key) → IsLive (objects_inside h).rows o → (f : Content → Content) (t : Table Entry) → Changes h o f t
    → HasWeakLists (rows_in t h.order.items) → ((x : Content) → AreThere (objects_inside h) x → AreThere (objects_inside h) (f x))
    → ((x : Content) → is_some (f x).kept_path ≡ is_some x.kept_path) → EditedInside h o f t
changed-inside h good o live f t changes lists keeps paths =
    let v : Objects = objects_inside h in
    let (c, there) = live-content v o live in
    let edited : Edited v o.birth f (f c) = edited-heap v good.0 o.birth f c (f c) there refl keeps paths in
    let now : objects_inside (record h { table = t }) ≡ with_edit o.birth f v = λ j. record v { rows = changes.rows j; born = changes.born j } in
    record {
      good = (subst (λ (w : Objects). IsHeap w × HasPlaces w) (edited.now ∙ sym now) edited.good, (changes.ordered, (changes.kept, (lists, good.1.1.1.1))));
      now = now;
    }

-- the table with an entry written, and an entry with its object written
abbrev pub with_written : Inside → Key → Entry → Table Entry
with_written h o w = with_value h.table o w

abbrev pub with_content : Entry → Content → Entry
with_content e d = record e { object = d }

pub content-written : (f : Content → Content) (e : Entry) (d : Content) → d ≡ f e.object → with_content e d ≡ with_object f e
content-written f e d is = ap (with_content e) is

-- what is read of an object that is there
pub read-there : {T : Type 0} (get : Content → T) (o : Option Content) (c : Content) (x : T) → o ≡ Some c → option_map get o ≡ Some x → get c ≡ x
read-there get o c x is got = same_Some (get c) x (sym (ap (option_map get) is) ∙ got)

-- the entry of a name is written, its object changed
module _ (h : Inside) (good : IsInside h) (o : Key) (live : IsLive (objects_inside h).rows o) (f : Content → Content) (e w : Entry)
    (there : object_at (entries h) o.birth ≡ Some e) (is : w ≡ with_object f e) where
  write : Written h.table h.order.items o w
  write = written h.table h.order.items good.1.0 o (live-entry (entries h) o live) w

  pub ordered-written : IsOrdered (with_written h o w) h.order.items
  ordered-written = write.ordered

  pub rows-written : rows_in (with_written h o w) h.order.items ≡ edit o.birth (with_object f) (entries h)
  rows-written =
      write.rows
      ∙ edit-as o.birth (with_object f) e w 0 h.table.born (entries h) (rows-rise h.table h.order.items good.1.0) there is

  pub plain-written : plain (rows_in (with_written h o w) h.order.items) ≡ edit o.birth f (objects_inside h).rows
  plain-written = ap plain rows-written ∙ plain-edited o.birth f (entries h)

  pub there-plain : content_of (objects_inside h) o.birth ≡ Some e.object
  there-plain = plain-there (entries h) o.birth e there

  pub counted-written : AllByRecursion (IsCounted (objects_inside h).rows) (edit o.birth (with_object f) (entries h))
  counted-written = object-counted (objects_inside h).rows o.birth f (entries h) good.1.1.0.counts

  short-written : length (f e.object).slots ≤ 2 ^ 32 → AllByRecursion IsShort (edit o.birth f (objects_inside h).rows)
  short-written few = short-after (objects_inside h).rows h.table.born good.0.0.rising o live f e.object there-plain few good.1.1.0.short

  -- holds came to be with it, and are counted then
  pub changes-won : (won : List Hold) → Moves e.object (f e.object) [] won → length (f e.object).slots ≤ 2 ^ 32
      → ((x : ℕ) → sum_by (child_of_birth x) won + owners x (objects_inside h).rows ≤ 1) → (t : Table Entry) → IsOrdered t h.order.items
      → rows_in t h.order.items ≡ all_more o won (rows_in (with_written h o w) h.order.items) → t.born ≡ h.table.born → Changes h o f t
  changes-won won moves few free t ordered rows born =
      let v : List (Key × Content) = (objects_inside h).rows in
      let all : rows_in t h.order.items ≡ all_more o won (edit o.birth (with_object f) (entries h)) = rows ∙ ap (all_more o won) rows-written in
      let same : plain (all_more o won (edit o.birth (with_object f) (entries h))) ≡ edit o.birth f v =
      plain-more o won (edit o.birth (with_object f) (entries h)) ∙ plain-edited o.birth f (entries h) in
      record {
        ordered = ordered;
        rows = ap plain all ∙ same;
        kept = subst IsKept (sym all)
            (kept-as (all_more o won (edit o.birth (with_object f) (entries h))) (edit o.birth f v) same
            (once-won v h.table.born good.0.0.rising o live f e.object there-plain won moves free) (short-written few)
            (counted-won v h.table.born good.0.0.rising o live f e.object there-plain won moves free (edit o.birth (with_object f) (entries h)) counted-written));
        born = born;
      }

  -- holds ended with it, and are no longer counted
  pub changes-lost : (lost : List Hold) → Moves e.object (f e.object) lost [] → length (f e.object).slots ≤ 2 ^ 32 → (t : Table Entry)
      → IsOrdered t h.order.items → rows_in t h.order.items ≡ all_less lost (rows_in (with_written h o w) h.order.items) → t.born ≡ h.table.born → Changes h o f t
  changes-lost lost moves few t ordered rows born =
      let v : List (Key × Content) = (objects_inside h).rows in
      let all : rows_in t h.order.items ≡ all_less lost (edit o.birth (with_object f) (entries h)) = rows ∙ ap (all_less lost) rows-written in
      let same : plain (all_less lost (edit o.birth (with_object f) (entries h))) ≡ edit o.birth f v =
      plain-less lost (edit o.birth (with_object f) (entries h)) ∙ plain-edited o.birth f (entries h) in
      record {
        ordered = ordered;
        rows = ap plain all ∙ same;
        kept = subst IsKept (sym all)
            (kept-as (all_less lost (edit o.birth (with_object f) (entries h))) (edit o.birth f v) same
            (once-lost v h.table.born good.0.0.rising o live f e.object there-plain lost moves good.1.1.0.once) (short-written few)
            (counted-lost v h.table.born good.0.0.rising o live f e.object there-plain lost moves good.1.1.0.once (edit o.birth (with_object f) (entries h))
            counted-written));
        born = born;
      }

  -- no hold came to be or ended
  pub changes-kept : Moves e.object (f e.object) [] [] → length (f e.object).slots ≤ 2 ^ 32 → Changes h o f (with_written h o w)
  changes-kept moves few = changes-won [] moves few (λ x. omega (arith, good.1.1.0.once x)) (with_written h o w) ordered-written refl refl

  short-there : length e.object.slots ≤ 2 ^ 32
  short-there = all-object (λ (n : ℕ) (c : Content). length c.slots ≤ 2 ^ 32) (objects_inside h).rows good.1.1.0.short o.birth e.object there-plain

  -- there are no more slots than before
  pub few-there : length (f e.object).slots ≤ length e.object.slots → length (f e.object).slots ≤ 2 ^ 32
  few-there less =
      let few : length e.object.slots ≤ 4294967296 = short-there in
      let all : length (f e.object).slots ≤ 4294967296 = omega (arith, few, less) in
      all

  -- what its weak links name stays
  pub weak-written : weak_names (f e.object).slots ≡ weak_names e.object.slots → HasWeakLists (rows_in (with_written h o w) h.order.items)
  weak-written same =
      subst HasWeakLists (sym write.rows)
      (same-lists h.table.born (entries h) (rows-rise h.table h.order.items good.1.0) good.1.1.1.0 o (live-entry (entries h) o live) e w there
      (ap (λ (x : Entry). x.links) is) (ap (λ (x : Entry). weak_names x.object.slots) is ∙ same))

  -- an edit that leaves the slots
  pub quiet-changes : ((x : Content) → (f x).slots ≡ x.slots) → Changes h o f (with_written h o w)
  quiet-changes slots =
      changes-kept (no-moves e.object (f e.object) (ap holds_in (slots e.object)))
      (subst (λ (l : List Named). length l ≤ 2 ^ 32) (sym (slots e.object)) short-there)

  pub quiet-written : ((x : Content) → (f x).slots ≡ x.slots) → ((x : Content) → is_some (f x).kept_path ≡ is_some x.kept_path)
      → EditedInside h o f (with_written h o w)
  quiet-written slots paths =
      changed-inside h good o live f (with_written h o w) (quiet-changes slots) (weak-written (ap weak_names (slots e.object)))
      (λ x all. subst (λ (l : List Named). AllByRecursion (IsLive (objects_inside h).rows) (targets_in l)) (sym (slots x)) all) paths

-- an edit that leaves the slots, of an object that is read and written
pub quiet-inside : (h : Inside) → IsInside h → (o : Key) → IsLive (objects_inside h).rows o → (f : Content → Content) (e : Entry) (d : Content)
    → object_at (entries h) o.birth ≡ Some e → d ≡ f e.object → ((x : Content) → (f x).slots ≡ x.slots)
    → ((x : Content) → is_some (f x).kept_path ≡ is_some x.kept_path) → EditedInside h o f (with_written h o (with_content e d))
quiet-inside h good o live f e d there is slots paths =
    quiet-written h good o live f e (with_content e d) there (content-written f e d is) slots paths

-- a heap in which a path was kept where none was, for which a place was promised
pub record KeptInside (h : Inside) (o : Key) (path : List ℕ) (t : Table Entry) (w : Waiting) : Type 0 where
  pub good : IsInside (record h { table = t; events = w })
  pub now : objects_inside (record h { table = t; events = w }) ≡ record (with_edit o.birth (with_path path) (objects_inside h)) { events = promised h.events }

pub path-inside : (h : Inside) → IsInside h → (o : Key) → IsLive (objects_inside h).rows o → (path : List ℕ) (e : Entry) (d : Content)
    → object_at (entries h) o.birth ≡ Some e → d ≡ with_path path e.object → e.object.kept_path ≡ None → (w : Waiting) → w ≡ promised h.events
    → KeptInside h o path (with_written h o (with_content e d)) w
path-inside h good o live path e d there is none w place =
    let v : Objects = objects_inside h in
    let plain-at : content_of v o.birth ≡ Some e.object = plain-there (entries h) o.birth e there in
    let kept : KeptPath v o.birth path d w = path-heap v good.0 o.birth path e.object d plain-at is none w place in
    let changes : Changes h o (with_path path) (with_written h o (with_content e d)) =
    quiet-changes h good o live (with_path path) e (with_content e d) there (content-written (with_path path) e d is) (λ x. refl) in
    let rows : plain (rows_in (with_written h o (with_content e d)) h.order.items) ≡ edit o.birth (λ _. d) v.rows =
    changes.rows ∙ sym (edit-as o.birth (with_path path) e.object d 0 v.born v.rows good.0.0.rising plain-at is) in
    record {
      good = (
        subst (λ (rows : List (Key × Content)). IsHeap (record v { rows = rows; events = w }) × HasPlaces (record v { rows = rows; events = w }))
            (sym rows) kept.good,
        (
          changes.ordered,
          (
            changes.kept,
            (
              weak-written h good o live (with_path path) e (with_content e d) there (content-written (with_path path) e d is) refl,
              good.1.1.1.1,
            ),
          ),
        ),
      );
      now = ap (λ (rows : List (Key × Content)). record v { rows = rows; events = w }) rows ∙ kept.now;
    }

-- what is so of the objects of a table, with what stands beside them
abbrev pub IsTable : Table Entry → List Key → Objects → Type 0
IsTable t order v =
    (IsHeap (record v { rows = plain (rows_in t order); born = t.born }) × HasPlaces (record v { rows = plain (rows_in t order); born = t.born }))
    × (IsKept (rows_in t order) × HasWeakLists (rows_in t order))

-- an object was made, or none was
pub made-inside : (h : Inside) → IsInside h → (kind : TypeId) → length (objects_inside h).rows < LIVE_OBJECTS_MAX → (r : Result Key Content) (t : Table Entry)
    (order : List Key)
    → IfOk r (λ key. (key.birth ≡ h.table.born + 1) × ((plain (rows_in t order) ≡ (objects_inside h).rows ++ (key, fresh kind) ∷ []) × (t.born ≡ h.table.born + 1)))
    → IfOk r (λ key. rows_in t order ≡ entries h ++ (key, unheld (fresh kind)) ∷ [])
    → IfErr r (λ back. (back ≡ fresh kind) × ((rows_in t order ≡ entries h) × (t.born ≡ h.table.born))) → IsTable t order (objects_inside h)
made-inside h good kind below (Ok key) t order made kept back =
    let v : Objects = objects_inside h in
    let now : record v { rows = plain (rows_in t order); born = t.born } ≡ record v { rows = v.rows ++ (key, fresh kind) ∷ []; born = v.born + 1 } =
    λ j. record v { rows = made.1.0 j; born = made.1.1 j } in
    let new : object_at v.rows key.birth ≡ None = unborn key.birth 0 v.born v.rows (let next : key.birth ≡ v.born + 1 = made.0 in omega arith) good.0.0.rising in (
      subst (λ (w : Objects). IsHeap w × HasPlaces w) (sym now) (heap-more v good.0.0 key kind made.0 below, good.0.1 ∙ sym (paths-more v.rows key kind)),
      (
        subst IsKept (sym kept) (kept-made (entries h) good.1.1.0 good.0.0.linked key kind new),
        subst HasWeakLists (sym kept) (made-lists (entries h) good.1.1.1.0 key kind),
      ),
    )
made-inside h good kind below (Err c) t order made kept back =
    let v : Objects = objects_inside h in
    let now : record v { rows = plain (rows_in t order); born = t.born } ≡ v = λ j. record v { rows = plain (back.1.0 j); born = back.1.1 j } in
    (subst (λ (w : Objects). IsHeap w × HasPlaces w) (sym now) good.0, (subst IsKept (sym back.1.0) good.1.1.0, subst HasWeakLists (sym back.1.0) good.1.1.1.0))

-- an object ended
pub ended-inside : (h : Inside) → IsInside h → (o : Key) → refs_of (objects_inside h) o.birth ≡ 0 → (c : Content)
    → content_of (objects_inside h) o.birth ≡ Some c → reference_count c ≡ 0 → (t : Table Entry) (order : List Key)
    → rows_in t order ≡ map (entry_forgets o.birth) (without o.birth (entries h)) → t.born ≡ h.table.born → HasWeakLists (rows_in t order) → (claims : ClaimsTaken) (events : Waiting)
    → events.promised ≡ count_by has_path (map (forgets o.birth) (without o.birth (objects_inside h).rows))
    → IsTable t order (record (objects_inside h) { claims = claims; events = events })
ended-inside h good o free c there bare t order rows born lists claims events places =
    let v : Objects = objects_inside h in
    let plain-rows : plain (rows_in t order) ≡ map (forgets o.birth) (without o.birth v.rows) = ap plain rows ∙ plain-left o.birth (entries h) in
    let now : record v { rows = plain (rows_in t order); born = t.born; claims = claims; events = events }
    ≡ record v { rows = map (forgets o.birth) (without o.birth v.rows); claims = claims; events = events } =
    λ j. record v { rows = plain-rows j; born = born j; claims = claims; events = events } in (
      subst (λ (w : Objects). IsHeap w × HasPlaces w) (sym now) (heap-ended v good.0.0 o.birth free v.log claims events, places),
      (subst IsKept (sym rows) (kept-ended (entries h) h.table.born o.birth good.1.1.0 good.0.0.rising c there bare), lists),
    )
