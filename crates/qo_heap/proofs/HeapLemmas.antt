-- What an edit of one object leaves of the heap.
use Rattle.std.proofs.Common.{◌≡◌, refl, ap, sym, subst, ◌∙◌, ℕ, zero, suc, Bool, true, false, cond, List, [], ◌∷◌, ◌++◌, length, filter_map, eqb, Option, Some, None, find, option_map, remove, is_some, slice_get, ◌||◌, Result, Ok, Err, OnErr, IfSome, ◌+◌, sum_by, count_by, arith}
use Rattle.std.specs.Option.{option_and_then, option_map_or}
use Rattle.std.specs.List.{AllByRecursion, cons_option, list_any}
use Rattle.qo_values.proofs.ListLemmas.{all-at, all-imply, found-has}
use Rattle.qo_values.specs.declared.properties.Val.{Val}
use Rattle.qo_slots.specs.declared.keys.Key.{Key}
use Rattle.qo_object.specs.declared.slots.Slot.{Slot}
use Rattle.qo_object.specs.declared.slots.Slot.TheVariants.{Plain, Child, Link, Alias}
use Rattle.std.specs.Str.{bytes_eq}
use Rattle.qo_object.specs.Slots.{Named, has_name, target_of, changed_at, let_go_at, pointed, with_val}
use Rattle.qo_object.specs.Content.{Content, is_parent, with_path, with_slot, dropped_at, pointed_at, set_at, cut_at}
use Rattle.qo_heap.specs.Rows.{IsLive, births, edited, edit, is_at, object_at}
use Rattle.qo_heap.proofs.TableSearch.{found-live}
use Rattle.qo_heap.proofs.RowsLemmas.{edit-as}
use Rattle.qo_heap.specs.Objects.{HasPlaces, IsHeap, Objects, content_of, has_path, parent_of, slots_of, targets, with_edit}
use Rattle.qo_events.specs.Queue.{Waiting, promised}
use Rattle.qo_heap.proofs.BookLemmas.{sum-changed, sum-edit}

module _ {T : Type 0} (n : ℕ) (f : T → T) where
  -- an edited row has its name
  pub edited-key : (row : Key × T) → (edited n f row).0 ≡ row.0
  edited-key row = by (is_at n row)
    where
      by : (b : Bool) → (cond b (row.0, f row.1) row).0 ≡ row.0
      by true = refl
      by false = refl

  -- births, the number of objects and who is there stay
  pub births-edit : (rows : List (Key × T)) → births (edit n f rows) ≡ births rows
  births-edit [] = refl
  births-edit (row ∷ rows) = rw (edited-key row) (ap (λ (l : List ℕ). row.0.birth ∷ l) (births-edit rows))

  pub length-edit : (rows : List (Key × T)) → length (edit n f rows) ≡ length rows
  length-edit [] = refl
  length-edit (row ∷ rows) = ap suc (length-edit rows)

  pub live-edit : (rows : List (Key × T)) (key : Key) → IsLive rows key → IsLive (edit n f rows) key
  live-edit [] key live = live
  live-edit (row ∷ rows) key live = by (eqb row.0.birth key.birth) refl (live-edit rows key)
    where
      by : (b : Bool) → eqb row.0.birth key.birth ≡ b → (IsLive rows key → IsLive (edit n f rows) key) → IsLive (edit n f (row ∷ rows)) key
      by true is rest = let here : row.0.index ≡ key.index = rw is at live in rw (edited-key row, is, edited-key row) here
      by false is rest = rw (edited-key row, is) (rest (rw is at live))

-- the targets of slots
abbrev pub targets_in : List (List ℕ × Slot) → List Key
targets_in slots = filter_map (λ (s : List ℕ × Slot). target_of s.1) slots

module _ (P : Key → Type 0) where
  pub holds-first : (o : Option Key) (keys : List Key) → AllByRecursion P (cons_option o keys) → IfSome o P × AllByRecursion P keys
  holds-first None keys all = (tt, all)
  holds-first (Some key) keys all = (all.0, all.1)

  pub holds-cons : (o : Option Key) (keys : List Key) → IfSome o P → AllByRecursion P keys → AllByRecursion P (cons_option o keys)
  holds-cons None keys here rest = rest
  holds-cons (Some key) keys here rest = (here, rest)

  -- each slot names what has the property
  pub each-names : (slots : List Named) → AllByRecursion P (targets_in slots) → AllByRecursion (λ (s : Named). IfSome (target_of s.1) P) slots
  each-names [] all = tt
  each-names (s ∷ slots) all = let (here, rest) = holds-first (target_of s.1) (targets_in slots) all in (here, each-names slots rest)

  -- targets of a slot that was changed, let go, added, removed
  pub targets-changed : (g : Slot → Slot) → ((s : Slot) → IfSome (target_of s) P → IfSome (target_of (g s)) P) → (i : ℕ) (slots : List (List ℕ × Slot))
      → AllByRecursion P (targets_in slots) → AllByRecursion P (targets_in (changed_at g i slots))
  targets-changed g keeps i [] all = all
  targets-changed g keeps zero (s ∷ slots) all =
      let (here, rest) = holds-first (target_of s.1) (targets_in slots) all in
      holds-cons (target_of (g s.1)) (targets_in slots) (keeps s.1 here) rest
  targets-changed g keeps (suc i) (s ∷ slots) all =
      let (here, rest) = holds-first (target_of s.1) (targets_in slots) all in
      holds-cons (target_of s.1) (targets_in (changed_at g i slots)) here (targets-changed g keeps i slots rest)

  pub targets-let_go : (i : ℕ) (slots : List (List ℕ × Slot)) → AllByRecursion P (targets_in slots) → AllByRecursion P (targets_in (let_go_at i slots))
  targets-let_go i [] all = all
  targets-let_go zero ((name, Plain val) ∷ slots) all = all
  targets-let_go zero ((name, Child key) ∷ slots) all = all.1
  targets-let_go zero ((name, Link ty strong None) ∷ slots) all = all
  targets-let_go zero ((name, Link ty strong (Some key)) ∷ slots) all = all.1
  targets-let_go zero ((name, Alias key of) ∷ slots) all = all
  targets-let_go (suc i) (s ∷ slots) all =
      let (here, rest) = holds-first (target_of s.1) (targets_in slots) all in
      holds-cons (target_of s.1) (targets_in (let_go_at i slots)) here (targets-let_go i slots rest)

  pub targets-removed : (i : ℕ) (slots : List (List ℕ × Slot)) → AllByRecursion P (targets_in slots) → AllByRecursion P (targets_in (remove slots i))
  targets-removed i [] all = rw (remove-nil i) tt
    where
      remove-nil : (i : ℕ) → remove {X = List ℕ × Slot} [] i ≡ []
      remove-nil zero = refl
      remove-nil (suc i) = refl
  targets-removed zero (s ∷ slots) all = (holds-first (target_of s.1) (targets_in slots) all).1
  targets-removed (suc i) (s ∷ slots) all =
      let (here, rest) = holds-first (target_of s.1) (targets_in slots) all in
      holds-cons (target_of s.1) (targets_in (remove slots i)) here (targets-removed i slots rest)

  pub targets-added : (name : List ℕ) (slot : Slot) (slots : List (List ℕ × Slot)) → AllByRecursion P (targets_in slots) → IfSome (target_of slot) P
      → AllByRecursion P (targets_in (slots ++ (name, slot) ∷ []))
  targets-added name slot [] all new = holds-cons (target_of slot) [] new tt
  targets-added name slot (s ∷ slots) all new =
      let (here, rest) = holds-first (target_of s.1) (targets_in slots) all in
      holds-cons (target_of s.1) (targets_in (slots ++ (name, slot) ∷ [])) here (targets-added name slot slots rest new)

  -- a link pointed at what has the property; a value set
  pub pointed-holds : (key : Key) → P key → (s : Slot) → IfSome (target_of s) P → IfSome (target_of (pointed key s)) P
  pointed-holds key new (Plain val) h = h
  pointed-holds key new (Child k) h = h
  pointed-holds key new (Link ty strong target) h = new
  pointed-holds key new (Alias k of) h = h

  pub valued-holds : (val : Val) (s : Slot) → IfSome (target_of s) P → IfSome (target_of (with_val val s)) P
  valued-holds val (Plain old) h = h
  valued-holds val (Child k) h = h
  valued-holds val (Link ty strong target) h = h
  valued-holds val (Alias k of) h = h

-- the targets of an object of linked ones
abbrev LinkedBy : List (Key × Content) → List (Key × Content) → Type 0
LinkedBy by rows = AllByRecursion (λ (row : Key × Content). AllByRecursion (IsLive by) (targets row.1)) rows

linked-at-by : (by rows : List (Key × Content)) → LinkedBy by rows → (n : ℕ) (c : Content) → object_at rows n ≡ Some c → AllByRecursion (IsLive by) (targets c)
linked-at-by by [] linked n c there = cc
linked-at-by by (row ∷ rows) linked n c there = go (eqb row.0.birth n) refl (linked-at-by by rows linked.1 n c)
  where
    go : (b : Bool) → eqb row.0.birth n ≡ b → (object_at rows n ≡ Some c → AllByRecursion (IsLive by) (targets c)) → AllByRecursion (IsLive by) (targets c)
    go true is later = let same : row.1 ≡ c = cc (rw is at there) in subst (λ (x : Content). AllByRecursion (IsLive by) (targets x)) same linked.0
    go false is later = later (rw is at there)

pub linked-at : (v : Objects) → IsHeap v → (n : ℕ) (c : Content) → content_of v n ≡ Some c → AllByRecursion (IsLive v.rows) (targets c)
linked-at v good n c there = linked-at-by v.rows v.rows good.linked n c there

-- what the slots of an object name is there
slots-live : (v : Objects) → IsHeap v → (n : ℕ) → AllByRecursion (λ (s : Named). IfSome (target_of s.1) (IsLive v.rows)) (slots_of v n)
slots-live v good n = go (content_of v n) refl
  where
    go : (o : Option Content) → content_of v n ≡ o
        → AllByRecursion (λ (s : Named). IfSome (target_of s.1) (IsLive v.rows)) (option_map_or (λ (c : Content). c.slots) o [])
    go None is = tt
    go (Some c) is = each-names (IsLive v.rows) c.slots (linked-at v good n c is)

-- so is what the slot at a place names, and what a slot that a search finds names
pub slot-live : (v : Objects) → IsHeap v → (n i : ℕ) (t : Named) → Some t ≡ slice_get (slots_of v n) i → IfSome (target_of t.1) (IsLive v.rows)
slot-live v good n i t e =
    subst (λ (o : Option Named). IfSome o (λ (s : Named). IfSome (target_of s.1) (IsLive v.rows))) (sym e)
    (all-at (λ (s : Named). IfSome (target_of s.1) (IsLive v.rows)) (slots_of v n) i (slots-live v good n))

pub target-live : (v : Objects) → IsHeap v → (n : ℕ) (p : Named → Bool) (t : Named) → Some t ≡ find p (slots_of v n) → IfSome (target_of t.1) (IsLive v.rows)
target-live v good n p t e = found-has (λ (s : Named). IfSome (target_of s.1) (IsLive v.rows)) p (slots_of v n) t (slots-live v good n) (sym e)

linked-edit-by : (by rows : List (Key × Content)) (n : ℕ) (d : Content) → LinkedBy by rows → AllByRecursion (IsLive by) (targets d)
    → LinkedBy by (edit n (λ _. d) rows)
linked-edit-by by [] n d linked new = tt
linked-edit-by by (row ∷ rows) n d linked new = (go (eqb row.0.birth n) refl, linked-edit-by by rows n d linked.1 new)
  where
    go : (b : Bool) → eqb row.0.birth n ≡ b → AllByRecursion (IsLive by) (targets (edited n (λ _. d) row).1)
    go true is = rw is new
    go false is = rw is linked.0

-- a heap whose object was changed to one that names objects which are there
pub heap-edited : (v : Objects) → IsHeap v → (n : ℕ) (d : Content) → AllByRecursion (IsLive v.rows) (targets d)
    → IsHeap (record v { rows = edit n (λ _. d) v.rows })
heap-edited v good n d new =
    record {
      rising = rw (births-edit n (λ _. d) v.rows) good.rising;
      few = rw (length-edit n (λ _. d) v.rows) good.few;
      linked =
          all-imply (λ (row : Key × Content). AllByRecursion (IsLive v.rows) (targets row.1))
          (λ (row : Key × Content). AllByRecursion (IsLive (edit n (λ _. d) v.rows)) (targets row.1))
          (λ row all. all-imply (IsLive v.rows) (IsLive (edit n (λ _. d) v.rows)) (λ key live. live-edit n (λ _. d) v.rows key live) (targets row.1) all)
          (edit n (λ _. d) v.rows)
          (linked-edit-by v.rows v.rows n d good.linked new);
    }

-- the object that was written is the edit of what was there
pub edit-is : (v : Objects) → IsHeap v → (n : ℕ) (f : Content → Content) (c d : Content) → content_of v n ≡ Some c → d ≡ f c
    → record v { rows = edit n (λ _. d) v.rows } ≡ with_edit n f v
edit-is v good n f c d there is = ap (λ (rows : List (Key × Content)). record v { rows = rows }) (edit-as n f c d 0 v.born v.rows good.rising there is)

-- the targets of an object of the heap that was edited
abbrev pub AreThere : Objects → Content → Type 0
AreThere v c = AllByRecursion (IsLive v.rows) (targets c)

pub dropped-there : (v : Objects) (i : ℕ) (c : Content) → AreThere v c → AreThere v (dropped_at i c)
dropped-there v i c all = targets-let_go (IsLive v.rows) i c.slots all

pub pointed-there : (v : Objects) (key : Key) (i : ℕ) (c : Content) → IsLive v.rows key → AreThere v c → AreThere v (pointed_at key i c)
pointed-there v key i c live all = targets-changed (IsLive v.rows) (pointed key) (pointed-holds (IsLive v.rows) key live) i c.slots all

pub set-there : (v : Objects) (val : Val) (i : ℕ) (c : Content) → AreThere v c → AreThere v (set_at val i c)
set-there v val i c all = targets-changed (IsLive v.rows) (with_val val) (valued-holds (IsLive v.rows) val) i c.slots all

pub cut-there : (v : Objects) (i : ℕ) (c : Content) → AreThere v c → AreThere v (cut_at i c)
cut-there v i c all = targets-removed (IsLive v.rows) i c.slots all

pub added-there : (v : Objects) (name : List ℕ) (slot : Slot) (c : Content) → IfSome (target_of slot) (IsLive v.rows) → AreThere v c
    → AreThere v (with_slot name slot c)
added-there v name slot c new all = targets-added (IsLive v.rows) name slot c.slots all new

-- a heap whose object was changed by an edit that names what is there
pub record Edited (v : Objects) (n : ℕ) (f : Content → Content) (d : Content) : Type 0 where
  pub good : IsHeap (record v { rows = edit n (λ _. d) v.rows }) × HasPlaces (record v { rows = edit n (λ _. d) v.rows })
  pub now : record v { rows = edit n (λ _. d) v.rows } ≡ with_edit n f v

-- an edit that keeps the path keeps the number of paths
paths-edit : (n : ℕ) (f : Content → Content) → ((x : Content) → is_some (f x).kept_path ≡ is_some x.kept_path) → (rows : List (Key × Content))
    → count_by has_path (edit n f rows) ≡ count_by has_path rows
paths-edit n f same rows =
    sum-edit (λ (row : Key × Content). cond {A = ℕ} (has_path row) 1 0) n f (λ row. ap (λ (b : Bool). cond {A = ℕ} b 1 0) (same row.1)) rows

pub edited-heap : (v : Objects) → IsHeap v × HasPlaces v → (n : ℕ) (f : Content → Content) (c d : Content) → content_of v n ≡ Some c → d ≡ f c
    → ((x : Content) → AreThere v x → AreThere v (f x)) → ((x : Content) → is_some (f x).kept_path ≡ is_some x.kept_path) → Edited v n f d
edited-heap v good n f c d there is keeps paths =
    let now = edit-is v good.0 n f c d there is in
    record {
      good = (
        heap-edited v good.0 n d (subst (λ (x : Content). AreThere v x) (sym is) (keeps c (linked-at v good.0 n c there))),
        subst (λ (w : Objects). HasPlaces w) (sym now) (good.1 ∙ sym (paths-edit n f paths v.rows)),
      );
      now = now;
    }

-- a path is kept where none was: there is one more
pub path-kept : (v : Objects) → IsHeap v → (n : ℕ) (path : List ℕ) (c : Content) → content_of v n ≡ Some c → c.kept_path ≡ None
    → count_by has_path (edit n (with_path path) v.rows) ≡ count_by has_path v.rows + 1
path-kept v good n path c there none =
    let f : Key × Content → ℕ = λ row. cond {A = ℕ} (has_path row) 1 0 in
    let sums : sum_by f (edit n (with_path path) v.rows) + f (record { index = 0; birth = 0 }, c) ≡ sum_by f v.rows
    + f (record { index = 0; birth = 0 }, with_path path c) = sum-changed f n (with_path path) 0 v.born v.rows good.rising c there (λ key d. refl) in
    let was : f (record { index = 0; birth = 0 }, c) ≡ 0 = ap (λ (o : Option (List ℕ)). cond {A = ℕ} (is_some o) 1 0) none in
    omega (arith, sums, was)

-- a heap in which a path is kept where none was, for which a place was promised
pub record KeptPath (v : Objects) (n : ℕ) (path : List ℕ) (d : Content) (w : Waiting) : Type 0 where
  pub good : IsHeap (record v { rows = edit n (λ _. d) v.rows; events = w }) × HasPlaces (record v { rows = edit n (λ _. d) v.rows; events = w })
  pub now : record v { rows = edit n (λ _. d) v.rows; events = w } ≡ record (with_edit n (with_path path) v) { events = promised v.events }

pub path-heap : (v : Objects) → IsHeap v × HasPlaces v → (n : ℕ) (path : List ℕ) (c d : Content) → content_of v n ≡ Some c → d ≡ with_path path c
    → c.kept_path ≡ None → (w : Waiting) → w ≡ promised v.events → KeptPath v n path d w
path-heap v good n path c d there is none w place =
    let rows : edit n (λ _. d) v.rows ≡ edit n (with_path path) v.rows = edit-as n (with_path path) c d 0 v.born v.rows good.0.rising there is in
    let same = heap-edited v good.0 n d (subst (λ (x : Content). AreThere v x) (sym is) (linked-at v good.0 n c there)) in
    record {
      good = (
        record { rising = same.rising; few = same.few; linked = same.linked },
        ap (λ (x : Waiting). x.promised) place ∙ ap (λ (k : ℕ). k + 1) good.1 ∙ sym (path-kept v good.0 n path c there none)
            ∙ ap (λ (l : List (Key × Content)). count_by has_path l) (sym rows),
      );
      now = λ j. record v { rows = rows j; events = place j };
    }

-- what an option has, where nothing comes of it
pub none-of : {T : Type 0} (get : Content → Option T) (o : Option Content) (c : Content) → o ≡ Some c → option_and_then get o ≡ None → get c ≡ None
none-of {T = T} get o c is none = subst (λ (x : Option Content). option_and_then get x ≡ None) is none

-- an edit that changes nothing
pub edit-nothing : (n : ℕ) (f : Content → Content) → ((c : Content) → f c ≡ c) → (v : Objects) → with_edit n f v ≡ v
edit-nothing n f same v = ap (λ (rows : List (Key × Content)). record v { rows = rows }) (go v.rows)
  where
    go : (rows : List (Key × Content)) → edit n f rows ≡ rows
    go [] = refl
    go (row ∷ rows) = by (eqb row.0.birth n) refl (go rows)
      where
        by : (t : Bool) → eqb row.0.birth n ≡ t → edit n f rows ≡ rows → edit n f (row ∷ rows) ≡ row ∷ rows
        by true is rest = rw is (λ j. (row.0, same row.1 j) ∷ rest j)
        by false is rest = rw is (ap (λ (l : List (Key × Content)). row ∷ l) rest)

pub edit-same : (n : ℕ) (v : Objects) → with_edit n (λ (x : Content). x) v ≡ v
edit-same n v = edit-nothing n (λ (x : Content). x) (λ c. refl) v

-- what holds anyway holds where there is an error
pub on-err : {T E : Type 0} {P : Type 0} (r : Result T E) → P → OnErr r P
on-err (Ok x) p = tt
on-err (Err e) p = p

-- a search finds where a member passes
pub is_some-find : {X : Type 0} (p : X → Bool) (xs : List X) → is_some (find p xs) ≡ list_any p xs
is_some-find p [] = refl
is_some-find p (x ∷ xs) = go (p x) (is_some-find p xs)
  where
    go : (b : Bool) → is_some (find p xs) ≡ list_any p xs → is_some (cond b (Some x) (find p xs)) ≡ (b || list_any p xs)
    go true rest = refl
    go false rest = rest

-- a slot was found by name exactly where there is one of that name
pub found-named : {X : Type 0} (f : X → List ℕ × Slot) (o : Option X) (slots : List (List ℕ × Slot)) (name : List ℕ) (b : Bool)
    → option_map f o ≡ find (λ (s : List ℕ × Slot). bytes_eq name s.0) slots → is_some o ≡ b → has_name name slots ≡ b
found-named {X = X} f o slots name b there is =
    sym (is_some-find (λ (s : List ℕ × Slot). bytes_eq name s.0) slots) ∙ ap (λ (x : Option (List ℕ × Slot)). is_some x) (sym there) ∙ go o ∙ is
  where
    go : (x : Option X) → is_some (option_map f x) ≡ is_some x
    go None = refl
    go (Some x) = refl

-- the parent of an object is there
pub parent-live : (v : Objects) → IsHeap v → (n : ℕ) (key : Key) → parent_of v n ≡ Some key → IsLive v.rows key
parent-live v good n key e = found-live (λ (row : Key × Content). is_parent n row.1) 0 v.born v.rows key good.rising e
