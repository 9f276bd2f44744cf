-- The newest object of a heap.
use Rattle.std.proofs.Common.{◌≡◌, refl, ap, sym, subst, ◌∙◌, ℕ, ◌+◌, ◌-◌, ◌<◌, ◌≤◌, Bool, true, false, cond, ◌==◌, eqb, List, [], ◌∷◌, ◌++◌, map, filter_map, count_by, sum_by, Option, Some, None, is_some, option_map, IfSome, IsSomeAnd, inl, inr, replicate, arith}
use Rattle.std.specs.List.{AllByRecursion}
use Rattle.std.specs.Option.{option_map_or}
use Rattle.std.proofs.lemmas.Bool.{eqb-true, eq-eqb}
use Rattle.std.proofs.lemmas.List.Sums.{sum_by-cons, sum_by-append}
use Rattle.qo_values.specs.declared.births.TheConstants.{OBJECTS_BIRTH}
use Rattle.qo_values.specs.declared.kinds.TypeId.{TypeId}
use Rattle.qo_kinds.specs.Bodies.{kept_of, none_kept}
use Rattle.qo_kinds.proofs.BodyLemmas.{fresh-registers}
use Rattle.qo_heap.specs.Objects.{without_kept, with_kept_event, without_device}
use Rattle.qo_slots.specs.declared.keys.Key.{Key}
use Rattle.qo_heap.specs.Rows.{IsLive, Rises, births, edit, object_at, row_at, without}
use Rattle.qo_heap.proofs.RowsLemmas.{rises-up}
use Rattle.qo_values.specs.Registers.{fresh_registers}
use Rattle.qo_model.specs.Board as board
use Rattle.qo_model.specs.Board.{Board}
use Rattle.qo_model.specs.Changes.{add, with_added}
use Rattle.qo_model.specs.Release.{edited}
use Rattle.qo_model.specs.Objects.{Given, given_slots, with_attempt, with_object}
use Rattle.qo_heap.proofs.Logs.{all_lem}
use Rattle.qo_object.specs.Content.{Content, fresh, with_all_slots, reference_count, holding, with_slot, without_pin, as_made}
use Rattle.qo_object.specs.Slots.{Named, forgotten_in, holds, is_born, referent, target_of}
use Rattle.qo_object.specs.declared.slots.Slot.{Slot}
use Rattle.qo_object.specs.declared.slots.Slot.TheVariants.{Plain, Child, Link, Alias}
use Rattle.qo_object.specs.BoardObject.{shown_slots}
use Rattle.std.proofs.lemmas.List.{map-append}
use Rattle.qo_heap.specs.Board.{Shows, pins_in, record_of}
use Rattle.qo_heap.proofs.HeapLemmas.{each-names, live-edit}
use Rattle.qo_values.proofs.ListLemmas.{all-imply}
use Rattle.qo_heap.proofs.BoardChanges.{shows-added}
use Rattle.qo_heap.specs.Objects.{IsHeap, Objects, content_of, ended, final_notes, forgets, pins_of, refs_of, slots_of, targets, with_edit}
use Rattle.qo_heap.proofs.BoardObjects.{content-edited, live-content}
use Rattle.std.proofs.lemmas.Option.{same_Some}
use Rattle.qo_heap.specs.Log.{IsLogOf, empty_log, noted_all}
use Rattle.qo_life.specs.Life.{init_notes, with_log}
use Rattle.qo_life.proofs.TreeLemmas.{tree, tree-shows}
use Rattle.qo_properties.specs.Additions.{IsChild, IsTried, given_up, with_child, with_newest}

-- a pin taken from an object that nothing else holds

holding-edit : (n m : ℕ) (rows : List (Key × Content))
    → sum_by (λ (row : Key × Content). holding m row.1) (edit n without_pin rows) ≡ sum_by (λ (row : Key × Content). holding m row.1) rows
holding-edit n m [] = refl
holding-edit n m (row ∷ rows) = go (eqb row.0.birth n) refl (holding-edit n m rows)
  where
    sums : (r s : Key × Content) → holding m r.1 ≡ holding m s.1
        → sum_by (λ (x : Key × Content). holding m x.1) (edit n without_pin rows) ≡ sum_by (λ (x : Key × Content). holding m x.1) rows
        → sum_by (λ (x : Key × Content). holding m x.1) (r ∷ edit n without_pin rows) ≡ sum_by (λ (x : Key × Content). holding m x.1) (s ∷ rows)
    sums r s same rest = omega (
      arith,
      same,
      rest,
      sum_by-cons (λ (x : Key × Content). holding m x.1) r (edit n without_pin rows),
      sum_by-cons (λ (x : Key × Content). holding m x.1) s rows,
    )

    go : (t : Bool) → eqb row.0.birth n ≡ t
        → sum_by (λ (x : Key × Content). holding m x.1) (edit n without_pin rows) ≡ sum_by (λ (x : Key × Content). holding m x.1) rows
        → sum_by (λ (x : Key × Content). holding m x.1) (edit n without_pin (row ∷ rows)) ≡ sum_by (λ (x : Key × Content). holding m x.1) (row ∷ rows)
    go true p rest = rw p (sums (row.0, without_pin row.1) row refl rest)
    go false p rest = rw p (sums row row refl rest)

pins-less : (v : Objects) (n : ℕ) → pins_of (with_edit n without_pin v) n ≡ pins_of v n - 1
pins-less v n = ap (λ (o : Option Content). option_map_or (λ (c : Content). c.pins) o 0) (content-edited v n without_pin) ∙ go (content_of v n)
  where
    go : (o : Option Content) → option_map_or (λ (c : Content). c.pins) (option_map without_pin o) 0 ≡ option_map_or (λ (c : Content). c.pins) o 0 - 1
    go None = omega arith
    go (Some c) = refl

pub unpinned-free : (v w : Objects) (n : ℕ) → w ≡ with_edit n without_pin v → pins_of v n ≡ 1 → refs_of v n ≡ 1 → refs_of w n ≡ 0
unpinned-free v w n is one alone =
    let moved : refs_of (with_edit n without_pin v) n ≡ refs_of w n = ap (λ (x : Objects). refs_of x n) (sym is) in
    omega (arith, holding-edit n n v.rows, pins-less v n, one, alone, moved)

pub unpinned-bare : (v w : Objects) (n : ℕ) → w ≡ with_edit n without_pin v → option_map reference_count (content_of v n) ≡ Some 0
    → option_map reference_count (content_of w n) ≡ Some 0
unpinned-bare v w n is bare = ap (λ (x : Objects). option_map reference_count (content_of x n)) is
    ∙ ap (option_map reference_count) (content-edited v n without_pin) ∙ go (content_of v n) ∙ bare
  where
    go : (o : Option Content) → option_map reference_count (option_map without_pin o) ≡ option_map reference_count o
    go None = refl
    go (Some c) = refl

pub unpinned-kind : (v w u : Objects) (n : ℕ) → w ≡ with_edit n without_pin v → option_map (λ (c : Content). ended n c w) (content_of w n) ≡ Some u
    → option_map (λ (c : Content). ended n c (with_edit n without_pin v)) (content_of v n) ≡ Some u
unpinned-kind v w u n is e = sym (ap (λ (x : Objects). option_map (λ (c : Content). ended n c x) (content_of x n)) is
    ∙ ap (option_map (λ (c : Content). ended n c (with_edit n without_pin v))) (content-edited v n without_pin) ∙ go (content_of v n)) ∙ e
  where
    go : (o : Option Content) → option_map (λ (c : Content). ended n c (with_edit n without_pin v)) (option_map without_pin o)
        ≡ option_map (λ (c : Content). ended n c (with_edit n without_pin v)) o
    go None = refl
    go (Some c) = refl

-- objects that are not n and name no n

abbrev pub Unnamed : ℕ → List Named → Type 0
Unnamed n slots = AllByRecursion (λ (s : Named). (key : Key) → target_of s.1 ≡ Some key → eqb key.birth n ≡ false) slots

abbrev pub Apart : ℕ → List (Key × Content) → Type 0
Apart n rows = AllByRecursion (λ (row : Key × Content). (eqb row.0.birth n ≡ false) × Unnamed n row.1.slots) rows

upto : (m above last : ℕ) (rows : List (Key × Content)) (c : Content) → Rises above (births rows) last → object_at rows m ≡ Some c → m ≤ last
upto m above last [] c rises e = cc
upto m above last (row ∷ rows) c rises e = go (eqb row.0.birth m) refl (upto m row.0.birth last rows c rises.1)
  where
    go : (t : Bool) → eqb row.0.birth m ≡ t → (object_at rows m ≡ Some c → m ≤ last) → m ≤ last
    go true p rest = let up = rises-up row.0.birth last (births rows) rises.1 in let same : row.0.birth ≡ m = eqb-true row.0.birth m p in omega arith
    go false p rest = rest (rw p at e)

unnamed-all : (n : ℕ) (P : Key → Type 0) → ((key : Key) → P key → eqb key.birth n ≡ false) → (slots : List Named)
    → AllByRecursion P (filter_map (λ (s : Named). target_of s.1) slots) → Unnamed n slots
unnamed-all n P apart slots all =
    all-imply (λ (s : Named). IfSome (target_of s.1) P) (λ (s : Named). (key : Key) → target_of s.1 ≡ Some key → eqb key.birth n ≡ false)
    (λ s named key e. apart key (subst (λ (o : Option Key). IfSome o P) e named)) slots (each-names P slots all)

pub apart-from : (v : Objects) (n : ℕ) → v.born < n → IsHeap v → Apart n v.rows
apart-from v n high good = go 0 v.rows good.rising good.linked
  where
    below : (key : Key) → IsLive v.rows key → eqb key.birth n ≡ false
    below key live =
        let (c, there) = live-content v key live in
        let low : key.birth ≤ v.born = upto key.birth 0 v.born v.rows c good.rising there in
        grind (arith, low, high)

    go : (above : ℕ) (rows : List (Key × Content)) → Rises above (births rows) v.born
        → AllByRecursion (λ (row : Key × Content). AllByRecursion (IsLive v.rows) (targets row.1)) rows → Apart n rows
    go above [] rises linked = tt
    go above (row ∷ rows) rises linked =
        let low : row.0.birth ≤ v.born = rises-up row.0.birth v.born (births rows) rises.1 in
        let other : eqb row.0.birth n ≡ false = grind (arith, low, high) in
        ((other, unnamed-all n (IsLive v.rows) below row.1.slots linked.0), go row.0.birth rows rises.1 linked.1)

-- what does not name n does not hold it, and forgets nothing with it

module _ (n : ℕ) where
  holds-none : (s : Slot) → ((key : Key) → target_of s ≡ Some key → eqb key.birth n ≡ false) → holds n s ≡ false
  holds-none (Plain val) apart = refl
  holds-none (Child key) apart = apart key refl
  holds-none (Link ty true None) apart = refl
  holds-none (Link ty true (Some key)) apart = apart key refl
  holds-none (Link ty false target) apart = refl
  holds-none (Alias key name) apart = refl

  forgets-none : (s : Slot) → ((key : Key) → target_of s ≡ Some key → eqb key.birth n ≡ false) → forgotten_in n s ≡ s
  forgets-none (Plain val) apart = refl
  forgets-none (Child key) apart = refl
  forgets-none (Link ty true target) apart = refl
  forgets-none (Link ty false None) apart = refl
  forgets-none (Link ty false (Some key)) apart = rw (apart key refl) refl
  forgets-none (Alias key name) apart = refl

  holding-none : (slots : List Named) → Unnamed n slots → count_by (λ (s : Named). holds n s.1) slots ≡ 0
  holding-none [] all = refl
  holding-none (s ∷ slots) all =
      let none : cond {A = ℕ} (holds n s.1) 1 0 ≡ 0 = rw (holds-none s.1 all.0) refl in
      omega (arith, holding-none slots all.1, none, sum_by-cons (λ (x : Named). cond {A = ℕ} (holds n x.1) 1 0) s slots)

  pub forgets-same : (slots : List Named) → Unnamed n slots → map {B = Named} (λ (s : Named). (s.0, forgotten_in n s.1)) slots ≡ slots
  forgets-same [] all = refl
  forgets-same (s ∷ slots) all = let here = forgets-none s.1 all.0 in let rest = forgets-same slots all.1 in λ j. (s.0, here j) ∷ rest j

  pub sum-none : (rows : List (Key × Content)) → Apart n rows → sum_by (λ (row : Key × Content). holding n row.1) rows ≡ 0
  sum-none [] all = refl
  sum-none (row ∷ rows) all = omega (arith, sum-none rows all.1, holding-none row.1.slots all.0.1, sum_by-cons (λ (x : Key × Content). holding n x.1) row rows)

-- rows of objects that are not n

abbrev pub Others : ℕ → List (Key × Content) → Type 0
Others n rows = AllByRecursion (λ (row : Key × Content). eqb row.0.birth n ≡ false) rows

pub others : (n : ℕ) (rows : List (Key × Content)) → Apart n rows → Others n rows
others n [] all = tt
others n (row ∷ rows) all = (all.0.0, others n rows all.1)

others-edited : (n m : ℕ) (f : Content → Content) (rows : List (Key × Content)) → Others n rows → Others n (edit m f rows)
others-edited n m f [] all = tt
others-edited n m f (row ∷ rows) all = go (eqb row.0.birth m) refl (others-edited n m f rows all.1)
  where
    go : (t : Bool) → eqb row.0.birth m ≡ t → Others n (edit m f rows) → Others n (edit m f (row ∷ rows))
    go true p rest = rw p (all.0, rest)
    go false p rest = rw p (all.0, rest)

-- rows with the newest after them

module _ (o : Key) (c : Content) where
  own : eqb o.birth o.birth ≡ true
  own = eq-eqb o.birth o.birth refl

  row-newest : (rows : List (Key × Content)) → Others o.birth rows → row_at (rows ++ (o, c) ∷ []) o.birth ≡ Some (o, c)
  row-newest [] all = rw own refl
  row-newest (row ∷ rows) all = rw all.0 (row-newest rows all.1)

  pub edit-newest : (f : Content → Content) (rows : List (Key × Content)) → Others o.birth rows → edit o.birth f (rows ++ (o, c) ∷ []) ≡ rows ++ (o, f c) ∷ []
  edit-newest f [] all = rw own refl
  edit-newest f (row ∷ rows) all = rw all.0 (ap (λ (l : List (Key × Content)). row ∷ l) (edit-newest f rows all.1))

  end-newest : (rows : List (Key × Content)) → Apart o.birth rows → map (forgets o.birth) (without o.birth (rows ++ (o, c) ∷ [])) ≡ rows
  end-newest [] all = rw own refl
  end-newest (row ∷ rows) all =
      let here = forgets-same o.birth row.1.slots all.0.1 in
      let rest = end-newest rows all.1 in
      rw (all.0.0) (λ j. (row.0, record row.1 { slots = here j }) ∷ rest j)

-- holding one object is holding some
pub held-holds : (n : ℕ) (slots : List Named) → count_by (λ (s : Named). holds n s.1) slots ≤ count_by (λ (s : Named). is_some (referent s.1)) slots
held-holds n [] = omega arith
held-holds n (s ∷ slots) =
    omega (
      arith,
      held-holds n slots,
      one s.1,
      sum_by-cons (λ (x : Named). cond {A = ℕ} (holds n x.1) 1 0) s slots,
      sum_by-cons (λ (x : Named). cond {A = ℕ} (is_some (referent x.1)) 1 0) s slots,
    )
  where
    by : (t : Bool) → cond {A = ℕ} t 1 0 ≤ 1
    by true = omega arith
    by false = omega arith

    go : (h : Option Key) → cond {A = ℕ} (is_born n h) 1 0 ≤ cond {A = ℕ} (is_some h) 1 0
    go None = omega arith
    go (Some key) = by (key.birth == n)

    one : (x : Slot) → cond {A = ℕ} (holds n x) 1 0 ≤ cond {A = ℕ} (is_some (referent x)) 1 0
    one x = go (referent x)

-- the newest object, which holds nothing and is pinned once
module _ (v w : Objects) (o : Key) (c : Content) (good : IsHeap v) (birth : o.birth ≡ v.born + 1) (is : w ≡ with_newest o c v) where
  apart : Apart o.birth v.rows
  apart = apart-from v o.birth (omega (arith, birth)) good

  newest-row : row_at w.rows o.birth ≡ Some (o, c)
  newest-row = ap (λ (x : Objects). row_at x.rows o.birth) is ∙ row-newest o c v.rows (others o.birth v.rows apart)

  pub newest-content : content_of w o.birth ≡ Some c
  newest-content = ap (option_map (λ (row : Key × Content). row.1)) newest-row

  pub newest-live : IsLive w.rows o
  newest-live = subst (λ (x : Option (Key × Content)). IsSomeAnd x (λ r. r.0.index ≡ o.index)) (sym newest-row) refl

  pub newest-pinned : c.pins ≡ 1 → pins_of w o.birth ≡ 1
  newest-pinned one = ap (λ (x : Option Content). option_map_or (λ (d : Content). d.pins) x 0) newest-content ∙ one

  pub newest-alone : c.pins ≡ 1 → reference_count c ≡ 0 → refs_of w o.birth ≡ 1
  newest-alone one bare =
      let sums : sum_by (λ (row : Key × Content). holding o.birth row.1) w.rows ≡ sum_by (λ (row : Key × Content). holding o.birth row.1)
      (v.rows ++ (o, c) ∷ []) = ap (λ (x : Objects). sum_by (λ (row : Key × Content). holding o.birth row.1) x.rows) is in
      omega (
        arith,
        newest-pinned one,
        sums,
        sum_by-append (λ (row : Key × Content). holding o.birth row.1) v.rows ((o, c) ∷ []),
        sum-none o.birth v.rows apart,
        sum_by-cons (λ (row : Key × Content). holding o.birth row.1) (o, c) [],
        held-holds o.birth c.slots,
        bare,
      )

  pub newest-bare : reference_count c ≡ 0 → option_map reference_count (content_of w o.birth) ≡ Some 0
  newest-bare bare = ap (option_map reference_count) newest-content ∙ ap Some bare

  pub newest-ends : kept_of c.body ≡ none_kept → c.device_id ≡ None → c.kept_path ≡ None → (u : Objects)
      → option_map (λ (d : Content). ended o.birth d (with_edit o.birth without_pin w)) (content_of w o.birth) ≡ Some u → u ≡ given_up c.kind v
  newest-ends none unnamed pathless u e =
      let now : ended o.birth c (with_edit o.birth without_pin w) ≡ u = same_Some (ended o.birth c (with_edit o.birth without_pin w)) u
      (sym (ap (option_map (λ (d : Content). ended o.birth d (with_edit o.birth without_pin w))) newest-content) ∙ e) in
      let rows : map (forgets o.birth) (without o.birth (edit o.birth without_pin (v.rows ++ (o, c) ∷ []))) ≡ v.rows =
      ap (λ (l : List (Key × Content)). map (forgets o.birth) (without o.birth l)) (edit-newest o c without_pin v.rows (others o.birth v.rows apart))
      ∙ end-newest o (without_pin c) v.rows apart in
      sym now
      ∙ ap (λ (x : Objects). ended o.birth c (with_edit o.birth without_pin x)) is
      ∙ (λ j. record v {
        rows = rows j;
        born = v.born + 1;
        log = noted_all (final_notes (birth j) c.kind) (noted_all (init_notes (birth j) c.kind) v.log);
        claims = without_device (unnamed j) (without_kept (none j) v.claims);
        events = with_kept_event (option_map (λ (path : List ℕ). record { deleted = true; id = c.device_id; path = path }) (pathless j)) v.events;
      })

-- who was there is there beside the newest

row-more : (rows : List (Key × Content)) (row : Key × Content) (key : Key) → IsLive rows key → IsLive (rows ++ row ∷ []) key
row-more [] row key live = absurd live
row-more (r ∷ rows) row key live = go (eqb r.0.birth key.birth) refl (row-more rows row key)
  where
    go : (t : Bool) → eqb r.0.birth key.birth ≡ t → (IsLive rows key → IsLive (rows ++ row ∷ []) key) → IsLive ((r ∷ rows) ++ row ∷ []) key
    go true p rest = let here : r.0.index ≡ key.index = rw p at live in rw p here
    go false p rest = rw p (rest (rw p at live))

pub newest-keeps : (v w : Objects) (o : Key) (c : Content) → w ≡ with_newest o c v → (key : Key) → IsLive v.rows key → IsLive w.rows key
newest-keeps v w o c is key live = subst (λ (x : Objects). IsLive x.rows key) (sym is) (row-more v.rows (o, c) key live)

-- another than the newest changed

edit-more : (m : ℕ) (f : Content → Content) (rows : List (Key × Content)) (row : Key × Content) → eqb row.0.birth m ≡ false
    → edit m f (rows ++ row ∷ []) ≡ edit m f rows ++ row ∷ []
edit-more m f [] row other = rw other refl
edit-more m f (r ∷ rows) row other = ap (λ (l : List (Key × Content)). edit m f (r ∷ []) ++ l) (edit-more m f rows row other)

pub newest-beside : (v w u : Objects) (o key : Key) (c : Content) (f : Content → Content) → IsHeap v → o.birth ≡ v.born + 1 → IsLive v.rows key
    → w ≡ with_newest o c v → u ≡ with_edit key.birth f w → u ≡ with_newest o c (with_edit key.birth f v)
newest-beside v w u o key c f good birth live is change =
    let (d, there) = live-content v key live in
    let low : key.birth ≤ v.born = upto key.birth 0 v.born v.rows d good.rising there in
    let other : eqb o.birth key.birth ≡ false = grind (arith, low, birth) in
    let rows = edit-more key.birth f v.rows (o, c) other in
    change ∙ ap (λ (x : Objects). with_edit key.birth f x) is
    ∙ (λ j. record v { rows = rows j; born = v.born + 1; log = noted_all (init_notes o.birth c.kind) v.log })

pub beside-bare : (v w u : Objects) (o key : Key) (t : TypeId) (f : Content → Content) → IsHeap v → o.birth ≡ v.born + 1 → IsLive v.rows key
    → w ≡ with_newest o (fresh t) v → u ≡ with_edit key.birth f w → slots_of u o.birth ≡ []
beside-bare v w u o key t f good birth live is change =
    let mid : u ≡ with_newest o (fresh t) (with_edit key.birth f v) = newest-beside v w u o key (fresh t) f good birth live is change in
    let alone : Others o.birth (with_edit key.birth f v).rows =
    others-edited o.birth key.birth f v.rows (others o.birth v.rows (apart-from v o.birth (omega (arith, birth)) good)) in
    ap (λ (x : Objects). slots_of x o.birth) mid
    ∙ ap (λ (r : Option (Key × Content)). option_map_or (λ (c : Content). c.slots) (option_map (λ (row : Key × Content). row.1) r) [])
    (row-newest o (fresh t) (with_edit key.birth f v).rows alone)

-- a new object that became a child is given its slots

pub furnished-child : (v w u x : Objects) (o parent : Key) (name : List ℕ) (t : TypeId) (slots : List Named) → IsHeap v → o.birth ≡ v.born + 1
    → IsLive v.rows parent → w ≡ with_newest o (fresh t) v → u ≡ with_edit parent.birth (with_slot name (Child o)) w
    → x ≡ with_edit o.birth (with_all_slots slots) u → x ≡ with_child parent.birth name o t slots v
furnished-child v w u x o parent name t slots good birth live is child furnish =
    let beside : Objects = with_edit parent.birth (with_slot name (Child o)) v in
    let mid : u ≡ with_newest o (fresh t) beside = newest-beside v w u o parent (fresh t) (with_slot name (Child o)) good birth live is child in
    let alone : Others o.birth beside.rows =
    others-edited o.birth parent.birth (with_slot name (Child o)) v.rows (others o.birth v.rows (apart-from v o.birth (omega (arith, birth)) good)) in
    let rows = edit-newest o (fresh t) (with_all_slots slots) beside.rows alone in
    furnish
    ∙ ap (λ (y : Objects). with_edit o.birth (with_all_slots slots) y) mid
    ∙ (λ j. record v { rows = rows j; born = v.born + 1; log = noted_all (init_notes o.birth t) v.log })

pub beside-live : (v w u : Objects) (o : Key) (c : Content) (n : ℕ) (f : Content → Content) → w ≡ with_newest o c v → u ≡ with_edit n f w → (key : Key)
    → IsLive v.rows key → IsLive u.rows key
beside-live v w u o c n f is change key live =
    subst (λ (x : Objects). IsLive x.rows key) (sym change) (live-edit n f w.rows key (newest-keeps v w o c is key live))

-- the newest object as a child

module _ {v w : Objects} {o parent : Key} {name : List ℕ} {t : TypeId} {slots : List Named} (good : IsHeap v) (made : IsChild v w o parent name t slots) where
  abbrev begun : Content
  begun = as_made t slots 1

  abbrev beside : Objects
  beside = with_edit parent.birth (with_slot name (Child o)) v

  child-others : Others o.birth beside.rows
  child-others =
      others-edited o.birth parent.birth (with_slot name (Child o)) v.rows (others o.birth v.rows (apart-from v o.birth (omega (arith, made.birth)) good))

  child-row : row_at w.rows o.birth ≡ Some (o, begun)
  child-row = ap (λ (x : Objects). row_at x.rows o.birth) made.is ∙ row-newest o begun beside.rows child-others

  child-content : content_of w o.birth ≡ Some begun
  child-content = ap (option_map (λ (row : Key × Content). row.1)) child-row

  pub child-live : IsLive w.rows o
  child-live = subst (λ (x : Option (Key × Content)). IsSomeAnd x (λ r. r.0.index ≡ o.index)) (sym child-row) refl

  pub child-pinned : pins_of w o.birth ≡ 1
  child-pinned = ap (λ (x : Option Content). option_map_or (λ (d : Content). d.pins) x 0) child-content

  -- its pin is taken away
  pub child-unpinned : (x : Objects) → x ≡ with_edit o.birth without_pin w → x ≡ with_newest o (as_made t slots 0) beside
  child-unpinned x unpin =
      let rows = edit-newest o begun without_pin beside.rows child-others in
      unpin
      ∙ ap (λ (y : Objects). with_edit o.birth without_pin y) made.is
      ∙ (λ j. record v { rows = rows j; born = v.born + 1; log = noted_all (init_notes o.birth t) v.log })

-- an object that nothing pins adds no pin
pins-last : (rows : List (Key × Content)) (o : Key) (c : Content) → c.pins ≡ 0 → pins_in (rows ++ (o, c) ∷ []) ≡ pins_in rows
pins-last [] o c none = rw none refl
pins-last (row ∷ rows) o c none = ap (λ (l : List ℕ). replicate row.1.pins row.0.birth ++ l) (pins-last rows o c none)

-- the board with an object more
pub shows-object : (b : Board) (v : Objects) → Shows b v → (o parent : Key) → parent.birth ≡ OBJECTS_BIRTH → o.birth ≡ v.born + 1
    → (name : List ℕ) (t : TypeId) (props : List Given) (slots : List Named) → shown_slots slots ≡ given_slots b t props
    → Shows (with_object b t name props) (with_newest o (as_made t slots 0) (with_edit parent.birth (with_slot name (Child o)) v))
unfolding add
shows-object b v s o parent place birth name t props slots given =
    let rows : Objects = with_edit parent.birth (with_slot name (Child o)) v in
    let more = shows-added b v s parent.birth name (Child o) in
    let its : b.born + 1 ≡ o.birth = ap (λ (k : ℕ). k + 1) s.born ∙ sym birth in
    record {
      records =
          (λ j. map (edited (sym place j) (with_added name (board.child (its j)))) b.records
          ++ record { birth = its j; kind = t; slots = sym given j; registers = fresh_registers t; device_id = None; kept_path = None } ∷ [])
          ∙ (λ j. more.records j
          ++ record { birth = o.birth; kind = t; slots = shown_slots slots; registers = sym (fresh-registers t) j; device_id = None; kept_path = None }
          ∷ [])
          ∙ sym (map-append record_of rows.rows ((o, as_made t slots 0) ∷ []));
      born = ap (λ (k : ℕ). k + 1) s.born;
      pins = more.pins ∙ sym (pins-last rows.rows o (as_made t slots 0) refl);
      notes = subst (λ (k : ℕ). IsLogOf (b.notes ++ init_notes k t) (noted_all (init_notes o.birth t) v.log)) (sym its)
          (all_lem b.notes (init_notes o.birth t) v.log s.notes);
      events = s.events;
      now = s.now;
    }

-- the same pins

pub object-pins : (v : Objects) (o parent : Key) (name : List ℕ) (t : TypeId) (slots : List Named) (w : Objects)
    → w ≡ with_newest o (as_made t slots 0) (with_edit parent.birth (with_slot name (Child o)) v) → pins_in w.rows ≡ pins_in v.rows
unfolding add
object-pins v o parent name t slots w is =
    let rows : Objects = with_edit parent.birth (with_slot name (Child o)) v in
    let more = shows-added (tree v) (with_log empty_log v) (tree-shows v) parent.birth name (Child o) in
    ap (λ (x : Objects). pins_in x.rows) is ∙ pins-last rows.rows o (as_made t slots 0) refl ∙ sym more.pins ∙ (tree-shows v).pins

pub tried-pins : (v w : Objects) (t : TypeId) → IsTried t v w → pins_in w.rows ≡ pins_in v.rows
tried-pins v w t (inl same) = ap (λ (x : Objects). pins_in x.rows) same
tried-pins v w t (inr same) = ap (λ (x : Objects). pins_in x.rows) same

-- the board after an attempt
pub shows-tried : (b : Board) (v : Objects) → Shows b v → (t : TypeId) → Shows (with_attempt b t) (given_up t v)
shows-tried b v s t =
    record {
      records = s.records;
      born = ap (λ (k : ℕ). k + 1) s.born;
      pins = s.pins;
      notes =
          subst (λ (k : ℕ). IsLogOf ((b.notes ++ init_notes (k + 1) t) ++ final_notes (k + 1) t)
          (noted_all (final_notes (v.born + 1) t) (noted_all (init_notes (v.born + 1) t) v.log))) (sym s.born)
          (all_lem (b.notes ++ init_notes (v.born + 1) t) (final_notes (v.born + 1) t) (noted_all (init_notes (v.born + 1) t) v.log)
          (all_lem b.notes (init_notes (v.born + 1) t) v.log s.notes));
      events = s.events;
      now = s.now;
    }
