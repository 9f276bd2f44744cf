-- What a heap has once a weak link was let go that names an object or is its own, and once none is left.
use Rattle.std.proofs.Common.{◌≡◌, refl, ap, sym, subst, ◌∙◌, ℕ, zero, suc, ◌+◌, ◌*◌, ◌≤◌, Bool, true, false, ◌||◌, cond, eqb, List, [], ◌∷◌, map, sum_by, count_by, Option, Some, None, option_map, is_some, arith}
use Rattle.std.specs.List.{AllByRecursion}
use Rattle.std.specs.Option.{option_and_then, option_map_or}
use Rattle.std.proofs.lemmas.Bool.{eqb-true}
use Rattle.std.proofs.lemmas.List.Sums.{sum_by-cons}
use Rattle.qo_values.proofs.ListLemmas.{all-imply}
use Rattle.qo_values.specs.declared.kinds.TypeId.{TypeId}
use Rattle.qo_slots.specs.declared.keys.Key.{Key}
use Rattle.qo_object.specs.declared.slots.Slot.{Slot}
use Rattle.qo_object.specs.declared.slots.Slot.TheVariants.{Plain, Child, Link, Alias}
use Rattle.qo_object.specs.Slots.{Named, each_changed, forgotten_in, holds, let_go_at, names_weakly, referent, slot_in, weak_target}
use Rattle.qo_object.specs.Content.{Content, dropped_at, forgotten, holding, reference_count}
use Rattle.qo_heap.specs.Keeping.{holders}
use Rattle.qo_heap.specs.Rows.{IsLive, edit, without}
use Rattle.qo_heap.specs.Objects.{Objects, content_of, ended, forgets, pins_of, refs_of, with_edit}
use Rattle.qo_heap.specs.WeakEnds.{LetGo, weak_ends, weak_ends_in}
use Rattle.qo_heap.proofs.BoardObjects.{content-edited, content-other}
use Rattle.qo_heap.proofs.HeapLemmas.{live-edit}
use Rattle.qo_heap.proofs.KeptEnds.{only-one}
use Rattle.qo_heap.proofs.WeakRows.{sum-named}

-- what slots weigh, once a weak link with a target was let go
drop-weighs : (m : Slot → ℕ) (t : Key) (a b : ℕ) → ((ty : TypeId) → m (Link ty false (Some t)) ≡ a) → ((ty : TypeId) → m (Link ty false None) ≡ b) → (i : ℕ)
    (slots : List Named) → option_and_then weak_target (slot_in slots i) ≡ Some t
    → sum_by (λ (s : Named). m s.1) (let_go_at i slots) + a ≡ sum_by (λ (s : Named). m s.1) slots + b
drop-weighs m t a b full empty i [] at = cc
drop-weighs m t a b full empty zero ((name, Plain val) ∷ slots) at = cc
drop-weighs m t a b full empty zero ((name, Child key) ∷ slots) at = cc
drop-weighs m t a b full empty zero ((name, Link ty true target) ∷ slots) at = cc
drop-weighs m t a b full empty zero ((name, Link ty false None) ∷ slots) at = cc
drop-weighs m t a b full empty zero ((name, Alias key of) ∷ slots) at = cc
drop-weighs m t a b full empty zero ((name, Link ty false (Some key)) ∷ slots) at =
    let is : key ≡ t = cc at in
    let here : m (Link ty false (Some key)) ≡ a = ap (λ (k : Key). m (Link ty false (Some k))) is ∙ full ty in
    omega (
      arith,
      here,
      empty ty,
      sum_by-cons (λ (s : Named). m s.1) (name, Link ty false (Some key)) slots,
      sum_by-cons (λ (s : Named). m s.1) (name, Link ty false None) slots,
    )
drop-weighs m t a b full empty (suc i) (s ∷ slots) at =
    omega (
      arith,
      drop-weighs m t a b full empty i slots at,
      sum_by-cons (λ (x : Named). m x.1) s slots,
      sum_by-cons (λ (x : Named). m x.1) s (let_go_at i slots),
    )

-- one that names an object is emptied with it
drop-forgotten : (n : ℕ) (t : Key) → eqb t.birth n ≡ true → (i : ℕ) (slots : List Named) → option_and_then weak_target (slot_in slots i) ≡ Some t
    → each_changed (forgotten_in n) (let_go_at i slots) ≡ each_changed (forgotten_in n) slots
drop-forgotten n t is i [] at = cc
drop-forgotten n t is zero ((name, Plain val) ∷ slots) at = cc
drop-forgotten n t is zero ((name, Child key) ∷ slots) at = cc
drop-forgotten n t is zero ((name, Link ty true target) ∷ slots) at = cc
drop-forgotten n t is zero ((name, Link ty false None) ∷ slots) at = cc
drop-forgotten n t is zero ((name, Alias key of) ∷ slots) at = cc
drop-forgotten n t is zero ((name, Link ty false (Some key)) ∷ slots) at =
    let same : key ≡ t = cc at in
    let born : eqb key.birth n ≡ true = ap (λ (k : Key). eqb k.birth n) same ∙ is in
    rw born refl
drop-forgotten n t is (suc i) (s ∷ slots) at = ap (λ (l : List Named). (s.0, forgotten_in n s.1) ∷ l) (drop-forgotten n t is i slots at)

-- rows in which one was changed, without those of a birth
rows-forgotten : (n o : ℕ) (f : Content → Content) (rows : List (Key × Content))
    → AllByRecursion (λ (row : Key × Content). eqb row.0.birth o ≡ true → eqb row.0.birth n ≡ false → forgotten n (f row.1) ≡ forgotten n row.1) rows
    → map (forgets n) (without n (edit o f rows)) ≡ map (forgets n) (without n rows)
rows-forgotten n o f [] all = refl
rows-forgotten n o f (row ∷ rows) all = go (eqb row.0.birth o) refl (eqb row.0.birth n) refl (rows-forgotten n o f rows all.1)
  where
    go : (a : Bool) → eqb row.0.birth o ≡ a → (b : Bool) → eqb row.0.birth n ≡ b
        → map (forgets n) (without n (edit o f rows)) ≡ map (forgets n) (without n rows)
        → map (forgets n) (without n (edit o f (row ∷ rows))) ≡ map (forgets n) (without n (row ∷ rows))
    go true p true q rest = rw (p, q) rest
    go true p false q rest =
        let here : forgotten n (f row.1) ≡ forgotten n row.1 = all.0 p q in
        rw (p, q) (ap (λ (c : Content). (row.0, c) ∷ map (forgets n) (without n (edit o f rows))) here
        ∙ ap (λ (l : List (Key × Content)). (row.0, forgotten n row.1) ∷ l) rest)
    go false p true q rest = rw (p, q) rest
    go false p false q rest = rw (p, q) (ap (λ (l : List (Key × Content)). forgets n row ∷ l) rest)

either : (a b : Bool) → (a || b) ≡ true → b ≡ false → a ≡ true
either true b is other = refl
either false true is other = cc
either false false is other = cc

-- a weak link was let go
module _ (n : ℕ) (v w : Objects) (d : LetGo n v w) where
  abbrev f : Content → Content
  f = dropped_at d.at

  rows-now : w.rows ≡ edit d.owner.birth f v.rows
  rows-now = ap (λ (x : Objects). x.rows) d.now

  counted-now : (h : Key × Content → ℕ) → sum_by h w.rows + h (d.owner, d.content) ≡ sum_by h v.rows + h (d.owner, f d.content)
  counted-now h =
      ap (λ (l : List (Key × Content)). sum_by h l + h (d.owner, d.content)) rows-now
      ∙ sum-named h d.owner f 0 v.born v.rows d.heap.rising d.live d.content d.there

  own-ends : weak_ends_in n (d.owner, d.content) ≡ weak_ends_in n (d.owner, f d.content) + 1
  own-ends = go (eqb d.owner.birth n) refl
    where
      go : (b : Bool) → eqb d.owner.birth n ≡ b
          → cond b (count_by (λ (s : Named). is_some (weak_target s.1)) d.content.slots) (count_by (λ (s : Named). names_weakly n s.1) d.content.slots)
          ≡ cond b (count_by (λ (s : Named). is_some (weak_target s.1)) (let_go_at d.at d.content.slots))
          (count_by (λ (s : Named). names_weakly n s.1) (let_go_at d.at d.content.slots)) + 1
      go true is =
          omega (arith, drop-weighs (λ (s : Slot). cond {A = ℕ} (is_some (weak_target s)) 1 0) d.target 1 0 (λ ty. refl) (λ ty. refl) d.at d.content.slots d.weak)
      go false is =
          let born : eqb d.target.birth n ≡ true = either (eqb d.target.birth n) (eqb d.owner.birth n) d.ends is in
          let one : (ty : TypeId) → cond {A = ℕ} (names_weakly n (Link ty false (Some d.target))) 1 0 ≡ 1 = λ ty. ap (λ (b : Bool). cond {A = ℕ} b 1 0) born in
          omega (arith, drop-weighs (λ (s : Slot). cond {A = ℕ} (names_weakly n s) 1 0) d.target 1 0 one (λ ty. refl) d.at d.content.slots d.weak)

  -- one less is left
  pub one-less : weak_ends n w.rows + 1 ≡ weak_ends n v.rows
  one-less = omega (arith, counted-now (weak_ends_in n), own-ends)

  -- an object is held as often
  holders-now : holders n w.rows ≡ holders n v.rows
  holders-now =
      omega (
        arith,
        counted-now (λ (row : Key × Content). holding n row.1),
        drop-weighs (λ (s : Slot). cond {A = ℕ} (holds n s) 1 0) d.target 0 0 (λ ty. refl) (λ ty. refl) d.at d.content.slots d.weak,
      )

  -- what is read of an object
  read-now : {X : Type 0} (get : Content → X) → get (f d.content) ≡ get d.content → option_map get (content_of w n) ≡ option_map get (content_of v n)
  read-now get same = ap (λ (x : Objects). option_map get (content_of x n)) d.now ∙ go (eqb n d.owner.birth) refl
    where
      go : (b : Bool) → eqb n d.owner.birth ≡ b → option_map get (content_of (with_edit d.owner.birth f v) n) ≡ option_map get (content_of v n)
      go true is =
          let here : n ≡ d.owner.birth = eqb-true n d.owner.birth is in
          subst (λ (k : ℕ). option_map get (content_of (with_edit d.owner.birth f v) k) ≡ option_map get (content_of v k)) (sym here)
          (ap (option_map get) (content-edited v d.owner.birth f ∙ ap (option_map f) d.there) ∙ ap Some same ∙ sym (ap (option_map get) d.there))
      go false is = ap (option_map get) (content-other v d.owner.birth n f is)

  pins-now : pins_of w n ≡ pins_of v n
  pins-now =
      flat (content_of w n) ∙ ap (λ (o : Option ℕ). option_map_or (λ (k : ℕ). k) o 0) (read-now (λ (c : Content). c.pins) refl) ∙ sym (flat (content_of v n))
    where
      flat : (o : Option Content) → option_map_or (λ (c : Content). c.pins) o 0 ≡ option_map_or (λ (k : ℕ). k) (option_map (λ (c : Content). c.pins) o) 0
      flat None = refl
      flat (Some c) = refl

  refs-now : refs_of w n ≡ refs_of v n
  refs-now = omega (arith, holders-now, pins-now)

  bare-now : option_map reference_count (content_of w n) ≡ option_map reference_count (content_of v n)
  bare-now =
      read-now reference_count
      (omega (
        arith,
        drop-weighs (λ (s : Slot). cond {A = ℕ} (is_some (referent s)) 1 0) d.target 0 0 (λ ty. refl) (λ ty. refl) d.at d.content.slots d.weak,
      ))

  -- the objects that are left when it ends
  left-now : map (forgets n) (without n w.rows) ≡ map (forgets n) (without n v.rows)
  left-now =
      ap (λ (l : List (Key × Content)). map (forgets n) (without n l)) rows-now
      ∙ rows-forgotten n d.owner.birth f v.rows
      (all-imply (λ (row : Key × Content). eqb row.0.birth d.owner.birth ≡ true → row.1 ≡ d.content)
      (λ (row : Key × Content). eqb row.0.birth d.owner.birth ≡ true → eqb row.0.birth n ≡ false → forgotten n (f row.1) ≡ forgotten n row.1)
      step v.rows (only-one d.owner.birth 0 v.born d.content v.rows d.heap.rising d.there))
    where
      step : (row : Key × Content) → (eqb row.0.birth d.owner.birth ≡ true → row.1 ≡ d.content) → eqb row.0.birth d.owner.birth ≡ true
          → eqb row.0.birth n ≡ false → forgotten n (f row.1) ≡ forgotten n row.1
      step row one here other =
          let is : row.1 ≡ d.content = one here in
          let same : row.0.birth ≡ d.owner.birth = eqb-true row.0.birth d.owner.birth here in
          let apart : eqb d.owner.birth n ≡ false = ap (λ (k : ℕ). eqb k n) (sym same) ∙ other in
          let born : eqb d.target.birth n ≡ true = either (eqb d.target.birth n) (eqb d.owner.birth n) d.ends apart in
          subst (λ (c : Content). forgotten n (f c) ≡ forgotten n c) (sym is)
          (ap (λ (l : List Named). record d.content { slots = l }) (drop-forgotten n d.target born d.at d.content.slots d.weak))

  ended-now : option_map (λ (c : Content). ended n c w) (content_of w n) ≡ option_map (λ (c : Content). ended n c v) (content_of v n)
  ended-now = each (content_of w n) ∙ read-now (λ (c : Content). ended n c v) refl
    where
      one : (c : Content) → ended n c w ≡ ended n c v
      one c =
          ap (λ (x : Objects). record (ended n c x) { rows = map (forgets n) (without n w.rows) }) d.now
          ∙ ap (λ (l : List (Key × Content)). record (ended n c v) { rows = l }) left-now

      each : (o : Option Content) → option_map (λ (c : Content). ended n c w) o ≡ option_map (λ (c : Content). ended n c v) o
      each None = refl
      each (Some c) = ap Some (one c)

-- what stays while the weak links of an object are let go, each for four steps
pub record Lets (o : Key) (v w : Objects) (was now : ℕ) : Type 0 where
  pub live : IsLive w.rows o
  pub free : refs_of w o.birth ≡ 0
  pub bare : option_map reference_count (content_of w o.birth) ≡ Some 0
  pub left : option_map (λ (c : Content). ended o.birth c w) (content_of w o.birth) ≡ option_map (λ (c : Content). ended o.birth c v) (content_of v o.birth)
  pub cost : now + 4 * weak_ends o.birth w.rows ≤ was + 4 * weak_ends o.birth v.rows

pub lets-none : (o : Key) (v : Objects) (was : ℕ) → IsLive v.rows o → refs_of v o.birth ≡ 0 → option_map reference_count (content_of v o.birth) ≡ Some 0
    → Lets o v v was was
lets-none o v was live free bare = record { live = live; free = free; bare = bare; left = refl; cost = omega arith }

pub lets-next : (o : Key) (v w x : Objects) (was now later : ℕ) → Lets o v w was now → LetGo o.birth w x → later ≤ now + 4 → Lets o v x was later
lets-next o v w x was now later lets d cost =
    record {
      live = subst (λ (l : List (Key × Content)). IsLive l o) (sym (rows-now o.birth w x d)) (live-edit d.owner.birth (dropped_at d.at) w.rows o lets.live);
      free = refs-now o.birth w x d ∙ lets.free;
      bare = bare-now o.birth w x d ∙ lets.bare;
      left = ended-now o.birth w x d ∙ lets.left;
      cost = omega (arith, cost, lets.cost, one-less o.birth w x d);
    }
