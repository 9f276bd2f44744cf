-- What the slots of an object hold, by weights of holds, and what a change of the slots changes of it.
use Rattle.std.proofs.Common.{◌≡◌, refl, ap, ap₂, sym, ◌∙◌, ℕ, zero, suc, ◌+◌, ◌≤◌, Bool, true, false, cond, List, [], ◌∷◌, ◌++◌, drop, length, eqb, remove, sum_by, count_by, option_to_list, Option, Some, None, IfSome, is_some, option_map, arith}
use Rattle.std.specs.Option.{option_and_then, option_map_or}
use Rattle.std.specs.List.{AllByRecursion, cons_option}
use Rattle.std.proofs.lemmas.List.Sums.{sum_by-cons}
use Rattle.qo_values.specs.declared.properties.Val.{Val}
use Rattle.qo_slots.specs.declared.keys.Key.{Key}
use Rattle.qo_object.specs.declared.slots.Slot.{Slot}
use Rattle.qo_object.specs.declared.slots.Slot.TheVariants.{Plain, Child, Link, Alias}
use Rattle.qo_object.specs.Slots.{Named, changed_at, child_of, each_changed, forgotten_in, holds, is_empty_link, let_go_at, names_child, pointed, referent, slot_in, target_of, with_val}
use Rattle.qo_object.specs.Content.{Content, cut_at, dropped_at, empty_link_at, forgotten, holding, pointed_at, set_at, with_all_slots, with_slot}
use Rattle.qo_heap.specs.Keeping.{children, hold_at, hold_of, holds_in}
use Rattle.qo_heap.specs.declared.entries.Hold.{Hold}

-- whether a hold is of the object of a birth, and whether it is so as a child, as a number
abbrev pub of_birth : ℕ → Hold → ℕ
of_birth x h = cond {A = ℕ} (eqb h.key.birth x) 1 0

abbrev pub child_of_birth : ℕ → Hold → ℕ
child_of_birth x h = cond {A = ℕ} h.child (of_birth x h) 0

module _ (m : Hold → ℕ) where
  abbrev pub weigh : Option Hold → ℕ
  weigh o = option_map_or m o 0

  pub weigh-cons : (o : Option Hold) (hs : List Hold) → sum_by m (cons_option o hs) ≡ weigh o + sum_by m hs
  weigh-cons None hs = omega arith
  weigh-cons (Some h) hs = sum_by-cons m h hs

  pub weigh-list : (o : Option Hold) → sum_by m (option_to_list o) ≡ weigh o
  weigh-list None = refl
  weigh-list (Some h) = omega (arith, sum_by-cons m h [])

  -- the slot at a place is changed
  pub changed-weighs : (g : Slot → Slot) (i : ℕ) (slots : List Named)
      → sum_by m (holds_in (changed_at g i slots)) + weigh (hold_at slots i) ≡ sum_by m (holds_in slots) + weigh (hold_at (changed_at g i slots) i)
  changed-weighs g i [] = refl
  changed-weighs g zero (s ∷ slots) = omega (arith, weigh-cons (hold_of s.1) (holds_in slots), weigh-cons (hold_of (g s.1)) (holds_in slots))
  changed-weighs g (suc i) (s ∷ slots) =
      omega (
        arith,
        changed-weighs g i slots,
        weigh-cons (hold_of s.1) (holds_in slots),
        weigh-cons (hold_of s.1) (holds_in (changed_at g i slots)),
      )

  -- it is let go
  pub dropped-weighs : (i : ℕ) (slots : List Named) → sum_by m (holds_in (let_go_at i slots)) + weigh (hold_at slots i) ≡ sum_by m (holds_in slots)
  dropped-weighs i [] = refl
  dropped-weighs zero ((name, Plain val) ∷ slots) = omega arith
  dropped-weighs zero ((name, Child key) ∷ slots) = omega (arith, weigh-cons (Some (record { key = key; child = true })) (holds_in slots))
  dropped-weighs zero ((name, Link ty true None) ∷ slots) = omega arith
  dropped-weighs zero ((name, Link ty true (Some key)) ∷ slots) = omega (arith, weigh-cons (Some (record { key = key; child = false })) (holds_in slots))
  dropped-weighs zero ((name, Link ty false target) ∷ slots) = omega arith
  dropped-weighs zero ((name, Alias key of) ∷ slots) = omega arith
  dropped-weighs (suc i) (s ∷ slots) =
      omega (
        arith,
        dropped-weighs i slots,
        weigh-cons (hold_of s.1) (holds_in slots),
        weigh-cons (hold_of s.1) (holds_in (let_go_at i slots)),
      )

  -- a slot is added
  pub added-weighs : (name : List ℕ) (slot : Slot) (slots : List Named)
      → sum_by m (holds_in (slots ++ (name, slot) ∷ [])) ≡ sum_by m (holds_in slots) + weigh (hold_of slot)
  added-weighs name slot [] = omega (arith, weigh-cons (hold_of slot) [])
  added-weighs name slot (s ∷ slots) =
      omega (
        arith,
        added-weighs name slot slots,
        weigh-cons (hold_of s.1) (holds_in slots),
        weigh-cons (hold_of s.1) (holds_in (slots ++ (name, slot) ∷ [])),
      )

-- slots that hold what they held
pub changed-holds : (g : Slot → Slot) → ((s : Slot) → hold_of (g s) ≡ hold_of s) → (i : ℕ) (slots : List Named) → holds_in (changed_at g i slots) ≡ holds_in slots
changed-holds g same i [] = refl
changed-holds g same zero (s ∷ slots) = ap (λ (o : Option Hold). cons_option o (holds_in slots)) (same s.1)
changed-holds g same (suc i) (s ∷ slots) = ap (λ (hs : List Hold). cons_option (hold_of s.1) hs) (changed-holds g same i slots)

pub each-holds : (g : Slot → Slot) → ((s : Slot) → hold_of (g s) ≡ hold_of s) → (slots : List Named) → holds_in (each_changed g slots) ≡ holds_in slots
each-holds g same [] = refl
each-holds g same (s ∷ slots) = ap₂ (λ (o : Option Hold) (hs : List Hold). cons_option o hs) (same s.1) (each-holds g same slots)

pub removed-holds : (i : ℕ) (slots : List Named) → hold_at slots i ≡ None → holds_in (remove slots i) ≡ holds_in slots
removed-holds zero [] none = refl
removed-holds (suc i) [] none = refl
removed-holds zero (s ∷ slots) none = sym (ap (λ (o : Option Hold). cons_option o (holds_in slots)) none)
removed-holds (suc i) (s ∷ slots) none = ap (λ (hs : List Hold). cons_option (hold_of s.1) hs) (removed-holds i slots none)

-- a link without a target holds nothing
pub empty-holds : (c : Content) (i : ℕ) → empty_link_at c i ≡ true → hold_at c.slots i ≡ None
empty-holds c i e = go (slot_in c.slots i) e
  where
    go : (o : Option Slot) → option_map_or is_empty_link o false ≡ true → option_and_then hold_of o ≡ None
    go None e = refl
    go (Some (Plain val)) e = refl
    go (Some (Child key)) e = cc
    go (Some (Link ty true None)) e = refl
    go (Some (Link ty true (Some key))) e = cc
    go (Some (Link ty false target)) e = refl
    go (Some (Alias key of)) e = refl

-- what is held from a place on
pub drop-none : {X : Type 0} (xs : List X) → drop 0 xs ≡ xs
drop-none [] = refl
drop-none (x ∷ xs) = refl

pub drop-holds : (i : ℕ) (slots : List Named) → holds_in (drop i slots) ≡ cons_option (hold_at slots i) (holds_in (drop (i + 1) slots))
drop-holds i slots = let next : suc i ≡ i + 1 = omega arith in step i slots ∙ ap (λ (n : ℕ). cons_option (hold_at slots i) (holds_in (drop n slots))) next
  where
    step : (i : ℕ) (slots : List Named) → holds_in (drop i slots) ≡ cons_option (hold_at slots i) (holds_in (drop (suc i) slots))
    step zero [] = refl
    step (suc i) [] = refl
    step zero (s ∷ slots) = refl
    step (suc i) (s ∷ slots) = step i slots

-- how many slots hold the object of a birth, and how many have it as a child, by the holds
slot-holds : (x : ℕ) (s : Slot) → cond {A = ℕ} (holds x s) 1 0 ≡ weigh (of_birth x) (hold_of s)
slot-holds x (Plain val) = refl
slot-holds x (Child key) = refl
slot-holds x (Link ty true None) = refl
slot-holds x (Link ty true (Some key)) = refl
slot-holds x (Link ty false target) = refl
slot-holds x (Alias key of) = refl

pub holding-weighs : (x : ℕ) (slots : List Named) → count_by (λ (s : Named). holds x s.1) slots ≡ sum_by (of_birth x) (holds_in slots)
holding-weighs x [] = refl
holding-weighs x (s ∷ slots) =
    omega (
      arith,
      slot-holds x s.1,
      holding-weighs x slots,
      sum_by-cons (λ (t : Named). cond {A = ℕ} (holds x t.1) 1 0) s slots,
      weigh-cons (of_birth x) (hold_of s.1) (holds_in slots),
    )

slot-names : (x : ℕ) (s : Slot) → cond {A = ℕ} (names_child x s) 1 0 ≡ weigh (child_of_birth x) (hold_of s)
slot-names x (Plain val) = refl
slot-names x (Child key) = refl
slot-names x (Link ty true None) = refl
slot-names x (Link ty true (Some key)) = refl
slot-names x (Link ty false target) = refl
slot-names x (Alias key of) = refl

pub children-weigh : (x : ℕ) (slots : List Named) → count_by (λ (s : Named). names_child x s.1) slots ≡ sum_by (child_of_birth x) (holds_in slots)
children-weigh x [] = refl
children-weigh x (s ∷ slots) =
    omega (
      arith,
      slot-names x s.1,
      children-weigh x slots,
      sum_by-cons (λ (t : Named). cond {A = ℕ} (names_child x t.1) 1 0) s slots,
      weigh-cons (child_of_birth x) (hold_of s.1) (holds_in slots),
    )

-- a child is held
pub child-within : (x : ℕ) (hs : List Hold) → sum_by (child_of_birth x) hs ≤ sum_by (of_birth x) hs
child-within x [] = omega arith
child-within x (h ∷ hs) = go h.child refl (child-within x hs)
  where
    go : (t : Bool) → h.child ≡ t → sum_by (child_of_birth x) hs ≤ sum_by (of_birth x) hs → sum_by (child_of_birth x) (h ∷ hs) ≤ sum_by (of_birth x) (h ∷ hs)
    go true is rest =
        let here : child_of_birth x h ≡ of_birth x h = ap (λ (b : Bool). cond {A = ℕ} b (of_birth x h) 0) is in
        omega (arith, here, rest, sum_by-cons (child_of_birth x) h hs, sum_by-cons (of_birth x) h hs)
    go false is rest =
        let here : child_of_birth x h ≡ 0 = ap (λ (b : Bool). cond {A = ℕ} b (of_birth x h) 0) is in
        omega (arith, here, rest, sum_by-cons (child_of_birth x) h hs, sum_by-cons (of_birth x) h hs)

-- an object that holds nothing has no holds
bare-slot : (s : Slot) → cond {A = ℕ} (is_some (referent s)) 1 0 ≡ 0 → hold_of s ≡ None
bare-slot (Plain val) none = refl
bare-slot (Child key) none = absurd (omega (arith, none))
bare-slot (Link ty true None) none = refl
bare-slot (Link ty true (Some key)) none = absurd (omega (arith, none))
bare-slot (Link ty false target) none = refl
bare-slot (Alias key of) none = refl

pub bare-holds : (slots : List Named) → count_by (λ (s : Named). is_some (referent s.1)) slots ≡ 0 → holds_in slots ≡ []
bare-holds [] none = refl
bare-holds (s ∷ slots) none =
    let split = sum_by-cons (λ (t : Named). cond {A = ℕ} (is_some (referent t.1)) 1 0) s slots in
    ap₂ (λ (o : Option Hold) (hs : List Hold). cons_option o hs) (bare-slot s.1 (omega (arith, none, split))) (bare-holds slots (omega (arith, none, split)))

-- what a change of an object does to what its slots hold: some holds end, and some come to be
abbrev pub Moves : Content → Content → List Hold → List Hold → Type 0
Moves c d lost won = (m : Hold → ℕ) → sum_by m (holds_in d.slots) + sum_by m lost ≡ sum_by m (holds_in c.slots) + sum_by m won

-- nothing, where the holds stay
pub no-moves : (c d : Content) → holds_in d.slots ≡ holds_in c.slots → Moves c d [] []
no-moves c d same m = ap (λ (hs : List Hold). sum_by m hs + 0) same

-- so many more and less of one birth
pub moved-holding : (c d : Content) (lost won : List Hold) → Moves c d lost won → (x : ℕ)
    → holding x d + sum_by (of_birth x) lost ≡ holding x c + sum_by (of_birth x) won
moved-holding c d lost won moves x = omega (arith, moves (of_birth x), holding-weighs x c.slots, holding-weighs x d.slots)

pub moved-children : (c d : Content) (lost won : List Hold) → Moves c d lost won → (x : ℕ)
    → children x d + sum_by (child_of_birth x) lost ≡ children x c + sum_by (child_of_birth x) won
moved-children c d lost won moves x = omega (arith, moves (child_of_birth x), children-weigh x c.slots, children-weigh x d.slots)

-- a child slot or a link let go, a link pointed, a slot added, and the first slots of an object
pub dropped-moves : (c : Content) (i : ℕ) → Moves c (dropped_at i c) (option_to_list (hold_at c.slots i)) []
dropped-moves c i m = omega (arith, dropped-weighs m i c.slots, weigh-list m (hold_at c.slots i))

pub pointed-moves : (c : Content) (target : Key) (i : ℕ) → empty_link_at c i ≡ true
    → Moves c (pointed_at target i c) [] (option_to_list (hold_at (pointed_at target i c).slots i))
pointed-moves c target i link m =
    let none : weigh m (hold_at c.slots i) ≡ 0 = ap (weigh m) (empty-holds c i link) in
    omega (arith, none, changed-weighs m (pointed target) i c.slots, weigh-list m (hold_at (pointed_at target i c).slots i))

pub added-moves : (c : Content) (name : List ℕ) (slot : Slot) → Moves c (with_slot name slot c) [] (option_to_list (hold_of slot))
added-moves c name slot m = omega (arith, added-weighs m name slot c.slots, weigh-list m (hold_of slot))

pub furnished-moves : (c : Content) (slots : List Named) → c.slots ≡ [] → Moves c (with_all_slots slots c) [] (holds_in slots)
furnished-moves c slots bare m =
    let none : sum_by m (holds_in c.slots) ≡ 0 = ap (λ (l : List Named). sum_by m (holds_in l)) bare in
    omega (arith, none)

-- a value set, an empty link removed, and weak links emptied
set-hold : (val : Val) (s : Slot) → hold_of (with_val val s) ≡ hold_of s
set-hold val (Plain old) = refl
set-hold val (Child key) = refl
set-hold val (Link ty strong target) = refl
set-hold val (Alias key of) = refl

pub set-moves : (val : Val) (i : ℕ) (c : Content) → Moves c (set_at val i c) [] []
set-moves val i c = no-moves c (set_at val i c) (changed-holds (with_val val) (set-hold val) i c.slots)

pub cut-moves : (c : Content) (i : ℕ) → empty_link_at c i ≡ true → Moves c (cut_at i c) [] []
cut-moves c i link = no-moves c (cut_at i c) (removed-holds i c.slots (empty-holds c i link))

forget-hold : (n : ℕ) (s : Slot) → hold_of (forgotten_in n s) ≡ hold_of s
forget-hold n (Plain val) = refl
forget-hold n (Child key) = refl
forget-hold n (Link ty true target) = refl
forget-hold n (Link ty false target) = refl
forget-hold n (Alias key of) = refl

pub forgotten-holds : (n : ℕ) (c : Content) → holds_in (forgotten n c).slots ≡ holds_in c.slots
forgotten-holds n c = each-holds (forgotten_in n) (forget-hold n) c.slots

-- how many slots there are then
pub changed-length : (g : Slot → Slot) (i : ℕ) (slots : List Named) → length (changed_at g i slots) ≡ length slots
changed-length g i [] = refl
changed-length g zero (s ∷ slots) = refl
changed-length g (suc i) (s ∷ slots) = ap suc (changed-length g i slots)

pub each-length : (g : Slot → Slot) (slots : List Named) → length (each_changed g slots) ≡ length slots
each-length g [] = refl
each-length g (s ∷ slots) = ap suc (each-length g slots)

pub dropped-length : (i : ℕ) (slots : List Named) → length (let_go_at i slots) ≤ length slots
dropped-length i [] = omega arith
dropped-length zero ((name, Plain val) ∷ slots) = omega arith
dropped-length zero ((name, Child key) ∷ slots) = omega arith
dropped-length zero ((name, Link ty strong target) ∷ slots) = omega arith
dropped-length zero ((name, Alias key of) ∷ slots) = omega arith
dropped-length (suc i) (s ∷ slots) = let rest = dropped-length i slots in omega arith

pub removed-length : (i : ℕ) (slots : List Named) → length (remove slots i) ≤ length slots
removed-length zero [] = omega arith
removed-length (suc i) [] = omega arith
removed-length zero (s ∷ slots) = omega arith
removed-length (suc i) (s ∷ slots) = let rest = removed-length i slots in omega arith

pub added-length : (name : List ℕ) (slot : Slot) (slots : List Named) → length (slots ++ (name, slot) ∷ []) ≡ length slots + 1
added-length name slot [] = refl
added-length name slot (s ∷ slots) = let rest = added-length name slot slots in omega arith

-- what a slot holds it names
pub hold-named : (o : Option Slot) (h : Hold) → option_and_then hold_of o ≡ Some h → option_and_then target_of o ≡ Some h.key
hold-named None h e = cc
hold-named (Some (Plain val)) h e = cc
hold-named (Some (Child key)) h e = ap (option_map (λ (x : Hold). x.key)) e
hold-named (Some (Link ty true None)) h e = cc
hold-named (Some (Link ty true (Some key))) h e = ap (option_map (λ (x : Hold). x.key)) e
hold-named (Some (Link ty false target)) h e = cc
hold-named (Some (Alias key of)) h e = cc

pub hold-target : (P : Key → Type 0) (s : Slot) → IfSome (target_of s) P → IfSome (hold_of s) (λ h. P h.key)
hold-target P (Plain val) all = tt
hold-target P (Child key) all = all
hold-target P (Link ty true None) all = tt
hold-target P (Link ty true (Some key)) all = all
hold-target P (Link ty false target) all = tt
hold-target P (Alias key of) all = tt

pub hold-at-target : (P : Key → Type 0) (i : ℕ) (slots : List Named) → AllByRecursion (λ (s : Named). IfSome (target_of s.1) P) slots
    → IfSome (hold_at slots i) (λ h. P h.key)
hold-at-target P i [] all = tt
hold-at-target P zero (s ∷ slots) all = hold-target P s.1 all.0
hold-at-target P (suc i) (s ∷ slots) all = hold-at-target P i slots all.1

-- what a link without a target holds, once it points at an object
pub pointed-hold : (P : Hold → Type 0) (target : Key) → P (record { key = target; child = false }) → (i : ℕ) (slots : List Named)
    → option_map_or is_empty_link (slot_in slots i) false ≡ true → IfSome (hold_at (changed_at (pointed target) i slots) i) P
pointed-hold P target new i [] e = cc
pointed-hold P target new zero ((name, Plain val) ∷ slots) e = cc
pointed-hold P target new zero ((name, Child key) ∷ slots) e = cc
pointed-hold P target new zero ((name, Link ty true None) ∷ slots) e = new
pointed-hold P target new zero ((name, Link ty true (Some key)) ∷ slots) e = cc
pointed-hold P target new zero ((name, Link ty false target') ∷ slots) e = tt
pointed-hold P target new zero ((name, Alias key of) ∷ slots) e = cc
pointed-hold P target new (suc i) (s ∷ slots) e = pointed-hold P target new i slots e

-- no child, no count of children
pub no-child : (x : ℕ) (o : Option Hold) → IfSome o (λ h. h.child ≡ false) → sum_by (child_of_birth x) (option_to_list o) ≡ 0
no-child x None not = refl
no-child x (Some h) not =
    let none : child_of_birth x h ≡ 0 = ap (λ (t : Bool). cond {A = ℕ} t (of_birth x h) 0) not in
    omega (arith, none, sum_by-cons (child_of_birth x) h [])

pub childless-holds : (x : ℕ) (slots : List Named) → AllByRecursion (λ (s : Named). child_of s.1 ≡ None) slots → sum_by (child_of_birth x) (holds_in slots) ≡ 0
childless-holds x [] none = refl
childless-holds x (s ∷ slots) none =
    omega (arith, childless s.1 none.0, childless-holds x slots none.1, weigh-cons (child_of_birth x) (hold_of s.1) (holds_in slots))
  where
    childless : (t : Slot) → child_of t ≡ None → weigh (child_of_birth x) (hold_of t) ≡ 0
    childless (Plain val) none = refl
    childless (Child key) none = cc
    childless (Link ty true None) none = refl
    childless (Link ty true (Some key)) none = refl
    childless (Link ty false target) none = refl
    childless (Alias key of) none = refl

-- what an option has, it has by a weaker property
pub some-imply : {X : Type 0} (P Q : X → Type 0) → ((x : X) → P x → Q x) → (o : Option X) → IfSome o P → IfSome o Q
some-imply P Q weaker None has = tt
some-imply P Q weaker (Some x) has = weaker x has
