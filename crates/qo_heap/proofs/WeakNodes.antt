-- The nodes of one owner: by number, by place, and what they weigh with what the links name.
use Rattle.std.proofs.Common.{◌≡◌, refl, ap, ap₂, sym, subst, ◌∙◌, ℕ, zero, suc, ◌+◌, ◌-◌, ◌<◌, ◌≤◌, Bool, true, false, not, ◌&&◌, ◌==◌, cond, eqb, nat_lt, List, [], ◌∷◌, ◌++◌, length, position, slice_get, slice_set, get_or, remove, sum_by, Option, Some, None, option_map, arith}
use Rattle.std.specs.List.{AllByRecursion, position_or_len}
use Rattle.std.proofs.lemmas.Bool.{eqb-true, eq-eqb}
use Rattle.std.proofs.lemmas.Bool.Decides.{nat_tests}
use Rattle.std.proofs.lemmas.Option.{same_Some}
use Rattle.std.proofs.lemmas.List.Sums.{sum_by-cons}
use Rattle.qo_slots.specs.declared.keys.Key.{Key}
use Rattle.qo_object.specs.Slots.{is_born}
use Rattle.qo_heap.specs.WeakLinks.{NumbersRise, changed_node, new_node, node_of, one_end, same_end}
use Rattle.qo_heap.specs.WeakLists.{named_weight}
use Rattle.qo_heap.specs.declared.weak_links.End.{End}
use Rattle.qo_heap.specs.declared.weak_links.Node.{Node}

-- the place of the first that passes
module _ (test : Node → Bool) (xs : List Node) where
  placed : (at : ℕ) → position test xs ≡ Some at → (at ≡ position_or_len test xs) × (at < length xs)
  placed at found = by (nat_lt (position_or_len test xs) (length xs)) refl found
    where
      by : (b : Bool) → nat_lt (position_or_len test xs) (length xs) ≡ b → cond b (Some (position_or_len test xs)) None ≡ Some at
          → (at ≡ position_or_len test xs) × (at < length xs)
      by true is same = let e : position_or_len test xs ≡ at = same_Some (position_or_len test xs) at same in (sym e, grind (arith, nat_tests))
      by false is same = cc

  not-placed : position test xs ≡ None → nat_lt (position_or_len test xs) (length xs) ≡ false
  not-placed none = by (nat_lt (position_or_len test xs) (length xs)) refl none
    where
      by : (b : Bool) → nat_lt (position_or_len test xs) (length xs) ≡ b → cond b (Some (position_or_len test xs)) None ≡ None → b ≡ false
      by true is same = cc
      by false is same = refl

-- the node that was found by its number is changed, and none is where none was found
module _ (id : ℕ) (f : Node → Node) where
  abbrev is_number : Node → Bool
  is_number n = eqb n.id id

  changed-first : (ns : List Node) (at : ℕ) (x y : Node) → at ≡ position_or_len is_number ns → at < length ns → x ≡ get_or ns at x → y ≡ f x
      → slice_set ns at y ≡ changed_node id f ns
  changed-first [] at x y found low is new = absurd (omega (arith, low))
  changed-first (n ∷ ns) zero x y found low is new = by (eqb n.id id) refl found
    where
      by : (b : Bool) → eqb n.id id ≡ b → 0 ≡ cond (not b) (1 + position_or_len is_number ns) 0 → y ∷ ns ≡ cond b (f n ∷ ns) (n ∷ changed_node id f ns)
      by true is_it same = ap (λ (m : Node). m ∷ ns) (new ∙ ap f is)
      by false is_it same = absurd (omega arith)
  changed-first (n ∷ ns) (suc at) x y found low is new = by (eqb n.id id) found (λ same. changed-first ns at x y same (omega (arith, low)) is new)
    where
      by : (b : Bool) → suc at ≡ cond (not b) (1 + position_or_len is_number ns) 0
          → (at ≡ position_or_len is_number ns → slice_set ns at y ≡ changed_node id f ns)
          → n ∷ slice_set ns at y ≡ cond b (f n ∷ ns) (n ∷ changed_node id f ns)
      by true same rest = absurd (omega arith)
      by false same rest = ap (λ (l : List Node). n ∷ l) (rest (omega arith))

  pub changed-found : (ns : List Node) (at : ℕ) (x y : Node) → position is_number ns ≡ Some at → x ≡ get_or ns at x → y ≡ f x
      → slice_set ns at y ≡ changed_node id f ns
  changed-found ns at x y found is new = let p = placed is_number ns at found in changed-first ns at x y p.0 p.1 is new

  unchanged : (ns : List Node) → nat_lt (position_or_len is_number ns) (length ns) ≡ false → ns ≡ changed_node id f ns
  unchanged [] none = refl
  unchanged (n ∷ ns) none = by (eqb n.id id) none (unchanged ns)
    where
      by : (b : Bool) → nat_lt (cond (not b) (1 + position_or_len is_number ns) 0) (suc (length ns)) ≡ false
          → (nat_lt (position_or_len is_number ns) (length ns) ≡ false → ns ≡ changed_node id f ns) → n ∷ ns ≡ cond b (f n ∷ ns) (n ∷ changed_node id f ns)
      by true past rest = absurd (grind (arith, nat_tests))
      by false past rest = ap (λ (l : List Node). n ∷ l) (rest (grind (arith, nat_tests)))

  pub changed-none : (ns : List Node) → position is_number ns ≡ None → ns ≡ changed_node id f ns
  changed-none ns none = unchanged ns (not-placed is_number ns none)

-- what is found by number, once the node of a number was changed
module _ (id : ℕ) (f : Node → Node) (keeps : (x : Node) → (f x).id ≡ x.id) where
  pub node-here : (ns : List Node) → node_of (changed_node id f ns) id ≡ option_map f (node_of ns id)
  node-here [] = refl
  node-here (x ∷ xs) = go (eqb x.id id) refl (node-here xs)
    where
      go : (b : Bool) → eqb x.id id ≡ b → node_of (changed_node id f xs) id ≡ option_map f (node_of xs id)
          → node_of (changed_node id f (x ∷ xs)) id ≡ option_map f (node_of (x ∷ xs) id)
      go true is rest = let now : eqb (f x).id id ≡ true = ap (λ (k : ℕ). eqb k id) (keeps x) ∙ is in rw (is, now) refl
      go false is rest = rw (is, is) rest

  pub node-far : (j : ℕ) → eqb id j ≡ false → (ns : List Node) → node_of (changed_node id f ns) j ≡ node_of ns j
  node-far j differ [] = refl
  node-far j differ (x ∷ xs) = go (eqb x.id id) refl (eqb x.id j) refl (node-far j differ xs)
    where
      go : (a : Bool) → eqb x.id id ≡ a → (b : Bool) → eqb x.id j ≡ b → node_of (changed_node id f xs) j ≡ node_of xs j
          → node_of (changed_node id f (x ∷ xs)) j ≡ node_of (x ∷ xs) j
      go true p true q rest = absurd (let a : x.id ≡ id = eqb-true x.id id p in let b : x.id ≡ j = eqb-true x.id j q in grind arith)
      go true p false q rest = let now : eqb (f x).id j ≡ false = ap (λ (k : ℕ). eqb k j) (keeps x) ∙ q in rw (p, now, q) refl
      go false p true q rest = rw (p, q) refl
      go false p false q rest = rw (p, q) rest

  pub named-changed : (n : ℕ) (w : End → ℕ) (owner : Key) (ns : List Node) (ts : List (Option Key))
      → named_weight n w owner (changed_node id f ns) ts ≡ named_weight n w owner ns ts
  named-changed n w owner [] ts = refl
  named-changed n w owner (x ∷ xs) [] = go (eqb x.id id)
    where
      go : (b : Bool) → named_weight n w owner (cond b (f x ∷ xs) (x ∷ changed_node id f xs)) [] ≡ 0
      go true = refl
      go false = refl
  named-changed n w owner (x ∷ xs) (t ∷ ts) = go (eqb x.id id) (named-changed n w owner xs ts)
    where
      go : (b : Bool) → named_weight n w owner (changed_node id f xs) ts ≡ named_weight n w owner xs ts
          → named_weight n w owner (cond b (f x ∷ xs) (x ∷ changed_node id f xs)) (t ∷ ts) ≡ named_weight n w owner (x ∷ xs) (t ∷ ts)
      go true rest = ap (λ (k : ℕ). cond {A = ℕ} (is_born n t) (w (record { owner = owner; id = k })) 0 + named_weight n w owner xs ts) (keeps x)
      go false rest = ap (λ (k : ℕ). cond {A = ℕ} (is_born n t) (w (record { owner = owner; id = x.id })) 0 + k) rest

  above-changed : (k : ℕ) (ns : List Node) → AllByRecursion (λ (x : Node). k < x.id) ns → AllByRecursion (λ (x : Node). k < x.id) (changed_node id f ns)
  above-changed k [] all = tt
  above-changed k (x ∷ xs) all = go (eqb x.id id) (above-changed k xs all.1)
    where
      go : (b : Bool) → AllByRecursion (λ (y : Node). k < y.id) (changed_node id f xs)
          → AllByRecursion (λ (y : Node). k < y.id) (cond b (f x ∷ xs) (x ∷ changed_node id f xs))
      go true rest = (subst (λ (j : ℕ). k < j) (sym (keeps x)) all.0, all.1)
      go false rest = (all.0, rest)

  pub rise-changed : (ns : List Node) → NumbersRise ns → NumbersRise (changed_node id f ns)
  rise-changed [] rise = tt
  rise-changed (x ∷ xs) rise = go (eqb x.id id) (rise-changed xs rise.1)
    where
      go : (b : Bool) → NumbersRise (changed_node id f xs) → NumbersRise (cond b (f x ∷ xs) (x ∷ changed_node id f xs))
      go true rest = (subst (λ (j : ℕ). AllByRecursion (λ (y : Node). j < y.id) xs) (sym (keeps x)) rise.0, rise.1)
      go false rest = (above-changed x.id xs rise.0, rest)

  pub length-changed : (ns : List Node) → length (changed_node id f ns) ≡ length ns
  length-changed [] = refl
  length-changed (x ∷ xs) = go (eqb x.id id) (length-changed xs)
    where
      go : (b : Bool) → length (changed_node id f xs) ≡ length xs → length (cond b (f x ∷ xs) (x ∷ changed_node id f xs)) ≡ suc (length xs)
      go true rest = refl
      go false rest = ap suc rest

-- the links of one owner

abbrev pub span : (End → ℕ) → Key → List Node → ℕ
span w owner ns = sum_by (λ (x : Node). w (record { owner = owner; id = x.id })) ns

module _ (w : End → ℕ) (owner : Key) where
  two-names : (n m a : ℕ) → eqb n m ≡ false → (t : Option Key) → cond {A = ℕ} (is_born n t) a 0 + cond {A = ℕ} (is_born m t) a 0 ≤ a
  two-names n m a differ None = omega arith
  two-names n m a differ (Some key) = go (eqb key.birth n) refl (eqb key.birth m) refl
    where
      go : (p : Bool) → eqb key.birth n ≡ p → (q : Bool) → eqb key.birth m ≡ q
          → cond {A = ℕ} (eqb key.birth n) a 0 + cond {A = ℕ} (eqb key.birth m) a 0 ≤ a
      go true e true e' =
          absurd (let i : key.birth ≡ n = eqb-true key.birth n e in let j : key.birth ≡ m = eqb-true key.birth m e' in grind arith)
      go true e false e' = rw (e, e') (omega arith)
      go false e true e' = rw (e, e') (omega arith)
      go false e false e' = rw (e, e') (omega arith)

  pub named-two : (n m : ℕ) → eqb n m ≡ false → (xs : List Node) (ts : List (Option Key)) → named_weight n w owner xs ts + named_weight m w owner xs ts ≤ span w owner xs
  named-two n m differ [] ts = omega arith
  named-two n m differ (x ∷ xs) [] = omega arith
  named-two n m differ (x ∷ xs) (t ∷ ts) =
      omega (
        arith,
        two-names n m (w (record { owner = owner; id = x.id })) differ t,
        named-two n m differ xs ts,
        sum_by-cons (λ (y : Node). w (record { owner = owner; id = y.id })) x xs,
      )

  pub one-name : (n a : ℕ) (t : Option Key) → cond {A = ℕ} (is_born n t) a 0 ≤ a
  one-name n a t = go (is_born n t)
    where
      go : (p : Bool) → cond {A = ℕ} p a 0 ≤ a
      go true = omega arith
      go false = omega arith

  pub named-one : (n : ℕ) (xs : List Node) (ts : List (Option Key)) → named_weight n w owner xs ts ≤ span w owner xs
  named-one n [] ts = omega arith
  named-one n (x ∷ xs) [] = omega arith
  named-one n (x ∷ xs) (t ∷ ts) =
      omega (
        arith,
        one-name n (w (record { owner = owner; id = x.id })) t,
        named-one n xs ts,
        sum_by-cons (λ (y : Node). w (record { owner = owner; id = y.id })) x xs,
      )

-- one link among those of an owner, and among those of rows

module _ (e : End) (owner : Key) where
  pub here-id : eqb e.owner.birth owner.birth ≡ true → (id : ℕ) → one_end e (record { owner = owner; id = id }) ≡ cond {A = ℕ} (eqb e.id id) 1 0
  here-id is id = rw is refl

  pub other-owner : eqb e.owner.birth owner.birth ≡ false → (ns : List Node) → span (one_end e) owner ns ≡ 0
  other-owner differ [] = refl
  other-owner differ (x ∷ xs) =
      let none : one_end e (record { owner = owner; id = x.id }) ≡ 0 = rw differ refl in
      omega (arith, none, other-owner differ xs, sum_by-cons (λ (y : Node). one_end e (record { owner = owner; id = y.id })) x xs)

  above-none : (ns : List Node) → AllByRecursion (λ (x : Node). e.id < x.id) ns → span (one_end e) owner ns ≡ 0
  above-none [] all = refl
  above-none (x ∷ xs) all = go (eqb e.owner.birth owner.birth) refl (above-none xs all.1)
    where
      far : eqb e.id x.id ≡ false
      far = let up : e.id < x.id = all.0 in grind arith

      go : (t : Bool) → eqb e.owner.birth owner.birth ≡ t → span (one_end e) owner xs ≡ 0 → span (one_end e) owner (x ∷ xs) ≡ 0
      go true is rest =
          let none : one_end e (record { owner = owner; id = x.id }) ≡ 0 = here-id is x.id ∙ ap (λ (b : Bool). cond {A = ℕ} b 1 0) far in
          omega (arith, none, rest, sum_by-cons (λ (y : Node). one_end e (record { owner = owner; id = y.id })) x xs)
      go false differ rest = other-owner differ (x ∷ xs)

  pub numbers-once : (ns : List Node) → NumbersRise ns → span (one_end e) owner ns ≤ 1
  numbers-once [] rise = omega arith
  numbers-once (x ∷ xs) rise = go (same_end e (record { owner = owner; id = x.id })) refl (numbers-once xs rise.1)
    where
      split : span (one_end e) owner (x ∷ xs) ≡ one_end e (record { owner = owner; id = x.id }) + span (one_end e) owner xs
      split = sum_by-cons (λ (y : Node). one_end e (record { owner = owner; id = y.id })) x xs

      id-is : (a b : Bool) → (a && b) ≡ true → b ≡ true
      id-is true b both = both
      id-is false b both = cc

      go : (t : Bool) → same_end e (record { owner = owner; id = x.id }) ≡ t → span (one_end e) owner xs ≤ 1 → span (one_end e) owner (x ∷ xs) ≤ 1
      go true is rest =
          let same : e.id ≡ x.id = eqb-true e.id x.id (id-is (e.owner.birth == owner.birth) (e.id == x.id) is) in
          let above : AllByRecursion (λ (y : Node). e.id < y.id) xs = subst (λ (k : ℕ). AllByRecursion (λ (y : Node). k < y.id) xs) (sym same) rise.0 in
          let one : one_end e (record { owner = owner; id = x.id }) ≡ 1 = ap (λ (b : Bool). cond {A = ℕ} b 1 0) is in
          omega (arith, one, split, above-none xs above)
      go false is rest =
          let none : one_end e (record { owner = owner; id = x.id }) ≡ 0 = ap (λ (b : Bool). cond {A = ℕ} b 1 0) is in
          omega (arith, none, split, rest)

-- one that does not name the object weighs beside those that do
pub named-less : (n : ℕ) (w : End → ℕ) (owner : Key) (k : ℕ) (xs : List Node) (ts : List (Option Key)) (x : Node) (t : Option Key) → slice_get xs k ≡ Some x
    → slice_get ts k ≡ Some t → is_born n t ≡ false
    → named_weight n w owner xs ts + w (record { owner = owner; id = x.id }) ≤ span w owner xs
named-less n w owner k [] ts x t at had other = cc
named-less n w owner k (y ∷ ys) [] x t at had other = cc
named-less n w owner zero (y ∷ ys) (u ∷ us) x t at had other =
    let node : y ≡ x = cc at in
    let name : u ≡ t = cc had in
    let none : cond {A = ℕ} (is_born n u) (w (record { owner = owner; id = y.id })) 0 ≡ 0 = rw (name, other) refl in
    let same : w (record { owner = owner; id = y.id }) ≡ w (record { owner = owner; id = x.id }) = ap (λ (z : Node). w (record { owner = owner; id = z.id })) node in
    omega (arith, none, same, named-one w owner n ys us, sum_by-cons (λ (z : Node). w (record { owner = owner; id = z.id })) y ys)
named-less n w owner (suc k) (y ∷ ys) (u ∷ us) x t at had other =
    omega (
      arith,
      one-name w owner n (w (record { owner = owner; id = y.id })) u,
      named-less n w owner k ys us x t at had other,
      sum_by-cons (λ (z : Node). w (record { owner = owner; id = z.id })) y ys,
    )

-- a number above all is that of none
pub below-none : (e : End) (owner : Key) (ns : List Node) → AllByRecursion (λ (x : Node). x.id < e.id) ns → span (one_end e) owner ns ≡ 0
below-none e owner [] all = refl
below-none e owner (x ∷ xs) all =
    let far : eqb e.id x.id ≡ false = (let up : x.id < e.id = all.0 in grind arith) in
    omega (
      arith,
      none (eqb e.owner.birth owner.birth) (eqb e.id x.id) far,
      below-none e owner xs all.1,
      sum_by-cons (λ (y : Node). one_end e (record { owner = owner; id = y.id })) x xs,
    )
  where
    none : (a b : Bool) → b ≡ false → cond {A = ℕ} (a && b) 1 0 ≡ 0
    none true b is = ap (λ (c : Bool). cond {A = ℕ} c 1 0) is
    none false b is = refl

-- a node by number, where one was added or removed
pub node-added : (id j : ℕ) → eqb id j ≡ false → (ns : List Node) → node_of (ns ++ new_node id ∷ []) j ≡ node_of ns j
node-added id j differ [] = rw differ refl
node-added id j differ (x ∷ xs) = go (eqb x.id j) (node-added id j differ xs)
  where
    go : (b : Bool) → node_of (xs ++ new_node id ∷ []) j ≡ node_of xs j → cond b (Some x) (node_of (xs ++ new_node id ∷ []) j) ≡ cond b (Some x) (node_of xs j)
    go true rest = refl
    go false rest = rest

pub node-removed : (k j : ℕ) (ns : List Node) (x : Node) → slice_get ns k ≡ Some x → eqb x.id j ≡ false → node_of (remove ns k) j ≡ node_of ns j
node-removed k j [] x at differ = cc
node-removed zero j (y ∷ ys) x at differ = let is : y ≡ x = cc at in rw (is, differ) refl
node-removed (suc k) j (y ∷ ys) x at differ = go (eqb y.id j) (node-removed k j ys x at differ)
  where
    go : (b : Bool) → node_of (remove ys k) j ≡ node_of ys j → cond b (Some y) (node_of (remove ys k) j) ≡ cond b (Some y) (node_of ys j)
    go true rest = refl
    go false rest = rest

-- the node at a place is that of its number
pub node-at : (ns : List Node) → NumbersRise ns → (k : ℕ) (x : Node) → slice_get ns k ≡ Some x → node_of ns x.id ≡ Some x
node-at [] rise k x at = cc
node-at (y ∷ ys) rise zero x at =
    let is : y ≡ x = cc at in
    let here : eqb y.id x.id ≡ true = eq-eqb y.id x.id (ap (λ (z : Node). z.id) is) in
    rw here (ap Some is)
node-at (y ∷ ys) rise (suc k) x at =
    let up : y.id < x.id = above-at y.id ys k x rise.0 at in
    let differ : eqb y.id x.id ≡ false = grind arith in
    rw differ (node-at ys rise.1 k x at)
  where
    above-at : (i : ℕ) (ns : List Node) (k : ℕ) (x : Node) → AllByRecursion (λ (z : Node). i < z.id) ns → slice_get ns k ≡ Some x → i < x.id
    above-at i [] k x all at = cc
    above-at i (z ∷ zs) zero x all at = let is : z ≡ x = cc at in subst (λ (v : Node). i < v.id) is all.0
    above-at i (z ∷ zs) (suc k) x all at = above-at i zs k x all.1 at

-- numbers rise where one above all is added, and where one is removed
pub rise-added : (ns : List Node) (id : ℕ) → NumbersRise ns → AllByRecursion (λ (x : Node). x.id < id) ns → NumbersRise (ns ++ new_node id ∷ [])
rise-added [] id rise below = (tt, tt)
rise-added (x ∷ xs) id rise below = (more x.id xs rise.0 below.0, rise-added xs id rise.1 below.1)
  where
    more : (k : ℕ) (ys : List Node) → AllByRecursion (λ (y : Node). k < y.id) ys → k < id → AllByRecursion (λ (y : Node). k < y.id) (ys ++ new_node id ∷ [])
    more k [] all low = (low, tt)
    more k (y ∷ ys) all low = (all.0, more k ys all.1 low)

above-removed : (i k : ℕ) (ns : List Node) → AllByRecursion (λ (x : Node). i < x.id) ns → AllByRecursion (λ (x : Node). i < x.id) (remove ns k)
above-removed i zero [] all = tt
above-removed i (suc k) [] all = tt
above-removed i zero (x ∷ xs) all = all.1
above-removed i (suc k) (x ∷ xs) all = (all.0, above-removed i k xs all.1)

pub rise-removed : (k : ℕ) (ns : List Node) → NumbersRise ns → NumbersRise (remove ns k)
rise-removed zero [] rise = tt
rise-removed (suc k) [] rise = tt
rise-removed zero (x ∷ xs) rise = rise.1
rise-removed (suc k) (x ∷ xs) rise = (above-removed x.id k xs rise.0, rise-removed k xs rise.1)

-- what the links of an owner weigh, once what one of them names was put, one was added or removed
module _ (n : ℕ) (w : End → ℕ) (owner : Key) where
  abbrev pub weighs : Node → Option Key → ℕ
  weighs x t = cond {A = ℕ} (is_born n t) (w (record { owner = owner; id = x.id })) 0

  pub put-weighs : (k : ℕ) (xs : List Node) (ts : List (Option Key)) (x : Node) (t was : Option Key) → slice_get xs k ≡ Some x → slice_get ts k ≡ Some was
      → named_weight n w owner xs (slice_set ts k t) + weighs x was ≡ named_weight n w owner xs ts + weighs x t
  put-weighs k [] ts x t was at had = cc
  put-weighs k (y ∷ ys) [] x t was at had = cc
  put-weighs zero (y ∷ ys) (u ∷ us) x t was at had =
      let node : y ≡ x = cc at in
      let name : u ≡ was = cc had in
      let here : weighs y u ≡ weighs x was = ap₂ (λ (a : Node) (b : Option Key). weighs a b) node name in
      let now : weighs y t ≡ weighs x t = ap (λ (a : Node). weighs a t) node in
      omega (arith, here, now)
  put-weighs (suc k) (y ∷ ys) (u ∷ us) x t was at had = omega (arith, put-weighs k ys us x t was at had)

  pub added-weighs : (xs : List Node) (ts : List (Option Key)) (x : Node) → length xs ≡ length ts
      → named_weight n w owner (xs ++ x ∷ []) (ts ++ None ∷ []) ≡ named_weight n w owner xs ts
  added-weighs [] [] x size = refl
  added-weighs [] (u ∷ us) x size = absurd (omega (arith, size))
  added-weighs (y ∷ ys) [] x size = absurd (omega (arith, size))
  added-weighs (y ∷ ys) (u ∷ us) x size = ap (λ (r : ℕ). weighs y u + r) (added-weighs ys us x (omega (arith, size)))

  pub removed-weighs : (k : ℕ) (xs : List Node) (ts : List (Option Key)) → slice_get ts k ≡ Some None
      → named_weight n w owner (remove xs k) (remove ts k) ≡ named_weight n w owner xs ts
  removed-weighs k xs [] had = cc
  removed-weighs zero [] (u ∷ us) had = refl
  removed-weighs (suc k) [] (u ∷ us) had = refl
  removed-weighs zero (y ∷ ys) (u ∷ us) had = let none : u ≡ None = cc had in rw none (omega arith)
  removed-weighs (suc k) (y ∷ ys) (u ∷ us) had = ap (λ (r : ℕ). weighs y u + r) (removed-weighs k ys us had)

  pub none-weighs : (xs : List Node) (ts : List (Option Key)) → AllByRecursion (λ (t : Option Key). t ≡ None) ts → named_weight n w owner xs ts ≡ 0
  none-weighs [] ts all = refl
  none-weighs (x ∷ xs) [] all = refl
  none-weighs (x ∷ xs) (t ∷ ts) all = let none : t ≡ None = all.0 in rw none (omega (arith, none-weighs xs ts all.1))

-- all are below a number that is above the last
pub last-above : (ns : List Node) (x : Node) (id : ℕ) → NumbersRise ns → slice_get ns (length ns - 1) ≡ Some x → x.id < id
    → AllByRecursion (λ (y : Node). y.id < id) ns
last-above [] x id rise last up = cc
last-above (y ∷ []) x id rise last up = let is : y ≡ x = cc last in (subst (λ (z : Node). z.id < id) (sym is) up, tt)
last-above (y ∷ z ∷ zs) x id rise last up =
    let same : length (y ∷ z ∷ zs) - 1 ≡ suc (length (z ∷ zs) - 1) = omega arith in
    let there : slice_get (z ∷ zs) (length (z ∷ zs) - 1) ≡ Some x = rw same at last in
    let rest = last-above (z ∷ zs) x id rise.1 there up in
    let low : z.id < id = rest.0 in
    let first : y.id < z.id = rise.0.0 in
    (omega (arith, low, first), rest)
