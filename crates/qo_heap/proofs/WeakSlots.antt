-- What the weak links of an object name, once one of its slots was changed.
use Rattle.std.proofs.Common.{◌≡◌, refl, ap, sym, ◌∙◌, ℕ, zero, suc, ◌+◌, ◌≤◌, Bool, true, false, cond, List, [], ◌∷◌, ◌++◌, length, slice_get, slice_set, remove, take, Option, Some, None, option_map, is_some, arith}
use Rattle.std.specs.List.{AllByRecursion, cons_option}
use Rattle.std.specs.Option.{option_and_then}
use Rattle.qo_values.specs.declared.properties.Val.{Val}
use Rattle.qo_slots.specs.declared.keys.Key.{Key}
use Rattle.qo_object.specs.declared.slots.Slot.{Slot}
use Rattle.qo_object.specs.declared.slots.Slot.TheVariants.{Plain, Child, Link, Alias}
use Rattle.qo_object.specs.Slots.{Named, changed_at, let_go_at, named_in, pointed, slot_in, weak_target, with_val}
use Rattle.qo_heap.specs.Keeping.{hold_at}
use Rattle.qo_heap.specs.WeakLinks.{is_weak_at, weak_before, weak_name, weak_names, weak_place}

-- names by place, where one is put, if there is one
abbrev pub put_at : Option ℕ → Option Key → List (Option Key) → List (Option Key)
put_at None t ts = ts
put_at (Some k) t ts = slice_set ts k t

-- behind a slot that is no weak link, and behind one that is
same-place : (o : Option ℕ) → option_map (λ (k : ℕ). k) o ≡ o
same-place None = refl
same-place (Some k) = refl

behind-other : (o : Option ℕ) (t : Option Key) (ts : List (Option Key)) → put_at (option_map (λ (k : ℕ). k) o) t ts ≡ put_at o t ts
behind-other None t ts = refl
behind-other (Some k) t ts = refl

behind-weak : (o : Option ℕ) (t name : Option Key) (ts : List (Option Key)) → put_at (option_map suc o) t (name ∷ ts) ≡ name ∷ put_at o t ts
behind-weak None t name ts = refl
behind-weak (Some k) t name ts = refl

-- the slot at a place is let go
pub dropped-names : (i : ℕ) (slots : List Named) → weak_names (let_go_at i slots) ≡ put_at (weak_place slots i) None (weak_names slots)
dropped-names i [] = refl
dropped-names zero ((name, Plain val) ∷ slots) = refl
dropped-names zero ((name, Child key) ∷ slots) = refl
dropped-names zero ((name, Link ty true target) ∷ slots) = refl
dropped-names zero ((name, Link ty false target) ∷ slots) = refl
dropped-names zero ((name, Alias key of) ∷ slots) = refl
dropped-names (suc i) ((name, Plain val) ∷ slots) = dropped-names i slots ∙ sym (behind-other (weak_place slots i) None (weak_names slots))
dropped-names (suc i) ((name, Child key) ∷ slots) = dropped-names i slots ∙ sym (behind-other (weak_place slots i) None (weak_names slots))
dropped-names (suc i) ((name, Link ty true target) ∷ slots) = dropped-names i slots ∙ sym (behind-other (weak_place slots i) None (weak_names slots))
dropped-names (suc i) ((name, Link ty false target) ∷ slots) =
    ap (λ (l : List (Option Key)). target ∷ l) (dropped-names i slots) ∙ sym (behind-weak (weak_place slots i) None target (weak_names slots))
dropped-names (suc i) ((name, Alias key of) ∷ slots) = dropped-names i slots ∙ sym (behind-other (weak_place slots i) None (weak_names slots))

-- the link at a place is pointed at an object
pub pointed-names : (key : Key) (i : ℕ) (slots : List Named)
    → weak_names (changed_at (pointed key) i slots) ≡ put_at (weak_place slots i) (Some key) (weak_names slots)
pointed-names key i [] = refl
pointed-names key zero ((name, Plain val) ∷ slots) = refl
pointed-names key zero ((name, Child k) ∷ slots) = refl
pointed-names key zero ((name, Link ty true target) ∷ slots) = refl
pointed-names key zero ((name, Link ty false target) ∷ slots) = refl
pointed-names key zero ((name, Alias k of) ∷ slots) = refl
pointed-names key (suc i) ((name, Plain val) ∷ slots) = pointed-names key i slots ∙ sym (behind-other (weak_place slots i) (Some key) (weak_names slots))
pointed-names key (suc i) ((name, Child k) ∷ slots) = pointed-names key i slots ∙ sym (behind-other (weak_place slots i) (Some key) (weak_names slots))
pointed-names key (suc i) ((name, Link ty true target) ∷ slots) =
    pointed-names key i slots ∙ sym (behind-other (weak_place slots i) (Some key) (weak_names slots))
pointed-names key (suc i) ((name, Link ty false target) ∷ slots) =
    ap (λ (l : List (Option Key)). target ∷ l) (pointed-names key i slots) ∙ sym (behind-weak (weak_place slots i) (Some key) target (weak_names slots))
pointed-names key (suc i) ((name, Alias k of) ∷ slots) = pointed-names key i slots ∙ sym (behind-other (weak_place slots i) (Some key) (weak_names slots))

-- a plain slot has a value, and a slot is added
pub set-names : (val : Val) (i : ℕ) (slots : List Named) → weak_names (changed_at (with_val val) i slots) ≡ weak_names slots
set-names val i [] = refl
set-names val zero ((name, Plain old) ∷ slots) = refl
set-names val zero ((name, Child key) ∷ slots) = refl
set-names val zero ((name, Link ty strong target) ∷ slots) = refl
set-names val zero ((name, Alias key of) ∷ slots) = refl
set-names val (suc i) (s ∷ slots) = ap (λ (l : List (Option Key)). cons_option (weak_name s.1) l) (set-names val i slots)

-- what the weak link at a place names
pub named-place : (i : ℕ) (slots : List Named) (k : ℕ) → weak_place slots i ≡ Some k → slice_get (weak_names slots) k ≡ Some (named_in slots i)
named-place i [] k at = cc
named-place zero ((name, Plain val) ∷ slots) k at = cc
named-place zero ((name, Child key) ∷ slots) k at = cc
named-place zero ((name, Link ty true target) ∷ slots) k at = cc
named-place zero ((name, Alias key of) ∷ slots) k at = cc
named-place zero ((name, Link ty false target) ∷ slots) zero at = refl
named-place zero ((name, Link ty false target) ∷ slots) (suc k) at = cc
named-place (suc i) ((name, Plain val) ∷ slots) k at = named-place i slots k (sym (same-place (weak_place slots i)) ∙ at)
named-place (suc i) ((name, Child key) ∷ slots) k at = named-place i slots k (sym (same-place (weak_place slots i)) ∙ at)
named-place (suc i) ((name, Link ty true target) ∷ slots) k at = named-place i slots k (sym (same-place (weak_place slots i)) ∙ at)
named-place (suc i) ((name, Alias key of) ∷ slots) k at = named-place i slots k (sym (same-place (weak_place slots i)) ∙ at)
named-place (suc i) ((name, Link ty false target) ∷ slots) k at = go (weak_place slots i) refl at (named-place i slots)
  where
    go : (o : Option ℕ) → weak_place slots i ≡ o → option_map suc o ≡ Some k
        → ((j : ℕ) → weak_place slots i ≡ Some j → slice_get (weak_names slots) j ≡ Some (named_in slots i))
        → slice_get (target ∷ weak_names slots) k ≡ Some (named_in slots i)
    go None is next rest = cc
    go (Some j) is next rest = let here : k ≡ suc j = cc next in rw here (rest j is)

-- a slot is removed
abbrev pub removed_at : Option ℕ → List (Option Key) → List (Option Key)
removed_at None ts = ts
removed_at (Some k) ts = remove ts k

removed-weak : (o : Option ℕ) (name : Option Key) (ts : List (Option Key)) → removed_at (option_map suc o) (name ∷ ts) ≡ name ∷ removed_at o ts
removed-weak None name ts = refl
removed-weak (Some k) name ts = refl

pub removed-names : (i : ℕ) (slots : List Named) → weak_names (remove slots i) ≡ removed_at (weak_place slots i) (weak_names slots)
removed-names zero [] = refl
removed-names (suc i) [] = refl
removed-names zero ((name, Plain val) ∷ slots) = refl
removed-names zero ((name, Child key) ∷ slots) = refl
removed-names zero ((name, Link ty true target) ∷ slots) = refl
removed-names zero ((name, Link ty false target) ∷ slots) = refl
removed-names zero ((name, Alias key of) ∷ slots) = refl
removed-names (suc i) ((name, Plain val) ∷ slots) =
    removed-names i slots ∙ ap (λ (o : Option ℕ). removed_at o (weak_names slots)) (sym (same-place (weak_place slots i)))
removed-names (suc i) ((name, Child key) ∷ slots) =
    removed-names i slots ∙ ap (λ (o : Option ℕ). removed_at o (weak_names slots)) (sym (same-place (weak_place slots i)))
removed-names (suc i) ((name, Link ty true target) ∷ slots) =
    removed-names i slots ∙ ap (λ (o : Option ℕ). removed_at o (weak_names slots)) (sym (same-place (weak_place slots i)))
removed-names (suc i) ((name, Link ty false target) ∷ slots) =
    ap (λ (l : List (Option Key)). target ∷ l) (removed-names i slots) ∙ sym (removed-weak (weak_place slots i) target (weak_names slots))
removed-names (suc i) ((name, Alias key of) ∷ slots) =
    removed-names i slots ∙ ap (λ (o : Option ℕ). removed_at o (weak_names slots)) (sym (same-place (weak_place slots i)))

pub added-names : (name : List ℕ) (slot : Slot) (slots : List Named)
    → weak_names (slots ++ (name, slot) ∷ []) ≡ weak_names slots ++ weak_names ((name, slot) ∷ [])
added-names name slot [] = refl
added-names name slot ((n, Plain val) ∷ slots) = added-names name slot slots
added-names name slot ((n, Child key) ∷ slots) = added-names name slot slots
added-names name slot ((n, Link ty true target) ∷ slots) = added-names name slot slots
added-names name slot ((n, Link ty false target) ∷ slots) = ap (λ (l : List (Option Key)). target ∷ l) (added-names name slot slots)
added-names name slot ((n, Alias key of) ∷ slots) = added-names name slot slots

-- which of the weak links a slot is, by what stands before it
pub place_before : (i : ℕ) (slots : List Named) → weak_place slots i ≡ cond (is_weak_at slots i) (Some (weak_before i slots)) None
place_before i [] = refl
place_before zero (s ∷ slots) = two (weak_name s.1)
  where
    two : (o : Option (Option Key)) → option_map {U = ℕ} (λ (_ : Option Key). 0) o ≡ cond {A = Option ℕ} (is_some o) (Some 0) None
    two None = refl
    two (Some t) = refl
place_before (suc i) (s ∷ slots) =
    ap (option_map (λ (k : ℕ). cond (is_some (weak_name s.1)) (suc k) k)) (place_before i slots)
    ∙ two (is_weak_at slots i) (is_some (weak_name s.1)) (weak_before i slots)
  where
    two : (b t : Bool) (n : ℕ) → option_map (λ (k : ℕ). cond t (suc k) k) (cond b (Some n) None) ≡ cond b (Some (cond t (suc n) n)) None
    two true t n = refl
    two false t n = refl

pub before_none : (slots : List Named) → weak_before 0 slots ≡ 0
before_none [] = refl
before_none (s ∷ slots) = refl

pub before_next : (i : ℕ) (slots : List Named) → weak_before (i + 1) slots ≡ weak_before i slots + cond {A = ℕ} (is_weak_at slots i) 1 0
before_next i slots = by (i + 1) (omega arith)
  where
    step : (k : ℕ) (ss : List Named) → weak_before (suc k) ss ≡ weak_before k ss + cond {A = ℕ} (is_weak_at ss k) 1 0
    step k [] = refl
    step zero (s ∷ ss) = rw (before_none ss) (two (weak_name s.1))
      where
        two : (o : Option (Option Key)) → cond {A = ℕ} (is_some o) 1 0 ≡ 0 + cond {A = ℕ} (is_some o) 1 0
        two None = refl
        two (Some t) = refl
    step (suc k) (s ∷ ss) = go (is_some (weak_name s.1)) (step k ss)
      where
        go : (b : Bool) → weak_before (suc k) ss ≡ weak_before k ss + cond {A = ℕ} (is_weak_at ss k) 1 0
            → cond {A = ℕ} b (suc (weak_before (suc k) ss)) (weak_before (suc k) ss)
            ≡ cond {A = ℕ} b (suc (weak_before k ss)) (weak_before k ss) + cond {A = ℕ} (is_weak_at ss k) 1 0
        go true rest = omega (arith, rest)
        go false rest = rest

    by : (j : ℕ) → j ≡ suc i → weak_before j slots ≡ weak_before i slots + cond {A = ℕ} (is_weak_at slots i) 1 0
    by j next = rw next (step i slots)

pub before_all : (i : ℕ) (slots : List Named) → length slots ≤ i → weak_before i slots ≡ length (weak_names slots)
before_all i [] past = refl
before_all zero (s ∷ slots) past = absurd (omega (arith, past))
before_all (suc i) (s ∷ slots) past = two (weak_name s.1) (before_all i slots (omega (arith, past)))
  where
    two : (o : Option (Option Key)) → weak_before i slots ≡ length (weak_names slots)
        → cond {A = ℕ} (is_some o) (suc (weak_before i slots)) (weak_before i slots) ≡ length (cons_option o (weak_names slots))
    two None rest = rest
    two (Some t) rest = ap suc rest

pub before_within : (i : ℕ) (slots : List Named) → weak_before i slots ≤ i
before_within i [] = omega arith
before_within zero (s ∷ slots) = omega arith
before_within (suc i) (s ∷ slots) = go (is_some (weak_name s.1)) (before_within i slots)
  where
    go : (b : Bool) → weak_before i slots ≤ i → cond {A = ℕ} b (suc (weak_before i slots)) (weak_before i slots) ≤ suc i
    go true rest = omega (arith, rest)
    go false rest = omega (arith, rest)

-- a weak link holds nothing
pub weak-holds-none : (i : ℕ) (slots : List Named) (k : ℕ) → weak_place slots i ≡ Some k → hold_at slots i ≡ None
weak-holds-none i [] k at = cc
weak-holds-none zero ((name, Plain val) ∷ slots) k at = cc
weak-holds-none zero ((name, Child key) ∷ slots) k at = cc
weak-holds-none zero ((name, Link ty true target) ∷ slots) k at = cc
weak-holds-none zero ((name, Alias key of) ∷ slots) k at = cc
weak-holds-none zero ((name, Link ty false target) ∷ slots) k at = refl
weak-holds-none (suc i) (s ∷ slots) k at = go (weak_place slots i) refl at (weak-holds-none i slots)
  where
    go : (o : Option ℕ) → weak_place slots i ≡ o → option_map (λ (j : ℕ). cond {A = ℕ} (is_some (weak_name s.1)) (suc j) j) o ≡ Some k
        → ((j : ℕ) → weak_place slots i ≡ Some j → hold_at slots i ≡ None) → hold_at slots i ≡ None
    go None is next rest = cc
    go (Some j) is next rest = rest j is

-- nor does it once it is pointed
pub weak-stays : (key : Key) (i : ℕ) (slots : List Named) (k : ℕ) → weak_place slots i ≡ Some k → hold_at (changed_at (pointed key) i slots) i ≡ None
weak-stays key i [] k at = cc
weak-stays key zero ((name, Plain val) ∷ slots) k at = cc
weak-stays key zero ((name, Child c) ∷ slots) k at = cc
weak-stays key zero ((name, Link ty true target) ∷ slots) k at = cc
weak-stays key zero ((name, Link ty false target) ∷ slots) k at = refl
weak-stays key zero ((name, Alias c of) ∷ slots) k at = cc
weak-stays key (suc i) (s ∷ slots) k at = go (weak_place slots i) refl at (weak-stays key i slots)
  where
    go : (o : Option ℕ) → weak_place slots i ≡ o → option_map (λ (j : ℕ). cond {A = ℕ} (is_some (weak_name s.1)) (suc j) j) o ≡ Some k
        → ((j : ℕ) → weak_place slots i ≡ Some j → hold_at (changed_at (pointed key) i slots) i ≡ None) → hold_at (changed_at (pointed key) i slots) i ≡ None
    go None is next rest = cc
    go (Some j) is next rest = rest j is

-- what stands at a place of one list stands at that of another that is as long
pub paired : {X Y : Type 0} (xs : List X) (ys : List Y) (k : ℕ) (y : Y) → length xs ≡ length ys → slice_get ys k ≡ Some y → (x : X) × (slice_get xs k ≡ Some x)
paired [] [] k y size at = cc
paired [] (z ∷ ys) k y size at = absurd (omega (arith, size))
paired (x ∷ xs) [] k y size at = cc
paired (x ∷ xs) (z ∷ ys) zero y size at = (x, refl)
paired (x ∷ xs) (z ∷ ys) (suc k) y size at = paired xs ys k y (omega (arith, size)) at

-- what stands there is put there
pub put-same : {X : Type 0} (xs : List X) (k : ℕ) (x : X) → slice_get xs k ≡ Some x → slice_set xs k x ≡ xs
put-same [] k x at = refl
put-same (y ∷ xs) zero x at = let is : y ≡ x = cc at in ap (λ (z : _). z ∷ xs) (sym is)
put-same (y ∷ xs) (suc k) x at = ap (λ (l : List _). y ∷ l) (put-same xs k x at)

-- the last
pub get-last : {X : Type 0} (xs : List X) (x : X) → slice_get (xs ++ x ∷ []) (length xs) ≡ Some x
get-last [] x = refl
get-last (y ∷ xs) x = get-last xs x

pub put-last : {X : Type 0} (xs : List X) (x y : X) → slice_set (xs ++ x ∷ []) (length xs) y ≡ xs ++ y ∷ []
put-last [] x y = refl
put-last (z ∷ xs) x y = ap (λ (l : List _). z ∷ l) (put-last xs x y)

-- the slots as far as a place, where the one there is no weak link with a target
pub linked_next : (i : ℕ) (slots : List Named) → AllByRecursion (λ (t : Option Key). t ≡ None) (weak_names (take i slots))
    → option_and_then weak_target (slot_in slots i) ≡ None → AllByRecursion (λ (t : Option Key). t ≡ None) (weak_names (take (i + 1) slots))
linked_next i slots all none = by (i + 1) (omega arith)
  where
    one : (s : Named) (rest : List Named) → weak_target s.1 ≡ None → AllByRecursion (λ (t : Option Key). t ≡ None) (weak_names rest)
        → AllByRecursion (λ (t : Option Key). t ≡ None) (weak_names (s ∷ rest))
    one (name, Plain val) rest none all = all
    one (name, Child key) rest none all = all
    one (name, Link ty true target) rest none all = all
    one (name, Link ty false target) rest none all = (none, all)
    one (name, Alias key of) rest none all = all

    behind : (s : Named) (rest : List Named) → AllByRecursion (λ (t : Option Key). t ≡ None) (weak_names (s ∷ rest))
        → AllByRecursion (λ (t : Option Key). t ≡ None) (weak_names rest)
    behind (name, Plain val) rest all = all
    behind (name, Child key) rest all = all
    behind (name, Link ty true target) rest all = all
    behind (name, Link ty false target) rest all = all.1
    behind (name, Alias key of) rest all = all

    first : (s : Named) (rest : List Named) → AllByRecursion (λ (t : Option Key). t ≡ None) (weak_names (s ∷ rest)) → weak_target s.1 ≡ None
    first (name, Plain val) rest all = refl
    first (name, Child key) rest all = refl
    first (name, Link ty true target) rest all = refl
    first (name, Link ty false target) rest all = all.0
    first (name, Alias key of) rest all = refl

    step : (k : ℕ) (ss : List Named) → AllByRecursion (λ (t : Option Key). t ≡ None) (weak_names (take k ss))
        → option_and_then weak_target (slot_in ss k) ≡ None → AllByRecursion (λ (t : Option Key). t ≡ None) (weak_names (take (suc k) ss))
    step zero [] all none = tt
    step (suc k) [] all none = tt
    step zero (s ∷ ss) all none = one s [] none tt
    step (suc k) (s ∷ ss) all none = one s (take (suc k) ss) (first s (take k ss) all) (step k ss (behind s (take k ss) all) none)

    by : (j : ℕ) → j ≡ suc i → AllByRecursion (λ (t : Option Key). t ≡ None) (weak_names (take j slots))
    by j next = rw next (step i slots all none)
