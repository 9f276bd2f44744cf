-- Slots for an object that has none yet: what they are without the targets of their weak links, and with each target that is given back.
use Rattle.std.proofs.Common.{◌≡◌, refl, ap, sym, subst, ◌∙◌, ℕ, zero, suc, ◌+◌, ◌≤◌, ◌<◌, Bool, true, false, eqb, List, [], ◌∷◌, ◌++◌, length, filter_map, slice_get, take, option_to_list, Option, Some, None, option_map, is_some, IfSome, arith}
use Rattle.std.specs.List.{AllByRecursion}
use Rattle.std.specs.Option.{option_and_then, option_map_or}
use Rattle.qo_slots.specs.declared.keys.Key.{Key}
use Rattle.qo_object.specs.declared.slots.Slot.{Slot}
use Rattle.qo_object.specs.declared.slots.Slot.TheVariants.{Plain, Child, Link, Alias}
use Rattle.qo_object.specs.Slots.{Named, changed_at, child_of, is_empty_link, names_of, pointed, slot_in, target_of, weak_target}
use Rattle.qo_heap.specs.Furnishing.{IsSplit, pointed_if, refilled, unnamed}
use Rattle.qo_object.specs.Content.{Content, empty_link_at, pointed_at, with_all_slots}
use Rattle.qo_heap.specs.Objects.{Objects, content_of, with_edit}
use Rattle.qo_heap.specs.Rows.{IsLive, edit}
use Rattle.qo_heap.specs.WeakLinks.{weak_name, weak_names}
use Rattle.qo_heap.proofs.BoardObjects.{content-edited, live-content}
use Rattle.qo_heap.proofs.HeapLemmas.{holds-cons, holds-first, live-edit}
use Rattle.qo_heap.proofs.WeakSlots.{added-names}

-- one slot more

split-one : (s : Slot) → (weak_target (unnamed s) ≡ None) × (is_some (weak_target s) ≡ true → is_empty_link (unnamed s) ≡ true)
split-one (Plain val) = (refl, λ is. cc)
split-one (Child key) = (refl, λ is. cc)
split-one (Link ty true target) = (refl, λ is. cc)
split-one (Link ty false target) = (refl, λ is. refl)
split-one (Alias key of) = (refl, λ is. cc)

filled-one : (s : Slot) → pointed_if (weak_target s) (unnamed s) ≡ s
filled-one (Plain val) = refl
filled-one (Child key) = refl
filled-one (Link ty true target) = refl
filled-one (Link ty false None) = refl
filled-one (Link ty false (Some key)) = refl
filled-one (Alias key of) = refl

-- as many targets as slots

pub split-more : (ts : List (Option Key)) (slots : List Named) (name : List ℕ) (s : Slot) → IsSplit ts slots → length slots ≤ length ts
    → IsSplit (ts ++ weak_target s ∷ []) (slots ++ (name, unnamed s) ∷ [])
split-more [] [] name s is long = (split-one s, tt)
split-more [] (x ∷ slots) name s is long = absurd (omega (arith, long))
split-more (t ∷ ts) [] name s is long = absurd is
split-more (t ∷ ts) (x ∷ slots) name s is long = (is.0, split-more ts slots name s is.1 (omega (arith, long)))

pub filled-more : (ts : List (Option Key)) (slots : List Named) (name : List ℕ) (s : Slot) → IsSplit ts slots → length slots ≤ length ts
    → refilled (ts ++ weak_target s ∷ []) (slots ++ (name, unnamed s) ∷ []) ≡ refilled ts slots ++ (name, s) ∷ []
filled-more [] [] name s is long = ap (λ (x : Slot). (name, x) ∷ []) (filled-one s)
filled-more [] (x ∷ slots) name s is long = absurd (omega (arith, long))
filled-more (t ∷ ts) [] name s is long = absurd is
filled-more (t ∷ ts) (x ∷ slots) name s is long =
    ap (λ (l : List Named). (x.0, pointed_if t x.1) ∷ l) (filled-more ts slots name s is.1 (omega (arith, long)))

-- a slot more that names nothing, for which no target is given

pub split-kept : (ts : List (Option Key)) (slots : List Named) (name : List ℕ) (s : Slot) → IsSplit ts slots → weak_target s ≡ None
    → IsSplit ts (slots ++ (name, s) ∷ [])
split-kept [] [] name s is none = (none, tt)
split-kept [] (x ∷ slots) name s is none = (is.0, split-kept [] slots name s is.1 none)
split-kept (t ∷ ts) [] name s is none = absurd is
split-kept (t ∷ ts) (x ∷ slots) name s is none = (is.0, split-kept ts slots name s is.1 none)

pub filled-kept : (ts : List (Option Key)) (slots : List Named) (name : List ℕ) (s : Slot) → IsSplit ts slots
    → refilled ts (slots ++ (name, s) ∷ []) ≡ refilled ts slots ++ (name, s) ∷ []
filled-kept [] slots name s is = refl
filled-kept (t ∷ ts) [] name s is = absurd is
filled-kept (t ∷ ts) (x ∷ slots) name s is = ap (λ (l : List Named). (x.0, pointed_if t x.1) ∷ l) (filled-kept ts slots name s is.1)

-- no target more

pub split-padded : (ts : List (Option Key)) (slots : List Named) → IsSplit ts slots → length ts < length slots → IsSplit (ts ++ None ∷ []) slots
split-padded [] [] is few = absurd (omega (arith, few))
split-padded [] (s ∷ slots) is few = ((is.0, λ there. cc), is.1)
split-padded (t ∷ ts) [] is few = absurd is
split-padded (t ∷ ts) (s ∷ slots) is few = (is.0, split-padded ts slots is.1 (omega (arith, few)))

pub filled-padded : (ts : List (Option Key)) (slots : List Named) → IsSplit ts slots → refilled (ts ++ None ∷ []) slots ≡ refilled ts slots
filled-padded [] [] is = refl
filled-padded [] (s ∷ slots) is = refl
filled-padded (t ∷ ts) [] is = absurd is
filled-padded (t ∷ ts) (s ∷ slots) is = ap (λ (l : List Named). (s.0, pointed_if t s.1) ∷ l) (filled-padded ts slots is.1)

pub unnamed-same : (s : Slot) → weak_target s ≡ None → unnamed s ≡ s
unnamed-same (Plain val) none = refl
unnamed-same (Child key) none = refl
unnamed-same (Link ty true target) none = refl
unnamed-same (Link ty false None) none = refl
unnamed-same (Link ty false (Some key)) none = cc
unnamed-same (Alias key of) none = refl

weak-one : (name : List ℕ) (s : Slot) → length (weak_names ((name, unnamed s) ∷ [])) ≡ length (option_to_list (weak_name s))
weak-one name (Plain val) = refl
weak-one name (Child key) = refl
weak-one name (Link ty true target) = refl
weak-one name (Link ty false target) = refl
weak-one name (Alias key of) = refl

length-both : {X : Type 0} (xs ys : List X) → length (xs ++ ys) ≡ length xs + length ys
length-both [] ys = omega arith
length-both (x ∷ xs) ys = omega (arith, length-both xs ys)

-- as many nodes as weak links
pub split-counted : (now was : ℕ) (slots : List Named) (name : List ℕ) (s : Slot) → was ≡ length (weak_names slots)
    → now ≡ was + length (option_to_list (weak_name s)) → now ≡ length (weak_names (slots ++ (name, unnamed s) ∷ []))
split-counted now was slots name s size more =
    omega (
      arith,
      size,
      more,
      ap (λ (l : List (Option Key)). length l) (added-names name (unnamed s) slots),
      length-both (weak_names slots) (weak_names ((name, unnamed s) ∷ [])),
      weak-one name s,
    )

-- all of them, without the targets

pub split-empty : (ts : List (Option Key)) (slots : List Named) → IsSplit ts slots → AllByRecursion (λ (s : Named). weak_target s.1 ≡ None) slots
split-empty [] [] is = tt
split-empty [] (s ∷ slots) is = (is.0, split-empty [] slots is.1)
split-empty (t ∷ ts) [] is = absurd is
split-empty (t ∷ ts) (s ∷ slots) is = (is.0.0, split-empty ts slots is.1)

pub split-names : (ts : List (Option Key)) (slots : List Named) → IsSplit ts slots → names_of (refilled ts slots) ≡ names_of slots
split-names [] slots is = refl
split-names (t ∷ ts) [] is = absurd is
split-names (t ∷ ts) (s ∷ slots) is = ap (λ (l : List (List ℕ)). s.0 ∷ l) (split-names ts slots is.1)

pub split-few : (ts : List (Option Key)) (slots : List Named) → IsSplit ts slots → length (refilled ts slots) ≡ length slots
split-few [] slots is = refl
split-few (t ∷ ts) [] is = absurd is
split-few (t ∷ ts) (s ∷ slots) is = ap suc (split-few ts slots is.1)

emptied : (P : Key → Type 0) (t : Option Key) (s : Slot) → (is_some t ≡ true → is_empty_link s ≡ true) → IfSome (target_of (pointed_if t s)) P
    → IfSome (target_of s) P × IfSome t P
emptied P None s empty live = (live, tt)
emptied P (Some key) (Plain val) empty live = absurd (cc (empty refl))
emptied P (Some key) (Child k) empty live = absurd (cc (empty refl))
emptied P (Some key) (Link ty strong None) empty live = (tt, live)
emptied P (Some key) (Link ty strong (Some k)) empty live = absurd (cc (empty refl))
emptied P (Some key) (Alias k of) empty live = absurd (cc (empty refl))

pub split-targets : (P : Key → Type 0) (ts : List (Option Key)) (slots : List Named) → IsSplit ts slots
    → AllByRecursion P (filter_map (λ (s : Named). target_of s.1) (refilled ts slots)) → AllByRecursion P (filter_map (λ (s : Named). target_of s.1) slots)
split-targets P [] slots is all = all
split-targets P (t ∷ ts) [] is all = absurd is
split-targets P (t ∷ ts) (s ∷ slots) is all =
    let parts = holds-first P (target_of (pointed_if t s.1)) (filter_map (λ (x : Named). target_of x.1) (refilled ts slots)) all in
    holds-cons P (target_of s.1) (filter_map (λ (x : Named). target_of x.1) slots) (emptied P t s.1 is.0.1 parts.0).0 (split-targets P ts slots is.1 parts.1)

pub split-live : (P : Key → Type 0) (ts : List (Option Key)) (slots : List Named) → IsSplit ts slots
    → AllByRecursion P (filter_map (λ (s : Named). target_of s.1) (refilled ts slots)) → (k : ℕ) (t : Key) → slice_get ts k ≡ Some (Some t) → P t
split-live P [] slots is all k t at = cc
split-live P (u ∷ ts) [] is all k t at = absurd is
split-live P (u ∷ ts) (s ∷ slots) is all k t at = go k at (λ rest j there. split-live P ts slots is.1 rest j t there)
  where
    parts : IfSome (target_of (pointed_if u s.1)) P × AllByRecursion P (filter_map (λ (x : Named). target_of x.1) (refilled ts slots))
    parts = holds-first P (target_of (pointed_if u s.1)) (filter_map (λ (x : Named). target_of x.1) (refilled ts slots)) all

    go : (j : ℕ) → slice_get (u ∷ ts) j ≡ Some (Some t)
        → (AllByRecursion P (filter_map (λ (x : Named). target_of x.1) (refilled ts slots)) → (i : ℕ) → slice_get ts i ≡ Some (Some t) → P t) → P t
    go zero here later = let same : u ≡ Some t = cc here in subst (λ (o : Option Key). IfSome o P) same (emptied P u s.1 is.0.1 parts.0).1
    go (suc j) there later = later parts.1 j there

no-child-emptied : (t : Option Key) (s : Slot) → (is_some t ≡ true → is_empty_link s ≡ true) → child_of (pointed_if t s) ≡ None → child_of s ≡ None
no-child-emptied None s empty none = none
no-child-emptied (Some key) (Plain val) empty none = refl
no-child-emptied (Some key) (Child k) empty none = cc
no-child-emptied (Some key) (Link ty strong target) empty none = refl
no-child-emptied (Some key) (Alias k of) empty none = refl

pub split-childless : (ts : List (Option Key)) (slots : List Named) → IsSplit ts slots → AllByRecursion (λ (s : Named). child_of s.1 ≡ None) (refilled ts slots)
    → AllByRecursion (λ (s : Named). child_of s.1 ≡ None) slots
split-childless [] slots is all = all
split-childless (t ∷ ts) [] is all = absurd is
split-childless (t ∷ ts) (s ∷ slots) is all = (no-child-emptied t s.1 is.0.1 all.0, split-childless ts slots is.1 all.1)

-- nothing is named by weak links that are empty
pub empty-names : (slots : List Named) → AllByRecursion (λ (s : Named). weak_target s.1 ≡ None) slots
    → AllByRecursion (λ (t : Option Key). t ≡ None) (weak_names slots)
empty-names [] all = tt
empty-names ((name, Plain val) ∷ slots) all = empty-names slots all.1
empty-names ((name, Child key) ∷ slots) all = empty-names slots all.1
empty-names ((name, Link ty true target) ∷ slots) all = empty-names slots all.1
empty-names ((name, Link ty false target) ∷ slots) all = (all.0, empty-names slots all.1)
empty-names ((name, Alias key of) ∷ slots) all = empty-names slots all.1

-- the targets are given back one after another

-- the slot of the next target is empty still
pub next-empty : (ts : List (Option Key)) (slots : List Named) → IsSplit ts slots → (k : ℕ) (t : Key) → slice_get ts k ≡ Some (Some t)
    → option_map_or is_empty_link (slot_in (refilled (take k ts) slots) k) false ≡ true
next-empty [] slots is k t at = cc
next-empty (u ∷ ts) [] is k t at = absurd is
next-empty (u ∷ ts) (s ∷ slots) is zero t at = is.0.1 (let same : u ≡ Some t = cc at in ap is_some same)
next-empty (u ∷ ts) (s ∷ slots) is (suc k) t at = next-empty ts slots is.1 k t at

pub next-some : (ts : List (Option Key)) (slots : List Named) → IsSplit ts slots → (k : ℕ) (t : Key) → slice_get ts k ≡ Some (Some t)
    → changed_at (pointed t) k (refilled (take k ts) slots) ≡ refilled (take (k + 1) ts) slots
next-some ts slots is k t at = by (k + 1) (omega arith)
  where
    step : (us : List (Option Key)) (ss : List Named) → IsSplit us ss → (j : ℕ) → slice_get us j ≡ Some (Some t)
        → changed_at (pointed t) j (refilled (take j us) ss) ≡ refilled (take (suc j) us) ss
    step [] ss good j there = cc
    step (u ∷ us) [] good j there = absurd good
    step (u ∷ us) (s ∷ ss) good zero there =
        let same : u ≡ Some t = cc there in
        ap (λ (o : Option Key). (s.0, pointed_if o s.1) ∷ ss) (sym same)
    step (u ∷ us) (s ∷ ss) good (suc j) there = ap (λ (l : List Named). (s.0, pointed_if u s.1) ∷ l) (step us ss good.1 j there)

    by : (j : ℕ) → j ≡ suc k → changed_at (pointed t) k (refilled (take k ts) slots) ≡ refilled (take j ts) slots
    by j next = rw next (step ts slots is k at)

pub next-none : (ts : List (Option Key)) (slots : List Named) → IsSplit ts slots → (k : ℕ)
    → option_and_then (λ (t : Option Key). t) (slice_get ts k) ≡ None → refilled (take k ts) slots ≡ refilled (take (k + 1) ts) slots
next-none ts slots is k at = by (k + 1) (omega arith)
  where
    step : (us : List (Option Key)) (ss : List Named) → IsSplit us ss → (j : ℕ) → option_and_then (λ (t : Option Key). t) (slice_get us j) ≡ None
        → refilled (take j us) ss ≡ refilled (take (suc j) us) ss
    step [] ss good zero there = refl
    step [] ss good (suc j) there = refl
    step (u ∷ us) [] good j there = absurd good
    step (u ∷ us) (s ∷ ss) good zero there =
        let same : u ≡ None = there in
        ap (λ (o : Option Key). (s.0, pointed_if o s.1) ∷ ss) (sym same)
    step (u ∷ us) (s ∷ ss) good (suc j) there = ap (λ (l : List Named). (s.0, pointed_if u s.1) ∷ l) (step us ss good.1 j there)

    by : (j : ℕ) → j ≡ suc k → refilled (take k ts) slots ≡ refilled (take j ts) slots
    by j next = rw next (step ts slots is k at)

pub all-filled : (ts : List (Option Key)) (slots : List Named) (k : ℕ) → length ts ≤ k → refilled (take k ts) slots ≡ refilled ts slots
all-filled ts slots k past = ap (λ (us : List (Option Key)). refilled us slots) (whole ts k past)
  where
    whole : (us : List (Option Key)) (j : ℕ) → length us ≤ j → take j us ≡ us
    whole [] zero high = refl
    whole [] (suc j) high = refl
    whole (u ∷ us) zero high = absurd (omega (arith, high))
    whole (u ∷ us) (suc j) high = ap (λ (l : List (Option Key)). u ∷ l) (whole us j (omega (arith, high)))

-- a heap in which the first targets were given back
abbrev pub Filling : Key → Objects → Objects → List (Option Key) → ℕ → List Named → Type 0
Filling o v w ts k all =
    (s : List Named) × (IsSplit ts s × ((refilled ts s ≡ all) × (w ≡ with_edit o.birth (with_all_slots (refilled (take k ts) s)) v)))

module _ (o : Key) (v w : Objects) (ts : List (Option Key)) (k : ℕ) (all : List Named) (filling : Filling o v w ts k all) where
  abbrev slots : List Named
  slots = refilled (take k ts) filling.0

  pub filling-live : (key : Key) → IsLive v.rows key → IsLive w.rows key
  filling-live key live =
      subst (λ (x : Objects). IsLive x.rows key) (sym filling.1.1.1) (live-edit o.birth (with_all_slots slots) v.rows key live)

  given : (t : Key) → Some t ≡ option_and_then (λ (u : Option Key). u) (slice_get ts k) → slice_get ts k ≡ Some (Some t)
  given t is = go (slice_get ts k) is
    where
      go : (u : Option (Option Key)) → Some t ≡ option_and_then (λ (x : Option Key). x) u → u ≡ Some (Some t)
      go None there = cc
      go (Some u) there = ap Some (sym there)

  pub filling-target : (t : Key) → Some t ≡ option_and_then (λ (u : Option Key). u) (slice_get ts k)
      → AllByRecursion (IsLive v.rows) (filter_map (λ (s : Named). target_of s.1) all) → IsLive v.rows t
  filling-target t is lives =
      split-live (IsLive v.rows) ts filling.0 filling.1.0
      (subst (λ (l : List Named). AllByRecursion (IsLive v.rows) (filter_map (λ (s : Named). target_of s.1) l)) (sym filling.1.1.0) lives) k t (given t is)

  pub filling-empty : IsLive v.rows o → (t : Key) → Some t ≡ option_and_then (λ (u : Option Key). u) (slice_get ts k)
      → option_map (λ (c : Content). empty_link_at c k) (content_of w o.birth) ≡ Some true
  filling-empty live t is =
      let (c, there) = live-content v o live in
      ap (λ (x : Objects). option_map (λ (y : Content). empty_link_at y k) (content_of x o.birth)) filling.1.1.1
      ∙ ap (option_map (λ (y : Content). empty_link_at y k)) (content-edited v o.birth (with_all_slots slots) ∙ ap (option_map (with_all_slots slots)) there)
      ∙ ap Some (next-empty ts filling.0 filling.1.0 k t (given t is))

  pub filled-some : (t : Key) → Some t ≡ option_and_then (λ (u : Option Key). u) (slice_get ts k) → (x : Objects)
      → x ≡ with_edit o.birth (pointed_at t k) w → Filling o v x ts (k + 1) all
  filled-some t is x now = (
    filling.0,
    (
      filling.1.0,
      (
        filling.1.1.0,
        now ∙ ap (with_edit o.birth (pointed_at t k)) filling.1.1.1
            ∙ ap (λ (rows : List (Key × Content)). record v { rows = rows }) (edit-both o.birth (with_all_slots slots) (pointed_at t k) v.rows)
            ∙ ap (λ (l : List Named). with_edit o.birth (with_all_slots l) v) (next-some ts filling.0 filling.1.0 k t (given t is)),
      ),
    ),
  )
    where
      edit-both : (n : ℕ) (f h : Content → Content) (rows : List (Key × Content)) → edit n h (edit n f rows) ≡ edit n (λ (c : Content). h (f c)) rows
      edit-both n f h [] = refl
      edit-both n f h (row ∷ rows) = go (eqb row.0.birth n) refl (edit-both n f h rows)
        where
          go : (b : Bool) → eqb row.0.birth n ≡ b → edit n h (edit n f rows) ≡ edit n (λ (c : Content). h (f c)) rows
              → edit n h (edit n f (row ∷ rows)) ≡ edit n (λ (c : Content). h (f c)) (row ∷ rows)
          go true here rest = rw (here, here) (ap (λ (l : List (Key × Content)). (row.0, h (f row.1)) ∷ l) rest)
          go false here rest = rw (here, here) (ap (λ (l : List (Key × Content)). row ∷ l) rest)

  pub filled-none : option_and_then (λ (u : Option Key). u) (slice_get ts k) ≡ None → Filling o v w ts (k + 1) all
  filled-none none = (
    filling.0,
    (
      filling.1.0,
      (
        filling.1.1.0,
        filling.1.1.1
            ∙ ap (λ (l : List Named). with_edit o.birth (with_all_slots l) v) (next-none ts filling.0 filling.1.0 k none),
      ),
    ),
  )

  pub filled-end : length ts ≤ k → w ≡ with_edit o.birth (with_all_slots all) v
  filled-end past =
      filling.1.1.1
      ∙ ap (λ (l : List Named). with_edit o.birth (with_all_slots l) v) (all-filled ts filling.0 k past ∙ filling.1.1.0)

  -- the next target, if there is one
  pub given-live : (target : Option Key) → target ≡ option_and_then (λ (u : Option Key). u) (slice_get ts k)
      → AllByRecursion (IsLive v.rows) (filter_map (λ (s : Named). target_of s.1) all) → IfSome target (IsLive w.rows)
  given-live None is lives = tt
  given-live (Some t) is lives = filling-live t (filling-target t is lives)

  pub given-empty : IsLive v.rows o → (target : Option Key) → target ≡ option_and_then (λ (u : Option Key). u) (slice_get ts k)
      → IfSome target (λ t. option_map (λ (c : Content). empty_link_at c k) (content_of w o.birth) ≡ Some true)
  given-empty live None is = tt
  given-empty live (Some t) is = filling-empty live t is

  pub filled-next : (target : Option Key) → target ≡ option_and_then (λ (u : Option Key). u) (slice_get ts k) → (x : Objects)
      → IfSome target (λ t. x ≡ with_edit o.birth (pointed_at t k) w) → (target ≡ None → x ≡ w) → Filling o v x ts (k + 1) all
  filled-next None is x some none = subst (λ (y : Objects). Filling o v y ts (k + 1) all) (sym (none refl)) (filled-none (sym is))
  filled-next (Some t) is x some none = filled-some t is x some
