-- Canonical paths lead to their objects.
use Rattle.std.proofs.Common.{◌⊎◌, inl, inr, codes, ◌≡◌, ◌≢◌, ◌==◌, ◌&&◌, ◌||◌, ℕ, zero, suc, Bool, true, false, cond, not, List, [], ◌∷◌, ◌++◌, filter, length, map, Option, Some, None, option_map, option_and_then, refl, sym, ap, ap₂, ◌∙◌, subst, arith}
use Rattle.std.specs.List.{AllByRecursion, IsDistinct, filter_map, find, list_any, slice_split, onto_first}
use Rattle.std.specs.Option.{option_map_or}
use Rattle.std.specs.Str.{bytes_eq}
use Rattle.std.proofs.lemmas.Bool.{and_parts, or_parts, eqb-true}
use Rattle.std.proofs.lemmas.Slice.Eq.{bytes_eq-Decides}
use Rattle.std.proofs.lemmas.Option.{same_Some}
use Rattle.std.proofs.lemmas.List.Splits.{slice_split-cons_no, slice_split-cons_yes}
use Rattle.qo_values.specs.declared.births.TheConstants.{ROOT_BIRTH}
use Rattle.qo_model.specs.Board.{Board, Record, Slot, plain, child, strong, weak, alias, record_of, slot_named, slots_at, target_of}
use Rattle.qo_model.specs.Depth.{by_depth}
use Rattle.qo_model.specs.Paths.{births, components, is_absolute, next_of, path_down_to, path_turn, place_of, walk}
use Rattle.qo_sound.proofs.FirmBoardLemmas.{HasNames, WellFormed}
use Rattle.qo_sound.proofs.SlotLemmas.{names_in}
use Rattle.qo_sound_devices.specs.SoundPlaces.{child_entries, child_entry, has_entry, listed}
use Rattle.qo_sound_devices.proofs.LocationLemmas.{Entry, entry-of, place-listed, place-named}
use Rattle.qo_ways.specs.Ways.{HasSteps, IsStep}

abbrev is_slash : ℕ → Bool
is_slash c = c == 47

abbrev parts : List ℕ → List (List ℕ)
parts xs = slice_split (λ c. c == 47) xs

-- one step more
first_more : (x : ℕ) (p : List ℕ) (ps qs : List (List ℕ)) → onto_first x ((p ∷ ps) ++ qs) ≡ onto_first x (p ∷ ps) ++ qs
first_more x p ps qs = refl

some_part : (xs : List ℕ) → (p : List ℕ) × (ps : List (List ℕ)) × (parts xs ≡ p ∷ ps)
some_part [] = ([], [], refl)
some_part (x ∷ xs) = go (x == 47) refl (some_part xs)
  where
    go : (t : Bool) → (x == 47) ≡ t → (p : List ℕ) × (ps : List (List ℕ)) × (parts xs ≡ p ∷ ps) → (p : List ℕ) × (ps : List (List ℕ)) × (parts (x ∷ xs) ≡ p ∷ ps)
    go true e rest = ([], parts xs, slice_split-cons_yes (λ c. c == 47) x xs e)
    go false e rest = (x ∷ rest.0, rest.1, slice_split-cons_no (λ c. c == 47) x xs e ∙ ap (onto_first x) rest.2)

split-append : (xs ys : List ℕ) → parts (xs ++ 47 ∷ ys) ≡ parts xs ++ parts ys
split-append [] ys = slice_split-cons_yes (λ c. c == 47) 47 ys refl
split-append (x ∷ xs) ys = go (x == 47) refl (split-append xs ys) (some_part xs)
  where
    go : (t : Bool) → (x == 47) ≡ t → parts (xs ++ 47 ∷ ys) ≡ parts xs ++ parts ys → (p : List ℕ) × (ps : List (List ℕ)) × (parts xs ≡ p ∷ ps)
        → parts ((x ∷ xs) ++ 47 ∷ ys) ≡ parts (x ∷ xs) ++ parts ys
    go true e rest some =
        slice_split-cons_yes (λ c. c == 47) x (xs ++ 47 ∷ ys) e ∙ ap (λ l. [] ∷ l) rest ∙ ap (λ l. l ++ parts ys) (sym (slice_split-cons_yes (λ c. c == 47) x xs e))
    go false e rest some =
        slice_split-cons_no (λ c. c == 47) x (xs ++ 47 ∷ ys) e ∙ ap (onto_first x) (rest ∙ ap (λ l. l ++ parts ys) some.2)
        ∙ ap (λ l. onto_first x l ++ parts ys) (sym some.2) ∙ ap (λ l. l ++ parts ys) (sym (slice_split-cons_no (λ c. c == 47) x xs e))

one_part : (xs : List ℕ) → list_any (λ (c : ℕ). c == 47) xs ≡ false → parts xs ≡ xs ∷ []
one_part [] h = refl
one_part (x ∷ xs) h = let p = or_parts (x == 47) _ h in slice_split-cons_no (λ c. c == 47) x xs p.0 ∙ ap (onto_first x) (one_part xs p.1)

abbrev is_full : List ℕ → Bool
is_full part = not (bytes_eq part [])

full : (name : List ℕ) → name ≢ [] → is_full name ≡ true
full [] h = absurd (h refl)
full (c ∷ cs) h = refl

filter-append : (xs ys : List (List ℕ)) → filter is_full (xs ++ ys) ≡ filter is_full xs ++ filter is_full ys
filter-append [] ys = refl
filter-append (x ∷ xs) ys = go (is_full x) refl (filter-append xs ys)
  where
    go : (t : Bool) → is_full x ≡ t → filter is_full (xs ++ ys) ≡ filter is_full xs ++ filter is_full ys → filter is_full ((x ∷ xs) ++ ys) ≡ filter is_full (x ∷ xs) ++ filter is_full ys
    go true e rest = rw (e, rest) refl
    go false e rest = rw (e, rest) refl

components-step : (q name : List ℕ) → name ≢ [] → list_any (λ (c : ℕ). c == 47) name ≡ false → components (q ++ 47 ∷ name) ≡ components q ++ name ∷ []
components-step q name some none =
    ap (filter is_full) (split-append q name) ∙ filter-append (parts q) (parts name) ∙ ap (λ l. components q ++ filter is_full l) (one_part name none)
    ∙ ap (λ l. components q ++ l) (rw (full name some) refl)

-- a way goes on
walk-append : (b : Board) (m k : ℕ) (xs ys : List (List ℕ)) → walk b m xs ≡ Some k → walk b m (xs ++ ys) ≡ walk b k ys
walk-append b m k [] ys e = let is : m ≡ k = cc in ap (λ n. walk b n ys) is
walk-append b m k (x ∷ xs) ys e = go (next_of b m x) refl (λ n h. walk-append b n k xs ys h)
  where
    go : (o : Option ℕ) → next_of b m x ≡ o → ((n : ℕ) → walk b n xs ≡ Some k → walk b n (xs ++ ys) ≡ walk b k ys) → walk b m ((x ∷ xs) ++ ys) ≡ walk b k ys
    go None p rest = let clash : None ≡ Some k = rw (walk, p) at e in cc
    go (Some n) p rest = rw (walk, p) (rest n (rw (walk, p) at e))

-- the child slot of a name is the only slot of it
same_name : (a c : List ℕ) → bytes_eq a c ≡ true → a ≡ c
same_name a c e = (bytes_eq-Decides a c).0 e

apart : (own name y : List ℕ) → bytes_eq own name ≡ true → bytes_eq own y ≡ false → bytes_eq y name ≡ false
apart own name y same other = go (bytes_eq y name) refl
  where
    go : (t : Bool) → bytes_eq y name ≡ t → bytes_eq y name ≡ false
    go false e = e
    go true e =
        let is : own ≡ y = same_name own name same ∙ sym (same_name y name e) in
        let yes : bytes_eq own y ≡ true = (bytes_eq-Decides own y).1 is in
        absurd (let clash : true ≡ false = sym yes ∙ other in cc)

absent : (own name : List ℕ) (n : ℕ) (slots : List (List ℕ × Slot)) → bytes_eq own name ≡ true → AllByRecursion (λ y. bytes_eq own y ≡ false) (names_in slots)
    → has_entry (name, n) (filter_map child_entry slots) ≡ false
absent own name n [] same h = refl
absent own name n ((y, plain v) ∷ slots) same h = absent own name n slots same h.1
absent own name n ((y, strong t target) ∷ slots) same h = absent own name n slots same h.1
absent own name n ((y, weak t target) ∷ slots) same h = absent own name n slots same h.1
absent own name n ((y, alias m of) ∷ slots) same h = absent own name n slots same h.1
absent own name n ((y, child m) ∷ slots) same h = go (m == n) refl (apart own name y same h.0) (absent own name n slots same h.1)
  where
    go : (t : Bool) → (m == n) ≡ t → bytes_eq y name ≡ false → has_entry (name, n) (filter_map child_entry slots) ≡ false
        → has_entry (name, n) (filter_map child_entry ((y, child m) ∷ slots)) ≡ false
    go true e other rest = rw (e, other, rest) refl
    go false e other rest = rw (e, rest) refl

abbrev leads_to : List ℕ → List (List ℕ × Slot) → Option ℕ
leads_to name slots = option_and_then target_of (option_map (λ (s : List ℕ × Slot). s.1) (find (λ s. bytes_eq s.0 name) slots))

slot_of : (name : List ℕ) (n : ℕ) (slots : List (List ℕ × Slot)) → IsDistinct bytes_eq (names_in slots) → has_entry (name, n) (filter_map child_entry slots) ≡ true
    → leads_to name slots ≡ Some n
unfolding IsDistinct
slot_of name n [] d e = cc
slot_of name n ((own, s) ∷ slots) d e = go (bytes_eq own name) refl (slot_of name n slots d.1)
  where
    there : (s : Slot) → bytes_eq own name ≡ true → has_entry (name, n) (filter_map child_entry ((own, s) ∷ slots)) ≡ true → target_of s ≡ Some n
    there (plain v) p e = absurd (let no = absent own name n slots p d.0 in let clash : true ≡ false = sym e ∙ no in cc)
    there (strong t target) p e = absurd (let no = absent own name n slots p d.0 in let clash : true ≡ false = sym e ∙ no in cc)
    there (weak t target) p e = absurd (let no = absent own name n slots p d.0 in let clash : true ≡ false = sym e ∙ no in cc)
    there (alias m of) p e = absurd (let no = absent own name n slots p d.0 in let clash : true ≡ false = sym e ∙ no in cc)
    there (child m) p e = is (m == n) refl
      where
        is : (t : Bool) → (m == n) ≡ t → Some m ≡ Some n
        is true q = ap Some (eqb-true m n q)
        is false q = absurd (let no = absent own name n slots p d.0 in let left : has_entry (name, n) (filter_map child_entry slots) ≡ true = rw q at e in let clash : true ≡ false = sym left ∙ no in cc)

    later : (s : Slot) → bytes_eq own name ≡ false → has_entry (name, n) (filter_map child_entry ((own, s) ∷ slots)) ≡ true → has_entry (name, n) (filter_map child_entry slots) ≡ true
    later (plain v) p e = e
    later (strong t target) p e = e
    later (weak t target) p e = e
    later (alias m of) p e = e
    later (child m) p e = is (m == n) refl
      where
        is : (t : Bool) → (m == n) ≡ t → has_entry (name, n) (filter_map child_entry slots) ≡ true
        is true q = rw (q, p) at e
        is false q = rw q at e

    go : (t : Bool) → bytes_eq own name ≡ t → (has_entry (name, n) (filter_map child_entry slots) ≡ true → leads_to name slots ≡ Some n) → leads_to name ((own, s) ∷ slots) ≡ Some n
    go true p rest = rw p (there s p e)
    go false p rest = rw p (rest (later s p e))

names_at : (n : ℕ) (rs : List Record) → AllByRecursion HasNames rs → IsDistinct bytes_eq (names_in (option_map_or (λ (r : Record). r.slots) (find (λ r. r.birth == n) rs) []))
unfolding IsDistinct
names_at n [] h = tt
names_at n (r ∷ rs) h = go (r.birth == n) refl (names_at n rs h.1)
  where
    go : (t : Bool) → (r.birth == n) ≡ t → IsDistinct bytes_eq (names_in (option_map_or (λ (r : Record). r.slots) (find (λ r. r.birth == n) rs) []))
        → IsDistinct bytes_eq (names_in (option_map_or (λ (r : Record). r.slots) (find (λ r. r.birth == n) (r ∷ rs)) []))
    go true e rest = rw e h.0
    go false e rest = rw e rest

-- from a parent its child's name leads to the child
record Step (b : Board) (n : ℕ) (u : ℕ × List ℕ) : Type 0 where
  next : next_of b u.0 u.1 ≡ Some n
  step : IsStep (u.1, n)

-- the slots of an object, found by its birth
found_slots : (b : Board) (p : ℕ) (name : List ℕ) → next_of b p name ≡ leads_to name (slots_at b p)
found_slots b p name = refl

-- a fact of each child's name is one of the name of an object that has a place
pub record Placed (P : List ℕ × ℕ → Type 0) (b : Board) (n : ℕ) (u : ℕ × List ℕ) : Type 0 where
  pub holds : P (u.1, n)
  pub there : has_entry (u.1, n) (child_entries b u.0) ≡ true

pub placed : (P : List ℕ × ℕ → Type 0) (b : Board) → WellFormed b → ((p : ℕ) → AllByRecursion P (child_entries b p)) → (n : ℕ) (u : ℕ × List ℕ)
    → place_of b n ≡ Some u → Placed P b n u
placed P b firm all n (p, name) e =
    let k : Entry P n (child_entries b p) = entry-of P n (child_entries b p) (all p) (place-listed b firm n (p, name) e) in
    let at : place_of b n ≡ Some (p, k.name) = place-named b firm p n k.name k.there in
    let both : Some (p, name) ≡ Some (p, k.name) = sym e ∙ at in
    let is : k.name ≡ name = sym (ap (λ (u : ℕ × List ℕ). u.1) (same_Some (p, name) (p, k.name) both)) in
    record {
      holds = subst (λ (x : List ℕ). P (x, n)) is k.holds;
      there = subst (λ (x : List ℕ). has_entry (x, n) (child_entries b p) ≡ true) is k.there;
    }

step_of : (b : Board) → WellFormed b → HasSteps b → (n : ℕ) (u : ℕ × List ℕ) → place_of b n ≡ Some u → Step b n u
step_of b firm steps n u e =
    let k : Placed IsStep b n u = placed IsStep b firm steps n u e in
    record { next = slot_of u.1 n (slots_at b u.0) (names_at u.0 b.records firm.named) k.there; step = k.holds }

-- what stands below `/` has a parent, whose steps come before its name
pub record Above (b : Board) (f : ℕ → Option (List ℕ)) (n : ℕ) (q : List ℕ) : Type 0 where
  pub parent : ℕ × List ℕ
  pub place : place_of b n ≡ Some parent
  pub before : List ℕ
  pub above : f parent.0 ≡ Some before
  pub is : q ≡ before ++ 47 ∷ parent.1

pub turn-above : (b : Board) (f : ℕ → Option (List ℕ)) (n : ℕ) (q : List ℕ) → (n == ROOT_BIRTH) ≡ false → path_turn b f n ≡ Some q → Above b f n q
turn-above b f n q p e = placed (place_of b n) refl
  where
    placed : (o : Option (ℕ × List ℕ)) → place_of b n ≡ o → Above b f n q
    placed None w = let clash : None ≡ Some q = rw (path_turn, p, w) at e in absurd (cc)
    placed (Some u) w = from (f u.0) refl
      where
        from : (o : Option (List ℕ)) → f u.0 ≡ o → Above b f n q
        from None v = let clash : None ≡ Some q = rw (path_turn, p, w, v) at e in absurd (cc)
        from (Some r) v =
            let whole : Some (r ++ 47 ∷ u.1) ≡ Some q = rw (path_turn, p, w, v) at e in
            record { parent = u; place = w; before = r; above = v; is = sym (same_Some (r ++ 47 ∷ u.1) q whole) }

-- the steps to a depth
abbrev pub steps_to : Board → ℕ → ℕ → Option (List ℕ)
steps_to b depth n = by_depth (path_turn b) (λ _. None) depth n

pub root-steps : (b : Board) (depth n : ℕ) (q : List ℕ) → (n == ROOT_BIRTH) ≡ true → steps_to b (suc depth) n ≡ Some q → q ≡ []
root-steps b depth n q p e = let here : Some [] ≡ Some q = rw (by_depth, path_turn, p) at e in sym (same_Some [] q here)

-- they lead to the object
module _ (b : Board) (firm : WellFormed b) (steps : HasSteps b) where
  way : (depth n : ℕ) (q : List ℕ) → steps_to b depth n ≡ Some q → walk b ROOT_BIRTH (components q) ≡ Some n
  way zero n q e = absurd (cc)
  way (suc depth) n q e = go (n == ROOT_BIRTH) refl (way depth)
    where
      go : (t : Bool) → (n == ROOT_BIRTH) ≡ t → ((m : ℕ) (r : List ℕ) → steps_to b depth m ≡ Some r → walk b ROOT_BIRTH (components r) ≡ Some m)
          → walk b ROOT_BIRTH (components q) ≡ Some n
      go true p rest = ap (λ (x : List ℕ). walk b ROOT_BIRTH (components x)) (root-steps b depth n q p e) ∙ ap Some (sym (eqb-true n ROOT_BIRTH p))
      go false p rest =
          let a : Above b (steps_to b depth) n q = turn-above b (steps_to b depth) n q p e in
          let s : Step b n a.parent = step_of b firm steps n a.parent a.place in
          ap (λ (x : List ℕ). walk b ROOT_BIRTH (components x)) a.is ∙ ap (walk b ROOT_BIRTH) (components-step a.before a.parent.1 s.step.0 s.step.1)
          ∙ walk-append b ROOT_BIRTH a.parent.0 (components a.before) (a.parent.1 ∷ []) (rest a.parent.0 a.before a.above)
          ∙ rw (walk, s.next) refl

pub steps_lead : (b : Board) → WellFormed b → HasSteps b → (n : ℕ) (q : List ℕ) → path_down_to b n ≡ Some q → walk b ROOT_BIRTH (components q) ≡ Some n
unfolding path_down_to
steps_lead b firm steps n q e = way b firm steps (suc (length (births b))) n q e

-- the steps to what stands below `/` are an absolute path, and its parent has it
absolute-more : (r name : List ℕ) → (r ≡ []) ⊎ (is_absolute r ≡ true) → is_absolute (r ++ 47 ∷ name) ≡ true
absolute-more [] name h = refl
absolute-more (c ∷ cs) name (inl e) = absurd (cc)
absolute-more (c ∷ cs) name (inr e) = e

begins : (b : Board) (depth n : ℕ) (q : List ℕ) → steps_to b depth n ≡ Some q → (q ≡ []) ⊎ (is_absolute q ≡ true)
begins b zero n q e = absurd (cc)
begins b (suc depth) n q e = go (n == ROOT_BIRTH) refl (begins b depth)
  where
    go : (t : Bool) → (n == ROOT_BIRTH) ≡ t → ((m : ℕ) (r : List ℕ) → steps_to b depth m ≡ Some r → (r ≡ []) ⊎ (is_absolute r ≡ true))
        → (q ≡ []) ⊎ (is_absolute q ≡ true)
    go true p rest = inl (root-steps b depth n q p e)
    go false p rest =
        let a : Above b (steps_to b depth) n q = turn-above b (steps_to b depth) n q p e in
        inr (ap is_absolute a.is ∙ absolute-more a.before a.parent.1 (rest a.parent.0 a.before a.above))

pub record Below (b : Board) (n : ℕ) (q : List ℕ) : Type 0 where
  pub absolute : is_absolute q ≡ true
  pub parent : ℕ × List ℕ
  pub place : place_of b n ≡ Some parent

pub below-root : (b : Board) (n : ℕ) (q : List ℕ) → (n == ROOT_BIRTH) ≡ false → path_down_to b n ≡ Some q → Below b n q
unfolding path_down_to
below-root b n q p e =
    let depth : ℕ = length (births b) in
    let a : Above b (steps_to b depth) n q = turn-above b (steps_to b depth) n q p e in
    record {
      absolute = ap is_absolute a.is ∙ absolute-more a.before a.parent.1 (begins b depth a.parent.0 a.before a.above);
      parent = a.parent;
      place = a.place;
    }

-- `/` alone has no step
pub root-components : components (codes "/") ≡ []
root-components = ap (filter is_full) (slice_split-cons_yes (λ (c : ℕ). c == 47) 47 [] refl)
