-- A board that has a description has one with an object more, which is a child of one that was there, and with further objects that are children of the new
-- one.
use Rattle.std.proofs.Common.{◌≡◌, refl, ap, ap₂, sym, ◌∙◌, ℕ, Bool, true, false, not, ◌==◌, ◌&&◌, ◌||◌, List, [], ◌∷◌, ◌++◌, filter, find, length, map, is_some}
use Rattle.std.proofs.lemmas.Bool.{and_parts, eqb-true, eq-eqb}
use Rattle.std.proofs.lemmas.List.Elements.{filter_map-append}
use Rattle.std.proofs.lemmas.List.Folds.{list_any-append}
use Rattle.std.proofs.Math.Bool.{or-true}
use Rattle.qo_model.proofs.Common.{AllByRecursion, if◌then◌else◌, list_any, ANONYMOUS_BIRTH, ROOT_BIRTH, Board, Record, Slot, child, is_live, with_added, children_in, child_of, edited}
use Rattle.qo_values.proofs.ListLemmas.{all-imply}
use Rattle.qo_model.specs.Board.{Removal}
use Rattle.qo_sound.proofs.RecordLemmas.{all-append}
use Rattle.qo_sound.proofs.TestLemmas.{clash, clash-back, decide}
use Rattle.qo_good.proofs.PlaceLemmas.{none-long, none-passes}
use Rattle.qo_rebuilt.proofs.KinLemmas.{Kin, kin, kin_of, children_under, has_child, is_stray, is_tidy}

-- ---- lists

none-left : {X : Type 0} (test : X → Bool) (xs : List X) → AllByRecursion (λ (x : X). test x ≡ false) xs → filter test xs ≡ []
none-left test [] h = refl
none-left test (x ∷ xs) h = rw h.0 (none-left test xs h.1)

all-map : {X Y : Type 0} (P : Y → Type 0) (f : X → Y) (xs : List X) → AllByRecursion (λ (x : X). P (f x)) xs → AllByRecursion P (map f xs)
all-map P f [] h = tt
all-map P f (x ∷ xs) h = (h.0, all-map P f xs h.1)

-- ---- objects of which one has a child more

abbrev pub grow_one : ℕ → ℕ → Kin → Kin
grow_one p n k = if k.0 == p then (k.0, k.1 ++ n ∷ []) else k

abbrev pub grow : ℕ → ℕ → List Kin → List Kin
grow p n ks = map (grow_one p n) ks

-- whether an object is there
abbrev pub has_kin : ℕ → List Kin → Bool
has_kin p ks = list_any (λ (k : Kin). k.0 == p) ks

-- an object without children
abbrev pub childless : ℕ → Kin
childless m = (m, [])

-- all of them, with the new ones
abbrev pub with_more : ℕ → ℕ → List ℕ → List Kin → List Kin
with_more p n ms ks = grow p n ks ++ (n, ms) ∷ map childless ms

same-birth : (p n : ℕ) (k : Kin) → (grow_one p n k).0 ≡ k.0
same-birth p n k = go (k.0 == p) refl
  where
    go : (t : Bool) → (k.0 == p) ≡ t → (grow_one p n k).0 ≡ k.0
    go true q = rw q refl
    go false q = rw q refl

child-stays : (p n m : ℕ) (k : Kin) → has_child m k ≡ true → has_child m (grow_one p n k) ≡ true
child-stays p n m k e = go (k.0 == p) refl
  where
    go : (t : Bool) → (k.0 == p) ≡ t → has_child m (grow_one p n k) ≡ true
    go true q = rw q (list_any-append (λ (x : ℕ). x == m) k.1 (n ∷ []) ∙ ap (λ (t : Bool). t || list_any (λ (x : ℕ). x == m) (n ∷ [])) e)
    go false q = rw q e

children-stay : (p n m : ℕ) (ks : List Kin) → list_any (has_child m) ks ≡ true → list_any (has_child m) (grow p n ks) ≡ true
children-stay p n m [] e = clash-back e
children-stay p n m (k ∷ ks) e = go (has_child m k) refl (children-stay p n m ks)
  where
    go : (t : Bool) → has_child m k ≡ t → (list_any (has_child m) ks ≡ true → list_any (has_child m) (grow p n ks) ≡ true)
        → has_child m (grow_one p n k) || list_any (has_child m) (grow p n ks) ≡ true
    go true q rest = ap (λ (t : Bool). t || list_any (has_child m) (grow p n ks)) (child-stays p n m k q)
    go false q rest = ap (λ (t : Bool). has_child m (grow_one p n k) || t) (rest (rw q at e)) ∙ or-true (has_child m (grow_one p n k))

own-child : (p n : ℕ) (ks : List Kin) → has_kin p ks ≡ true → list_any (has_child n) (grow p n ks) ≡ true
own-child p n [] e = clash-back e
own-child p n (k ∷ ks) e = go (k.0 == p) refl (own-child p n ks)
  where
    go : (t : Bool) → (k.0 == p) ≡ t → (has_kin p ks ≡ true → list_any (has_child n) (grow p n ks) ≡ true)
        → has_child n (grow_one p n k) || list_any (has_child n) (grow p n ks) ≡ true
    go true q rest =
        let self : (n == n) ≡ true = eq-eqb n n refl in
        let last : list_any (λ (x : ℕ). x == n) (n ∷ []) ≡ true = rw self refl in
        let own : has_child n (grow_one p n k) ≡ true =
        rw q (list_any-append (λ (x : ℕ). x == n) k.1 (n ∷ []) ∙ ap (λ (t : Bool). list_any (λ (x : ℕ). x == n) k.1 || t) last
        ∙ or-true (list_any (λ (x : ℕ). x == n) k.1)) in
        ap (λ (t : Bool). t || list_any (has_child n) (grow p n ks)) own
    go false q rest = ap (λ (t : Bool). has_child n (grow_one p n k) || t) (rest (rw q at e)) ∙ or-true (has_child n (grow_one p n k))

found-same : (p n x : ℕ) (others ks : List Kin) → (p == x) ≡ false → has_kin x ks ≡ true
    → children_under (grow p n ks ++ others) x ≡ children_under ks x
found-same p n x others [] apart e = clash-back e
found-same p n x others (k ∷ ks) apart e = go (k.0 == p) refl (k.0 == x) refl (found-same p n x others ks apart)
  where
    go : (t : Bool) → (k.0 == p) ≡ t → (u : Bool) → (k.0 == x) ≡ u
        → (has_kin x ks ≡ true → children_under (grow p n ks ++ others) x ≡ children_under ks x)
        → children_under (grow p n (k ∷ ks) ++ others) x ≡ children_under (k ∷ ks) x
    go true q true r rest = clash (sym r ∙ ap (λ (m : ℕ). m == x) (eqb-true k.0 p q) ∙ apart)
    go true q false r rest = rw (q, r) (rest (rw r at e))
    go false q true r rest = rw (q, r) refl
    go false q false r rest = rw (q, r) (rest (rw r at e))

-- ---- whether it is tidy

among-self : (xs : List ℕ) → AllByRecursion (λ (x : ℕ). list_any (λ (y : ℕ). y == x) xs ≡ true) xs
among-self [] = tt
among-self (m ∷ xs) = (
  rw (eq-eqb m m refl) refl,
  all-imply (λ (x : ℕ). list_any (λ (y : ℕ). y == x) xs ≡ true) (λ (x : ℕ). list_any (λ (y : ℕ). y == x) (m ∷ xs) ≡ true)
      (λ x e. ap (λ (t : Bool). (m == x) || t) e ∙ or-true (m == x)) xs (among-self xs),
)

module _ (p n : ℕ) (ms : List ℕ) (ks : List Kin) (there : has_kin p ks ≡ true) where
  abbrev cs : List Kin
  cs = with_more p n ms ks

  in-front : (m : ℕ) → list_any (has_child m) (grow p n ks) ≡ true → list_any (has_child m) cs ≡ true
  in-front m e =
      list_any-append (has_child m) (grow p n ks) ((n, ms) ∷ map childless ms)
      ∙ ap (λ (t : Bool). t || list_any (has_child m) ((n, ms) ∷ map childless ms)) e

  below-new : (m : ℕ) → list_any (λ (y : ℕ). y == m) ms ≡ true → list_any (has_child m) cs ≡ true
  below-new m e =
      list_any-append (has_child m) (grow p n ks) ((n, ms) ∷ map childless ms)
      ∙ ap (λ (t : Bool). list_any (has_child m) (grow p n ks) || (t || list_any (has_child m) (map childless ms))) e
      ∙ or-true (list_any (has_child m) (grow p n ks))

  no-stray : (m : ℕ) → list_any (has_child m) cs ≡ true → is_stray cs m ≡ false
  no-stray m e = rw e (go (not (m == ROOT_BIRTH)))
    where
      go : (t : Bool) → t && false ≡ false
      go true = refl
      go false = refl

  stays-so : (m : ℕ) → is_stray ks m ≡ false → is_stray cs m ≡ false
  stays-so m e =
      decide (m == ROOT_BIRTH) (λ q. rw q refl)
      (λ q.
      decide (list_any (has_child m) ks) (λ r. no-stray m (in-front m (children-stay p n m ks r)))
      (λ r. clash (rw (q, r) at e)))

  none-stray : AllByRecursion (λ (k : Kin). is_stray ks k.0 ≡ false) ks → AllByRecursion (λ (k : Kin). is_stray cs k.0 ≡ false) cs
  none-stray h =
      all-append (λ (k : Kin). is_stray cs k.0 ≡ false) (grow p n ks) ((n, ms) ∷ map childless ms)
      (all-map (λ (k : Kin). is_stray cs k.0 ≡ false) (grow_one p n) ks
      (all-imply (λ (k : Kin). is_stray ks k.0 ≡ false) (λ (k : Kin). is_stray cs (grow_one p n k).0 ≡ false)
      (λ k e. ap (is_stray cs) (same-birth p n k) ∙ stays-so k.0 e) ks h)) (
        no-stray n (in-front n (own-child p n ks there)),
        all-map (λ (k : Kin). is_stray cs k.0 ≡ false) childless ms
            (all-imply (λ (x : ℕ). list_any (λ (y : ℕ). y == x) ms ≡ true) (λ (x : ℕ). is_stray cs x ≡ false) (λ x e. no-stray x (below-new x e)) ms
            (among-self ms)),
      )

  pub tidy-more : (pending : List Removal) → has_kin ANONYMOUS_BIRTH ks ≡ true → (p == ANONYMOUS_BIRTH) ≡ false → is_tidy ks pending ≡ true
      → is_tidy cs pending ≡ true
  tidy-more pending anonymous apart e =
      let two =
      and_parts ((length (filter (λ (k : Kin). is_stray ks k.0) ks) == 0) && (length pending == 0)) (length (children_under ks ANONYMOUS_BIRTH) == 0) e in
      let first = and_parts (length (filter (λ (k : Kin). is_stray ks k.0) ks) == 0) (length pending == 0) two.0 in
      let none : filter (λ (k : Kin). is_stray cs k.0) cs ≡ [] =
      none-left (λ (k : Kin). is_stray cs k.0) cs
      (none-stray (none-passes (λ (k : Kin). is_stray ks k.0) ks (none-long (filter (λ (k : Kin). is_stray ks k.0) ks) first.0))) in
      let strays : (length (filter (λ (k : Kin). is_stray cs k.0) cs) == 0) ≡ true = ap (λ (xs : List Kin). length xs == 0) none in
      let unnamed : (length (children_under cs ANONYMOUS_BIRTH) == 0) ≡ true =
      ap (λ (xs : List ℕ). length xs == 0) (found-same p n ANONYMOUS_BIRTH ((n, ms) ∷ map childless ms) ks apart anonymous) ∙ two.1 in
      rw (strays, first.1, unnamed) refl

-- ---- of a board

-- an object that is there
kin-found : (n : ℕ) (rs : List Record) → is_some (find (λ (r : Record). r.birth == n) rs) ≡ has_kin n (map kin rs)
kin-found n [] = refl
kin-found n (r ∷ rs) = go (r.birth == n) refl (kin-found n rs)
  where
    go : (t : Bool) → (r.birth == n) ≡ t → is_some (find (λ (x : Record). x.birth == n) rs) ≡ has_kin n (map kin rs)
        → is_some (find (λ (x : Record). x.birth == n) (r ∷ rs)) ≡ has_kin n (map kin (r ∷ rs))
    go true q rest = rw q refl
    go false q rest = rw q rest

pub live-kin : (b : Board) (n : ℕ) → is_live b n ≡ true → has_kin n (kin_of b) ≡ true
live-kin b n live = sym (kin-found n b.records) ∙ live

pub added-children : (name : List ℕ) (n : ℕ) (slots : List (List ℕ × Slot)) → children_in (slots ++ (name, child n) ∷ []) ≡ children_in slots ++ n ∷ []
added-children name n slots = filter_map-append (λ (s : List ℕ × Slot). child_of s.1) slots ((name, child n) ∷ [])

-- a child slot more, of one object
pub kin-grown : (p : ℕ) (name : List ℕ) (n : ℕ) (rs : List Record) → map kin (map (edited p (with_added name (child n))) rs) ≡ grow p n (map kin rs)
kin-grown p name n [] = refl
kin-grown p name n (r ∷ rs) = go (r.birth == p) refl (kin-grown p name n rs)
  where
    go : (t : Bool) → (r.birth == p) ≡ t → map kin (map (edited p (with_added name (child n))) rs) ≡ grow p n (map kin rs)
        → map kin (map (edited p (with_added name (child n))) (r ∷ rs)) ≡ grow p n (map kin (r ∷ rs))
    go true q rest = rw (edited, q) (ap₂ (λ (ns : List ℕ) (ks : List Kin). (r.birth, ns) ∷ ks) (added-children name n r.slots) rest)
    go false q rest = rw (edited, q) (ap (λ (ks : List Kin). kin r ∷ ks) rest)
