-- Whether a board has a description, by the births of its objects and of their children alone.
use Rattle.std.proofs.Common.{◌≡◌, refl, ap, ap₂, sym, ◌∙◌, ℕ, suc, Bool, true, false, not, ◌==◌, ◌&&◌, List, [], ◌∷◌, filter, find, length, map, Option, Some, None, is_some, is_none, option_map, option_and_then}
use Rattle.qo_model.proofs.Common.{list_any, option_map_or, ANONYMOUS_BIRTH, ROOT_BIRTH, Board, Record, Slot, plain, child, strong, weak, alias, children_in, children_of, is_child, place_of}
use Rattle.qo_model.specs.Board.{Removal}
use Rattle.qo_model.specs.Paths.{place_in}
use Rattle.qo_save.specs.Described.{is_describable}

-- an object and its children, by their births
abbrev pub Kin : Type 0
Kin = ℕ × List ℕ

abbrev pub kin : Record → Kin
kin r = (r.birth, children_in r.slots)

abbrev pub kin_of : Board → List Kin
kin_of b = map kin b.records

-- whether an object has n as a child, and whether n, which is not `/`, is nobody's
abbrev pub has_child : ℕ → Kin → Bool
has_child n k = list_any (λ (m : ℕ). m == n) k.1

abbrev pub is_stray : List Kin → ℕ → Bool
is_stray ks n = not (n == ROOT_BIRTH) && not (list_any (has_child n) ks)

-- the children of n
abbrev pub children_under : List Kin → ℕ → List ℕ
children_under ks n = option_map_or (λ (k : Kin). k.1) (find (λ (k : Kin). k.0 == n) ks) []

abbrev pub is_tidy : List Kin → List Removal → Bool
is_tidy ks pending =
    (length (filter (λ (k : Kin). is_stray ks k.0) ks) == 0) && (length pending == 0) && (length (children_under ks ANONYMOUS_BIRTH) == 0)

-- ---- what is read of kin

child-found : (n birth : ℕ) (slots : List (List ℕ × Slot))
    → is_some {T = ℕ × List ℕ} (option_map (λ (s : List ℕ × Slot). (birth, s.0)) (find (λ (s : List ℕ × Slot). is_child n s.1) slots))
    ≡ list_any (λ (m : ℕ). m == n) (children_in slots)
child-found n birth [] = refl
child-found n birth ((name, plain v) ∷ slots) = child-found n birth slots
child-found n birth ((name, child m) ∷ slots) = go (m == n) refl (child-found n birth slots)
  where
    go : (t : Bool) → (m == n) ≡ t
        → is_some {T = ℕ × List ℕ} (option_map (λ (s : List ℕ × Slot). (birth, s.0)) (find (λ (s : List ℕ × Slot). is_child n s.1) slots))
        ≡ list_any (λ (x : ℕ). x == n) (children_in slots)
        → is_some {T = ℕ × List ℕ} (option_map (λ (s : List ℕ × Slot). (birth, s.0)) (find (λ (s : List ℕ × Slot). is_child n s.1) ((name, child m) ∷ slots)))
        ≡ list_any (λ (x : ℕ). x == n) (m ∷ children_in slots)
    go true q rest = rw q refl
    go false q rest = rw q rest
child-found n birth ((name, strong t target) ∷ slots) = child-found n birth slots
child-found n birth ((name, weak t target) ∷ slots) = child-found n birth slots
child-found n birth ((name, alias m property) ∷ slots) = child-found n birth slots

place-found : (n : ℕ) (rs : List Record)
    → is_some (option_and_then (place_in n) (find (λ (r : Record). is_some (place_in n r)) rs)) ≡ list_any (has_child n) (map kin rs)
place-found n [] = refl
place-found n (r ∷ rs) = go (is_some (place_in n r)) refl (place-found n rs)
  where
    own : is_some (place_in n r) ≡ has_child n (kin r)
    own = child-found n r.birth r.slots

    go : (t : Bool) → is_some (place_in n r) ≡ t
        → is_some (option_and_then (place_in n) (find (λ (x : Record). is_some (place_in n x)) rs)) ≡ list_any (has_child n) (map kin rs)
        → is_some (option_and_then (place_in n) (find (λ (x : Record). is_some (place_in n x)) (r ∷ rs))) ≡ list_any (has_child n) (map kin (r ∷ rs))
    go true q rest =
        let its : has_child n (kin r) ≡ true = sym own ∙ q in
        rw (q, its) q
    go false q rest =
        let its : has_child n (kin r) ≡ false = sym own ∙ q in
        rw (q, its) rest

-- an object has a place where another has it as a child
pub place-kin : (b : Board) (n : ℕ) → is_some (place_of b n) ≡ list_any (has_child n) (kin_of b)
place-kin b n = place-found n b.records

none-not_some : {X : Type 0} (o : Option X) → is_none o ≡ not (is_some o)
none-not_some None = refl
none-not_some (Some x) = refl

filtered : {X Y : Type 0} (f : X → Y) (test : X → Bool) (by : Y → Bool) → ((x : X) → test x ≡ by (f x)) → (xs : List X)
    → length (filter test xs) ≡ length (filter by (map f xs))
filtered f test by same [] = refl
filtered f test by same (x ∷ xs) = go (by (f x)) refl (filtered f test by same xs)
  where
    go : (t : Bool) → by (f x) ≡ t → length (filter test xs) ≡ length (filter by (map f xs))
        → length (filter test (x ∷ xs)) ≡ length (filter by (map f (x ∷ xs)))
    go true q rest =
        let its : test x ≡ true = same x ∙ q in
        rw (its, q) (ap (λ (k : ℕ). suc k) rest)
    go false q rest =
        let its : test x ≡ false = same x ∙ q in
        rw (its, q) rest

found-kin : (n : ℕ) (rs : List Record)
    → children_in (option_map_or (λ (r : Record). r.slots) (find (λ (r : Record). r.birth == n) rs) []) ≡ children_under (map kin rs) n
found-kin n [] = refl
found-kin n (r ∷ rs) = go (r.birth == n) refl (found-kin n rs)
  where
    go : (t : Bool) → (r.birth == n) ≡ t
        → children_in (option_map_or (λ (x : Record). x.slots) (find (λ (x : Record). x.birth == n) rs) []) ≡ children_under (map kin rs) n
        → children_in (option_map_or (λ (x : Record). x.slots) (find (λ (x : Record). x.birth == n) (r ∷ rs)) []) ≡ children_under (map kin (r ∷ rs)) n
    go true q rest = rw q refl
    go false q rest = rw q rest

pub children-kin : (b : Board) (n : ℕ) → children_of b n ≡ children_under (kin_of b) n
children-kin b n = found-kin n b.records

-- a board has a description where its kin is tidy
pub describable-kin : (b : Board) → is_describable b ≡ is_tidy (kin_of b) b.pending
describable-kin b =
    ap₂ (λ (x y : ℕ). (x == 0) && (length b.pending == 0) && (y == 0))
    (filtered kin (λ (r : Record). not (r.birth == ROOT_BIRTH) && is_none (place_of b r.birth)) (λ (k : Kin). is_stray (kin_of b) k.0) stray b.records)
    (ap length (children-kin b ANONYMOUS_BIRTH))
  where
    stray : (r : Record) → (not (r.birth == ROOT_BIRTH) && is_none (place_of b r.birth)) ≡ is_stray (kin_of b) r.birth
    stray r =
        ap (λ (t : Bool). not (r.birth == ROOT_BIRTH) && t)
        (none-not_some (place_of b r.birth) ∙ ap not (place-kin b r.birth))

-- so where its kin and the pending removals stay
pub describable-same : (b c : Board) → kin_of c ≡ kin_of b → c.pending ≡ b.pending → is_describable b ≡ true → is_describable c ≡ true
describable-same b c same pending says =
    describable-kin c ∙ ap₂ is_tidy same pending ∙ sym (describable-kin b) ∙ says
