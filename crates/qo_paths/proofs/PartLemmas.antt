-- The parts of a path, first to last.
use Rattle.std.proofs.Common.{◌≡◌, refl, ap, sym, ◌∙◌, ℕ, zero, suc, ◌+◌, ◌-◌, ◌<◌, ◌≤◌, ◌==◌, true, false, Bor, List, [], ◌∷◌, ◌++◌, map, length, drop, get_or, append_assoc, Option, Some, None, arith}
use Rattle.std.specs.List.{slice_split}
use Rattle.qo_model.specs.Board.{Board}
use Rattle.qo_model.specs.Paths.{components, next_of, walk}
use Rattle.qo_paths.specs.Parts.{named_after, named_from, parts_after, path_up}

-- the length of what is left, with one more where something is left
abbrev pub size_of : Option (List ℕ) → ℕ
size_of None = 0
size_of (Some path) = length path + 1

not_empty : (b : ℕ) (part : List ℕ) → length (b ∷ part) == 0 ≡ false
not_empty b part = grind arith

-- what is left begins with its first part, unless that is empty
pub components_first : (path part : List ℕ) (rest : Option (List ℕ)) → slice_split (λ c. c == 47) path ≡ part ∷ parts_after rest
    → components path ≡ named_from part rest
components_first path [] None h = rw h refl
components_first path [] (Some rest) h = rw h refl
components_first path (b ∷ part) None h = rw (h, not_empty b part) refl
components_first path (b ∷ part) (Some rest) h = rw (h, not_empty b part) refl

-- so an empty part is no component, and any other is one
pub length_skip : (path part : List ℕ) (rest : Option (List ℕ)) → slice_split (λ c. c == 47) path ≡ part ∷ parts_after rest → length part == 0 ≡ true
    → length (components path) ≡ length (named_after rest)
length_skip path part rest h empty = ap length (rw empty at (components_first path part rest h))

pub length_on : (path part : List ℕ) (rest : Option (List ℕ)) → slice_split (λ c. c == 47) path ≡ part ∷ parts_after rest → length part == 0 ≡ false
    → length (components path) ≡ suc (length (named_after rest))
length_on path part rest h full = ap length (rw full at (components_first path part rest h))

module _ (b : Board) where
  on_next : (n : ℕ) (part : List ℕ) (m : ℕ) (parts : List (List ℕ)) → next_of b n part ≡ Some m → walk b n (part ∷ parts) ≡ walk b m parts
  on_next n part m parts e = rw (e, walk) refl

  off_next : (n : ℕ) (part : List ℕ) (parts : List (List ℕ)) → next_of b n part ≡ None → walk b n (part ∷ parts) ≡ None
  off_next n part parts e = rw (e, walk) refl

  -- an empty part leads nowhere further
  pub walk_skip : (n : ℕ) (path part : List ℕ) (rest : Option (List ℕ)) → slice_split (λ c. c == 47) path ≡ part ∷ parts_after rest → length part == 0 ≡ true
      → walk b n (components path) ≡ walk b n (named_after rest)
  walk_skip n path part rest h empty = ap (walk b n) (rw empty at (components_first path part rest h))

  -- a part goes on to what it leads to
  pub walk_on : (n m : ℕ) (path part : List ℕ) (rest : Option (List ℕ)) → slice_split (λ c. c == 47) path ≡ part ∷ parts_after rest → length part == 0 ≡ false
      → next_of b n part ≡ Some m → walk b n (components path) ≡ walk b m (named_after rest)
  walk_on n m path part rest h full goes = ap (walk b n) (rw full at (components_first path part rest h)) ∙ on_next n part m (named_after rest) goes

  -- or there is none
  pub walk_off : (n : ℕ) (path part : List ℕ) (rest : Option (List ℕ)) → slice_split (λ c. c == 47) path ≡ part ∷ parts_after rest → length part == 0 ≡ false
      → next_of b n part ≡ None → walk b n (components path) ≡ None
  walk_off n path part rest h full goes = ap (walk b n) (rw full at (components_first path part rest h)) ∙ off_next n part (named_after rest) goes

  -- a first part leads on in the same way
  pub from_empty : (n : ℕ) (part : List ℕ) (rest : Option (List ℕ)) → length part == 0 ≡ true → walk b n (named_from part rest) ≡ walk b n (named_after rest)
  from_empty n part rest empty = rw empty refl

  pub from_part : (n m : ℕ) (part : List ℕ) (rest : Option (List ℕ)) → length part == 0 ≡ false → next_of b n part ≡ Some m
      → walk b n (named_from part rest) ≡ walk b m (named_after rest)
  from_part n m part rest full goes = rw full (on_next n part m (named_after rest) goes)

  pub from_none : (n : ℕ) (part : List ℕ) (rest : Option (List ℕ)) → length part == 0 ≡ false → next_of b n part ≡ None
      → walk b n (named_from part rest) ≡ None
  from_none n part rest full none = rw full (off_next n part (named_after rest) none)

-- the text of a name
abbrev pub text : Bor (List ℕ) → List ℕ
text name = name.now

-- one name more of a way up, from the last
path_up-first : (names : List (Bor (List ℕ))) (i : ℕ) (d : Bor (List ℕ)) → i < length names
    → path_up (drop i (map text names)) ≡ path_up (drop (suc i) (map text names)) ++ 47 ∷ (get_or names i d).now
path_up-first [] i d below = absurd (omega arith)
path_up-first (n ∷ names) zero d below = refl
path_up-first (n ∷ names) (suc i) d below = path_up-first names i d (omega arith)

pub path_up-get : (names : List (Bor (List ℕ))) (left : ℕ) (d : Bor (List ℕ)) → 0 < left → left ≤ length names
    → (path_up (drop left (map text names)) ++ 47 ∷ []) ++ (get_or names (left - 1) d).now ≡ path_up (drop (left - 1) (map text names))
path_up-get names left d some few =
    let back : suc (left - 1) ≡ left = omega arith in
    append_assoc (path_up (drop left (map text names))) (47 ∷ []) (get_or names (left - 1) d).now
    ∙ sym (path_up-first names (left - 1) d (omega arith) ∙ ap (λ (k : ℕ). path_up (drop k (map text names)) ++ 47 ∷ (get_or names (left - 1) d).now) back)
