-- What the text of a link names is there and of the link's type.
use Rattle.std.proofs.Common.{◌≡◌, refl, subst, ℕ, Bool, true, false, List, [], ◌∷◌, filter_map, codes, Option, Some, None, Result, Ok, Err}
use Rattle.qo_model.proofs.Common.{⊤, AllByRecursion, type_name, Code, E15, E31, TypeId, Board, kind_of, Resolution, found, missing, several, components, ends, is_of, only_of, resolve, starts, the_one, walk, link_target}
use Rattle.std.specs.Option.{option_and_then}
use Rattle.qo_sound.proofs.FirmBoardLemmas.{FitsKind}

-- each end of a path is of the wanted type
ends-of : (b : Board) (wanted : List ℕ) (from : ℕ → Option ℕ) (ns : List ℕ)
    → AllByRecursion (λ m. is_of b wanted m ≡ true) (filter_map (λ n. option_and_then (only_of b wanted) (from n)) ns)
ends-of b wanted from [] = tt
ends-of b wanted from (n ∷ ns) = go (from n) refl (ends-of b wanted from ns)
  where
    choose : (m : ℕ) → from n ≡ Some m → (t : Bool) → is_of b wanted m ≡ t
        → AllByRecursion (λ k. is_of b wanted k ≡ true) (filter_map (λ k. option_and_then (only_of b wanted) (from k)) ns)
        → AllByRecursion (λ k. is_of b wanted k ≡ true) (filter_map (λ k. option_and_then (only_of b wanted) (from k)) (n ∷ ns))
    choose m p true q rest = rw (p, only_of, q) (q, rest)
    choose m p false q rest = rw (p, only_of, q) rest

    go : (o : Option ℕ) → from n ≡ o → AllByRecursion (λ k. is_of b wanted k ≡ true) (filter_map (λ k. option_and_then (only_of b wanted) (from k)) ns)
        → AllByRecursion (λ k. is_of b wanted k ≡ true) (filter_map (λ k. option_and_then (only_of b wanted) (from k)) (n ∷ ns))
    go None p rest = rw p rest
    go (Some m) p rest = choose m p (is_of b wanted m) refl rest

the_one-of : (P : ℕ → Type 0) (ns : List ℕ) → AllByRecursion P ns → (m : ℕ) → the_one ns ≡ found m → P m
the_one-of P [] h m e = absurd (let clash : missing ≡ found m = e in cc)
the_one-of P (n ∷ []) h m e = subst P (let same : found n ≡ found m = e in cc) h.0
the_one-of P (n ∷ k ∷ ns) h m e = absurd (let clash : several ≡ found m = e in cc)

pub resolved-of : (b : Board) (path wanted : List ℕ) (m : ℕ) → resolve b path wanted ≡ found m → is_of b wanted m ≡ true
resolved-of b path wanted m e =
    the_one-of (λ k. is_of b wanted k ≡ true) (ends b path wanted) (ends-of b wanted (λ n. walk b n (components path)) (starts b path)) m e

-- what a text gives as a target
abbrev pub FitsResult : Board → TypeId → Result (Option ℕ) Code → Type 0
FitsResult b t (Ok target) = FitsKind (kind_of b) t target
FitsResult b t (Err code) = ⊤

pub target-fits : (b : Board) (t : TypeId) (path : List ℕ) → FitsResult b t (link_target b t path)
target-fits b t [] = tt
target-fits b t (c ∷ path) = go (resolve b (c ∷ path) (type_name t)) refl
  where
    no_target : (p : Resolution) → FitsResult b t (elim p as (λ _. Result (Option ℕ) Code) [ missing ↦ Err E15 | found m ↦ Err E31 | several ↦ Err E31 ])
    no_target missing = tt
    no_target (found m) = tt
    no_target several = tt

    go : (p : Resolution) → resolve b (c ∷ path) (type_name t) ≡ p → FitsResult b t (link_target b t (c ∷ path))
    go (found m) p = rw (link_target, p) (resolved-of b (c ∷ path) (type_name t) m p)
    go several p = rw (link_target, p) tt
    go missing p = rw (link_target, p) (no_target (resolve b (c ∷ path) (codes "object")))

pub target-fit : (b : Board) (t : TypeId) (path : List ℕ) (target : Option ℕ) → link_target b t path ≡ Ok target → FitsKind (kind_of b) t target
target-fit b t path target told = subst (FitsResult b t) told (target-fits b t path)
