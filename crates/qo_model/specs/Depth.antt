-- Recursion over objects that lead to other objects, as along parents or along children, where no object leads back to itself.
use Rattle.std.specs.Prelude.{◌≡◌, ℕ, zero, suc, Bool, true, nat_eq, List, length}
use Rattle.std.specs.List.{list_any}

-- an answer for each object, by a turn that may ask for the answers of others, to a depth; `base` beyond it
abbrev pub by_depth : {A : Type 0} → ((ℕ → A) → ℕ → A) → (ℕ → A) → ℕ → ℕ → A
by_depth turn base zero = base
by_depth turn base (suc depth) = turn (by_depth turn base depth)

-- the same, to the depth that the number of objects allows
abbrev pub by_objects : {A : Type 0} → ((ℕ → A) → ℕ → A) → (ℕ → A) → List ℕ → ℕ → A
by_objects turn base all = by_depth turn base (suc (length all))

-- whether a number is among the members of a list
abbrev pub among : List ℕ → ℕ → Bool
among xs n = list_any (nat_eq n) xs

-- whether n leads to m in one step
abbrev pub leads : (ℕ → List ℕ) → ℕ → ℕ → Bool
leads next n m = among (next n) m

-- n leads to m in one step or more
pub data Leads (next : ℕ → List ℕ) : ℕ → ℕ → Type 0 where
  one : {n m : ℕ} → leads next n m ≡ true → Leads next n m
  more : {n m k : ℕ} → leads next n m ≡ true → Leads next m k → Leads next n k

-- no object leads back to itself, and each object that one leads to is among all objects
pub record IsTree (next : ℕ → List ℕ) (all : List ℕ) : Type 0 where
  pub none_round : (n : ℕ) → ¬ (Leads next n n)
  pub lives : (n m : ℕ) → leads next n m ≡ true → among all m ≡ true

-- a turn at n asks only for the answers of the objects that n leads to
abbrev pub IsLocal : {A : Type 0} → (ℕ → List ℕ) → ((ℕ → A) → ℕ → A) → Type 0
IsLocal {A} next turn = (n : ℕ) (f g : ℕ → A) → ((m : ℕ) → leads next n m ≡ true → f m ≡ g m) → turn f n ≡ turn g n
