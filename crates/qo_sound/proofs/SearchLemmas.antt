-- What all records have, the one of a birth has.
use Rattle.std.proofs.Common.{◌≡◌, refl, subst, ℕ, Bool, true, false, ◌==◌, List, [], ◌∷◌, ◌++◌, Some}
use Rattle.qo_model.proofs.Common.{AllByRecursion, option_or, Record}
use Rattle.std.proofs.lemmas.List.Folds.{find-append}
use Rattle.std.proofs.lemmas.Option.{same_Some}
use Rattle.qo_model.proofs.StepLemmas.{found_at}

pub all-found : (P : Record → Type 0) (n : ℕ) (rs : List Record) → AllByRecursion P rs → (r : Record) → found_at n rs ≡ Some r → P r
all-found P n [] h r e = cc
all-found P n (x ∷ rs) h r e = go (x.birth == n) refl (all-found P n rs h.1 r)
  where
    go : (t : Bool) → (x.birth == n) ≡ t → (found_at n rs ≡ Some r → P r) → P r
    go true p rest = subst P (same_Some x r (rw p at e)) h.0
    go false p rest = rest (rw p at e)

-- what is found among records and others after them
pub found-append : (n : ℕ) (rs others : List Record) → found_at n (rs ++ others) ≡ option_or (found_at n rs) (found_at n others)
found-append n rs others = find-append (λ (r : Record). r.birth == n) rs others
