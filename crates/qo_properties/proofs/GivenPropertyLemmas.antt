-- Why the properties given to a new object are refused, by the rows of the code.
use Rattle.std.proofs.Common.{◌≡◌, refl, ap, sym, ◌∙◌, ℕ, ◌+◌, ◌<◌, Bool, true, false, List, ◌∷◌, length, drop, get_or, find, Option, Some, None}
use Rattle.std.proofs.lemmas.List.{drop_more}
use Rattle.qo_values.specs.declared.codes.Code.{Code}
use Rattle.qo_values.specs.declared.kinds.TypeId.{TypeId}
use Rattle.qo_model.specs.Board.{Board}
use Rattle.qo_model.specs.Objects.{Given, refusal_by, refusal_of}
use Rattle.qo_model.specs.Properties.{property_named}

module _ (b : Board) where
  -- the first that is refused

  pub passed-first : (t : TypeId) (p : Given) (props : List Given) → None ≡ refusal_by b (property_named t p.0) p.1
      → refusal_of b t (p ∷ props) ≡ refusal_of b t props
  passed-first t p props e = ap (λ (o : Option Code). elim o [ Some c ↦ Some c | None ↦ refusal_of b t props ]) (sym e)

-- a list from a place on

module _ {X : Type 0} where
  pub drop-at : (xs : List X) (i : ℕ) (x : X) → i < length xs → x ≡ get_or xs i x → drop i xs ≡ x ∷ drop (i + 1) xs
  drop-at xs i x below is = drop_more xs i x below ∙ ap (λ (y : X). y ∷ drop (i + 1) xs) (sym is)

  pub find-here : (p : X → Bool) (x : X) (xs : List X) → p x ≡ true → find p (x ∷ xs) ≡ Some x
  find-here p x xs is = rw is refl

  pub find-later : (p : X → Bool) (x : X) (xs : List X) → p x ≡ false → find p (x ∷ xs) ≡ find p xs
  find-later p x xs is = rw is refl
