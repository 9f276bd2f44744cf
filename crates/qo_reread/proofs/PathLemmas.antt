-- The texts of a board's paths are ASCII.
use Rattle.std.proofs.Common.{◌≡◌, refl, ap, ◌∙◌, ℕ, zero, suc, ◌==◌, nat_le, not, Bool, true, false, List, [], ◌∷◌, ◌++◌, length, Option, Some, None, codes, decimal, IsUtf8}
use Rattle.std.specs.List.{list_all}
use Rattle.std.proofs.lemmas.Bool.{and_parts}
use Rattle.std.proofs.lemmas.List.Folds.{list_all-append}
use Rattle.std.proofs.lemmas.Str.{IsUtf8-from_ascii, IsUtf8-nil}
use Rattle.qo_model.proofs.Common.{ROOT_BIRTH, Board}
use Rattle.qo_model.specs.Paths.{births, path_down_to}
use Rattle.qo_model.specs.Properties.{path_text, target_text}
use Rattle.qo_replies.proofs.QuoteLemmas.{small, small-ascii}
use Rattle.qo_sound.proofs.FirmBoardLemmas.{WellFormed}
use Rattle.qo_sound.proofs.ViewLemmas.{rest-from_sound}
use Rattle.qo_ways.specs.Ways.{IsInOrder}
use Rattle.qo_ways.proofs.NameLemmas.{IsPlainName, decimal-bytes, each_plain, is_step_byte}
use Rattle.qo_ways.proofs.WayLemmas.{Above, placed, root-steps, steps_to, turn-above}

pub small-bytes : (cs : List ℕ) → list_all is_step_byte cs ≡ true → small cs ≡ true
small-bytes [] h = refl
small-bytes (c ∷ cs) h =
    let p = and_parts (is_step_byte c) (list_all is_step_byte cs) h in
    rw ((and_parts (nat_le c 126) (not (c == 47)) p.0).0, small-bytes cs p.1) refl

pub small-utf8 : (text : List ℕ) → small text ≡ true → IsUtf8 text
small-utf8 text h = IsUtf8-from_ascii text (small-ascii text h)

small-append : (xs ys : List ℕ) → small xs ≡ true → small ys ≡ true → small (xs ++ ys) ≡ true
small-append xs ys h k = list_all-append (λ (c : ℕ). nat_le c 126) xs ys ∙ rw (h, k) refl

module _ (b : Board) (h : IsInOrder b) where
  firm : WellFormed b
  firm = (rest-from_sound b h.devices.tree).used.firm

  steps-small : (depth n : ℕ) (q : List ℕ) → steps_to b depth n ≡ Some q → small q ≡ true
  steps-small zero n q e = absurd (cc)
  steps-small (suc depth) n q e = go (n == ROOT_BIRTH) refl (steps-small depth)
    where
      go : (t : Bool) → (n == ROOT_BIRTH) ≡ t → ((m : ℕ) (r : List ℕ) → steps_to b depth m ≡ Some r → small r ≡ true) → small q ≡ true
      go true p rest = ap small (root-steps b depth n q p e)
      go false p rest =
          let a : Above b (steps_to b depth) n q = turn-above b (steps_to b depth) n q p e in
          let name : IsPlainName (a.parent.1, n) = (placed IsPlainName b firm (each_plain b h) n a.parent a.place).holds in
          ap small a.is ∙ small-append a.before (47 ∷ a.parent.1) (rest a.parent.0 a.before a.above) (rw (small-bytes a.parent.1 name.1) refl)

  down-small : (n : ℕ) (q : List ℕ) → path_down_to b n ≡ Some q → small q ≡ true
  unfolding path_down_to
  down-small n q e = steps-small (suc (length (births b))) n q e

  pub path-utf8 : (n : ℕ) → IsUtf8 (path_text b n)
  path-utf8 n = go (n == ROOT_BIRTH) refl (path_down_to b n) refl
    where
      go : (t : Bool) → (n == ROOT_BIRTH) ≡ t → (o : Option (List ℕ)) → path_down_to b n ≡ o → IsUtf8 (path_text b n)
      go true p o q = rw p (small-utf8 (codes "/") refl)
      go false p (Some path) q = rw (p, q) (small-utf8 path (down-small n path q))
      go false p None q = rw (p, q) (small-utf8 (codes "detached:" ++ decimal n) (small-append (codes "detached:") (decimal n) refl (small-bytes (decimal n) (decimal-bytes n))))

  pub target-utf8 : (target : Option ℕ) → IsUtf8 (target_text b target)
  target-utf8 None = IsUtf8-nil
  target-utf8 (Some m) = path-utf8 m
