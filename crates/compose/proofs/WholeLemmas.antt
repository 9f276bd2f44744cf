-- Bytes that a source gave in pieces.
use Rattle.std.proofs.Common.{◌≡◌, ◌≢◌, ℕ, ◌++◌, List, [], ◌∷◌, length, refl, ap, sym, ◌∙◌, append_assoc, arith, Option, None, Some}
use Rattle.std.specs.Io.KnownBytes.{prepend_known}
use Rattle.qo_record.proofs.ReadingLemmas.{none_some, some_is}
use Rattle.compose.specs.declared.whole_sources.Stop.{Stop}

-- nothing was given yet
empty : (xs : List ℕ) → length xs ≡ 0 → xs ≡ []
empty [] is = refl
empty (x ∷ xs) is = absurd (omega (arith, is))

nothing-before : (k : Option (List ℕ)) → k ≡ prepend_known [] k
nothing-before None = refl
nothing-before (Some xs) = refl

pub gave-first : (k : Option (List ℕ)) (xs : List ℕ) → length xs ≡ 0 → k ≡ prepend_known xs k
gave-first k xs is = nothing-before k ∙ ap (λ (l : List ℕ). prepend_known l k) (sym (empty xs is))

-- a piece more
twice : (xs ys : List ℕ) (k : Option (List ℕ)) → prepend_known xs (prepend_known ys k) ≡ prepend_known (xs ++ ys) k
twice xs ys None = refl
twice xs ys (Some zs) = ap Some (sym (append_assoc xs ys zs))

pub gave-more : (old mid new : Option (List ℕ)) (held taken : List ℕ) → old ≡ prepend_known held mid → mid ≡ prepend_known taken new
    → old ≡ prepend_known (held ++ taken) new
gave-more old mid new held taken first more = first ∙ ap (prepend_known held) more ∙ twice held taken new

-- the reading goes on, or stops by another end
pub goes-on : (r : Option Stop) (s : Stop) → r ≡ None → r ≢ Some s
goes-on r s none is = none_some (sym none ∙ is)

pub stops-else : (r : Option Stop) (s t : Stop) → r ≡ Some s → s ≢ t → r ≢ Some t
stops-else r s t is other same = other (some_is (sym is ∙ same))
