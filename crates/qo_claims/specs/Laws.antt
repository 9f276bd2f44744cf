-- For a law alone. What the words on claims mean together.
use Rattle.std.specs.Prelude.{◌≡◌, Bool, false, ◌==◌}
use Rattle.qo_claims.specs.declared.claims.Claimed.{Claimed}
use Rattle.qo_claims.specs.declared.claims.Claimed.TheVariants as on
use Rattle.qo_claims.specs.Book.{ClaimsTaken, is_taken, with_claim, without_claim}

-- it is a range of no bytes, on which no claim is
abbrev pub is_empty : Claimed → Bool
is_empty (on.Range r) = r.size == 0
is_empty _ = false

-- a claim on what is not held leaves all as it was once it has ended
abbrev pub LawGivenBack : Type 0
LawGivenBack = (claim : Claimed) (h : ClaimsTaken) → is_taken claim h ≡ false → is_empty claim ≡ false → without_claim claim (with_claim claim h) ≡ h
