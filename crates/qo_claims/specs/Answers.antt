-- For proofs alone. What a take did.
use Rattle.std.specs.Prelude.{◌≡◌, IsOk}
use Rattle.std.specs.declared.result.Result.{Result}
use Rattle.std.specs.declared.result.Result.TheVariants.{Ok, Err}
use Rattle.qo_claims.specs.declared.errors.ClaimError.{ClaimError}
use Rattle.qo_claims.specs.declared.errors.ClaimError.TheVariants.{Memory}

-- of what the definition answers: where that is a refusal, the same refusal, and all as before; where that is a
-- claim, the claim, and all has grown by it; or memory ran out, and all is as before
module _ {X S : Type 0} (answer : Result X ClaimError) (grown : X → S) (old new : S) where
  abbrev pub Took : Result X ClaimError → Type 0
  Took (Ok claim) = (answer ≡ Ok claim) × (new ≡ grown claim)
  Took (Err Memory) = IsOk answer × (new ≡ old)
  Took (Err refusal) = (answer ≡ Err refusal) × (new ≡ old)

-- the answer of a part, as one of the whole
abbrev pub on_whole : {X Y : Type 0} → (X → Y) → Result X ClaimError → Result Y ClaimError
on_whole f (Ok x) = Ok (f x)
on_whole f (Err refusal) = Err refusal
