-- The standard Base64 decodes, and nothing else does.
use Rattle.std.proofs.Common.{◌≡◌, Some, refl, ap}
use Rattle.std.specs.Result.{result_ok}
use Rattle.std.specs.declared.result.Result.{Result}
use Rattle.std.specs.declared.result.Result.TheVariants.{Ok, Err}
use Rattle.base64.specs.Engines.{standard}
use Rattle.base64.specs.GeneralPurpose.{decode_of, IsStrict}
use Rattle.base64.proofs.EngineFacts.{decode_of_iff}
use Rattle.qo_chardev.specs.Laws.{TextsAreEncodings}

-- a result that is there
ok_of : {T E : Type 0} (r : Result T E) (x : T) → result_ok r ≡ Some x → r ≡ Ok x
ok_of (Ok y) x e = let same : y ≡ x = cc in ap Ok same
ok_of (Err y) x e = cc

-- the standard engine decodes encodings alone
pub strict : IsStrict standard
strict = (refl, refl)

pub texts_are_encodings : TextsAreEncodings
texts_are_encodings text bytes are_text are_bytes =
    let same = decode_of_iff standard text bytes strict are_text are_bytes in
    (λ e. same.0 (ok_of (decode_of standard text) bytes e), λ e. ap result_ok (same.1 e))
