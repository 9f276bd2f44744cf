-- The names of devices in their containers are names.
use Rattle.std.proofs.Common.{◌≡◌, refl, subst, sym, ap, ◌∙◌, ℕ, ◌+◌, ◌^◌, ◌<◌, ◌≤◌, Bool, true, ◌&&◌, codes, List, [], ◌∷◌, ◌++◌, length, length-append}
use Rattle.std.proofs.Common.{lit<, arith}
use Rattle.std.specs.Prelude.{decimal}
use Rattle.std.specs.Int.{IsInRange}
use Rattle.std.specs.List.{list_all}
use Rattle.std.specs.Str.Parse.{AllDigits}
use Rattle.std.proofs.lemmas.Bool.Decides.{nat_tests}
use Rattle.std.proofs.lemmas.Fmt.{decimal_is_IsNumeral, length-decimal-le}
use Rattle.std.proofs.lemmas.List.Folds.{list_all-append}
use Rattle.std.proofs.lemmas.Str.Parse.{digit_from_value}
use Rattle.qo_values.specs.Names.{IsName, is_name_byte}
use Rattle.qo_model.specs.Devices.{anonymous_name}

-- a digit stands in a name
digit-named : (d : ℕ) → 48 ≤ d → d ≤ 57 → is_name_byte d ≡ true
digit-named d low high = grind (arith, nat_tests)

digits-named : (ds : List ℕ) → AllDigits 10 ds → list_all is_name_byte ds ≡ true
digits-named [] all = refl
digits-named (d ∷ ds) all =
    let range : IsInRange 48 57 d = digit_from_value d all.0 in
    rw (digit-named d range.0 range.1, digits-named ds all.1) refl

pub anonymous-named : (n : ℕ) (text : List ℕ) → n < 2 ^ 64 → text ≡ anonymous_name n → IsName text
anonymous-named n text fits is = subst (λ (t : List ℕ). IsName t) (sym is) named
  where
    few : length (decimal n) ≤ 20
    few = length-decimal-le 20 n (lit< tt) (omega arith) fits

    size : length (anonymous_name n) ≡ length (codes "device[") + length (decimal n) + length (codes "]")
    size = length-append (codes "device[" ++ decimal n) (codes "]") ∙ ap (λ (k : ℕ). k + length (codes "]")) (length-append (codes "device[") (decimal n))

    all : list_all is_name_byte (anonymous_name n) ≡ true
    all =
        list_all-append is_name_byte (codes "device[" ++ decimal n) (codes "]")
        ∙ ap (λ (t : Bool). t && list_all is_name_byte (codes "]"))
        (list_all-append is_name_byte
        (codes "device[") (decimal n)
        ∙ ap (λ (t : Bool). list_all is_name_byte (codes "device[") && t) (digits-named (decimal n) (decimal_is_IsNumeral n fits).0.1))

    named : IsName (anonymous_name n)
    named = record { some = omega (arith, size); short = omega (arith, size, few); printable = all }
