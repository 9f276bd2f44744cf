-- Eight hexadecimal digits, as `{:08x}` writes them.
use Rattle.std.proofs.Common.{◌≡◌, ℕ, suc, zero, ◌+◌, ◌-◌, ◌/◌, ◌%◌, ◌^◌, ◌<◌, ◌≤◌, false, List, [], ◌∷◌, ◌++◌, length, replicate, refl, sym, ap, ◌∙◌, append_assoc, append-nil, arith, ⊎_elim}
use Rattle.std.specs.Fmt.{digits, digits_onto, digit_glyph, padded_integral, format_spec, char_count}
use Rattle.std.proofs.DigitsParse.{digits_onto-nil, digits_onto_last, digits_onto_step}
use Rattle.std.proofs.Math.Nat.{pow-suc}
use Rattle.std.proofs.lemmas.Bool.{cases_lt}
use Rattle.qo_guest.specs.Answers.{hex_text}

-- zeros in front of what the digits give make m digits
record IsFilled (m : ℕ) (n : ℕ) (shown acc : List ℕ) : Type 0 where
  zeros : ℕ
  counted : zeros + length shown ≡ m + length acc
  whole : replicate zeros 48 ++ shown ≡ hex_text m n ++ acc

-- a copy in front or at the end
replicate_push : (m : ℕ) (y : ℕ) → y ∷ replicate m y ≡ replicate m y ++ y ∷ []
replicate_push zero y = refl
replicate_push (suc m) y = ap (λ (ys : List ℕ). y ∷ ys) (replicate_push m y)

-- the digits of 0
hex_text-zero : (m : ℕ) → hex_text m 0 ≡ replicate m 48
hex_text-zero zero = refl
hex_text-zero (suc m) = ap (λ (ds : List ℕ). ds ++ 48 ∷ []) (hex_text-zero m) ∙ sym (replicate_push m 48)

-- one digit is left, and the places before it hold zeros
filled_last : (m i n : ℕ) (acc : List ℕ) → 0 < i → n < 16 → IsFilled (suc m) n (digits_onto i 16 false n acc) acc
filled_last m i n acc some small =
    let low : n / 16 ≡ 0 = omega arith in
    let last : digits_onto i 16 false n acc ≡ digit_glyph false (n % 16) ∷ acc = digits_onto_last 16 false n acc i some low in
    record {
      zeros = m;
      counted = rw last (omega arith);
      whole = rw (last, low, hex_text-zero m, append_assoc) refl;
    }

-- at most m + 1 digits, after zeros
filled : (m i n : ℕ) (acc : List ℕ) → m < i → n < 16 ^ suc m → IsFilled (suc m) n (digits_onto i 16 false n acc) acc
filled zero i n acc room small = filled_last zero i n acc (omega arith) (omega arith)
filled (suc m) i n acc room small =
    ⊎_elim (λ last. filled_last (suc m) i n acc (omega arith) last) (go (filled m (i - 1) (n / 16) (digit_glyph false (n % 16) ∷ acc) (omega arith)))
    (cases_lt n 16)
  where
    go : (n / 16 < 16 ^ suc m
        → IsFilled (suc m) (n / 16) (digits_onto (i - 1) 16 false (n / 16) (digit_glyph false (n % 16) ∷ acc)) (digit_glyph false (n % 16) ∷ acc)) → 16 ≤ n
        → IsFilled (suc (suc m)) n (digits_onto i 16 false n acc) acc
    go front_is more =
        let step : digits_onto i 16 false n acc ≡ digits_onto (i - 1) 16 false (n / 16) (digit_glyph false (n % 16) ∷ acc) =
        digits_onto_step 16 false n acc i (omega arith) (λ low. absurd (omega arith)) in
        let power = pow-suc 16 (suc m) in
        let front = front_is (omega arith) in
        record {
          zeros = front.zeros;
          counted = rw step (omega (arith, front.counted));
          whole = rw step (front.whole ∙ sym (append_assoc (hex_text (suc m) (n / 16)) (digit_glyph false (n % 16) ∷ []) acc));
        }

-- zeros fill up to eight digits
padded_zeros : (ds : List ℕ) (zeros : ℕ) → zeros + length ds ≡ 8
    → padded_integral (format_spec 32 0 4 8 18446744073709551615) false [] ds ≡ replicate zeros 48 ++ ds
unfolding padded_integral char_count
padded_zeros ds zeros counted =
    let padding : 8 - length ds - 0 - 0 ≡ zeros = omega arith in
    rw (padding, append-nil) refl

-- what `{:08x}` writes of a 32-bit number
pub padded_is : (n : ℕ) → n < 2 ^ 32 → padded_integral (format_spec 32 0 4 8 18446744073709551615) false [] (digits 16 false n) ≡ hex_text 8 n
padded_is n small =
    let f = filled 7 64 n [] (omega arith) (omega arith) in
    let none = digits_onto-nil 16 false n in
    padded_zeros (digits 16 false n) f.zeros (rw none at f.counted) ∙ rw none at f.whole
