-- Numbers from their decimal digits, and back.
use Rattle.std.proofs.Common.{◌≡◌, ◌≢◌, ◌==◌, ℕ, ◌+◌, ◌-◌, ◌*◌, ◌/◌, ◌%◌, ◌^◌, ◌<◌, ◌≤◌, Bool, true, false, cond, ◌&&◌, nat_le, nat_lt, List, [], ◌∷◌, ◌++◌, length, get_or, Option, Some, None, refl, sym, ap, ◌∙◌, append_assoc, append-nil, arith, ⊎_elim}
use Rattle.std.specs.Prelude.{option_and_then}
use Rattle.std.specs.Fmt.{decimal}
use Rattle.std.proofs.lemmas.Fmt.{decimal_digit, decimal_step, decimal_by_steps, first_decimal, decimal_nonempty}
use Rattle.std.proofs.lemmas.Bool.Decides.{nat_tests}
use Rattle.std.proofs.lemmas.Bool.{cases_lt}
use Rattle.qo_text.specs.Numbers.{with_digit, with_digits, whole}
use Rattle.qo_text.specs.Spellings.{NumbersAreSpelled}

-- a value under a test
pub guard_some : {A : Type 0} (b : Bool) (x y : A) → cond b (Some x) None ≡ Some y → (b ≡ true) × (x ≡ y)
guard_some true x y e = (refl, cc)
guard_some false x y e = cc

-- a step that gave a value
pub then_some : {A B : Type 0} (o : Option A) (f : A → Option B) (y : B) → option_and_then f o ≡ Some y → (x : A) × (o ≡ Some x) × (f x ≡ Some y)
then_some None f y e = cc
then_some (Some x) f y e = (x, refl, e)

-- a digit was taken
record IsTaken (n byte more : ℕ) : Type 0 where
  low : 48 ≤ byte
  high : byte ≤ 57
  sum : more ≡ n * 10 + (byte - 48)
  fits : more < 2 ^ 64

digit_taken : (n byte more : ℕ) → with_digit n byte ≡ Some more → IsTaken n byte more
digit_taken n byte more e =
    let g = guard_some (nat_le 48 byte && nat_le byte 57 && nat_lt (n * 10 + (byte - 48)) (2 ^ 64)) (n * 10 + (byte - 48)) more e in
    record { low = grind (arith, nat_tests); high = grind (arith, nat_tests); sum = sym g.1; fits = grind (arith, nat_tests) }

-- a digit is taken
digit_takes : (n byte more : ℕ) → IsTaken n byte more → with_digit n byte ≡ Some more
digit_takes n byte more t = grind (arith, nat_tests, t.low, t.high, t.sum, t.fits)

-- the digits read are a front of the number's
digits_taken : (ds : List ℕ) (m n : ℕ) → 0 < m → m < 2 ^ 64 → with_digits m ds ≡ Some n → (n < 2 ^ 64) × (decimal m ++ ds ≡ decimal n)
digits_taken [] m n some few e = let same : m ≡ n = cc in (omega arith, append-nil (decimal m) ∙ ap decimal same)
digits_taken (byte ∷ ds) m n some few e =
    let step = then_some (with_digit m byte) (λ more. with_digits more ds) n e in
    let more : ℕ = step.0 in
    let t = digit_taken m byte more step.1 in
    let next = decimal_step more (omega (arith, t.sum)) (omega (arith, t.fits)) in
    let front : more / 10 ≡ m = omega (arith, t.sum, t.low, t.high) in
    let last : 48 + more % 10 ≡ byte = omega (arith, t.sum, t.low, t.high) in
    let rest = digits_taken ds more n (omega (arith, t.sum)) t.fits step.2 in (
      rest.0,
      ap (λ (xs : List ℕ). xs) (sym (append_assoc (decimal m) (byte ∷ []) ds)) ∙ ap (λ (xs : List ℕ). xs ++ ds) (sym (rw (front, last) at next)) ∙ rest.1,
    )

-- a value under a test that must fail
pub guard_none : {A : Type 0} (b : Bool) (o : Option A) (y : A) → cond b None o ≡ Some y → (b ≡ false) × (o ≡ Some y)
guard_none true o y e = cc
guard_none false o y e = (refl, e)

-- a word that is a number is its digits
pub number_taken : (word : List ℕ) (n : ℕ) → whole word ≡ Some n → (n < 2 ^ 64) × (word ≡ decimal n)
number_taken [] n e = cc
number_taken (byte ∷ []) n e =
    let t = digit_taken 0 byte n e in
    let shown = decimal_digit n (omega (arith, t.sum, t.high)) in
    let same : 48 + n ≡ byte = omega (arith, t.sum, t.low) in
    (t.fits, sym (rw same at shown))
number_taken (byte ∷ next ∷ rest) n e =
    let g = guard_none (byte == 48) (with_digits 0 (byte ∷ next ∷ rest)) n e in
    let step = then_some (with_digit 0 byte) (λ more. with_digits more (next ∷ rest)) n g.1 in
    let more : ℕ = step.0 in
    let t = digit_taken 0 byte more step.1 in
    let some : 0 < more = grind (arith, nat_tests, g.0, t.sum, t.low) in
    let shown = decimal_digit more (omega (arith, t.sum, t.high)) in
    let same : 48 + more ≡ byte = omega (arith, t.sum, t.low) in
    let all = digits_taken (next ∷ rest) more n some t.fits step.2 in
    (all.0, rw (shown, same) at all.1)

-- digits read one part after the other
with_digits-append : (xs ys : List ℕ) (m : ℕ) → with_digits m (xs ++ ys) ≡ option_and_then (λ k. with_digits k ys) (with_digits m xs)
with_digits-append [] ys m = refl
with_digits-append (x ∷ xs) ys m = go (λ k. with_digits-append xs ys k) (with_digit m x)
  where
    go : ((k : ℕ) → with_digits k (xs ++ ys) ≡ option_and_then (λ j. with_digits j ys) (with_digits k xs)) → (o : Option ℕ)
        → option_and_then (λ more. with_digits more (xs ++ ys)) o ≡ option_and_then (λ k. with_digits k ys) (option_and_then (λ more. with_digits more xs) o)
    go rest None = refl
    go rest (Some k) = rest k

-- the digits of a number give it
digits_give : (n : ℕ) → n < 2 ^ 64 → with_digits 0 (decimal n) ≡ Some n
digits_give n few = decimal_by_steps (λ k ds. k < 2 ^ 64 → with_digits 0 ds ≡ Some k) one more n (omega arith) few
  where
    one : (k : ℕ) → k < 10 → k < 2 ^ 64 → with_digits 0 ((48 + k) ∷ []) ≡ Some k
    one k small below = rw (digit_takes 0 (48 + k) k (record { low = omega arith; high = omega arith; sum = omega arith; fits = below })) refl

    more : (k : ℕ) (ds : List ℕ) → 10 ≤ k → (k / 10 < 2 ^ 64 → with_digits 0 ds ≡ Some (k / 10)) → k < 2 ^ 64 → with_digits 0 (ds ++ ((48 + k % 10) ∷ [])) ≡ Some k
    more k ds large front below =
        let first = front (omega arith) in
        let last = digit_takes (k / 10) (48 + k % 10) k (record { low = omega arith; high = omega arith; sum = omega arith; fits = below }) in
        rw (with_digits-append, first, last) refl

-- digits without leading zeros are a word that is a number
number_by_digits : (ds : List ℕ) (n : ℕ) → with_digits 0 ds ≡ Some n → 0 < length ds → (1 < length ds → get_or ds 0 0 ≢ 48) → whole ds ≡ Some n
number_by_digits [] n e some lead = absurd (omega arith)
number_by_digits (byte ∷ []) n e some lead = let g = then_some (with_digit 0 byte) (λ more. Some more) n e in g.1 ∙ g.2
number_by_digits (byte ∷ next ∷ rest) n e some lead =
    let other : byte ≢ 48 = lead (omega arith) in
    let differs : (byte == 48) ≡ false = grind (arith, nat_tests) in
    rw differs e

-- the digits of a number are a word that is it
pub number_given : (n : ℕ) → n < 2 ^ 64 → whole (decimal n) ≡ Some n
number_given n few = ⊎_elim positive (λ none. zero_given n (omega arith)) (cases_lt 0 n)
  where
    zero_given : (k : ℕ) → k ≡ 0 → whole (decimal k) ≡ Some k
    zero_given k none = rw (decimal_digit k (omega arith), none) refl

    positive : 0 < n → whole (decimal n) ≡ Some n
    positive some =
        let first = first_decimal n some (omega arith) in
        number_by_digits (decimal n) n (digits_give n few) (decimal_nonempty n (omega arith)) (λ _. (let ne : get_or (decimal n) 0 0 ≢ 48 = omega arith in ne))

pub numbers_are_spelled : NumbersAreSpelled
numbers_are_spelled word n = (number_taken word n, λ h. rw h.1 (number_given n h.0))
