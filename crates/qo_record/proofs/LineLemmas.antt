-- The transcript's line of a message, put in two parts.
use Rattle.std.proofs.Common.{◌≡◌, ℕ, ◌+◌, ◌/◌, ◌%◌, ◌<◌, ◌≤◌, List, [], ◌∷◌, ◌++◌, length, take, sym, ◌∙◌, ap, subst, arith, length-append, append_assoc}
use Rattle.std.proofs.Common.{decimal, Option, Result}
use Rattle.std.proofs.Math.Seq.{take-append-add}
use Rattle.std.proofs.lemmas.Fmt.{decimal_digit, decimal_step}
use Rattle.std.proofs.lemmas.List.{take-append-le}
use Rattle.std.specs.Io.KnownBytes.{append_known}
use Rattle.qo_causes.proofs.BytesLemmas.{append_known_twice}
use Rattle.qo_causes.specs.Bytes.{AppendsPrefix, PutsAll}
use Rattle.qo_causes.specs.Hub.{lane_text, line}
use Rattle.qo_causes.specs.Names.{Names}
use Rattle.qo_causes.specs.declared.hubs.Lane.{Lane}

-- the digits of a session's number
pub one_digit : (n : ℕ) → n < 10 → decimal n ≡ (48 + n % 10) ∷ []
one_digit n below = decimal_digit n below ∙ ap (λ (k : ℕ). (48 + k) ∷ []) (omega arith)

two_digits : (n : ℕ) → 10 ≤ n → n < 100 → decimal n ≡ (48 + n / 10) ∷ (48 + n % 10) ∷ []
two_digits n least below =
    decimal_step n least (omega arith) ∙ ap (λ (l : List ℕ). l ++ (48 + n % 10) ∷ []) (decimal_digit (n / 10) (omega arith))

pub tens_digits : (n : ℕ) → 10 ≤ n → n < 100 → decimal n ≡ (48 + (n / 10) % 10) ∷ (48 + n % 10) ∷ []
tens_digits n least below = two_digits n least below ∙ ap (λ (k : ℕ). (48 + k) ∷ (48 + n % 10) ∷ []) (omega arith)

pub hundreds_digits : (n : ℕ) → 100 ≤ n → n < 256 → decimal n ≡ (48 + n / 100) ∷ (48 + (n / 10) % 10) ∷ (48 + n % 10) ∷ []
hundreds_digits n least below =
    decimal_step n (omega arith) (omega arith) ∙ ap (λ (l : List ℕ). l ++ (48 + n % 10) ∷ []) (two_digits (n / 10) (omega arith) (omega arith))
    ∙ ap (λ (k : ℕ). (48 + k) ∷ (48 + (n / 10) % 10) ∷ (48 + n % 10) ∷ []) (omega arith)

-- what was put, by another name
pub puts_same : {T E : Type 0} (old new : Option (List ℕ)) (r : Result T E) (xs ys : List ℕ) → xs ≡ ys → PutsAll old new r (ys ++ 32 ∷ []) →
    PutsAll old new r (xs ++ 32 ∷ [])
puts_same old new r xs ys same h = rw same h

-- of two parts, a front of the first is a front of both
pub first_cut : (old new : Option (List ℕ)) (first second : List ℕ) → AppendsPrefix old new first → AppendsPrefix old new (first ++ second)
first_cut old new first second p = (
  p.0,
  omega (arith, p.1, length-append first second),
  p.2 ∙ ap (append_known old) (sym (take-append-le p.0 first second p.1)),
)

-- and so is the first with a front of the second
pub second_cut : (old mid new : Option (List ℕ)) (first second : List ℕ) → mid ≡ append_known old first → AppendsPrefix mid new second →
    AppendsPrefix old new (first ++ second)
second_cut old mid new first second is p = (
  length first + p.0,
  omega (arith, p.1, length-append first second),
  p.2 ∙ ap (λ (m : Option (List ℕ)). append_known m (take p.0 second)) is ∙ append_known_twice old first (take p.0 second)
      ∙ ap (append_known old) (sym (take-append-add first second p.0)),
)

-- a line is its lane, a space and its bytes
line_is : (names : Names) (lane : Lane) (bytes : List ℕ) → (lane_text names lane ++ 32 ∷ []) ++ bytes ≡ line names lane bytes
line_is names lane bytes = append_assoc (lane_text names lane) (32 ∷ []) bytes

-- where the first part failed, a front of it is there
pub line_cut : (old new : Option (List ℕ)) (names : Names) (lane : Lane) (bytes : List ℕ) → AppendsPrefix old new (lane_text names lane ++ 32 ∷ []) →
    AppendsPrefix old new (line names lane bytes)
line_cut old new names lane bytes p =
    subst (AppendsPrefix old new) (line_is names lane bytes) (first_cut old new (lane_text names lane ++ 32 ∷ []) bytes p)

-- where the second failed, the first and a front of it are
pub bytes_cut : (old mid new : Option (List ℕ)) (names : Names) (lane : Lane) (bytes : List ℕ) →
    mid ≡ append_known old (lane_text names lane ++ 32 ∷ []) → AppendsPrefix mid new bytes → AppendsPrefix old new (line names lane bytes)
bytes_cut old mid new names lane bytes is p =
    subst (AppendsPrefix old new) (line_is names lane bytes) (second_cut old mid new (lane_text names lane ++ 32 ∷ []) bytes is p)
