-- Each reader of a part takes what is spelled so, and reads it again whatever follows.
use Rattle.std.proofs.Common.{◌≡◌, ℕ, zero, suc, ◌+◌, ◌-◌, ◌*◌, ◌/◌, ◌%◌, ◌^◌, ◌<◌, ◌≤◌, ◌==◌, ◌&&◌, nat_le, nat_lt, ◌⊎◌, inl, inr, Bool, true, false}
use Rattle.std.proofs.Common.{if◌then◌else◌, List, [], ◌∷◌, ◌++◌, length, take, drop, refl, sym, ◌∙◌, ap, subst, arith, append_assoc, Option, None}
use Rattle.std.proofs.Common.{Some, decimal}
use Rattle.std.proofs.Math.Nat.{div-div-eq-div-mul, div-le_self, pow-suc}
use Rattle.std.proofs.Math.Seq.{take-append_seam, drop-append_seam}
use Rattle.std.proofs.lemmas.Bool.Decides.{nat_tests}
use Rattle.std.proofs.lemmas.Fmt.{decimal_by_steps, decimal_digit, decimal_step}
use Rattle.std.proofs.lemmas.List.{take-append-drop}
use Rattle.std.proofs.lemmas.Slice.Eq.{bytes_eq-Decides}
use Rattle.std.specs.Str.{bytes_eq}
use Rattle.std.specs.List.{list_all, list_any, position, position_or_len}
use Rattle.std.proofs.lemmas.Bool.{and_parts, or_parts}
use Rattle.qo_record.specs.Names.{begins_with_letter, is_name, is_name_byte}
use Rattle.qo_record.specs.Reading.{◌>>=◌, after_front, digits_of, digits_until, with_digit, number_until, word_until}
use Rattle.qo_record.specs.Record.{name_until}
use Rattle.qo_record.specs.Spelling.{last_digits}

-- Where something was read in the end, each part was read.

pub bind_some : {A B : Type 0} (r : Option A) (f : A → Option B) (y : B) → (r >>= f) ≡ Some y → (x : A) × (r ≡ Some x) × (f x ≡ Some y)
bind_some None f y h = cc
bind_some (Some x) f y h = (x, refl, h)

pub if_some : {A : Type 0} (b : Bool) (p q : Option A) (y : A) → (if b then p else q) ≡ Some y → ((b ≡ true) × (p ≡ Some y)) ⊎ ((b ≡ false) × (q ≡ Some y))
if_some true p q y h = inl (refl, h)
if_some false p q y h = inr (refl, h)

pub some_is : {A : Type 0} {x y : A} → Some x ≡ Some y → x ≡ y
some_is h = cc

pub none_some : {A : Type 0} {y : A} → None ≡ Some y → ⊥
none_some h = cc

-- under a test with nothing on its one side
pub when_true : {A : Type 0} (b : Bool) (p : Option A) (y : A) → (if b then p else None) ≡ Some y → (b ≡ true) × (p ≡ Some y)
when_true true p y h = (refl, h)
when_true false p y h = cc

pub when_false : {A : Type 0} (b : Bool) (p : Option A) (y : A) → (if b then None else p) ≡ Some y → (b ≡ false) × (p ≡ Some y)
when_false true p y h = cc
when_false false p y h = (refl, h)

-- A front.

pub after_is : (front bytes rest : List ℕ) → after_front front bytes ≡ Some rest → bytes ≡ front ++ rest
after_is front bytes rest h =
    let p = when_true (bytes_eq (take (length front) bytes) front) (Some (drop (length front) bytes)) rest h in
    let same : take (length front) bytes ≡ front = (bytes_eq-Decides (take (length front) bytes) front).0 p.0 in
    let left : drop (length front) bytes ≡ rest = some_is p.1 in
    sym (take-append-drop (length front) bytes) ∙ ap (λ (l : List ℕ). l ++ drop (length front) bytes) same ∙ ap (λ (l : List ℕ). front ++ l) left

pub after_again : (front rest : List ℕ) → after_front front (front ++ rest) ≡ Some rest
after_again front rest =
    let same : bytes_eq front front ≡ true = (bytes_eq-Decides front front).1 refl in
    rw (take-append_seam front rest, drop-append_seam front rest, same) refl

-- A word, and a name.

pub until_taken : (stop : ℕ) (bytes : List ℕ) (w : List ℕ × List ℕ) → word_until stop bytes ≡ Some w → bytes ≡ w.0 ++ stop ∷ w.1
until_taken stop [] w h = absurd (none_some h)
until_taken stop (b ∷ bytes) w h =
    elim (if_some (b == stop) (Some ([], bytes)) (word_until stop bytes >>= λ word. Some (b ∷ word.0, word.1)) w h) [
      | inl p ↦ (
          let is : b ≡ stop = grind (arith, nat_tests) in
          subst (λ (y : List ℕ × List ℕ). b ∷ bytes ≡ y.0 ++ stop ∷ y.1) (some_is p.1) (ap (λ (k : ℕ). k ∷ bytes) is)
          )
      | inr p ↦ (
          let s = bind_some (word_until stop bytes) (λ (word : List ℕ × List ℕ). Some (b ∷ word.0, word.1)) w p.1 in
          subst (λ (y : List ℕ × List ℕ). b ∷ bytes ≡ y.0 ++ stop ∷ y.1) (some_is s.2) (ap (λ (l : List ℕ). b ∷ l) (until_taken stop bytes s.0 s.1))
          )
    ]

pub until_again : (stop : ℕ) (word rest : List ℕ) → list_any (λ (b : ℕ). b == stop) word ≡ false → word_until stop (word ++ stop ∷ rest) ≡ Some (word, rest)
until_again stop [] rest free = let same : (stop == stop) ≡ true = grind (arith, nat_tests) in rw same refl
until_again stop (b ∷ word) rest free =
    let p = or_parts (b == stop) (list_any (λ (x : ℕ). x == stop) word) free in
    rw (p.0, until_again stop word rest p.1) refl

-- the place of the byte that ends a word
record EndsAt (stop : ℕ) (bytes : List ℕ) (n : ℕ) : Type 0 where
  place : position_or_len (λ (b : ℕ). b == stop) bytes ≡ n
  within : n < length bytes
  read : word_until stop bytes ≡ Some (take n bytes, drop (suc n) bytes)

record EndsNowhere (stop : ℕ) (bytes : List ℕ) : Type 0 where
  place : position_or_len (λ (b : ℕ). b == stop) bytes ≡ length bytes
  read : word_until stop bytes ≡ None

until_place : (stop : ℕ) (bytes : List ℕ) → EndsNowhere stop bytes ⊎ ((n : ℕ) × EndsAt stop bytes n)
until_place stop [] = inl (record { place = refl; read = refl })
until_place stop (b ∷ bytes) = go (b == stop) refl (until_place stop bytes)
  where
    go : (t : Bool) → (b == stop) ≡ t → EndsNowhere stop bytes ⊎ ((n : ℕ) × EndsAt stop bytes n)
        → EndsNowhere stop (b ∷ bytes) ⊎ ((n : ℕ) × EndsAt stop (b ∷ bytes) n)
    go true here more = inr (0, record { place = rw here refl; within = omega arith; read = rw here refl })
    go false other (inl p) = inl (record { place = rw other (omega (arith, p.place)); read = rw (other, p.read) refl })
    go false other (inr p) =
        inr (suc p.0, record { place = rw other (omega (arith, p.1.place)); within = omega (arith, p.1.within); read = rw (other, p.1.read) refl })

abbrev parted : List ℕ → ℕ → ℕ → Option (List ℕ × List ℕ)
parted bytes a b = Some (take a bytes, drop b bytes)

split_at : (bytes : List ℕ) (a b c d : ℕ) → a ≡ b → c ≡ d → parted bytes a c ≡ parted bytes b d
split_at bytes a b c d p q = ap (λ (k : ℕ). parted bytes k c) p ∙ ap (parted bytes b) q

pub place_found : (stop : ℕ) (bytes : List ℕ) (at : ℕ) → position (λ (b : ℕ). b == stop) bytes ≡ Some at →
    (at < length bytes) × (word_until stop bytes ≡ Some (take at bytes, drop (at + 1) bytes))
place_found stop bytes at h = go (until_place stop bytes)
  where
    go : EndsNowhere stop bytes ⊎ ((n : ℕ) × EndsAt stop bytes n) → (at < length bytes) × (word_until stop bytes ≡ Some (take at bytes, drop (at + 1) bytes))
    go (inl q) =
        let test : nat_lt (position_or_len (λ (b : ℕ). b == stop) bytes) (length bytes) ≡ false = grind (arith, nat_tests, q.place) in
        absurd (none_some (rw test at h))
    go (inr q) =
        let test : nat_lt (position_or_len (λ (b : ℕ). b == stop) bytes) (length bytes) ≡ true = grind (arith, nat_tests, q.1.place, q.1.within) in
        let is : position_or_len (λ (b : ℕ). b == stop) bytes ≡ at = some_is (rw test at h) in
        let n : q.0 ≡ at = sym q.1.place ∙ is in
        let next : suc q.0 ≡ at + 1 = omega (arith, n) in
        (omega (arith, n, q.1.within), q.1.read ∙ split_at bytes q.0 at (suc q.0) (at + 1) n next)

pub no_place : (stop : ℕ) (bytes : List ℕ) → position (λ (b : ℕ). b == stop) bytes ≡ None → word_until stop bytes ≡ None
no_place stop bytes h = go (until_place stop bytes)
  where
    go : EndsNowhere stop bytes ⊎ ((n : ℕ) × EndsAt stop bytes n) → word_until stop bytes ≡ None
    go (inl q) = q.read
    go (inr q) =
        let test : nat_lt (position_or_len (λ (b : ℕ). b == stop) bytes) (length bytes) ≡ true = grind (arith, nat_tests, q.1.place, q.1.within) in
        absurd (none_some (sym (rw test at h)))

pub record IsName (name : List ℕ) : Type 0 where
  pub few : length name ≤ 32
  pub all : list_all is_name_byte name ≡ true

pub name_is : (name : List ℕ) → is_name name ≡ true → IsName name
unfolding is_name
name_is name h =
    let p = and_parts _ (list_all is_name_byte name) h in
    let q = and_parts _ _ p.0 in
    let r = and_parts (begins_with_letter name) (nat_le (length name) 32) q.0 in
    record { few = grind (arith, nat_tests, r.1); all = p.1 }

-- the bytes of a name are none that ends a word
byte_free : (b stop : ℕ) → stop < 45 → is_name_byte b ≡ true → (b == stop) ≡ false
byte_free b stop low h = grind (arith, nat_tests)

name_free : (stop : ℕ) (name : List ℕ) → stop < 45 → list_all is_name_byte name ≡ true → list_any (λ (b : ℕ). b == stop) name ≡ false
name_free stop [] low h = refl
name_free stop (b ∷ name) low h =
    let p = and_parts (is_name_byte b) (list_all is_name_byte name) h in
    rw (byte_free b stop low p.0, name_free stop name low p.1) refl

pub name_has_none : (stop : ℕ) (name : List ℕ) → stop < 45 → is_name name ≡ true → list_any (λ (b : ℕ). b == stop) name ≡ false
name_has_none stop name low h = name_free stop name low (name_is name h).all

pub name_taken : (stop : ℕ) (bytes : List ℕ) (n : List ℕ × List ℕ) → name_until stop bytes ≡ Some n → (is_name n.0 ≡ true) × (bytes ≡ n.0 ++ stop ∷ n.1)
name_taken stop bytes n h =
    let s = bind_some (word_until stop bytes) (λ (name : List ℕ × List ℕ). if is_name name.0 then Some name else None) n h in
    let g = when_true (is_name s.0.0) (Some s.0) n s.2 in
    subst (λ (y : List ℕ × List ℕ). (is_name y.0 ≡ true) × (bytes ≡ y.0 ++ stop ∷ y.1)) (some_is g.1) (g.0, until_taken stop bytes s.0 s.1)

pub name_again : (stop : ℕ) (name rest : List ℕ) → stop < 45 → is_name name ≡ true → name_until stop (name ++ stop ∷ rest) ≡ Some (name, rest)
name_again stop name rest low h = rw (until_again stop name rest (name_has_none stop name low h), h) refl

-- Numbers.

record IsTaken (last n byte more : ℕ) : Type 0 where
  low : 48 ≤ byte
  high : byte ≤ 57
  sum : more ≡ n * 10 + (byte - 48)
  fits : more ≤ last

digit_taken : (last n byte more : ℕ) → with_digit last n byte ≡ Some more → IsTaken last n byte more
digit_taken last n byte more h =
    let g = when_true (nat_le 48 byte && nat_le byte 57 && nat_le (n * 10 + (byte - 48)) last) (Some (n * 10 + (byte - 48))) more h in
    let same : n * 10 + (byte - 48) ≡ more = some_is g.1 in
    record { low = grind (arith, nat_tests); high = grind (arith, nat_tests); sum = sym same; fits = grind (arith, nat_tests) }

digit_takes : (last n byte more : ℕ) → IsTaken last n byte more → with_digit last n byte ≡ Some more
digit_takes last n byte more t = grind (arith, nat_tests, t.low, t.high, t.sum, t.fits)

-- further digits are those after the digits so far
digits_taken : (stop last : ℕ) (bytes : List ℕ) (n : ℕ) (x : ℕ × List ℕ) → last < 2 ^ 64 → 0 < n → n ≤ last → digits_until stop last n bytes ≡ Some x →
    (x.0 ≤ last) × (decimal n ++ bytes ≡ decimal x.0 ++ stop ∷ x.1)
digits_taken stop last [] n x wide some few h = absurd (none_some h)
digits_taken stop last (b ∷ bytes) n x wide some few h =
    elim (if_some (b == stop) (Some (n, bytes)) (with_digit last n b >>= λ next. digits_until stop last next bytes) x h) [
      | inl p ↦ (
          let is : b ≡ stop = grind (arith, nat_tests) in
          let made : (n, bytes) ≡ x = some_is p.1 in
          subst (λ (y : ℕ × List ℕ). (y.0 ≤ last) × (decimal n ++ b ∷ bytes ≡ decimal y.0 ++ stop ∷ y.1)) made (few, ap (λ (k : ℕ). decimal n ++ k ∷ bytes) is)
          )
      | inr p ↦ (
          let s = bind_some (with_digit last n b) (λ (next : ℕ). digits_until stop last next bytes) x p.1 in
          let more : ℕ = s.0 in
          let t = digit_taken last n b more s.1 in
          let front : more / 10 ≡ n = omega (arith, t.sum, t.low, t.high) in
          let digit : 48 + more % 10 ≡ b = omega (arith, t.sum, t.low, t.high) in
          let next = decimal_step more (omega (arith, t.sum)) (omega (arith, t.fits)) in
          let rest = digits_taken stop last bytes more x wide (omega (arith, t.sum)) t.fits s.2 in
          (rest.0, sym (append_assoc (decimal n) (b ∷ []) bytes) ∙ ap (λ (l : List ℕ). l ++ bytes) (sym (rw (front, digit) at next)) ∙ rest.1)
          )
    ]

-- a number that was read is spelled so
pub number_taken : (stop last : ℕ) (bytes : List ℕ) (x : ℕ × List ℕ) → last < 2 ^ 64 → number_until stop last bytes ≡ Some x →
    (x.0 ≤ last) × (bytes ≡ decimal x.0 ++ stop ∷ x.1)
number_taken stop last [] x wide h = absurd (none_some h)
number_taken stop last (b ∷ bytes) x wide h =
    elim (if_some (b == 48) (after_front (stop ∷ []) bytes >>= λ rest. Some (0, rest)) (with_digit last 0 b >>= λ first. digits_until stop last first bytes) x
    h) [
      | inl p ↦ (
          let is : b ≡ 48 = grind (arith, nat_tests) in
          let s = bind_some (after_front (stop ∷ []) bytes) (λ (rest : List ℕ). Some (0, rest)) x p.1 in
          let made : (0, s.0) ≡ x = some_is s.2 in
          let whole : b ∷ bytes ≡ decimal 0 ++ stop ∷ s.0 =
          ap (λ (l : List ℕ). b ∷ l) (after_is (stop ∷ []) bytes s.0 s.1) ∙ ap (λ (k : ℕ). k ∷ stop ∷ s.0) is
          ∙ ap (λ (l : List ℕ). l ++ stop ∷ s.0) (sym (decimal_digit 0 (omega arith))) in
          subst (λ (y : ℕ × List ℕ). (y.0 ≤ last) × (b ∷ bytes ≡ decimal y.0 ++ stop ∷ y.1)) made (omega arith, whole)
          )
      | inr p ↦ (
          let s = bind_some (with_digit last 0 b) (λ (first : ℕ). digits_until stop last first bytes) x p.1 in
          let first : ℕ = s.0 in
          let t = digit_taken last 0 b first s.1 in
          let some : 0 < first = grind (arith, nat_tests, p.0, t.sum, t.low) in
          let shown = decimal_digit first (omega (arith, t.sum, t.high)) in
          let same : 48 + first ≡ b = omega (arith, t.sum, t.low) in
          let rest = digits_taken stop last bytes first x wide some t.fits s.2 in
          (rest.0, rw (shown, same) at rest.1)
          )
    ]

-- the digits of a number are read, whatever follows
digits_again : (stop last : ℕ) → stop < 48 → (n : ℕ) → n < 2 ^ 64 → 0 < n → n ≤ last → (tail : List ℕ) →
    number_until stop last (decimal n ++ tail) ≡ digits_until stop last n tail
digits_again stop last small n wide = decimal_by_steps (λ k ds. 0 < k → k ≤ last → (tail : List ℕ) → number_until stop last
    (ds ++ tail) ≡ digits_until stop last k tail) one more n wide
  where
    one : (k : ℕ) → k < 10 → 0 < k → k ≤ last → (tail : List ℕ) → number_until stop last (((48 + k) ∷ []) ++ tail) ≡ digits_until stop last k tail
    one k below some few tail =
        let other : ((48 + k) == 48) ≡ false = grind (arith, nat_tests) in
        let made = digit_takes last 0 (48 + k) k (record { low = omega arith; high = omega arith; sum = omega arith; fits = few }) in
        rw (other, made) refl

    more : (k : ℕ) (ds : List ℕ) → 10 ≤ k →
        (0 < k / 10 → k / 10 ≤ last → (tail : List ℕ) → number_until stop last (ds ++ tail) ≡ digits_until stop last (k / 10) tail) → 0 < k → k ≤ last →
        (tail : List ℕ) → number_until stop last ((ds ++ ((48 + k % 10) ∷ [])) ++ tail) ≡ digits_until stop last k tail
    more k ds large front some few tail =
        let other : ((48 + k % 10) == stop) ≡ false = grind (arith, nat_tests) in
        let made = digit_takes last (k / 10) (48 + k % 10) k (record { low = omega arith; high = omega arith; sum = omega arith; fits = few }) in
        let read : digits_until stop last (k / 10) ((48 + k % 10) ∷ tail) ≡ digits_until stop last k tail = rw (other, made) refl in
        ap (number_until stop last) (append_assoc ds ((48 + k % 10) ∷ []) tail) ∙ front (omega arith) (omega arith) ((48 + k % 10) ∷ tail) ∙ read

-- a number that is spelled so is read, whatever follows
pub number_again : (stop last n : ℕ) (rest : List ℕ) → stop < 48 → last < 2 ^ 64 → n ≤ last → number_until stop last (decimal n ++ stop ∷ rest) ≡ Some (n, rest)
number_again stop last zero rest small wide few =
    let same : bytes_eq (stop ∷ []) (stop ∷ []) ≡ true = (bytes_eq-Decides (stop ∷ []) (stop ∷ [])).1 refl in
    rw (decimal_digit 0 (omega arith), same) refl
number_again stop last (suc n) rest small wide few =
    let same : (stop == stop) ≡ true = grind (arith, nat_tests) in
    digits_again stop last small (suc n) (omega arith) (omega arith) few (stop ∷ rest) ∙ rw same refl

-- The digits of a number below a million.

-- a tenth of a part is the next part
tenth : (n k : ℕ) → n / 10 ^ suc k ≡ n / 10 ^ k / 10
tenth n k = ap (λ (m : ℕ). n / m) (pow-suc 10 k) ∙ sym (div-div-eq-div-mul n (10 ^ k) 10)

pub digits_are_last : (k : ℕ) (bytes : List ℕ) (n : ℕ) (x : ℕ × List ℕ) → digits_of k n bytes ≡ Some x → (x.0 / 10 ^ k ≡ n) × (bytes ≡ last_digits k x.0 ++ x.1)
digits_are_last zero bytes n x h =
    let made : (n, bytes) ≡ x = some_is h in
    subst (λ (y : ℕ × List ℕ). (y.0 / 1 ≡ n) × (bytes ≡ y.1)) made (omega arith, refl)
digits_are_last (suc k) [] n x h = absurd (none_some h)
digits_are_last (suc k) (b ∷ bytes) n x h =
    let s = bind_some (with_digit 999999 n b) (λ (next : ℕ). digits_of k next bytes) x h in
    let more : ℕ = s.0 in
    let t = digit_taken 999999 n b more s.1 in
    let rest = digits_are_last k bytes more x s.2 in
    let part : ℕ = x.0 / 10 ^ k in
    let is : part ≡ more = rest.0 in
    let digit : b ≡ 48 + part % 10 = omega (arith, t.sum, t.low, t.high, is) in
    let front : part / 10 ≡ n = omega (arith, t.sum, t.low, t.high, is) in
    (tenth x.0 k ∙ front, ap (λ (l : List ℕ). b ∷ l) rest.1 ∙ ap (λ (d : ℕ). d ∷ (last_digits k x.0 ++ x.1)) digit)

pub last_are_digits : (k n : ℕ) (rest : List ℕ) → n ≤ 999999 → digits_of k (n / 10 ^ k) (last_digits k n ++ rest) ≡ Some (n, rest)
last_are_digits zero n rest few = ap (λ (m : ℕ). Some (m, rest)) (omega arith)
last_are_digits (suc k) n rest few =
    let part : ℕ = n / 10 ^ k in
    let smaller : part ≤ n = div-le_self n (10 ^ k) in
    let made : with_digit 999999 (part / 10) (48 + part % 10) ≡ Some part =
    digit_takes 999999 (part / 10) (48 + part % 10) part (record { low = omega arith; high = omega arith; sum = omega arith; fits = omega arith }) in
    rw (tenth n k, made) (last_are_digits k n rest few)
