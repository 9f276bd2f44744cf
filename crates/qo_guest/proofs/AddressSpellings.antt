-- Addresses from their texts, and back.
use Rattle.std.proofs.Common.{◌≡◌, ◌==◌, ℕ, suc, zero, ◌<◌, ◌≤◌, Bool, true, false, cond, nat_le, List, [], ◌∷◌, ◌++◌, length, get_or, map, Some, refl, sym, ap, subst, ◌∙◌, arith}
use Rattle.std.specs.Prelude.{option_and_then, All, slice_index_or}
use Rattle.std.specs.Fmt.{decimal}
use Rattle.std.specs.List.{AllByRecursion, join_with_byte}
use Rattle.std.proofs.lemmas.Fmt.{decimal_is_IsNumeral, decimal_nonempty}
use Rattle.std.proofs.lemmas.List.{get_or_append_left, get_or_default, length-map, length-append}
use Rattle.std.proofs.lemmas.List.Splits.{slice_split_none, slice_split_at, join_with_byte-slice_split}
use Rattle.std.proofs.lemmas.Str.Parse.{digit_at}
use Rattle.std.proofs.lemmas.Bool.{ne_eqb, eqb-true, leb-true}
use Rattle.std.proofs.lemmas.Bool.Decides.{nat_tests}
use Rattle.qo_guest.specs.declared.addresses.Addr.{Addr}
use Rattle.qo_guest.specs.declared.addresses.Addr.TheVariants.{Slots, Mem}
use Rattle.qo_guest.specs.Addresses.{pieces, number_of, numbers_of, not_too_deep, steps_of, address_of}
use Rattle.qo_guest.specs.Answers.{steps_text, address_text}
use Rattle.qo_guest.specs.Spellings.{IsSteps, IsAddress, AddressesAreSpelled}
use Rattle.qo_guest.proofs.Numbers.{guard_some, then_some, number_taken, number_given}
use Rattle.qo_guest.proofs.Splits.{pieces_some}

-- what holds of each element, both ways
each_of : {X : Type 0} (P : X → Type 0) (xs : List X) → AllByRecursion P xs → All P xs
each_of P [] all = λ k d within. absurd (omega arith)
each_of {X = X} P (x ∷ xs) all = go (each_of P xs all.1)
  where
    go : All P xs → (k : ℕ) (d : X) → k < length (x ∷ xs) → P (slice_index_or (x ∷ xs) k d)
    go rest zero d within = all.0
    go rest (suc k) d within = rest k d (omega arith)

of_each : {X : Type 0} (P : X → Type 0) (xs : List X) → All P xs → AllByRecursion P xs
of_each P [] all = tt
of_each P (x ∷ xs) all = (all 0 x (omega arith), of_each P xs (λ k d within. all (suc k) d (omega arith)))

-- a byte is not the separator
abbrev pub IsOther : ℕ → ℕ → Type 0
IsOther separator byte = (byte == separator) ≡ false

-- no byte of a word is the separator
abbrev pub IsFree : ℕ → List ℕ → Type 0
IsFree separator bytes = AllByRecursion (IsOther separator) bytes

-- nor in two words, one after the other
pub IsFree-append : (separator : ℕ) (xs ys : List ℕ) → IsFree separator xs → IsFree separator ys → IsFree separator (xs ++ ys)
IsFree-append separator [] ys front back = back
IsFree-append separator (x ∷ xs) ys front back = (front.0, IsFree-append separator xs ys front.1 back)

-- words without separators, joined, are cut into the words
pub pieces-join : (separator : ℕ) (first : List ℕ) (others : List (List ℕ)) → AllByRecursion (IsFree separator) (first ∷ others)
    → pieces separator (join_with_byte separator (first ∷ others)) ≡ first ∷ others
pieces-join separator first [] free = slice_split_none (λ byte. byte == separator) first (each_of (IsOther separator) first free.0)
pieces-join separator first (next ∷ others) free =
    let here : (separator == separator) ≡ true = grind (arith, nat_tests) in
    slice_split_at (λ byte. byte == separator) first separator (join_with_byte separator (next ∷ others)) (each_of (IsOther separator) first free.0) here
    ∙ ap (λ (words : List (List ℕ)). first ∷ words) (pieces-join separator next others free.1)

-- a number's bytes are digits
pub decimal_bytes : (n i : ℕ) → n ≤ 255 → i < length (decimal n) → (48 ≤ get_or (decimal n) i 0) × (get_or (decimal n) i 0 ≤ 57)
decimal_bytes n i few within =
    let numeral = decimal_is_IsNumeral n (omega arith) in
    digit_at (decimal n) i numeral.0.1 within

-- and so no separator
pub decimal-IsFree : (separator n : ℕ) → separator < 48 → n ≤ 255 → IsFree separator (decimal n)
decimal-IsFree separator n low few = of_each (IsOther separator) (decimal n) go
  where
    go : All (IsOther separator) (decimal n)
    go k d within =
        let here = decimal_bytes n k few within in
        let same = get_or_default (decimal n) k d 0 within in
        ne_eqb (get_or (decimal n) k d) separator (λ e. absurd (omega (arith, here, same, e)))

-- words that are numbers are the numbers' digits
numbers_taken : (words : List (List ℕ)) (ns : List ℕ) → numbers_of words ≡ Some ns → AllByRecursion (λ n. n ≤ 255) ns × (words ≡ map decimal ns)
numbers_taken [] ns e = subst (λ (xs : List ℕ). AllByRecursion (λ n. n ≤ 255) xs × ([] ≡ map decimal xs)) (let same : [] ≡ ns = cc in same) (tt, refl)
numbers_taken (word ∷ words) ns e =
    let first = then_some (number_of word) (λ n. option_and_then (λ more. Some (n ∷ more)) (numbers_of words)) ns e in
    let rest = then_some (numbers_of words) (λ more. Some (first.0 ∷ more)) ns first.2 in
    let here = number_taken word first.0 first.1 in
    let after = numbers_taken words rest.0 rest.1 in
    let all : first.0 ∷ rest.0 ≡ ns = let whole = rest.2 in cc in
    subst (λ (xs : List ℕ). AllByRecursion (λ n. n ≤ 255) xs × (word ∷ words ≡ map decimal xs)) all
    ((here.0, after.0), (let a = here.1 in let b = after.1 in cc))

-- the digits of numbers are words that are the numbers
numbers_given : (ns : List ℕ) → AllByRecursion (λ n. n ≤ 255) ns → numbers_of (map decimal ns) ≡ Some ns
numbers_given [] all = refl
numbers_given (n ∷ ns) all = let here = number_given n all.0 in let rest = numbers_given ns all.1 in rw (here, rest) refl

-- a word that is slots is their text
steps_taken : (word steps : List ℕ) → steps_of word ≡ Some steps → IsSteps steps × (word ≡ steps_text steps)
steps_taken word steps e =
    let read = then_some (numbers_of (pieces 46 word)) not_too_deep steps e in
    let few = guard_some (nat_le (length read.0) 9) read.0 steps read.2 in
    let numbers = numbers_taken (pieces 46 word) read.0 read.1 in
    let first = pieces_some 46 word in
    let counted : length (pieces 46 word) ≡ length read.0 = ap length numbers.1 ∙ length-map read.0 decimal in
    let long : length (pieces 46 word) ≡ suc (length first.1) = ap length first.2 in
    let within = leb-true (length read.0) 9 few.0 in
    let whole : word ≡ steps_text read.0 = sym (join_with_byte-slice_split 46 word) ∙ ap (join_with_byte 46) numbers.1 in
    subst (λ (xs : List ℕ). IsSteps xs × (word ≡ steps_text xs)) few.1
    (record { some = omega arith; few = within; slots = each_of (λ slot. slot ≤ 255) read.0 numbers.0 }, whole)

-- no dot in the words of slots
all_free : (ns : List ℕ) → AllByRecursion (λ n. n ≤ 255) ns → AllByRecursion (IsFree 46) (map decimal ns)
all_free [] all = tt
all_free (n ∷ ns) all = (decimal-IsFree 46 n (omega arith) all.0, all_free ns all.1)

-- the text of slots is a word that is them
steps_given : (steps : List ℕ) → IsSteps steps → steps_of (steps_text steps) ≡ Some steps
steps_given [] is = let some = is.some in absurd (omega arith)
steps_given (n ∷ ns) is =
    let each = of_each (λ slot. slot ≤ 255) (n ∷ ns) is.slots in
    let cut = pieces-join 46 (decimal n) (map decimal ns) (all_free (n ∷ ns) each) in
    let numbers = numbers_given (n ∷ ns) each in
    let few = is.few in
    rw (cut, numbers) (grind (arith, nat_tests))

-- the text of slots begins with a digit
record BeginsWithDigit (text : List ℕ) : Type 0 where
  some : 0 < length text
  digit : get_or text 0 0 ≤ 57

steps_first : (steps : List ℕ) → IsSteps steps → BeginsWithDigit (steps_text steps)
steps_first [] is = let none = is.some in absurd (omega arith)
steps_first (n ∷ []) is =
    let few = is.slots 0 0 (omega arith) in
    let some = decimal_nonempty n (omega arith) in
    record { some = some; digit = (decimal_bytes n 0 few some).1 }
steps_first (n ∷ next ∷ ns) is =
    let few = is.slots 0 0 (omega arith) in
    let some = decimal_nonempty n (omega arith) in
    let rest : List ℕ = 46 ∷ steps_text (next ∷ ns) in
    let front = get_or_append_left (decimal n) rest 0 0 some in
    record { some = omega (arith, length-append (decimal n) rest, some); digit = omega (arith, front, (decimal_bytes n 0 few some).1) }

-- an address under a test of its first byte
pub address_taken : (word : List ℕ) (at : Addr) → address_of word ≡ Some at → IsAddress at × (word ≡ address_text at)
address_taken [] at e = cc
address_taken (byte ∷ bytes) at e = go (byte == 109) refl e
  where
    go : (b : Bool) → (byte == 109) ≡ b → cond b (option_and_then (λ n. Some (Mem n)) (number_of bytes))
        (option_and_then (λ steps. Some (Slots steps)) (steps_of (byte ∷ bytes))) ≡ Some at → IsAddress at × (byte ∷ bytes ≡ address_text at)
    go true m e =
        let read = then_some (number_of bytes) (λ n. Some (Mem n)) at e in
        let number = number_taken bytes read.0 read.1 in
        let letter : byte ≡ 109 = eqb-true byte 109 m in
        let same : Mem read.0 ≡ at = let whole = read.2 in cc in
        subst (λ (a : Addr). IsAddress a × (byte ∷ bytes ≡ address_text a)) same (number.0, (let digits = number.1 in cc))
    go false m e =
        let read = then_some (steps_of (byte ∷ bytes)) (λ steps. Some (Slots steps)) at e in
        let same : Slots read.0 ≡ at = let whole = read.2 in cc in
        subst (λ (a : Addr). IsAddress a × (byte ∷ bytes ≡ address_text a)) same (steps_taken (byte ∷ bytes) read.0 read.1)

-- slots are read where the word does not begin with `m`
slots_given : (word steps : List ℕ) → BeginsWithDigit word → steps_of word ≡ Some steps → address_of word ≡ Some (Slots steps)
slots_given [] steps first e = let none = first.some in absurd (omega arith)
slots_given (byte ∷ bytes) steps first e =
    let digit : byte ≤ 57 = first.digit in
    let other : (byte == 109) ≡ false = grind (arith, nat_tests) in
    rw (other, e) refl

pub address_given : (at : Addr) → IsAddress at → address_of (address_text at) ≡ Some at
address_given (Slots steps) is = slots_given (steps_text steps) steps (steps_first steps is) (steps_given steps is)
address_given (Mem n) few = rw (number_given n few) refl

-- no space in the text of an address
steps-IsFree : (steps : List ℕ) → AllByRecursion (λ slot. slot ≤ 255) steps → IsFree 32 (steps_text steps)
steps-IsFree [] all = tt
steps-IsFree (n ∷ []) all = decimal-IsFree 32 n (omega arith) all.0
steps-IsFree (n ∷ next ∷ ns) all =
    IsFree-append 32 (decimal n) (46 ∷ steps_text (next ∷ ns)) (decimal-IsFree 32 n (omega arith) all.0) (refl, steps-IsFree (next ∷ ns) all.1)

pub address-IsFree : (at : Addr) → IsAddress at → IsFree 32 (address_text at)
address-IsFree (Slots steps) is = steps-IsFree steps (of_each (λ slot. slot ≤ 255) steps is.slots)
address-IsFree (Mem n) few = (refl, decimal-IsFree 32 n (omega arith) few)

pub addresses_are_spelled : AddressesAreSpelled
addresses_are_spelled word at = (address_taken word at, λ h. rw h.1 (address_given at h.0))
