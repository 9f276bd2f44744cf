-- Lines that spell a command are read as it.
use Rattle.std.proofs.Common.{◌≡◌, ◌==◌, ◌||◌, ◌+◌, ℕ, suc, Bool, true, false, List, [], ◌∷◌, ◌++◌, codes, length, map, take, drop, refl, ap, ◌∙◌, arith}
use Rattle.std.proofs.Common.{Option, Some, None, option_map}
use Rattle.std.specs.Prelude.{option_and_then}
use Rattle.std.specs.List.{AllByRecursion, after_first, before_first, position_or_len}
use Rattle.std.proofs.Math.Seq.{take-append_seam}
use Rattle.std.proofs.lemmas.Bool.{or_parts}
use Rattle.qo_text.specs.declared.lines.Line.TheVariants.{Do}
use Rattle.qo_text.specs.Lines.{adding, addition_in, deletion_in, is_driver, line_of}
use Rattle.qo_text.specs.Options.{holds, option_in, options, parts, put_new}
use Rattle.qo_text.specs.Spellings.{IsSpelled, LinesAreSpelled, StandsBehind, doubled, in_order, joined, option_text}
use Rattle.qo_text.proofs.PartLemmas.{parts_are_spelled}

abbrev Pair : Type 0
Pair = List ℕ × List ℕ

-- where the first `=` stands

first_place : (key value : List ℕ) → holds 61 key ≡ false → position_or_len (λ (c : ℕ). c == 61) (key ++ 61 ∷ value) ≡ length key
first_place [] value h = refl
first_place (c ∷ key) value h =
    let p = or_parts (c == 61) _ h in
    let rest = first_place key value p.1 in
    let one : 1 + length key ≡ suc (length key) = omega arith in
    rw (p.0, rest, one) refl

after_place : (key value : List ℕ) → drop (length key + 1) (key ++ 61 ∷ value) ≡ value
after_place [] value = refl
after_place (c ∷ key) value = let one : suc (length key) + 1 ≡ suc (length key + 1) = omega arith in rw one (after_place key value)

has_place : (key value : List ℕ) → holds 61 (key ++ 61 ∷ value) ≡ true
has_place [] value = refl
has_place (c ∷ key) value = go (c == 61) (has_place key value)
  where
    go : (t : Bool) → holds 61 (key ++ 61 ∷ value) ≡ true → (t || holds 61 (key ++ 61 ∷ value)) ≡ true
    go true rest = refl
    go false rest = rest

option_spelled : (p : Pair) → IsSpelled p → option_in (option_text p) ≡ Some p
option_spelled p s =
    let place : position_or_len (λ (c : ℕ). c == 61) (option_text p) ≡ length p.0 = first_place p.0 p.1 s.plain in
    let key : before_first (λ (c : ℕ). c == 61) (option_text p) ≡ p.0 = ap (λ (n : ℕ). take n (option_text p)) place ∙ take-append_seam p.0 (61 ∷ p.1) in
    let value : after_first (λ (c : ℕ). c == 61) (option_text p) ≡ p.1 = ap (λ (n : ℕ). drop (n + 1) (option_text p)) place ∙ after_place p.0 p.1 in
    rw (has_place p.0 p.1, key, value, s.key) refl

options_spelled : (given found : List Pair) → AllByRecursion IsSpelled given → options (map option_text given) found ≡ in_order given found
options_spelled [] found h = refl
options_spelled (p ∷ given) found h = rw (option_spelled p h.0) (go (put_new p.0 p.1 found) (λ more. options_spelled given more h.1))
  where
    go : (o : Option (List Pair)) → ((more : List Pair) → options (map option_text given) more ≡ in_order given more)
        → option_and_then (options (map option_text given)) o ≡ option_and_then (in_order given) o
    go None rest = refl
    go (Some more) rest = rest more

-- no space comes in

holds_both : (byte : ℕ) (xs ys : List ℕ) → holds byte xs ≡ false → holds byte ys ≡ false → holds byte (xs ++ ys) ≡ false
holds_both byte [] ys hx hy = hy
holds_both byte (x ∷ xs) ys hx hy = let p = or_parts (x == byte) _ hx in rw p.0 (holds_both byte xs ys p.1 hy)

holds_doubled : (part : List ℕ) → holds 32 part ≡ false → holds 32 (doubled part) ≡ false
holds_doubled [] h = refl
holds_doubled (c ∷ part) h = let p = or_parts (c == 32) _ h in go (c == 44) refl p.0 (holds_doubled part p.1)
  where
    go : (t : Bool) → (c == 44) ≡ t → (c == 32) ≡ false → holds 32 (doubled part) ≡ false → holds 32 (doubled (c ∷ part)) ≡ false
    go true e other rest = rw e rest
    go false e other rest = rw (e, other) rest

holds_joined : (first : List ℕ) (given : List Pair) → holds 32 first ≡ false → AllByRecursion IsSpelled given → holds 32 (joined first (map option_text given)) ≡ false
holds_joined first [] h spelled = holds_doubled first h
holds_joined first (p ∷ given) h spelled =
    holds_both 32 (doubled first) (44 ∷ joined (option_text p) (map option_text given)) (holds_doubled first h)
    (holds_joined (option_text p) given (holds_both 32 p.0 (61 ∷ p.1) spelled.0.key_word spelled.0.value_word) spelled.1)

-- no part begins with a comma

stands : (p : Pair) → IsSpelled p → StandsBehind (option_text p)
stands (key, value) s = go key s.behind
  where
    go : (key : List ℕ) → StandsBehind key → StandsBehind (key ++ 61 ∷ value)
    go [] h = absurd h
    go (c ∷ key) h = h

all_stand : (given : List Pair) → AllByRecursion IsSpelled given → AllByRecursion StandsBehind (map option_text given)
all_stand [] h = tt
all_stand (p ∷ given) h = (stands p h.0, all_stand given h.1)

-- the lines

addition_spelled : (driver : List ℕ) (given : List Pair) → is_driver driver ≡ true → holds 32 driver ≡ false → AllByRecursion IsSpelled given
    → addition_in (joined driver (map option_text given)) ≡ option_map (λ (found : List Pair). Do (adding driver found)) (in_order given [])
addition_spelled driver given is word spelled =
    let one_word : holds 32 (joined driver (map option_text given)) ≡ false = holds_joined driver given word spelled in
    let cut : parts (joined driver (map option_text given)) ≡ driver ∷ map option_text given = parts_are_spelled driver (map option_text given) (all_stand given spelled) in
    let found : options (map option_text given) [] ≡ in_order given [] = options_spelled given [] spelled in
    rw (one_word, cut, is, found) refl

line_addition : (rest : List ℕ) → line_of (codes "device_add " ++ rest) ≡ addition_in rest
unfolding line_of
line_addition rest = refl

line_removal : (id : List ℕ) → (length id == 0) ≡ false → holds 32 id ≡ false → line_of (codes "device_del " ++ id) ≡ deletion_in id
unfolding line_of
line_removal id some word = refl

pub lines_are_spelled : LinesAreSpelled
lines_are_spelled =
    record {
      addition = λ driver given is word spelled. line_addition (joined driver (map option_text given)) ∙ addition_spelled driver given is word spelled;
      removal = λ id some word. line_removal id some word ∙ rw (some, word) refl;
    }
