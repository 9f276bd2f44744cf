-- The places of options by their keys, and that these rise.
use Rattle.std.proofs.Common.{◌≡◌, ℕ, suc, ◌+◌, ◌<◌, ◌≤◌, nat_lt, Bool, true, false, not, cond, List, [], ◌∷◌, length, refl, ◌∙◌, subst, arith}
use Rattle.std.proofs.Common.{Option, Some, None, option_map}
use Rattle.std.specs.Prelude.{option_and_then, position, slice_get}
use Rattle.std.specs.Cmp.Lexicographic.{slice_cmp}
use Rattle.std.specs.List.{AllByRecursion, insert, list_any, position_or_len}
use Rattle.std.specs.List.Sorted.{IsStrictlySortedBy}
use Rattle.std.specs.Option.{option_map_or}
use Rattle.std.specs.Ordering.{nat_cmp, is_le, is_eq}
use Rattle.std.specs.Str.{bytes_eq}
use Rattle.std.specs.declared.cmp.Ordering.{Ordering}
use Rattle.std.specs.declared.cmp.Ordering.TheVariants.{Less, Equal, Greater}
use Rattle.std.proofs.lemmas.Bool.Decides.{nat_tests}
use Rattle.std.proofs.lemmas.Cmp.{nat_list_cmp_total}
use Rattle.std.proofs.lemmas.Map.Text.{is_eq-slice_cmp}
use Rattle.qo_values.specs.PropertyLists.{NamesRise}
use Rattle.qo_text.specs.Joined.{keys_of}
use Rattle.qo_text.specs.Options.{is_property, is_upto, option_in, options, properties, put_new}

-- the first place that passes a test, as an option and as a number

past : (m n : ℕ) → nat_lt m n ≡ false → m ≤ n → n ≡ m
past m n e le = grind (arith, nat_tests)

module _ {X : Type 0} (p : X → Bool) where
  pub place-some : (xs : List X) (i : ℕ) → Some i ≡ position p xs → i ≡ position_or_len p xs
  place-some xs i h = go (nat_lt (position_or_len p xs) (length xs)) h
    where
      go : (t : Bool) → Some i ≡ cond t (Some (position_or_len p xs)) None → i ≡ position_or_len p xs
      go true h = cc
      go false h = cc

  pub place-le : (xs : List X) → position_or_len p xs ≤ length xs
  place-le [] = omega arith
  place-le (x ∷ xs) = go (p x) refl (place-le xs)
    where
      go : (t : Bool) → p x ≡ t → position_or_len p xs ≤ length xs → position_or_len p (x ∷ xs) ≤ length (x ∷ xs)
      go true e le = rw e (omega arith)
      go false e le = rw e (omega (arith, le))

  pub place-none : (xs : List X) → None ≡ position p xs → length xs ≡ position_or_len p xs
  place-none xs h = go (nat_lt (position_or_len p xs) (length xs)) refl h
    where
      go : (t : Bool) → nat_lt (position_or_len p xs) (length xs) ≡ t → None ≡ cond t (Some (position_or_len p xs)) None → length xs ≡ position_or_len p xs
      go true e h = cc
      go false e h = past (position_or_len p xs) (length xs) e (place-le xs)

  pub any-first : (xs : List X) → position_or_len p xs < length xs → list_any p xs ≡ true
  any-first [] h = absurd (omega arith)
  any-first (x ∷ xs) h = go (p x) refl h (any-first xs)
    where
      go : (t : Bool) → p x ≡ t → cond (not t) (1 + position_or_len p xs) 0 < suc (length xs) → (position_or_len p xs < length xs → list_any p xs ≡ true)
          → list_any p (x ∷ xs) ≡ true
      go true e h rest = rw e refl
      go false e h rest = rw e (rest (omega (arith, h)))

-- an option put among others

abbrev pub Pair : Type 0
Pair = List ℕ × List ℕ

abbrev pub at : List ℕ → List Pair → ℕ
at key ps = position_or_len (is_upto key) ps

abbrev pub has_key : List ℕ → Option Pair → Bool
has_key key o = option_map_or (λ (p : Pair). bytes_eq key p.0) o false

pub put-there : (key value : List ℕ) (ps : List Pair) → has_key key (slice_get ps (at key ps)) ≡ true → put_new key value ps ≡ None
put-there key value [] h = cc
put-there key value (p ∷ ps) h = go (is_upto key p) refl h (put-there key value ps)
  where
    go : (t : Bool) → is_upto key p ≡ t → has_key key (slice_get (p ∷ ps) (cond (not t) (1 + at key ps) 0)) ≡ true
        → (has_key key (slice_get ps (at key ps)) ≡ true → put_new key value ps ≡ None) → put_new key value (p ∷ ps) ≡ None
    go true e h rest = rw (e, h) refl
    go false e h rest =
        let one : 1 + at key ps ≡ suc (at key ps) = omega arith in
        let there : has_key key (slice_get ps (at key ps)) ≡ true = rw one at h in
        rw (e, rest there) refl

pub put-among : (key value : List ℕ) (ps : List Pair) → has_key key (slice_get ps (at key ps)) ≡ false
    → put_new key value ps ≡ Some (insert ps (at key ps) (key, value))
put-among key value [] h = refl
put-among key value (p ∷ ps) h = go (is_upto key p) refl h (put-among key value ps)
  where
    go : (t : Bool) → is_upto key p ≡ t → has_key key (slice_get (p ∷ ps) (cond (not t) (1 + at key ps) 0)) ≡ false
        → (has_key key (slice_get ps (at key ps)) ≡ false → put_new key value ps ≡ Some (insert ps (at key ps) (key, value)))
        → put_new key value (p ∷ ps) ≡ Some (insert (p ∷ ps) (at key (p ∷ ps)) (key, value))
    go true e h rest = rw (e, h) refl
    go false e h rest =
        let one : 1 + at key ps ≡ suc (at key ps) = omega arith in
        let absent : has_key key (slice_get ps (at key ps)) ≡ false = rw one at h in
        rw (e, rest absent, one) refl

-- the keys of options rise

abbrev order : List ℕ → List ℕ → Ordering
order = slice_cmp nat_cmp

abbrev AllAfter : List ℕ → List (List ℕ) → Type 0
AllAfter key keys = AllByRecursion (λ (k : List ℕ). order key k ≡ Less) keys

all-after : (a b : List ℕ) (keys : List (List ℕ)) → order a b ≡ Less → AllAfter b keys → AllAfter a keys
all-after a b [] less h = tt
all-after a b (k ∷ keys) less h = (nat_list_cmp_total.trans a b k less h.0, all-after a b keys less h.1)

-- what stands before a key that is put goes on standing before all
after-put : (a key value : List ℕ) (ps qs : List Pair) → put_new key value ps ≡ Some qs → order a key ≡ Less → AllAfter a (keys_of ps) → AllAfter a (keys_of qs)
after-put a key value [] qs put less h = let is : (key, value) ∷ [] ≡ qs = cc in subst (λ (l : List Pair). AllAfter a (keys_of l)) is (less, tt)
after-put a key value (p ∷ ps) qs put less h =
    go (is_upto key p) (bytes_eq key p.0) (put_new key value ps) refl (λ rs e. after-put a key value ps rs e less h.1) put
  where
    go : (t u : Bool) (o : Option (List Pair)) → put_new key value ps ≡ o
        → ((rs : List Pair) → put_new key value ps ≡ Some rs → AllAfter a (keys_of rs))
        → cond t (cond u None (Some ((key, value) ∷ p ∷ ps))) (option_map (λ (rs : List Pair). p ∷ rs) o) ≡ Some qs → AllAfter a (keys_of qs)
    go true true o e rest put = cc
    go true false o e rest put = let is : (key, value) ∷ p ∷ ps ≡ qs = cc in subst (λ (l : List Pair). AllAfter a (keys_of l)) is (less, h)
    go false u None e rest put = cc
    go false u (Some rs) e rest put = let is : p ∷ rs ≡ qs = cc in subst (λ (l : List Pair). AllAfter a (keys_of l)) is (h.0, rest rs e)

not-after : (o : Ordering) → is_le o ≡ true → is_eq o ≡ false → o ≡ Less
not-after Less le ne = refl
not-after Equal le ne = cc
not-after Greater le ne = cc

-- where a key is not up to another it comes after that
turned : (a b : List ℕ) → is_le (order a b) ≡ false → order b a ≡ Less
turned a b h = go (order a b) refl h
  where
    go : (o : Ordering) → order a b ≡ o → is_le o ≡ false → order b a ≡ Less
    go Less e h = cc
    go Equal e h = cc
    go Greater e h = rw (nat_list_cmp_total.antisymm b a, e) refl

put-rises : (key value : List ℕ) (ps qs : List Pair) → put_new key value ps ≡ Some qs → NamesRise (keys_of ps) → NamesRise (keys_of qs)
unfolding IsStrictlySortedBy
put-rises key value [] qs put rises = let is : (key, value) ∷ [] ≡ qs = cc in subst (λ (l : List Pair). NamesRise (keys_of l)) is (tt, tt)
put-rises key value (p ∷ ps) qs put rises =
    go (is_upto key p) (bytes_eq key p.0) (put_new key value ps) refl refl refl (λ rs e. put-rises key value ps rs e rises.1) put
  where
    go : (t u : Bool) (o : Option (List Pair)) → is_upto key p ≡ t → bytes_eq key p.0 ≡ u → put_new key value ps ≡ o
        → ((rs : List Pair) → put_new key value ps ≡ Some rs → NamesRise (keys_of rs))
        → cond t (cond u None (Some ((key, value) ∷ p ∷ ps))) (option_map (λ (rs : List Pair). p ∷ rs) o) ≡ Some qs → NamesRise (keys_of qs)
    go true true o e f g rest put = cc
    go true false o e f g rest put =
        let is : (key, value) ∷ p ∷ ps ≡ qs = cc in
        let before : order key p.0 ≡ Less = not-after (order key p.0) e (is_eq-slice_cmp key p.0 ∙ f) in
        subst (λ (l : List Pair). NamesRise (keys_of l)) is ((before, all-after key p.0 (keys_of ps) before rises.0), rises)
    go false u None e f g rest put = cc
    go false u (Some rs) e f g rest put =
        let is : p ∷ rs ≡ qs = cc in
        subst (λ (l : List Pair). NamesRise (keys_of l)) is (after-put p.0 key value ps rs g (turned key p.0 e) rises.0, rest rs g)

abbrev Rest : List (List ℕ) → List Pair → Type 0
Rest others qs = (rs : List Pair) → options others rs ≡ Some qs → NamesRise (keys_of rs) → NamesRise (keys_of qs)

pub options-rise : (parts : List (List ℕ)) (ps qs : List Pair) → options parts ps ≡ Some qs → NamesRise (keys_of ps) → NamesRise (keys_of qs)
options-rise [] ps qs is rises = let same : ps ≡ qs = cc in subst (λ (l : List Pair). NamesRise (keys_of l)) same rises
options-rise (part ∷ others) ps qs is rises = go (option_in part) (λ rs so up. options-rise others rs qs so up) is
  where
    more : (p : Pair) (o : Option (List Pair)) → put_new p.0 p.1 ps ≡ o → Rest others qs → option_and_then (options others) o ≡ Some qs
        → NamesRise (keys_of qs)
    more p None e rest is = cc
    more p (Some rs) e rest is = rest rs is (put-rises p.0 p.1 ps rs e rises)

    go : (o : Option Pair) → Rest others qs → option_and_then (λ (p : Pair). option_and_then (options others) (put_new p.0 p.1 ps)) o ≡ Some qs
        → NamesRise (keys_of qs)
    go None rest is = cc
    go (Some p) rest is = more p (put_new p.0 p.1 ps) refl rest is

-- an option that is no property is passed over
pub passed-over : (p : Pair) (ps : List Pair) → is_property p ≡ false → properties (p ∷ ps) ≡ properties ps
passed-over p ps other = rw other refl
