-- The first piece, by where the separator was found.
use Rattle.std.proofs.Common.{◌≡◌, ◌==◌, ℕ, ◌+◌, ◌<◌, ◌≤◌, Bool, true, false, cond, nat_lt, List, [], ◌∷◌, length, take, drop, Some, None, refl, ap, arith}
use Rattle.std.specs.List.{onto_first, position, position_or_len}
use Rattle.std.proofs.lemmas.List.Splits.{slice_split_first, slice_split_none}
use Rattle.std.proofs.lemmas.Bool.Decides.{nat_tests}
use Rattle.std.proofs.lemmas.List.Sums.{fails_before_first}
use Rattle.qo_guest.specs.Addresses.{pieces}

-- where a test passes first
found_at : (p : ℕ → Bool) (bytes : List ℕ) (at : ℕ) → position p bytes ≡ Some at → (position_or_len p bytes ≡ at) × (at < length bytes)
found_at p bytes at found = go (nat_lt (position_or_len p bytes) (length bytes)) refl found
  where
    go : (b : Bool) → nat_lt (position_or_len p bytes) (length bytes) ≡ b
        → cond b (Some (position_or_len p bytes)) None ≡ Some at → (position_or_len p bytes ≡ at) × (at < length bytes)
    go true lt e = let same : position_or_len p bytes ≡ at = cc in (same, grind (arith, nat_tests))
    go false lt e = cc

-- where it passes nowhere
found_nowhere : (p : ℕ → Bool) (bytes : List ℕ) → position p bytes ≡ None → length bytes ≤ position_or_len p bytes
found_nowhere p bytes missed = go (nat_lt (position_or_len p bytes) (length bytes)) refl missed
  where
    go : (b : Bool) → nat_lt (position_or_len p bytes) (length bytes) ≡ b → cond b (Some (position_or_len p bytes)) None ≡ None
        → length bytes ≤ position_or_len p bytes
    go true lt e = cc
    go false lt e = grind (arith, nat_tests)

pub pieces_found : (separator : ℕ) (bytes : List ℕ) (at : ℕ) → position (λ byte. byte == separator) bytes ≡ Some at → (at < length bytes)
    × (pieces separator bytes ≡ take at bytes ∷ pieces separator (drop (at + 1) bytes))
pieces_found separator bytes at found =
    let p : ℕ → Bool = λ byte. byte == separator in
    let here = found_at p bytes at found in
    (here.1, rw (← here.0) (slice_split_first p bytes 0 (omega (arith, here.0, here.1))))

pub pieces_whole : (separator : ℕ) (bytes : List ℕ) → position (λ byte. byte == separator) bytes ≡ None → pieces separator bytes ≡ bytes ∷ []
pieces_whole separator bytes missed =
    let p : ℕ → Bool = λ byte. byte == separator in
    let past = found_nowhere p bytes missed in
    slice_split_none p bytes (λ k d lt. fails_before_first p bytes k d (omega (arith, past, lt)))

-- there is always a first piece
pub pieces_some : (separator : ℕ) (bytes : List ℕ) → (first : List ℕ) × (others : List (List ℕ)) × (pieces separator bytes ≡ first ∷ others)
pieces_some separator [] = ([], [], refl)
pieces_some separator (byte ∷ bytes) = go (byte == separator) (pieces_some separator bytes)
  where
    go : (b : Bool) → (first : List ℕ) × (others : List (List ℕ)) × (pieces separator bytes ≡ first ∷ others)
        → (first : List ℕ) × (others : List (List ℕ)) × (cond b ([] ∷ pieces separator bytes) (onto_first byte (pieces separator bytes)) ≡ first ∷ others)
    go true rest = ([], pieces separator bytes, refl)
    go false rest = (byte ∷ rest.0, rest.1, ap (onto_first byte) rest.2)
