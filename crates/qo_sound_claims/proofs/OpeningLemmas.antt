-- The opening board has no rings, and nothing is realized on it.
use Rattle.std.proofs.Common.{◌≡◌, refl, sym, ◌∙◌, rules, ℕ, Bool, true, false, ◌&&◌, List, [], codes, Option, Some, None, option_and_then}
use Rattle.qo_model.proofs.Common.{AllByRecursion, IsDistinct, option_map_or, Record, Slot, record_of, is_realized, is_true, plain_in, opening_board, is_of, types}
use Rattle.qo_model.proofs.FirstSlotLemmas.{named_in}
use Rattle.qo_sound.proofs.SearchLemmas.{all-found}
use Rattle.qo_sound_claims.specs.SoundClaims.{SoundClaims}
use Rattle.qo_sound_claims.specs.SoundRings.{SoundRings}

pub opening-rings : SoundRings opening_board
unfolding opening_board IsDistinct
opening-rings = record { once = tt; each = tt }

abbrev on_in : List (List ℕ × Slot) → Bool
on_in slots = option_map_or is_true (option_and_then plain_in (named_in (codes "realized") slots)) false

all-off : AllByRecursion (λ (r : Record). on_in r.slots ≡ false) opening_board.records
unfolding opening_board types
all-off = search rules

off : (n : ℕ) → is_realized opening_board n ≡ false
off n = go (record_of opening_board n) refl
  where
    go : (o : Option Record) → record_of opening_board n ≡ o → on_in (option_map_or (λ (r : Record). r.slots) o []) ≡ false
    go None e = refl
    go (Some r) e = all-found (λ (x : Record). on_in x.slots ≡ false) n opening_board.records all-off r e

none-on : (t u : Bool) → u ≡ false → (t && u) ≡ true → ⊥
none-on true u e k = let clash : true ≡ false = sym k ∙ e in cc
none-on false u e k = cc

pub opening-claims : SoundClaims opening_board
opening-claims =
    record {
      rings = λ n on. absurd (none n (codes "slot-uart") on);
      one_uart = λ n m id on. absurd (none n (codes "slot-uart") on);
      ranges = λ d on. absurd (none d (codes "mem-dimm") on);
      one_dimm = λ d e m on. absurd (none d (codes "mem-dimm") on);
      apart = λ d e r s on. absurd (none d (codes "mem-dimm") on);
    }
  where
    none : (n : ℕ) (name : List ℕ) → (is_of opening_board name n && is_realized opening_board n) ≡ true → ⊥
    none n name on = none-on (is_of opening_board name n) (is_realized opening_board n) (off n) on
