-- The clocks of the opening board are sound: none goes by another.
use Rattle.std.proofs.Common.{◌≡◌, ◌≢◌, refl, ap, sym, subst, ◌∙◌, ℕ, ◌^◌, ◌<◌, Bool, true, false, ◌&&◌, not, ◌==◌, List, [], Option, Some, None, is_none, option_and_then, unwrap_or, codes, rules, arith}
use Rattle.qo_model.proofs.Common.{nat_lt, AllByRecursion, option_map_or, Record, record_of, slots_at, child_period, div_of, mul_of, own_period, scaled_by, source_of, number_in, plain_in, opening_board, types}
use Rattle.std.proofs.lemmas.Bool.{and_parts}
use Rattle.std.proofs.lemmas.Bool.Decides.{nat_tests}
use Rattle.qo_model.specs.Clocks.{weak_in}
use Rattle.qo_model.proofs.FirstSlotLemmas.{named_in}
use Rattle.qo_model.proofs.PeriodLemmas.{period-own}
use Rattle.qo_sound.proofs.SearchLemmas.{all-found}
use Rattle.qo_sound_clocks.specs.SoundClocks.{SoundClocks}
use Rattle.qo_sound_clocks.proofs.SlotLemmas.{Slots}

abbrev source_in : Slots → Option ℕ
source_in xs = option_and_then weak_in (named_in (codes "source") xs)

abbrev number_in_slot : List ℕ → ℕ → Slots → ℕ
number_in_slot name none xs = unwrap_or (option_and_then number_in (option_and_then plain_in (named_in name xs))) none

-- by itself, and its periods fit
abbrev fits_alone : Slots → Bool
fits_alone xs =
    is_none (source_in xs)
    && nat_lt (scaled_by (number_in_slot (codes "mul") 1 xs) (number_in_slot (codes "div") 1 xs) (number_in_slot (codes "period") 0 xs)) (2 ^ 64)
    && not (number_in_slot (codes "div") 1 xs == 0)

all-alone : AllByRecursion (λ (r : Record). fits_alone r.slots ≡ true) opening_board.records
unfolding opening_board types
all-alone = search rules

alone : (c : ℕ) → fits_alone (slots_at opening_board c) ≡ true
alone c = go (record_of opening_board c) refl
  where
    go : (o : Option Record) → record_of opening_board c ≡ o → fits_alone (option_map_or (λ (r : Record). r.slots) o []) ≡ true
    go None e = refl
    go (Some r) e = all-found (λ (x : Record). fits_alone x.slots ≡ true) c opening_board.records all-alone r e

none-some : (o : Option ℕ) → is_none o ≡ true → o ≡ None
none-some None e = refl
none-some (Some s) e = cc

pub opening-clocks : SoundClocks opening_board
opening-clocks =
    record {
      older = λ c s e. absurd (let clash : None ≡ Some s = sym (none c) ∙ e in cc);
      none_own = λ c s e. absurd (let clash : None ≡ Some s = sym (none c) ∙ e in cc);
      fit = record { fits = fits; divides = divides };
    }
  where
    parts : (c : ℕ) → (is_none (source_of opening_board c) ≡ true)
        × ((nat_lt (scaled_by (mul_of opening_board c) (div_of opening_board c) (own_period opening_board c)) (2 ^ 64) ≡ true)
        × (not (div_of opening_board c == 0) ≡ true))
    parts c =
        let one = and_parts _ _ (alone c) in
        let two = and_parts _ _ one.0 in
        (two.0, (two.1, one.1))

    none : (c : ℕ) → source_of opening_board c ≡ None
    none c = none-some (source_of opening_board c) (parts c).0

    fits : (c : ℕ) → child_period opening_board c < 2 ^ 64
    fits c =
        let low : nat_lt (scaled_by (mul_of opening_board c) (div_of opening_board c) (own_period opening_board c)) (2 ^ 64) ≡ true = (parts c).1.0 in
        let below : scaled_by (mul_of opening_board c) (div_of opening_board c) (own_period opening_board c) < 2 ^ 64 = grind (arith, nat_tests, low) in
        subst (λ (k : ℕ). scaled_by (mul_of opening_board c) (div_of opening_board c) k < 2 ^ 64) (sym (period-own opening_board c (none c))) below

    divides : (c : ℕ) → div_of opening_board c ≢ 0
    divides c e = let clash : false ≡ true = sym (ap (λ (k : ℕ). not (k == 0)) e) ∙ (parts c).1.1 in cc
