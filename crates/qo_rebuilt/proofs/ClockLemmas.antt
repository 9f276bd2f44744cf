-- The law: good numbers of the system clock are told, and after them good rings.
use Rattle.std.proofs.Common.{◌≡◌, ◌≢◌, refl, ap, sym, subst, ◌∙◌, ℕ, ◌*◌, ◌/◌, ◌<◌, ◌≤◌, ◌^◌, ◌==◌, nat_le, Bool, true, false, cond, eqb, ◌||◌, List, [], ◌∷◌, ◌++◌, map, Option, Some, None, is_some, Ok, Err, codes, arith}
use Rattle.std.specs.Prelude.{Result}
use Rattle.std.specs.List.{list_any}
use Rattle.std.proofs.Math.Nat.{div-le_self}
use Rattle.std.proofs.lemmas.Bool.Decides.{nat_tests}
use Rattle.qo_model.proofs.Common.{AllByRecursion, if◌then◌else◌, SYSTEM_CLOCK_BIRTH, Clock, Code, E46, E47, Board, attached, canonical, child_period, clock_scaled, clock_set, clocks_below, div_of, kind_of, mul_of, opening_board, path_down_to, period, scaled_by, set, source_of, types}
use Rattle.qo_values.specs.declared.codes.Code.TheVariants.{E45}
use Rattle.qo_values.specs.declared.properties.Val.TheVariants as val
use Rattle.qo_model.specs.Clocks.{called_all, clock_written, overflows}
use Rattle.qo_model.specs.Unplug.{set_named}
use Rattle.qo_save.specs.Described.{described}
use Rattle.qo_save.specs.Description.{ClockNumbers, Description}
use Rattle.qo_save.specs.Rebuilding.{add_ring, all_done, clock_steps, set_number, Step}
use Rattle.qo_save.specs.Rows.{clock_at_first, opening_row}
use Rattle.qo_good.specs.Good.{Good, IsGoodClock}
use Rattle.qo_good.specs.GoodBoards.{IsWhole}
use Rattle.qo_good.proofs.ItemLemmas.{all-some}
use Rattle.qo_rebuilt.specs.Made.{ClockMadeLaw, IsFree, Makes}
use Rattle.qo_rebuilt.proofs.NumberLemmas.{numbers_taken_lem}
use Rattle.qo_rebuilt.proofs.RingLemmas.{rings_made_lem, then_all}
use Rattle.qo_rebuilt.proofs.WholeLemmas.{whole_kept_lem}

abbrev sysclk : List ℕ
sysclk = codes "/machine/sysclk"

abbrev first : ℕ
first = clock_at_first.period

-- the opening board with other numbers of its clock
abbrev numbered : ℕ → ℕ → ℕ → Board → Board
numbered mul div per b =
    set_named SYSTEM_CLOCK_BIRTH (codes "period") (val.Uint per)
    (set_named SYSTEM_CLOCK_BIRTH (codes "div") (val.Uint div) (set_named SYSTEM_CLOCK_BIRTH (codes "mul") (val.Uint mul) b))

unfoldable clocked : ℕ → ℕ → ℕ → Board
clocked mul div per = numbered mul div per opening_board

-- ---- what is read of it

opening-is : opening_board ≡ clocked 1 1 first
unfolding clocked opening_board set types
opening-is = refl

scaled-again : (mul div per by over : ℕ)
    → set_named SYSTEM_CLOCK_BIRTH (codes "div") (val.Uint over) (set_named SYSTEM_CLOCK_BIRTH (codes "mul") (val.Uint by) (clocked mul div per))
    ≡ clocked by over per
unfolding clocked opening_board set types
scaled-again mul div per by over = refl

set-again : (mul div per new : ℕ) → set_named SYSTEM_CLOCK_BIRTH (codes "period") (val.Uint new) (clocked mul div per) ≡ clocked mul div new
unfolding clocked opening_board set types
set-again mul div per new = refl

below-none : (mul div per : ℕ) → clocks_below (clocked mul div per) SYSTEM_CLOCK_BIRTH ≡ []
unfolding clocked opening_board set types clocks_below
below-none mul div per = refl

source-none : (mul div per : ℕ) → source_of (clocked mul div per) SYSTEM_CLOCK_BIRTH ≡ None
unfolding clocked opening_board set types
source-none mul div per = refl

mul-is : (mul div per : ℕ) → mul_of (clocked mul div per) SYSTEM_CLOCK_BIRTH ≡ mul
unfolding clocked opening_board set types
mul-is mul div per = refl

div-is : (mul div per : ℕ) → div_of (clocked mul div per) SYSTEM_CLOCK_BIRTH ≡ div
unfolding clocked opening_board set types
div-is mul div per = refl

child-is : (mul div per : ℕ) → child_period (clocked mul div per) SYSTEM_CLOCK_BIRTH ≡ scaled_by mul div per
unfolding clocked opening_board set types period
child-is mul div per = refl

canon : (mul div per : ℕ) → canonical (clocked mul div per) SYSTEM_CLOCK_BIRTH ≡ Some sysclk
unfolding clocked opening_board set types path_down_to
canon mul div per = refl

kind : (mul div per : ℕ) → kind_of (clocked mul div per) SYSTEM_CLOCK_BIRTH ≡ Some Clock
unfolding clocked opening_board set types
kind mul div per = refl

says : (mul div per : ℕ) → described (clocked mul div per) ≡ Some (record opening_row { clock = record { div = div; mul = mul; period = per } })
unfolding clocked opening_board set types path_down_to attached described
says mul div per = refl

quiet : (mul div per : ℕ) → (clocked mul div per).notices ≡ []
unfolding clocked opening_board set types
quiet mul div per = refl

-- ---- a write

not-over : (most n : ℕ) → n < most → nat_le most n ≡ false
not-over most n low = grind (arith, nat_tests, low)

not-zero : (n : ℕ) → n ≢ 0 → (n == 0) ≡ false
not-zero n some = grind (arith, nat_tests, some)

abbrev written_by : Board → Board → List ℕ → Result Board Code
written_by old new cs = if list_any (overflows new) (SYSTEM_CLOCK_BIRTH ∷ cs) then Err E47 else Ok (called_all old new cs new)

written-taken : (old : Board) → clocks_below old SYSTEM_CLOCK_BIRTH ≡ [] → (mul div per : ℕ) → scaled_by mul div per < 2 ^ 64
    → clock_written old (clocked mul div per) SYSTEM_CLOCK_BIRTH ≡ Ok (clocked mul div per)
written-taken old below mul div per fits =
    let low : overflows (clocked mul div per) SYSTEM_CLOCK_BIRTH ≡ false =
    ap (nat_le (2 ^ 64)) (child-is mul div per) ∙ not-over (2 ^ 64) (scaled_by mul div per) fits in
    ap (written_by old (clocked mul div per)) below ∙ ap (λ (t : Bool). if t || false then Err E47 else Ok (clocked mul div per)) low

scaled-taken : (mul div per by over : ℕ) → over ≢ 0 → scaled_by by over per < 2 ^ 64
    → clock_scaled (clocked mul div per) SYSTEM_CLOCK_BIRTH by over ≡ Ok (clocked by over per)
scaled-taken mul div per by over some fits =
    ap
    (λ (t : Bool).
    if t then Err E46
    else clock_written (clocked mul div per)
    (set_named SYSTEM_CLOCK_BIRTH (codes "div") (val.Uint over) (set_named SYSTEM_CLOCK_BIRTH (codes "mul") (val.Uint by) (clocked mul div per)))
    SYSTEM_CLOCK_BIRTH)
    (not-zero over some)
    ∙ ap (λ (new : Board). clock_written (clocked mul div per) new SYSTEM_CLOCK_BIRTH) (scaled-again mul div per by over)
    ∙ written-taken (clocked mul div per) (below-none mul div per) by over per fits

set-taken : (mul div per new : ℕ) → scaled_by mul div new < 2 ^ 64
    → clock_set (clocked mul div per) SYSTEM_CLOCK_BIRTH new ≡ Ok (clocked mul div new)
set-taken mul div per new fits =
    ap
    (λ (o : Option ℕ).
    if is_some o then Err E45
    else clock_written (clocked mul div per) (set_named SYSTEM_CLOCK_BIRTH (codes "period") (val.Uint new) (clocked mul div per)) SYSTEM_CLOCK_BIRTH)
    (source-none mul div per)
    ∙ ap (λ (b : Board). clock_written (clocked mul div per) b SYSTEM_CLOCK_BIRTH) (set-again mul div per new)
    ∙ written-taken (clocked mul div per) (below-none mul div per) mul div new fits

-- ---- the three of them

-- a part of a period is no longer
pub part-fits : (div per : ℕ) → per < 2 ^ 64 → scaled_by 1 div per < 2 ^ 64
part-fits div per low = go (eqb div 0) refl
  where
    go : (t : Bool) → eqb div 0 ≡ t → cond t 0 (per * 1 / div) < 2 ^ 64
    go true e = omega arith
    go false e =
        let less : per * 1 / div ≤ per * 1 = div-le_self (per * 1) div in
        omega (arith, less, low)

-- a command that is taken
record Taken (step : Step) (b c : Board) : Type 0 where
  done : step b ≡ Ok c
  whole : IsWhole c

div-taken : (mul div per over : ℕ) → IsWhole (clocked mul div per) → mul < 2 ^ 32 → over ≢ 0 → over < 2 ^ 32 → scaled_by mul over per < 2 ^ 64
    → Taken (set_number sysclk (codes "div") over) (clocked mul div per) (clocked mul over per)
div-taken mul div per over h short some low fits =
    let taken : clock_scaled (clocked mul div per) SYSTEM_CLOCK_BIRTH mul over ≡ Ok (clocked mul over per) = scaled-taken mul div per mul over some fits in
    record {
      done =
          numbers_taken_lem.div (clocked mul div per) SYSTEM_CLOCK_BIRTH sysclk over h (canon mul div per) (kind mul div per) low
          ∙ ap (λ (by : ℕ). clock_scaled (clocked mul div per) SYSTEM_CLOCK_BIRTH by over) (mul-is mul div per) ∙ taken;
      whole = whole_kept_lem.scaled (clocked mul div per) (clocked mul over per) SYSTEM_CLOCK_BIRTH mul over short low taken h;
    }

mul-taken : (mul div per by : ℕ) → IsWhole (clocked mul div per) → div ≢ 0 → div < 2 ^ 32 → by < 2 ^ 32 → scaled_by by div per < 2 ^ 64
    → Taken (set_number sysclk (codes "mul") by) (clocked mul div per) (clocked by div per)
mul-taken mul div per by h some short low fits =
    let taken : clock_scaled (clocked mul div per) SYSTEM_CLOCK_BIRTH by div ≡ Ok (clocked by div per) = scaled-taken mul div per by div some fits in
    record {
      done =
          numbers_taken_lem.mul (clocked mul div per) SYSTEM_CLOCK_BIRTH sysclk by h (canon mul div per) (kind mul div per) low
          ∙ ap (clock_scaled (clocked mul div per) SYSTEM_CLOCK_BIRTH by) (div-is mul div per) ∙ taken;
      whole = whole_kept_lem.scaled (clocked mul div per) (clocked by div per) SYSTEM_CLOCK_BIRTH by div low short taken h;
    }

period-taken : (mul div per new : ℕ) → IsWhole (clocked mul div per) → new < 2 ^ 64 → scaled_by mul div new < 2 ^ 64
    → Taken (set_number sysclk (codes "period") new) (clocked mul div per) (clocked mul div new)
period-taken mul div per new h low fits =
    let taken : clock_set (clocked mul div per) SYSTEM_CLOCK_BIRTH new ≡ Ok (clocked mul div new) = set-taken mul div per new fits in
    record {
      done =
          numbers_taken_lem.period (clocked mul div per) SYSTEM_CLOCK_BIRTH sysclk new h (canon mul div per) (kind mul div per) low ∙ taken;
      whole = whole_kept_lem.set (clocked mul div per) (clocked mul div new) SYSTEM_CLOCK_BIRTH new low taken h;
    }

clock-made : (c : ClockNumbers) → IsGoodClock c → Makes (clock_steps c) opening_board (record opening_row { clock = c })
clock-made c good =
    let begins : IsWhole (clocked 1 1 first) = subst IsWhole opening-is whole_kept_lem.opening in
    let divided : Taken (set_number sysclk (codes "div") c.div) (clocked 1 1 first) (clocked 1 c.div first) =
    div-taken 1 1 first c.div begins (omega arith) good.divides good.div (part-fits c.div first (omega arith)) in
    let timed : Taken (set_number sysclk (codes "period") c.period) (clocked 1 c.div first) (clocked 1 c.div c.period) =
    period-taken 1 c.div first c.period divided.whole good.period (part-fits c.div c.period good.period) in
    let multiplied : Taken (set_number sysclk (codes "mul") c.mul) (clocked 1 c.div c.period) (clocked c.mul c.div c.period) =
    mul-taken 1 c.div c.period c.mul timed.whole good.divides good.div good.mul good.fits in
    let done : all_done (clock_steps c) (clocked 1 1 first) ≡ Ok (clocked c.mul c.div c.period) =
    ap (then_all (set_number sysclk (codes "period") c.period ∷ set_number sysclk (codes "mul") c.mul ∷ [])) divided.done
    ∙ ap (then_all (set_number sysclk (codes "mul") c.mul ∷ [])) timed.done ∙ ap (then_all []) multiplied.done in
    record {
      board = clocked c.mul c.div c.period;
      taken = subst (λ (b : Board). all_done (clock_steps c) b ≡ Ok (clocked c.mul c.div c.period)) (sym opening-is) done;
      tells = record { whole = multiplied.whole; says = says c.mul c.div c.period; quiet = quiet c.mul c.div c.period };
    }

-- ---- and then rings

pub then-done : (first_steps more : List Step) (b : Board) → all_done (first_steps ++ more) b ≡ then_all more (all_done first_steps b)
then-done [] more b = refl
then-done (step ∷ steps) more b = go (step b) (λ c. then-done steps more c)
  where
    go : (r : Result Board Code) → ((c : Board) → all_done (steps ++ more) c ≡ then_all more (all_done steps c))
        → then_all (steps ++ more) r ≡ then_all more (then_all steps r)
    go (Ok c) rest = rest c
    go (Err code) rest = refl

rings-after : (d : Description) → Good d
    → Makes (clock_steps d.clock ++ map add_ring d.rings) opening_board (record opening_row { clock = d.clock; rings = d.rings })
rings-after d good =
    let clock : Makes (clock_steps d.clock) opening_board (record opening_row { clock = d.clock }) = clock-made d.clock good.clock in
    let free : AllByRecursion (IsFree (record opening_row { clock = d.clock })) d.rings =
    all-some (IsFree (record opening_row { clock = d.clock })) (λ r. tt) d.rings in
    let rings : Makes (map add_ring d.rings) clock.board (record opening_row { clock = d.clock; rings = d.rings }) =
    rings_made_lem.rings clock.board (record opening_row { clock = d.clock }) d.rings clock.tells good.rings free good.ring_ids in
    record {
      board = rings.board;
      taken =
          then-done (clock_steps d.clock) (map add_ring d.rings) opening_board ∙ ap (then_all (map add_ring d.rings)) clock.taken ∙ rings.taken;
      tells = rings.tells;
    }

pub clock_made_lem : ClockMadeLaw
clock_made_lem = record { clock = clock-made; rings = rings-after }
