-- A device's clock may multiply and divide by other numbers, where those that come after it neither do: no period is too long then.
use Rattle.std.proofs.Common.{◌≡◌, ◌≢◌, ◌⊎◌, inl, inr, refl, ap, sym, subst, ◌∙◌, ℕ, zero, suc, ◌<◌, ◌≤◌, ◌^◌, ◌==◌, ◌&&◌, Bool, true, false, eqb, length, List, [], ◌∷◌, ◌++◌, Option, Some, None, option_and_then, unwrap_or, codes, Ok, Err, arith}
use Rattle.std.proofs.lemmas.Bool.{and_parts, eqb-true, ne_eqb}
use Rattle.std.proofs.lemmas.Bool.Decides.{nat_tests}
use Rattle.std.proofs.lemmas.Option.{same_Some}
use Rattle.qo_model.proofs.Common.{AllByRecursion, list_any, if◌then◌else◌, MACHINE_BIRTH, PERIPHERAL_BIRTH, ROOT_BUS_BIRTH, MEMORY_BUS_BIRTH, SYSTEM_CLOCK_BIRTH, Clock, SlotBridge, E46, E47, Board, kind_of, slots_at, births, kids_of, child_period, clock_of, clock_scaled, clock_written, clocks_below, div_of, mul_of, overflows, period, scaled_by, source_for, source_of, called_all, is_a, set_named}
use Rattle.qo_values.specs.declared.properties.Val.TheVariants as val
use Rattle.qo_values.proofs.ListLemmas.{all-imply}
use Rattle.qo_model.specs.Paths.{parent_of}
use Rattle.qo_model.proofs.AmongLemmas.{among-all}
use Rattle.qo_model.proofs.ClockFitLemmas.{Either, either, Goes, IsWritten}
use Rattle.qo_model.proofs.PeriodLemmas.{period-fed, to_depth}
use Rattle.qo_save.specs.Described.{clock_item, clock_item_of, factors_of, is_describable}
use Rattle.qo_sound_bounds.specs.SoundSources.{IsDeviceClock}
use Rattle.qo_sound_bounds.proofs.ClockLemmas.{clock-listed, source-bridge, source-machines}
use Rattle.qo_sound_devices.specs.SoundPlaces.{child_entries, listed}
use Rattle.qo_sound_devices.proofs.AttachmentLemmas.{parent-is}
use Rattle.qo_sound_devices.proofs.DetachmentLemmas.{listed-kid}
use Rattle.qo_sound_devices.proofs.LocationLemmas.{Entry, entry-of}
use Rattle.qo_sound_phases.proofs.ResetTreeLemmas.{placed}
use Rattle.qo_model.specs.SoundGraph.{Rises}
use Rattle.qo_good.specs.GoodBoards.{IsWhole}
use Rattle.qo_good.proofs.BusLemmas.{bridge_bus, ClockAt, clock-at, its-bus, memory_bus, owns-bus, root_bus, Stood, stood-all, WhichBus}
use Rattle.qo_good.proofs.ItemLemmas.{all-append, births_in, rises-before}
use Rattle.qo_good.proofs.LayoutLemmas.{bridge-slot}
use Rattle.qo_good.proofs.PlaceLemmas.{all-entry, firm, machine-entries, older, rises, stands-named}
use Rattle.qo_rebuilt.proofs.ScaledLemmas.{new, new-div, new-mul, set-written}

-- nothing is said of a clock that neither multiplies nor divides
pub none-said : (b : Board) (c : ℕ) → clock_item b c ≡ None → (mul_of b c ≡ 1) × (div_of b c ≡ 1)
none-said b c e = go ((mul_of b c == 1) && (div_of b c == 1)) refl
  where
    go : (t : Bool) → ((mul_of b c == 1) && (div_of b c == 1)) ≡ t → (mul_of b c ≡ 1) × (div_of b c ≡ 1)
    go true p =
        let two = and_parts (mul_of b c == 1) (div_of b c == 1) p in
        (eqb-true (mul_of b c) 1 two.0, eqb-true (div_of b c) 1 two.1)
    go false p = absurd (let clash : Some (factors_of b c) ≡ None = rw p at e in cc)

module _ (b : Board) (h : IsWhole b) (says : is_describable b ≡ true) where
  -- a clock that goes by another is that of a device
  record Fed (n s : ℕ) : Type 0 where
    at : source_of b n ≡ Some s
    device : List ℕ × ℕ
    stood : Stood b device
    its : clock_of b device.1 ≡ Some n
    source : s ≡ source_for b stood.on.bus
    parent : parent_of b n ≡ Some device.1

  fed : (n s : ℕ) → source_of b n ≡ Some s → Fed n s
  fed n s q =
      let k : IsDeviceClock b n = h.sources.only n s q in
      let found : Entry (Stood b) k.device (child_entries b PERIPHERAL_BIRTH) =
      entry-of (Stood b) k.device (child_entries b PERIPHERAL_BIRTH) (stood-all b h.order says)
      (stands-named b h.order says k.device (h.order.devices.places.1.only k.device k.realized)) in
      record {
        at = q;
        device = (found.name, k.device);
        stood = found.holds;
        its = k.its;
        source = same_Some s (source_for b found.holds.on.bus)
            (sym q ∙ h.sources.fed k.device found.holds.on.bus n k.realized found.holds.on.on k.its);
        parent = parent-is b (firm b h.order) k.device n (clock-listed b (firm b h.order) k.device n k.its);
      }

  system-parent : parent_of b SYSTEM_CLOCK_BIRTH ≡ Some MACHINE_BIRTH
  system-parent =
      parent-is b (firm b h.order) MACHINE_BIRTH SYSTEM_CLOCK_BIRTH
      (ap (listed SYSTEM_CLOCK_BIRTH) (machine-entries b h.order))

  -- a device is younger than the one whose clock its own goes by
  younger : (n s p : ℕ) (f : Fed n s) → parent_of b s ≡ Some p → PERIPHERAL_BIRTH < p → p < f.device.1
  younger n s p f own late = by (its-bus b h.order says f.device f.stood)
    where
      top : s ≡ SYSTEM_CLOCK_BIRTH → p < f.device.1
      top is =
          let machine : p ≡ MACHINE_BIRTH = same_Some p MACHINE_BIRTH (sym own ∙ ap (parent_of b) is ∙ system-parent) in
          absurd (let clash : 0 < 0 = omega (arith, machine, late) in omega arith)

      by : WhichBus b f.stood.on.bus → p < f.device.1
      by (root_bus is) =
          top (f.source ∙ ap (source_for b) is ∙ source-machines b (placed b h.order.devices) ROOT_BUS_BIRTH refl)
      by (memory_bus is) =
          top (f.source ∙ ap (source_for b) is ∙ source-machines b (placed b h.order.devices) MEMORY_BUS_BIRTH refl)
      by (bridge_bus e there kind on its) =
          let k : Stood b e = all-entry (Stood b) e (child_entries b PERIPHERAL_BIRTH) (stood-all b h.order says) there in
          let bridge : k.here.kind ≡ SlotBridge = same_Some k.here.kind SlotBridge (sym k.here.its ∙ kind) in
          let c : ClockAt b e = clock-at b h.order says e k (ap (λ t. is_a t (codes "slot-device")) bridge ∙ bridge-slot) in
          let source : source_for b f.stood.on.bus ≡ c.clock =
          source-bridge b (placed b h.order.devices) e.1 f.stood.on.bus k.stood (owns-bus b h.order says e f.stood.on.bus on)
          ∙ ap (λ (o : Option ℕ). unwrap_or o SYSTEM_CLOCK_BIRTH) c.its in
          let parent : parent_of b c.clock ≡ Some e.1 = parent-is b (firm b h.order) e.1 c.clock (clock-listed b (firm b h.order) e.1 c.clock c.its) in
          let same : p ≡ e.1 = same_Some p e.1 (sym own ∙ ap (parent_of b) (f.source ∙ source) ∙ parent) in
          let old : e.1 < f.stood.on.bus = older b h.order e.1 (codes "bus.0", f.stood.on.bus) on in
          let young : f.stood.on.bus < f.device.1 =
          among-all (λ (m : ℕ). f.stood.on.bus < m) (kids_of b f.stood.on.bus) (h.order.order.kids f.stood.on.bus f.stood.on.is_bus).0 f.device.1
          (listed-kid f.device.1 (slots_at b f.stood.on.bus) f.stood.kid) in
          omega (arith, same, old, young)

  -- ---- below a clock stand those of younger devices alone

  record Late (p n : ℕ) : Type 0 where
    source : ℕ
    fed : Fed n source
    young : p < fed.device.1

  late-below : (fuel c n p q : ℕ) → parent_of b c ≡ Some q → p ≤ q → PERIPHERAL_BIRTH < q → Goes b fuel c n → Late p n
  late-below zero c n p q own low late goes = absurd goes
  late-below (suc fuel) c n p q own low late (m, (at, inl is)) =
      let f : Fed m c = fed m c at in
      let young : q < f.device.1 = younger m c q f own late in
      subst (Late p) (sym is) (record { source = c; fed = f; young = omega (arith, low, young) })
  late-below (suc fuel) c n p q own low late (m, (at, inr goes)) =
      let f : Fed m c = fed m c at in
      let young : q < f.device.1 = younger m c q f own late in
      late-below fuel m n p f.device.1 f.parent (omega (arith, low, young)) (omega (arith, late, young)) goes

  -- ---- the clock of a device, after which those that follow are not said

  module _ (done : List (List ℕ × ℕ)) (e : List ℕ × ℕ) (more : List (List ℕ × ℕ)) (split : child_entries b PERIPHERAL_BIRTH ≡ done ++ e ∷ more)
      (k : Stood b e) (c : ClockAt b e) (unsaid : AllByRecursion (λ (y : List ℕ × ℕ). clock_item_of b y ≡ None) more) where
    abbrev clk : ℕ
    clk = c.clock

    clk-parent : parent_of b c.clock ≡ Some e.1
    clk-parent = parent-is b (firm b h.order) e.1 c.clock (clock-listed b (firm b h.order) e.1 c.clock c.its)

    late-e : PERIPHERAL_BIRTH < e.1
    late-e = older b h.order PERIPHERAL_BIRTH e k.here.there

    -- a younger device is among them
    young-unsaid : AllByRecursion (λ (y : List ℕ × ℕ). e.1 < y.1 → clock_item_of b y ≡ None) (child_entries b PERIPHERAL_BIRTH)
    young-unsaid =
        let rising : Rises (births_in (done ++ e ∷ more)) =
        subst (λ (es : List (List ℕ × ℕ)). Rises (births_in es)) split (rises b h.order PERIPHERAL_BIRTH).1 in
        subst (AllByRecursion (λ (y : List ℕ × ℕ). e.1 < y.1 → clock_item_of b y ≡ None)) (sym split)
        (all-append (λ (y : List ℕ × ℕ). e.1 < y.1 → clock_item_of b y ≡ None) done (e ∷ more)
        (all-imply (λ (y : List ℕ × ℕ). y.1 < e.1) (λ (y : List ℕ × ℕ). e.1 < y.1 → clock_item_of b y ≡ None)
        (λ y low high. absurd (let no : 0 < 0 = omega (arith, low, high) in omega arith)) done (rises-before done e more rising)) (
          (λ high. absurd (let no : 0 < 0 = omega (arith, high) in omega arith)),
          all-imply (λ (y : List ℕ × ℕ). clock_item_of b y ≡ None) (λ (y : List ℕ × ℕ). e.1 < y.1 → clock_item_of b y ≡ None) (λ y none high. none) more
              unsaid,
        ))

    late-plain : (n : ℕ) → Late e.1 n → (mul_of b n ≡ 1) × (div_of b n ≡ 1)
    late-plain n l =
        none-said b n
        (sym (ap (option_and_then (clock_item b)) l.fed.its)
        ∙ all-entry (λ (y : List ℕ × ℕ). e.1 < y.1 → clock_item_of b y ≡ None) l.fed.device (child_entries b PERIPHERAL_BIRTH) young-unsaid
        l.fed.stood.here.there l.young)

    clk-kind : kind_of b c.clock ≡ Some Clock
    clk-kind = h.sources.clocks e.1 c.clock k.realized c.its

    clk-source : source_of b c.clock ≡ Some (source_for b k.on.bus)
    clk-source = h.sources.fed e.1 k.on.bus c.clock k.realized k.on.on c.its

    -- no clock goes by itself, or by one that is younger
    goes-up : (fuel a n : ℕ) → Goes b fuel a n → a < n
    goes-up zero a n goes = absurd goes
    goes-up (suc fuel) a n (m, (at, inl is)) = let low : a < m = h.clocks.older m a at in omega (arith, low, is)
    goes-up (suc fuel) a n (m, (at, inr goes)) =
        let low : a < m = h.clocks.older m a at in
        let high : m < n = goes-up fuel m n goes in
        omega (arith, low, high)

    module _ (mul div : ℕ) (some : div ≢ 0) (fits : scaled_by mul div (period b c.clock) < 2 ^ 64) where
      abbrev now : Board
      now = new b c.clock mul div

      w : IsWritten b (new b c.clock mul div) c.clock
      w = set-written b c.clock mul div

      fuel : ℕ
      fuel = suc (length (births b))

      period-same : (n : ℕ) → to_depth (new b c.clock mul div) fuel n ≡ to_depth b fuel n → period (new b c.clock mul div) n ≡ period b n
      unfolding period fuel
      period-same n same = ap (λ (l : List ℕ). to_depth now (suc (length l)) n) w.births ∙ same

      apart : (n : ℕ) → (eqb n c.clock) ≡ false → (period (new b c.clock mul div) n ≡ period b n) ⊎ Goes b fuel c.clock n
      apart n p = by (either b now c.clock w fuel n p)
        where
          by : Either b now c.clock w fuel n → (period (new b c.clock mul div) n ≡ period b n) ⊎ Goes b fuel c.clock n
          by (inl same) = inl (period-same n same)
          by (inr goes) = inr goes

      -- its own period is as it was
      own-period : period (new b c.clock mul div) c.clock ≡ period b c.clock
      own-period =
          let s : ℕ = source_for b k.on.bus in
          let low : s < c.clock = h.clocks.older c.clock s clk-source in
          let other : eqb s c.clock ≡ false = ne_eqb s c.clock (λ is. omega (arith, low, is)) in
          period-fed now c.clock s (w.sources c.clock ∙ clk-source) ∙ child-same s other (apart s other) low
          ∙ sym (period-fed b c.clock s clk-source)
        where
          child-same : (s : ℕ) → eqb s c.clock ≡ false → (period (new b c.clock mul div) s ≡ period b s) ⊎ Goes b fuel c.clock s → s < c.clock
              → child_period (new b c.clock mul div) s ≡ child_period b s
          child-same s other (inl same) low =
              ap (λ (m : ℕ). scaled_by m (div_of now s) (period now s)) (w.mul s other)
              ∙ ap (λ (v : ℕ). scaled_by (mul_of b s) v (period now s)) (w.div s other)
              ∙ ap (scaled_by (mul_of b s) (div_of b s)) same
          child-same s other (inr goes) low =
              absurd (let high : c.clock < s = goes-up fuel c.clock s goes in let no : 0 < 0 = omega (arith, low, high) in omega arith)

      own-child : child_period (new b c.clock mul div) c.clock ≡ scaled_by mul div (period b c.clock)
      own-child =
          ap (λ (m : ℕ). scaled_by m (div_of now c.clock) (period now c.clock)) (new-mul b c.clock mul div h clk-kind)
          ∙ ap (λ (v : ℕ). scaled_by mul v (period now c.clock)) (new-div b c.clock mul div h clk-kind)
          ∙ ap (scaled_by mul div) own-period

      once : (p : ℕ) → scaled_by 1 1 p ≡ p
      once p = omega arith

      -- each period is short enough
      low-all : (most n : ℕ) → n < most → child_period (new b c.clock mul div) n < 2 ^ 64
      low-all zero n low = absurd (omega (arith, low))
      low-all (suc most) n low = go (eqb n c.clock) refl (λ m l. low-all most m l)
        where
          go : (t : Bool) → eqb n c.clock ≡ t → ((m : ℕ) → m < most → child_period (new b c.clock mul div) m < 2 ^ 64)
              → child_period (new b c.clock mul div) n < 2 ^ 64
          go true p rest =
              subst (λ (x : ℕ). child_period (new b c.clock mul div) x < 2 ^ 64) (sym (eqb-true n c.clock p))
              (subst (λ (x : ℕ). x < 2 ^ 64) (sym own-child) fits)
          go false p rest = of (apart n p)
            where
              of : (period (new b c.clock mul div) n ≡ period b n) ⊎ Goes b fuel c.clock n → child_period (new b c.clock mul div) n < 2 ^ 64
              of (inl same) =
                  let child : child_period now n ≡ child_period b n =
                  ap (λ (m : ℕ). scaled_by m (div_of now n) (period now n)) (w.mul n p)
                  ∙ ap (λ (v : ℕ). scaled_by (mul_of b n) v (period now n)) (w.div n p)
                  ∙ ap (scaled_by (mul_of b n) (div_of b n)) same in
                  subst (λ (x : ℕ). x < 2 ^ 64) (sym child) (h.clocks.fit.fits n)
              of (inr goes) =
                  let l : Late e.1 n = late-below fuel c.clock n e.1 e.1 clk-parent (omega arith) late-e goes in
                  let plain = late-plain n l in
                  let at : source_of b n ≡ Some l.source = l.fed.at in
                  let older_source : l.source < n = h.clocks.older n l.source at in
                  let child : child_period now n ≡ child_period now l.source =
                  ap (λ (m : ℕ). scaled_by m (div_of now n) (period now n)) (w.mul n p ∙ plain.0)
                  ∙ ap (λ (v : ℕ). scaled_by 1 v (period now n)) (w.div n p ∙ plain.1)
                  ∙ once (period now n)
                  ∙ period-fed now n l.source (w.sources n ∙ at) in
                  subst (λ (x : ℕ). x < 2 ^ 64) (sym child) (rest l.source (omega (arith, low, older_source)))

      none-over : (ns : List ℕ) → list_any (overflows (new b c.clock mul div)) ns ≡ false
      none-over [] = refl
      none-over (n ∷ ns) =
          let low : child_period now n < 2 ^ 64 = low-all (suc n) n (omega arith) in
          let short : overflows now n ≡ false = grind (arith, nat_tests, low) in
          rw (short, none-over ns) refl

      not-zero : (div == 0) ≡ false
      not-zero = ne_eqb div 0 some

      -- so it is taken
      pub factor-taken : clock_scaled b c.clock mul div ≡ Ok (called_all b (new b c.clock mul div) (clocks_below b c.clock) (new b c.clock mul div))
      factor-taken =
          ap
          (λ (t : Bool).
          if t then Err E46
          else clock_written b (set_named c.clock (codes "div") (val.Uint div) (set_named c.clock (codes "mul") (val.Uint mul) b)) c.clock)
          not-zero
          ∙ ap (λ (t : Bool). if t then Err E47 else Ok (called_all b now (clocks_below b c.clock) now)) (none-over (c.clock ∷ clocks_below b c.clock))
