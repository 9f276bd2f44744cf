-- As a device is unrealized with all that is below it, no clock goes any more by the clocks of those below, before its own stands still.
use Rattle.std.proofs.Common.{◌≡◌, refl, ap, sym, subst, ◌∙◌, ℕ, zero, suc, ◌+◌, ◌≤◌, true, false, ◌==◌, List, [], ◌∷◌, filter_map, length, slice_get, Option, Some, None, option_and_then, unwrap_or, arith}
use Rattle.qo_model.proofs.Common.{MACHINE_BIRTH, SYSTEM_CLOCK_BIRTH, Board, slots_at, source_of, among, bus_of, buses_of, by_depth, clock_of, kids_of, births, source_for, each, unrealize_turn, unrealized_bus, unrealized_device}
use Rattle.std.proofs.lemmas.Bool.{eq-eqb}
use Rattle.std.proofs.lemmas.Option.{same_Some}
use Rattle.std.proofs.Math.Bool.{or-true}
use Rattle.std.specs.List.{cons_option}
use Rattle.qo_sound.proofs.TestLemmas.{clash}
use Rattle.qo_sound_devices.specs.SoundPlaces.{HasOwner, IsHome, bridges, child_entries, listed, machines, owns, stands}
use Rattle.qo_sound_devices.proofs.DepthLemmas.{IsBusOf, is-bus_of, kid-of, kids-listed, room}
use Rattle.qo_sound_devices.proofs.DetachmentLemmas.{listed-kid, owned-bus}
use Rattle.qo_sound_devices.proofs.UnrealizingLemmas.{each-keeps, each-makes}
use Rattle.qo_sound_phases.proofs.ResetTreeLemmas.{Placed, one-parent}
use Rattle.qo_sound_bounds.specs.SoundSources.{IsDeviceClock, SoundSources}
use Rattle.qo_sound_bounds.proofs.ClockLemmas.{clock-listed, source-bridge, source-machines}
use Rattle.qo_sound_bounds.proofs.LeavingLemmas.{clock-acted, device-clock, device-less, device-own, source-acted}
use Rattle.qo_unplug.specs.Feeding.{FeedsKids, FeedsNone, FeedsWithin, IsKidsClock}
use Rattle.qo_unplug.specs.Unrealizing.{SameTree, bus_within, device_within}
use Rattle.qo_unplug.proofs.TreeLemmas.{same-clock}

-- what each step keeps is kept to a depth
module _ (P : Board → Type 0) (device : (d : ℕ) (c : Board) → P c → P (unrealized_device d c)) (bus : (m : ℕ) (c : Board) → P c → P (unrealized_bus m c)) where
  device-keeps : (b : Board) (levels d : ℕ) (c : Board) → P c → P (device_within b levels d c)
  unfolding device_within
  device-keeps b zero d c h = h
  device-keeps b (suc levels) d c h = turn (device-keeps b levels)
    where
      turn : ((k : ℕ) (e : Board) → P e → P (by_depth (unrealize_turn b) (λ d c. c) levels k e))
          → P (by_depth (unrealize_turn b) (λ d c. c) (suc levels) d c)
      turn keeps =
          device d _
          (each-keeps P _ (buses_of b d) (λ m q e k. bus m _ (each-keeps P _ (kids_of b m) (λ n r x j. keeps n x j) e k)) c h)

  bus-keeps : (b : Board) (levels m : ℕ) (c : Board) → P c → P (bus_within b levels m c)
  unfolding bus_within
  bus-keeps b levels m c h = bus m _ (each-keeps P _ (kids_of b m) (λ n r x j. device-keeps b levels n x j) c h)

-- clocks stay those of their devices

clock-device : (b : Board) (levels d : ℕ) (c : Board) (x : ℕ) → clock_of (device_within b levels d c) x ≡ clock_of c x
clock-device b levels d c x =
    device-keeps (λ e. clock_of e x ≡ clock_of c x) (λ n e h. device-clock n e x ∙ h) (λ m e h. clock-acted m 0 e x ∙ h) b levels d c refl

clock-bus : (b : Board) (levels m : ℕ) (c : Board) (x : ℕ) → clock_of (bus_within b levels m c) x ≡ clock_of c x
clock-bus b levels m c x =
    bus-keeps (λ e. clock_of e x ≡ clock_of c x) (λ n e h. device-clock n e x ∙ h) (λ k e h. clock-acted k 0 e x ∙ h) b levels m c refl

-- a clock that goes by none goes on so

device-none : (d n : ℕ) (c : Board) → source_of c n ≡ None → source_of (unrealized_device d c) n ≡ None
device-none d n c e = go (source_of (unrealized_device d c) n) refl
  where
    go : (o : Option ℕ) → source_of (unrealized_device d c) n ≡ o → source_of (unrealized_device d c) n ≡ None
    go None q = q
    go (Some s) q = absurd (let bad : None ≡ Some s = sym e ∙ device-less d c n s q in cc)

within-none : (b : Board) (levels d n : ℕ) (c : Board) → source_of c n ≡ None → source_of (device_within b levels d c) n ≡ None
within-none b levels d n c e =
    device-keeps (λ x. source_of x n ≡ None) (λ k x h. device-none k n x h) (λ m x h. source-acted m 0 x n ∙ h) b levels d c e

bus-none : (b : Board) (levels m n : ℕ) (c : Board) → source_of c n ≡ None → source_of (bus_within b levels m c) n ≡ None
bus-none b levels m n c e =
    bus-keeps (λ x. source_of x n ≡ None) (λ k x h. device-none k n x h) (λ k x h. source-acted k 0 x n ∙ h) b levels m c e

-- the clock of a device that was unrealized goes by none

device-stopped : (b : Board) (levels k n : ℕ) → FeedsWithin b levels k → (c : Board) → clock_of c k ≡ Some n → source_of (device_within b levels k c) n ≡ None
unfolding device_within bus_within
device-stopped b zero k n feeds c e = absurd feeds
device-stopped b (suc levels) k n feeds c e =
    device-own k (each (bus_within b levels) (buses_of b k) c) n
    (each-keeps (λ x. clock_of x k ≡ clock_of c k) (bus_within b levels) (buses_of b k) (λ m q x h. clock-bus b levels m x k ∙ h) c refl ∙ e)

module _ (b : Board) (levels n k : ℕ) (feeds : FeedsWithin b levels k) where
  -- where its clock is this one
  abbrev Stopped : Board → Type 0
  Stopped c = clock_of c k ≡ Some n → source_of c n ≡ None

  by-kid : (c : Board) → Stopped (device_within b levels k c)
  by-kid c e = device-stopped b levels k n feeds c (sym (clock-device b levels k c k) ∙ e)

  after-kid : (x : ℕ) (c : Board) → Stopped c → Stopped (device_within b levels x c)
  after-kid x c h e = within-none b levels x n c (h (sym (clock-device b levels x c k) ∙ e))

  after-own : (m : ℕ) (c : Board) → Stopped c → Stopped (unrealized_bus m c)
  after-own m c h e = source-acted m 0 c n ∙ h (sym (clock-acted m 0 c k) ∙ e)

  by-bus : (m : ℕ) → among (kids_of b m) k ≡ true → (c : Board) → Stopped (bus_within b levels m c)
  unfolding bus_within
  by-bus m on c =
      after-own m (each (device_within b levels) (kids_of b m) c) (each-makes Stopped (device_within b levels) (kids_of b m) k on by-kid after-kid c)

  after-bus : (m : ℕ) (c : Board) → Stopped c → Stopped (bus_within b levels m c)
  after-bus m c h e = bus-none b levels m n c (h (sym (clock-bus b levels m c k) ∙ e))

  by-buses : (ms : List ℕ) (m : ℕ) → among ms m ≡ true → among (kids_of b m) k ≡ true → (c : Board) → Stopped (each (bus_within b levels) ms c)
  by-buses ms m its on c = each-makes Stopped (bus_within b levels) ms m its (by-bus m on) after-bus c

-- so no clock goes by that of a device whose buses were
pub buses-stopped : (b : Board) (levels d : ℕ) → FeedsWithin b (suc levels) d → (c : Board) → SameTree b (each (bus_within b levels) (buses_of b d) c)
    → FeedsNone d (each (bus_within b levels) (buses_of b d) c)
buses-stopped b levels d feeds c same k its n goes =
    let now : Board = each (bus_within b levels) (buses_of b d) c in
    let i : IsKidsClock b d n = feeds.0 k n (sym (same-clock b now same d) ∙ its) (same.sources n k goes) in
    let none : source_of now n ≡ None =
    by-buses b levels n i.kid (feeds.1 i.bus i.kid i.its i.on) (buses_of b d) i.bus i.its i.on c (same-clock b now same i.kid ∙ i.clock) in
    let bad : None ≡ Some k = sym none ∙ goes in
    none-some k bad
  where
    none-some : (s : ℕ) → None ≡ Some s → ⊥
    none-some s e = cc

-- who is found in a slot is among those in slots

pub in-slots : {X : Type 0} (f : X → Option ℕ) (i n : ℕ) (xs : List X) → option_and_then f (slice_get xs i) ≡ Some n → among (filter_map f xs) n ≡ true
in-slots f i n [] e = cc
in-slots {X} f zero n (x ∷ xs) e = go (f x) e
  where
    go : (o : Option ℕ) → o ≡ Some n → among (cons_option o (filter_map f xs)) n ≡ true
    go None q = cc
    go (Some m) q = rw (eq-eqb n m (sym (same_Some m n q))) refl
in-slots {X} f (suc i) n (x ∷ xs) e = go (f x) (in-slots f i n xs e)
  where
    go : (o : Option ℕ) → among (filter_map f xs) n ≡ true → among (cons_option o (filter_map f xs)) n ≡ true
    go None h = h
    go (Some m) h = rw h (or-true (n == m))

-- on a sound board

module _ (b : Board) (k : Placed b) (h : SoundSources b) where
  feeds-kids : (d : ℕ) → stands b d ≡ true → FeedsKids b d
  feeds-kids d stood c n its goes = owner (k.places.owner i.device home.bus there home.on)
    where
      i : IsDeviceClock b n
      i = h.only n c goes

      there : stands b i.device ≡ true
      there = k.places.only i.device i.realized

      home : IsHome b i.device
      home = k.places.home i.device there (λ w. cc)

      by : source_for b home.bus ≡ c
      by = same_Some (source_for b home.bus) c (sym (h.fed i.device home.bus n i.realized home.on i.its) ∙ goes)

      aside : c ≡ SYSTEM_CLOCK_BIRTH → IsKidsClock b d n
      aside is =
          let at : d ≡ MACHINE_BIRTH =
          one-parent b k d MACHINE_BIRTH c (clock-listed b k.firm d c its)
          (subst (λ (x : ℕ). listed x (child_entries b MACHINE_BIRTH) ≡ true) (sym is) k.places.parts.1.1.1.1.0) in
          clash (sym stood ∙ ap (stands b) at ∙ k.places.aside.1.0)

      owner : HasOwner b home.bus → IsKidsClock b d n
      owner (machines u) = aside (sym by ∙ source-machines b k home.bus u)
      owner (bridges p s o) = bridge (clock_of b p) refl
        where
          bridge : (x : Option ℕ) → clock_of b p ≡ x → IsKidsClock b d n
          bridge None e = aside (sym by ∙ source-bridge b k p home.bus s o ∙ ap (λ (y : Option ℕ). unwrap_or y SYSTEM_CLOCK_BIRTH) e)
          bridge (Some m) e =
              let is : m ≡ c = sym (source-bridge b k p home.bus s o ∙ ap (λ (y : Option ℕ). unwrap_or y SYSTEM_CLOCK_BIRTH) e) ∙ by in
              let same : p ≡ d = one-parent b k p d c (clock-listed b k.firm p c (e ∙ ap (λ (y : ℕ). Some y) is)) (clock-listed b k.firm d c its) in
              record {
                bus = home.bus;
                kid = i.device;
                its = owned-bus b home.bus home.is_bus (slots_at b d) (subst (λ (x : ℕ). owns b x home.bus ≡ true) same o);
                on = listed-kid i.device (slots_at b home.bus) home.kid;
                clock = i.its;
              }

  -- no device has more than so many below it
  feeds-low : (levels d q : ℕ) → stands b d ≡ true → bus_of b d ≡ Some q → 9 ≤ levels + k.depth q → FeedsWithin b levels d
  feeds-low zero d q e on most =
      absurd (let shallow : k.depth q ≤ 8 = k.places.shallow.most q (k.places.owner d q e on) in omega (arith, shallow, most))
  feeds-low (suc levels) d q e on most = (
    feeds-kids d e,
    λ m x im ix.
        let bus : IsBusOf b d m = is-bus_of b d m im in
        let kid : (stands b x ≡ true) × (bus_of b x ≡ Some m) =
        kid-of k.depth None (λ y. false) b k.places m x bus.bus (kids-listed x (slots_at b m) ix) in
        let deeper : k.depth m ≡ suc (k.depth q) = k.places.shallow.below d q m e on bus.owned in
        feeds-low levels x m kid.0 kid.1 (omega (arith, most, deeper)),
  )

  pub feeds-within : (d : ℕ) → stands b d ≡ true → (levels : ℕ) → levels ≡ suc (length (births b)) → FeedsWithin b levels d
  feeds-within d stood levels is =
      let home : IsHome b d = k.places.home d stood (λ w. cc) in
      let many : 8 ≤ length (births b) = room k.depth None (λ x. false) b k.firm k.places in
      feeds-low levels d home.bus stood home.on (omega (arith, many, is))
