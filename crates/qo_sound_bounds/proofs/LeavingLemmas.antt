-- A device that is detached with all that is below it: the clocks of devices that are unrealized lose their sources, and those of the others keep them.
use Rattle.std.proofs.Common.{◌≡◌, refl, ap, sym, subst, ◌∙◌, ℕ, zero, suc, true, false, ◌==◌, List, [], ◌∷◌, length, Option, Some, None, option_map, option_and_then, codes, arith, slice_get}
use Rattle.qo_model.proofs.Common.{option_map_or, MACHINE_BIRTH, Unrealize, Val, Board, Record, is_live, Slot, plain, child, strong, weak, alias, record_of, slots_at, with_changed, with_val, acted, device_period, source_of, bus_of, child_named, clock_of, is_realized, all_completed, completed, reset_whole, index_from, source_for, edit, pin, put_in_order, detach, disconnected, is_named, set_named, unrealize, unrealized_bus, unrealized_device, unseen, unseen_named}
use Rattle.std.proofs.lemmas.Bool.{eqb-true, eq-eqb}
use Rattle.std.proofs.lemmas.Option.{same_Some}
use Rattle.qo_values.specs.declared.properties.Val.TheVariants as val
use Rattle.qo_model.specs.Clocks.{weak_in}
use Rattle.qo_model.specs.Board.{Removal}
use Rattle.qo_model.proofs.FirstSlotLemmas.{named_in, first-changed, none-found, named-changed}
use Rattle.qo_sound.proofs.TreeKeptLemmas.{sound_kept_lem}
use Rattle.qo_sound.proofs.AdditionStepsLemmas.{set-by}
use Rattle.qo_sound.proofs.SeveringLemmas.{near-pin, pin-pins}
use Rattle.qo_sound.proofs.TestLemmas.{decide, clash}
use Rattle.qo_sound.proofs.UnplugLemmas.{held-unrealize, HasPins}
use Rattle.qo_sound.proofs.ViewLemmas.{PinsRootAlone, rest-from_sound}
use Rattle.qo_sound_devices.specs.SoundDevices.{SoundDevices}
use Rattle.qo_sound_devices.specs.SoundLists.{IsOn}
use Rattle.qo_sound_devices.specs.SoundPlaces.{IsHome, child_entries, listed, stands}
use Rattle.qo_sound_devices.proofs.DevicesLawLemmas.{devices_kept_lem}
use Rattle.qo_sound_devices.proofs.DropLemmas.{edited-slots}
use Rattle.qo_sound_devices.proofs.DepthLemmas.{unrealize-dimmed, unrealize-only}
use Rattle.qo_sound_devices.proofs.PinLemmas.{pin-realized, pin-clock, pin-bus}
use Rattle.qo_sound_devices.proofs.ResetLemmas.{detached-below, first-on}
use Rattle.qo_sound_devices.proofs.SourceLemmas.{edit-other}
use Rattle.qo_sound_devices.proofs.UnrealizingLemmas.{FewerRealized, dimmed-none, dimmed-then, dims-bus, Fades, fades-device, reads}
use Rattle.qo_sound_clocks.proofs.DecreaseLemmas.{Fewer, fewer-detached, fewer-none}
use Rattle.qo_sound_clocks.proofs.ReadLemmas.{named-reads, Reads, tree-reads}
use Rattle.qo_sound_clocks.proofs.DependenceLemmas.{acted-slots}
use Rattle.qo_sound_phases.proofs.ResetTreeLemmas.{one-parent, Placed, placed}
use Rattle.qo_sound_phases.proofs.DetachmentLemmas.{frame, kp, lit-stands, unstood}
use Rattle.qo_sound_phases.proofs.UnrealizingLemmas.{unrealize-walk}
use Rattle.qo_sound_bounds.specs.SoundSources.{IsDeviceClock, SoundSources}
use Rattle.qo_sound_bounds.proofs.ClockLemmas.{clock-listed, frame-clock, frame-sources, source-live}
use Rattle.qo_sound_bounds.proofs.SightLemmas.{KeepsClockLinks, sight-detached, sight-none}
use Rattle.qo_sound_bounds.proofs.SourceLemmas.{pulse-sources}
use Rattle.qo_sound_bounds.proofs.ClockWriteLemmas.{set-source}
use Rattle.qo_values.specs.declared.kinds.ResetKind.TheVariants.{Cold}

-- a clock is disconnected

weak-unseen : (s : Option Slot) → option_and_then weak_in (option_map unseen s) ≡ None
weak-unseen None = refl
weak-unseen (Some (plain v)) = refl
weak-unseen (Some (child m)) = refl
weak-unseen (Some (strong t target)) = refl
weak-unseen (Some (weak t target)) = refl
weak-unseen (Some (alias m property)) = refl

child-unseen : (s : Slot) → child_named (unseen s) ≡ child_named s
child-unseen (plain v) = refl
child-unseen (child m) = refl
child-unseen (strong t target) = refl
child-unseen (weak t target) = refl
child-unseen (alias m property) = refl

child-val : (v : Val) (s : Slot) → child_named (with_val v s) ≡ child_named s
child-val v (plain w) = refl
child-val v (child m) = refl
child-val v (strong t target) = refl
child-val v (weak t target) = refl
child-val v (alias m property) = refl

unseen-own : (n : ℕ) (c : Board) → source_of (unseen_named n (codes "source") c) n ≡ None
unseen-own n c = go (index_from (is_named (codes "source")) 0 (slots_at c n)) refl
  where
    go : (o : Option ℕ) → index_from (is_named (codes "source")) 0 (slots_at c n) ≡ o → source_of (unseen_named n (codes "source") c) n ≡ None
    go None e = rw (unseen_named, e) (ap (option_and_then weak_in) (none-found (codes "source") (slots_at c n) 0 e))
    go (Some i) e = rw (unseen_named, e) (at_owner (record_of c n) refl)
      where
        at_owner : (o : Option Record) → record_of c n ≡ o → source_of (edit n (with_changed unseen i) c) n ≡ None
        at_owner None q = absurd (let clash : None ≡ Some i = rw q at e in cc)
        at_owner (Some r) q =
            let was : slots_at c n ≡ r.slots = ap (λ (o : Option Record). option_map_or (λ (y : Record). y.slots) o []) q in
            let first : index_from (is_named (codes "source")) 0 r.slots ≡ Some i = ap (index_from (is_named (codes "source")) 0) (sym was) ∙ e in
            ap (λ (x : List (List ℕ × Slot)). option_and_then weak_in (named_in (codes "source") x))
            (edited-slots c n (with_changed unseen i) (λ y. refl) r q)
            ∙ ap (option_and_then weak_in) (first-changed unseen (codes "source") r.slots 0 i i first (omega arith))
            ∙ weak-unseen (named_in (codes "source") r.slots)

unseen-other : (n k : ℕ) (c : Board) → (k == n) ≡ false → source_of (unseen_named n (codes "source") c) k ≡ source_of c k
unseen-other n k c apart = go (index_from (is_named (codes "source")) 0 (slots_at c n)) refl
  where
    go : (o : Option ℕ) → index_from (is_named (codes "source")) 0 (slots_at c n) ≡ o → source_of (unseen_named n (codes "source") c) k ≡ source_of c k
    go None e = rw (unseen_named, e) refl
    go (Some i) e =
        rw (unseen_named, e)
        (ap (λ (o : Option Record). option_and_then weak_in (named_in (codes "source") (option_map_or (λ (r : Record). r.slots) o [])))
        (edit-other k n (with_changed unseen i) (λ r. refl) apart c))

disconnected-own : (n : ℕ) (c : Board) → source_of (disconnected (Some n) c) n ≡ None
disconnected-own n c = set-source n (codes "period") (val.Uint 0) (unseen_named n (codes "source") c) n ∙ unseen-own n c

disconnected-other : (o : Option ℕ) (k : ℕ) (c : Board) → ((n : ℕ) → o ≡ Some n → (k == n) ≡ false) → source_of (disconnected o c) k ≡ source_of c k
disconnected-other None k c apart = refl
disconnected-other (Some n) k c apart =
    set-source n (codes "period") (val.Uint 0) (unseen_named n (codes "source") c) k ∙ unseen-other n k c (apart n refl)

-- none goes by another than before
pub less-disconnected : (o : Option ℕ) (k s : ℕ) (c : Board) → source_of (disconnected o c) k ≡ Some s → source_of c k ≡ Some s
less-disconnected None k s c e = e
less-disconnected (Some n) k s c e =
    decide (k == n)
    (λ q.
    let none : source_of (disconnected (Some n) c) k ≡ None = ap (source_of (disconnected (Some n) c)) (eqb-true k n q) ∙ disconnected-own n c in
    absurd (let bad : None ≡ Some s = sym none ∙ e in cc))
    (λ q. sym (disconnected-other (Some n) k c (λ m i. ap (λ (y : ℕ). k == y) (sym (same_Some n m i)) ∙ q)) ∙ e)

-- clocks stay those of their devices

clock-set : (n : ℕ) (name : List ℕ) (v : Val) (c : Board) (x : ℕ) → clock_of (set_named n name v c) x ≡ clock_of c x
clock-set n name v c x =
    set-by (λ d. clock_of d x ≡ clock_of c x) n name c refl v
    (λ i e.
    reads (with_val v) n i c (λ slots. option_and_then child_named (named_in (codes "clk") slots))
    (λ slots q. named-changed child_named (with_val v) (child-val v) (codes "clk") i slots) x)

clock-unseen : (n : ℕ) (c : Board) (x : ℕ) → clock_of (unseen_named n (codes "source") c) x ≡ clock_of c x
clock-unseen n c x = go (index_from (is_named (codes "source")) 0 (slots_at c n)) refl
  where
    go : (o : Option ℕ) → index_from (is_named (codes "source")) 0 (slots_at c n) ≡ o → clock_of (unseen_named n (codes "source") c) x ≡ clock_of c x
    go None e = rw (unseen_named, e) refl
    go (Some i) e =
        rw (unseen_named, e)
        (reads unseen n i c (λ slots. option_and_then child_named (named_in (codes "clk") slots))
        (λ slots q. named-changed child_named unseen child-unseen (codes "clk") i slots) x)

clock-disconnected : (o : Option ℕ) (c : Board) (x : ℕ) → clock_of (disconnected o c) x ≡ clock_of c x
clock-disconnected None c x = refl
clock-disconnected (Some n) c x = clock-set n (codes "period") (val.Uint 0) (unseen_named n (codes "source") c) x ∙ clock-unseen n c x

pub clock-acted : (n period : ℕ) (c : Board) (x : ℕ) → clock_of (acted Unrealize n period c) x ≡ clock_of c x
clock-acted n period c x =
    ap (λ (ss : List (List ℕ × Slot)). option_and_then child_named (named_in (codes "clk") ss)) (acted-slots Unrealize n period c x)

pub source-acted : (n period : ℕ) (c : Board) (x : ℕ) → source_of (acted Unrealize n period c) x ≡ source_of c x
source-acted n period c x =
    ap (λ (ss : List (List ℕ × Slot)). option_and_then weak_in (named_in (codes "source") ss)) (acted-slots Unrealize n period c x)

pub device-clock : (d : ℕ) (c : Board) (x : ℕ) → clock_of (unrealized_device d c) x ≡ clock_of c x
device-clock d c x =
    clock-set d (codes "realized") (val.Bool false) (disconnected (clock_of c d) (acted Unrealize d (device_period c d) c)) x
    ∙ clock-disconnected (clock_of c d) (acted Unrealize d (device_period c d) c) x
    ∙ clock-acted d (device_period c d) c x

pub device-other : (d : ℕ) (c : Board) (k : ℕ) → ((n : ℕ) → clock_of c d ≡ Some n → (k == n) ≡ false) → source_of (unrealized_device d c) k ≡ source_of c k
device-other d c k apart =
    set-source d (codes "realized") (val.Bool false) (disconnected (clock_of c d) (acted Unrealize d (device_period c d) c)) k
    ∙ disconnected-other (clock_of c d) k (acted Unrealize d (device_period c d) c) apart
    ∙ source-acted d (device_period c d) c k

pub device-own : (d : ℕ) (c : Board) (n : ℕ) → clock_of c d ≡ Some n → source_of (unrealized_device d c) n ≡ None
device-own d c n e =
    set-source d (codes "realized") (val.Bool false) (disconnected (clock_of c d) (acted Unrealize d (device_period c d) c)) n
    ∙ ap (λ (o : Option ℕ). source_of (disconnected o (acted Unrealize d (device_period c d) c)) n) e
    ∙ disconnected-own n (acted Unrealize d (device_period c d) c)

pub device-less : (d : ℕ) (c : Board) (k s : ℕ) → source_of (unrealized_device d c) k ≡ Some s → source_of c k ≡ Some s
device-less d c k s e =
    sym (source-acted d (device_period c d) c k)
    ∙ less-disconnected (clock_of c d) k s (acted Unrealize d (device_period c d) c)
    (sym (set-source d (codes "realized") (val.Bool false) (disconnected (clock_of c d) (acted Unrealize d (device_period c d) c)) k) ∙ e)

-- what is told of the sources as devices are unrealized
module _ (b p : Board) (k : Placed p) where
  record Told (c : Board) : Type 0 where
    dimmed : FewerRealized p c
    clock : (x : ℕ) → clock_of c x ≡ clock_of p x
    fed : (x bus m : ℕ) → is_realized c x ≡ true → bus_of p x ≡ Some bus → clock_of p x ≡ Some m → source_of c m ≡ Some (source_for b bus)
    only : (m s : ℕ) → source_of c m ≡ Some s → IsDeviceClock c m

  told-bus : (m : ℕ) (c : Board) → Told c → Told (unrealized_bus m c)
  told-bus m c h =
      record {
        dimmed = dimmed-then p c (unrealized_bus m c) h.dimmed (dims-bus m c).dimmed;
        clock = λ x. clock-acted m 0 c x ∙ h.clock x;
        fed = λ x bus j r on its. source-acted m 0 c j ∙ h.fed x bus j (sym ((dims-bus m c).same x) ∙ r) on its;
        only = λ j s e.
            let i : IsDeviceClock c j = h.only j s (sym (source-acted m 0 c j) ∙ e) in
            record { device = i.device; realized = (dims-bus m c).same i.device ∙ i.realized; its = clock-acted m 0 c i.device ∙ i.its };
      }

  told-device : (d : ℕ) (c : Board) → Told c → Told (unrealized_device d c)
  told-device d c h =
      record {
        dimmed = dimmed-then p c z h.dimmed f.dimmed;
        clock = λ x. device-clock d c x ∙ h.clock x;
        fed = fed;
        only = only;
      }
    where
      z : Board
      z = unrealized_device d c

      f : Fades d c (unrealized_device d c)
      f = fades-device d c

      -- who is still realized is another
      apart : (x : ℕ) → is_realized (unrealized_device d c) x ≡ true → (x == d) ≡ false
      apart x r = decide (x == d) (λ q. clash (sym (subst (λ (y : ℕ). is_realized z y ≡ true) (eqb-true x d q) r) ∙ f.gone)) (λ q. q)

      fed : (x bus m : ℕ) → is_realized (unrealized_device d c) x ≡ true → bus_of p x ≡ Some bus → clock_of p x ≡ Some m
          → source_of (unrealized_device d c) m ≡ Some (source_for b bus)
      fed x bus m r on its =
          device-other d c m other ∙ h.fed x bus m (sym (f.same x (apart x r)) ∙ r) on its
        where
          other : (n : ℕ) → clock_of c d ≡ Some n → (m == n) ≡ false
          other n e = decide (m == n) same (λ q. q)
            where
              same : (m == n) ≡ true → (m == n) ≡ false
              same q =
                  let mine : listed m (child_entries p d) ≡ true =
                  clock-listed p k.firm d m (sym (h.clock d) ∙ e ∙ ap (λ (y : ℕ). Some y) (sym (eqb-true m n q))) in
                  let is : x ≡ d = one-parent p k x d m (clock-listed p k.firm x m its) mine in
                  clash (sym (eq-eqb x d is) ∙ apart x r)

      only : (m s : ℕ) → source_of (unrealized_device d c) m ≡ Some s → IsDeviceClock (unrealized_device d c) m
      only m s e = by (clock_of c d) refl
        where
          left : ((n : ℕ) → clock_of c d ≡ Some n → (m == n) ≡ false) → IsDeviceClock (unrealized_device d c) m
          left other =
              let i : IsDeviceClock c m = h.only m s (sym (device-other d c m other) ∙ e) in
              let away : (i.device == d) ≡ false =
              decide (i.device == d)
              (λ q. clash (sym (eq-eqb m m refl) ∙ other m (ap (clock_of c) (sym (eqb-true i.device d q)) ∙ i.its))) (λ q. q) in
              record { device = i.device; realized = f.same i.device away ∙ i.realized; its = device-clock d c i.device ∙ i.its }

          by : (o : Option ℕ) → clock_of c d ≡ o → IsDeviceClock (unrealized_device d c) m
          by None q = left (λ n w. absurd (let bad : None ≡ Some n = sym q ∙ w in cc))
          by (Some n) q =
              decide (m == n)
              (λ w.
              let none : source_of (unrealized_device d c) m ≡ None = ap (source_of z) (eqb-true m n w) ∙ device-own d c n q in
              absurd (let bad : None ≡ Some s = sym none ∙ e in cc))
              (λ w. left (λ j v. ap (λ (y : ℕ). m == y) (same_Some j n (sym v ∙ q)) ∙ w))

module _ (b : Board) (d : ℕ) (s : SoundDevices b) (stood : stands b d ≡ true) (h : SoundSources b) where
  abbrev u : Board
  u = unrealize (pin b d) d

  kb : Placed b
  kb = placed b s

  kz : Placed (detach b d)
  kz = placed (detach b d) (devices_kept_lem.detached b d s stood)

  told-first : Told b (pin b d) (kp b d s stood) (pin b d)
  unfolding pin
  told-first =
      record {
        dimmed = dimmed-none (pin b d);
        clock = λ x. refl;
        fed = h.fed;
        only = λ m q w. let i : IsDeviceClock b m = h.only m q w in record { device = i.device; realized = i.realized; its = i.its };
      }

  told : Told b (pin b d) (kp b d s stood) (unrealize (pin b d) d)
  told =
      unrealize-walk (pin b d) d (Told b (pin b d) (kp b d s stood)) (λ x c v t. told-device b (pin b d) (kp b d s stood) x c t)
      (λ x m c v i t. told-bus b (pin b d) (kp b d s stood) m c t) told-first

  -- names differ on the way
  sits : HasPins (put_in_order d (1 ∷ [])) (unrealize (pin b d) d)
  sits =
      let rest : PinsRootAlone b = rest-from_sound b s.tree in
      held-unrealize (put_in_order d (1 ∷ [])) d (pin b d)
      (record { near = near-pin b d rest.used; pins = pin-pins b d ∙ ap (put_in_order d) rest.pinned })

  on : Reads (unrealize (pin b d) d)
  on = named-reads (unrealize (pin b d) d) sits.near.firm.named

  now : Reads (detach b d)
  now = tree-reads (detach b d) (sound_kept_lem.detached b d s.tree)

  sight : KeepsClockLinks (unrealize (pin b d) d) (detach b d)
  sight = sight-detached u b d (sight-none u)

  fewer : Fewer (unrealize (pin b d) d) (detach b d)
  fewer = fewer-detached u b d (fewer-none u)

  was : (x : ℕ) → is_realized (unrealize (pin b d) d) x ≡ true → is_realized b x ≡ true
  was x r = sym (pin-realized b d x) ∙ (unrealize-dimmed (pin b d) d).fading x r

  lit : (x : ℕ) → is_realized (detach b d) x ≡ true → is_realized (unrealize (pin b d) d) x ≡ true
  lit x r =
      let there : stands (detach b d) x ≡ true = kz.places.only x r in
      let before : is_realized b x ≡ true = kb.places.each x ((frame b d s stood).stood x there) refl in
      decide (is_realized (unrealize (pin b d) d) x) (λ q. q)
      (λ q. absurd (unstood b d s stood x (unrealize-only (pin b d) d x (pin-realized b d x ∙ before) q) there))

  pub detach-sources : SoundSources (detach b d)
  detach-sources =
      frame-sources b (detach b d) kb kz (frame b d s stood) (unrealize (pin b d) d) (λ x. told.clock x ∙ pin-clock b d x) lit
      (λ x r. lit-stands b d s stood x (kb.places.only x (was x r)) r)
      (λ m q w. on.source m q ((fewer m).source q (now.seen m q w)))
      (λ m q w i j. now.source m q (sight.seen m q i j (on.seen m q w)))
      (λ x bus m r its clk. told.fed x bus m r (pin-bus b d x ∙ its) (pin-clock b d x ∙ clk)) told.only h was

  -- a clock that stays goes by the one that it went by once all was unrealized
  pub detach-source : (n : ℕ) → is_live (detach b d) n ≡ true → source_of (detach b d) n ≡ source_of (unrealize (pin b d) d) n
  detach-source n live = go (source_of (unrealize (pin b d) d) n) refl
    where
      back : (m : ℕ) → source_of (detach b d) n ≡ Some m → source_of (unrealize (pin b d) d) n ≡ Some m
      back m w = on.source n m ((fewer n).source m (now.seen n m w))

      none : source_of (unrealize (pin b d) d) n ≡ None → (o : Option ℕ) → source_of (detach b d) n ≡ o
          → source_of (detach b d) n ≡ source_of (unrealize (pin b d) d) n
      none e None w = w ∙ sym e
      none e (Some m) w = absurd (let bad : None ≡ Some m = sym e ∙ back m w in cc)

      go : (o : Option ℕ) → source_of (unrealize (pin b d) d) n ≡ o → source_of (detach b d) n ≡ source_of (unrealize (pin b d) d) n
      go None e = none e (source_of (detach b d) n) refl
      go (Some m) e =
          let i : IsDeviceClock (unrealize (pin b d) d) n = told.only n m e in
          let there : stands (detach b d) i.device ≡ true = lit-stands b d s stood i.device (kb.places.only i.device (was i.device i.realized)) i.realized in
          let home : IsHome (detach b d) i.device = kz.places.home i.device there (λ w. cc) in
          let its : clock_of (detach b d) i.device ≡ Some n =
          frame-clock b (detach b d) kb kz (frame b d s stood) i.device there ∙ sym (told.clock i.device ∙ pin-clock b d i.device) ∙ i.its in
          let fed : source_of (detach b d) n ≡ Some (source_for (detach b d) home.bus) =
          detach-sources.fed i.device home.bus n (kz.places.each i.device there refl) home.on its in
          fed ∙ sym (back (source_for (detach b d) home.bus) fed)

  -- what it goes by is there
  pub detach-linked : (n m : ℕ) → source_of (detach b d) n ≡ Some m → is_live (detach b d) m ≡ true
  detach-linked n m goes =
      let i : IsDeviceClock (detach b d) n = detach-sources.only n m goes in
      let there : stands (detach b d) i.device ≡ true = kz.places.only i.device i.realized in
      let home : IsHome (detach b d) i.device = kz.places.home i.device there (λ w. cc) in
      let fed : source_of (detach b d) n ≡ Some (source_for (detach b d) home.bus) =
      detach-sources.fed i.device home.bus n i.realized home.on i.its in
      subst (λ (x : ℕ). is_live (detach b d) x ≡ true) (same_Some (source_for (detach b d) home.bus) m (sym fed ∙ goes))
      (source-live (detach b d) kz home.bus (kz.places.owner i.device home.bus there home.on))

  -- what is read of clocks once all was unrealized
  pub unrealized-reads : Reads (unrealize (pin b d) d)
  unrealized-reads = on

-- the removals that are pending come to their end, and the machine is reset
completed-sources : (times : ℕ) (b : Board) → SoundDevices b → SoundSources b → SoundDevices (all_completed times b) × SoundSources (all_completed times b)
completed-sources zero b d h = (d, h)
completed-sources (suc times) b d h = go (slice_get b.pending 0) refl (completed-sources times)
  where
    go : (o : Option Removal) → slice_get b.pending 0 ≡ o
        → ((c : Board) → SoundDevices c → SoundSources c → SoundDevices (all_completed times c) × SoundSources (all_completed times c))
        → SoundDevices (all_completed (suc times) b) × SoundSources (all_completed (suc times) b)
    go None e rest = rw (all_completed, e) (d, h)
    go (Some n) e rest =
        let on : IsOn b n.birth = first-on (IsOn b) b.pending d.lists.pending n e in
        rw (all_completed, e) (rest (completed b n.birth) (detached-below b n.birth d on.0) (detach-sources b n.birth d on.0 h))

pub reset-sources : (b : Board) → SoundDevices b → SoundSources b → SoundSources (reset_whole b)
unfolding reset_whole
reset-sources b d h =
    let k : SoundDevices (all_completed (length b.pending) b) × SoundSources (all_completed (length b.pending) b) =
    completed-sources (length b.pending) b d h in
    pulse-sources (all_completed (length b.pending) b) MACHINE_BIRTH Cold k.0 k.1
