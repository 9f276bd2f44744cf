-- A device that is detached, with all that is below it, keeps phases sound: its holds go with it.
use Rattle.std.proofs.Common.{◌≡◌, refl, ap, sym, subst, ◌∙◌, ℕ, ◌≤◌, ◌<◌, Bool, true, false, ◌==◌, List, [], ◌∷◌, length, sum_by, Option, Some, None, is_some, arith, codes}
use Rattle.qo_model.proofs.Common.{count_by, if◌then◌else◌, AllByRecursion, list_any, option_map_or, ANONYMOUS_BIRTH, MACHINE_BIRTH, MEMORY_BUS_BIRTH, PERIPHERAL_BIRTH, ROOT_BIRTH, ROOT_BUS_BIRTH, TypeId, Board, Record, is_live, kind_of, record_of, slots_at, among, bus_of, buses_of, is_realized, kids_of, births, is_of, after, finalize, pin, put_in_order, refs, count, post, is_a, apart_within, detach, left_bus, lost_buses, unrealize}
use Rattle.std.proofs.lemmas.Option.{same_Some}
use Rattle.std.proofs.Math.Bool.{or-true}
use Rattle.qo_model.proofs.ReleaseScopeLemmas.{release_leaves}
use Rattle.qo_model.proofs.ReleaseLemmas.{found-within}
use Rattle.qo_model.proofs.StepLemmas.{is_some-map}
use Rattle.qo_sound.proofs.DetachmentStepsLemmas.{step-detach}
use Rattle.qo_sound.proofs.FirmBoardLemmas.{parents_in, firm-beside}
use Rattle.qo_sound.proofs.RecordLemmas.{all-both}
use Rattle.qo_values.proofs.ListLemmas.{all-imply}
use Rattle.qo_sound.proofs.SlotLemmas.{one_child}
use Rattle.qo_sound.proofs.TestLemmas.{decide, clash}
use Rattle.qo_sound.proofs.ViewLemmas.{PinsRootAlone, rest-from_sound}
use Rattle.qo_sound_devices.specs.SoundDevices.{SoundDevices}
use Rattle.qo_sound_devices.specs.SoundPlaces.{child_entries, HasOwner, machines, bridges, IsHome, kid_entries, listed, owns, owns_it, stands, names_it}
use Rattle.qo_sound_devices.proofs.AttachmentLemmas.{owns-listed}
use Rattle.qo_sound_devices.proofs.CommandLemmas.{goes-pins, put-one}
use Rattle.qo_sound_devices.proofs.DetachmentLemmas.{detach-lit, under-more, owned-bus, dims}
use Rattle.qo_sound_devices.proofs.DevicesLawLemmas.{devices_kept_lem}
use Rattle.qo_sound_devices.proofs.ListsLemmas.{members}
use Rattle.qo_sound_devices.proofs.DepthLemmas.{is-bus_of, IsBusOf, kid-of, kids-listed, stands-dimmed, under-stands}
use Rattle.qo_sound_devices.proofs.PinLemmas.{pin-stands, pin-bus, pin-children, pin-kind, pin-of, pin-realized}
use Rattle.qo_sound_devices.proofs.PlacesLemmas.{child-live, of-live, or-cases, kind-alike, stands-live, aside-apart, within-any}
use Rattle.qo_sound_devices.proofs.UnrealizingLemmas.{Under, here, down}
use Rattle.qo_sound_phases.specs.SoundPhases.{IsReached, machine, device, bus, SoundPhases}
use Rattle.qo_sound_phases.specs.Phases as stage
use Rattle.qo_sound_phases.proofs.UnparentingLemmas.{gone-apart, gone-before, gone-left_parent, Keeps, left-none, times, times-children, times-within, Walked, walked-none, walked-unpin}
use Rattle.qo_sound_phases.proofs.ResetTreeLemmas.{one-parent, Placed, post-reach, stands-no_bus}
use Rattle.qo_sound_phases.proofs.FrameLemmas.{Frame, frame-post, frame-reached}
use Rattle.qo_sound_phases.proofs.QuietChangeLemmas.{Quiet, quiet-after, quiet-then}
use Rattle.qo_sound_phases.proofs.ReachLemmas.{machine-no_bus, machines-is, machines-listed, reach-above}
use Rattle.qo_sound_phases.proofs.ShapeLemmas.{counted-same}
use Rattle.qo_sound_phases.proofs.UnrealizingLemmas.{bus-loose, device-loose, Still, still-edits, still-none, unrealize-all_holds, unrealize-born, unrealize-count, unrealize-quiet}

-- what follows the unrealizing leaves births, holds and phases
still-ends : (b : Board) (o : Option ℕ) (c : Board) → Still b c → Still b (after finalize c o)
still-ends b None c h = h
still-ends b (Some m) c h = go (refs c m == 0) refl
  where
    go : (t : Bool) → (refs c m == 0) ≡ t → Still b (after finalize c (Some m))
    go true e =
        record {
          born = ap (λ (x : Board). x.born) (shape e) ∙ (release_leaves c m).born ∙ h.born;
          holds = ap (λ (x : Board). x.holds) (shape e) ∙ (release_leaves c m).holds ∙ h.holds;
          quiet = quiet-then b c (after finalize c (Some m)) h.quiet (quiet-after c (Some m));
        }
      where
        shape : (refs c m == 0) ≡ true → after finalize c (Some m) ≡ finalize c m
        shape q = rw (after, q) refl
    go false e = rw (after, e) h

-- what is below a device, seen from below
data Chain (b : Board) (d : ℕ) : ℕ → Type 0 where
  itself : Chain b d d
  further : {k : ℕ} (x m : ℕ) → Chain b d x → among (buses_of b x) m ≡ true → among (kids_of b m) k ≡ true → Chain b d k

turned : (b : Board) (d x y : ℕ) → Chain b d x → Under b x y → Chain b d y
turned b d x y a here = a
turned b d x y a (down m k im ik u) = turned b d k y (further x m a im ik) u

-- what a detachment walks over
module _ (b : Board) (d : ℕ) where
  -- what was taken away
  pub before : Board
  before = left_bus d (lost_buses (apart_within (length (births b))) (length (slots_at (unrealize (pin b d) d) d)) d (unrealize (pin b d) d))

  pub walked-before : Walked (unrealize (pin b d) d) (Keeps (pin b d) (unrealize (pin b d) d) (dims b d) d) before
  unfolding before
  walked-before =
      gone-before (pin b d) (unrealize (pin b d) d) (dims b d) d (apart_within (length (births b)))
      (λ x c v h. gone-apart (pin b d) (unrealize (pin b d) d) (dims b d) d (length (births b)) x c v h) d (unrealize (pin b d) d) here
      (walked-none (unrealize (pin b d) d) (Keeps (pin b d) (unrealize (pin b d) d) (dims b d) d))

  pub walked : Walked (unrealize (pin b d) d) (Keeps (pin b d) (unrealize (pin b d) d) (dims b d) d) (detach b d)
  unfolding detach before
  walked =
      walked-unpin (unrealize (pin b d) d) (Keeps (pin b d) (unrealize (pin b d) d) (dims b d) d) d _
      (gone-left_parent (pin b d) (unrealize (pin b d) d) (dims b d) d d before walked-before)

module _ (b : Board) (d : ℕ) (s : SoundDevices b) (e : stands b d ≡ true) where
  rest : PinsRootAlone b
  rest = rest-from_sound b s.tree

  abbrev depth : ℕ → ℕ
  depth = s.places.0

  kb : Placed b
  kb = record { depth = s.places.0; places = s.places.1; firm = (rest-from_sound b s.tree).used.firm }

  abbrev p : Board
  p = pin b d

  abbrev u : Board
  u = unrealize (pin b d) d

  abbrev z : Board
  z = detach b d

  pub kp : Placed (pin b d)
  unfolding pin
  kp =
      record {
        depth = s.places.0;
        places =
            (goes-pins s.places.0 None (λ x. false) b (put_in_order d b.pins) kb.firm
            (ap (λ (ps : List ℕ). among (put_in_order d ps) 1) rest.pinned ∙ put-one d) s.places.1).places;
        firm =
            firm-beside b (pin b d) kb.firm;
      }

  pin-still : Still b (pin b d)
  unfolding pin
  pin-still = record { born = refl; holds = refl; quiet = λ n. refl }

  kz : Placed (detach b d)
  kz =
      let k : SoundDevices (detach b d) = devices_kept_lem.detached b d s e in
      record { depth = k.places.0; places = k.places.1; firm = (rest-from_sound (detach b d) k.tree).used.firm }

  there : stands (pin b d) d ≡ true
  there = pin-stands b d d ∙ e

  below-stands : (y : ℕ) → Under (pin b d) d y → stands (pin b d) y ≡ true
  below-stands y v = under-stands kp.depth None (λ x. false) (pin b d) kp.places d y v there

  -- it stands in no container any more
  once-before : (n : ℕ) → times d (child_entries (before b d) n) ≤ 1
  unfolding times
  once-before n =
      let few : times d (child_entries (unrealize (pin b d) d) n) ≤ 1 =
      subst (λ (xs : List (List ℕ × ℕ)). times d xs ≤ 1) (sym ((dims b d).children n ∙ pin-children b d n)) (at_record (record_of b n) refl) in
      omega (arith, few, times-within d ((walked-before b d).children n))
    where
      at_record : (o : Option Record) → record_of b n ≡ o → times d (child_entries b n) ≤ 1
      at_record None q = rw q (omega arith)
      at_record (Some r) q =
          let one : sum_by (one_child d) r.slots ≤ 1 = omega (arith, found-within (parents_in d) n b.records r q, kb.firm.one_parent d) in
          rw q (omega (arith, one, times-children d r.slots))

  gone : stands (detach b d) d ≡ false
  unfolding detach before
  gone = left-none d (before b d) (once-before PERIPHERAL_BIRTH) (once-before ANONYMOUS_BIRTH)

  -- births, holds and phases
  still : Still (unrealize (pin b d) d) (detach b d)
  still =
      step-detach (Still (unrealize (pin b d) d)) (still-edits (unrealize (pin b d) d))
      (λ ps c h. record { born = h.born; holds = h.holds; quiet = h.quiet }) (λ o c h. still-ends (unrealize (pin b d) d) o c h) b d
      (still-none (unrealize (pin b d) d))

  -- what was, of what is
  stood : (x : ℕ) → stands (detach b d) x ≡ true → stands (pin b d) x ≡ true
  stood x k =
      sym (stands-dimmed (pin b d) (unrealize (pin b d) d) (dims b d) x)
      ∙ or-cases (listed x (child_entries (detach b d) PERIPHERAL_BIRTH)) (listed x (child_entries (detach b d) ANONYMOUS_BIRTH)) k
      (λ l. rw (within-any (names_it x) ((walked b d).children PERIPHERAL_BIRTH) l) refl)
      (λ l.
      rw (within-any (names_it x) ((walked b d).children ANONYMOUS_BIRTH) l) (or-true (listed x (child_entries (unrealize (pin b d) d) PERIPHERAL_BIRTH))))

  kinds : (x : ℕ) → is_live (detach b d) x ≡ true → kind_of (detach b d) x ≡ kind_of (pin b d) x
  kinds x live = ((walked b d).kin x live).1 ∙ kind-alike (pin b d) (unrealize (pin b d) d) x ((dims b d).body x)

  same-of : (name : List ℕ) (x : ℕ) → is_live (detach b d) x ≡ true → is_of (detach b d) name x ≡ is_of (pin b d) name x
  same-of name x live = ap (λ (o : Option TypeId). option_map_or (λ (t : TypeId). is_a t name) o false) (kinds x live)

  owned : (x q : ℕ) → owns (detach b d) x q ≡ true → owns (pin b d) x q ≡ true
  owned x q o = sym (ap (list_any (owns_it q)) ((dims b d).children x)) ∙ within-any (owns_it q) ((walked b d).children x) o

  -- on the same bus
  home-before : (x : ℕ) (k : IsHome (detach b d) x) → bus_of (pin b d) x ≡ Some k.bus
  home-before x k =
      let is : is_of (pin b d) (codes "bus") k.bus ≡ true = sym (same-of (codes "bus") k.bus (of-live (detach b d) (codes "bus") k.bus k.is_bus)) ∙ k.is_bus in
      let l : listed x (kid_entries (pin b d) k.bus) ≡ true =
      sym (ap (listed x) ((dims b d).kids k.bus)) ∙ within-any (names_it x) ((walked b d).kids k.bus) k.kid in
      (kid-of kp.depth None (λ y. false) (pin b d) kp.places k.bus x is l).1

  -- what was below the device does not stand
  none-stands : (y : ℕ) → Chain (pin b d) d y → Under (pin b d) d y → stands (detach b d) y ≡ true → ⊥
  none-stands y itself v k = clash (sym k ∙ gone)
  none-stands y (further x m a im ik) v k = up (under-of x a) (none-stands x a (under-of x a))
    where
      under-of : (x : ℕ) → Chain (pin b d) d x → Under (pin b d) d x
      under-of w itself = here
      under-of w (further q n c jn jk) = under-more (pin b d) d q n w (under-of q c) jn jk

      bus : IsBusOf (pin b d) x m
      bus = is-bus_of (pin b d) x m im

      home : IsHome (detach b d) y
      home = kz.places.home y k (λ w. cc)

      on : home.bus ≡ m
      on =
          same_Some home.bus m
          (sym (home-before y home)
          ∙ (kid-of kp.depth None (λ w. false) (pin b d) kp.places m y bus.bus (kids-listed y (slots_at (pin b d) m) ik)).1)

      up : Under (pin b d) d x → (stands (detach b d) x ≡ true → ⊥) → ⊥
      up w none = owner (subst (HasOwner (detach b d)) on (kz.places.owner y home.bus k home.on))
        where
          mine : listed m (child_entries (pin b d) x) ≡ true
          mine = owns-listed m (child_entries (pin b d) x) bus.owned

          owner : HasOwner (detach b d) m → ⊥
          owner (machines i) =
              let at : x ≡ MACHINE_BIRTH = one-parent (pin b d) kp x MACHINE_BIRTH m mine (machines-listed (pin b d) kp m i) in
              clash (sym (below-stands x w) ∙ ap (stands (pin b d)) at ∙ kp.places.aside.1.0)
          owner (bridges q t o) =
              let at : q ≡ x = one-parent (pin b d) kp q x m (owns-listed m (child_entries (pin b d) q) (owned q m o)) mine in
              none (subst (λ (n : ℕ). stands (detach b d) n ≡ true) at t)

  pub unstood : (y : ℕ) → Under (pin b d) d y → stands (detach b d) y ≡ true → ⊥
  unstood y v = none-stands y (turned (pin b d) d d y itself v) v

  -- what stands keeps its children, and so does the machine
  shelf : (x : ℕ) → stands (pin b d) x ≡ true → among (PERIPHERAL_BIRTH ∷ ANONYMOUS_BIRTH ∷ []) x ≡ false
  shelf x k = aside-apart (pin b d) (PERIPHERAL_BIRTH ∷ ANONYMOUS_BIRTH ∷ []) (kp.places.aside.1.1.0, (kp.places.aside.1.1.1.0, tt)) x k

  children-stay : (x : ℕ) → stands (detach b d) x ≡ true → child_entries (detach b d) x ≡ child_entries b x
  children-stay x k =
      (walked b d).still x (λ v. unstood x v k, shelf x (stood x k)) (stands-live (detach b d) kz.firm x k) ∙ (dims b d).children x ∙ pin-children b d x

  machine-stays : child_entries (detach b d) MACHINE_BIRTH ≡ child_entries b MACHINE_BIRTH
  machine-stays =
      (walked b d).still MACHINE_BIRTH (λ v. clash (sym (below-stands MACHINE_BIRTH v) ∙ kp.places.aside.1.0), refl)
      (child-live (detach b d) kz.firm ROOT_BIRTH MACHINE_BIRTH kz.places.machine)
      ∙ (dims b d).children MACHINE_BIRTH
      ∙ pin-children b d MACHINE_BIRTH

  pub frame : Frame b (detach b d)
  frame =
      record {
        kind = λ x was live. kinds x live ∙ pin-kind b d x;
        stood = λ x k. sym (pin-stands b d x) ∙ stood x k;
        bus = λ x k. let home : IsHome (detach b d) x = kz.places.home x k (λ w. cc) in home.on ∙ sym (sym (pin-bus b d x) ∙ home-before x home);
        children = children-stay;
        machine = machine-stays;
      }

  -- nothing that a reset reaches is below the device
  unreached-device : (x : ℕ) → Under (pin b d) d x → IsReached (detach b d) x → ⊥
  unreached-device x v (device k) = unstood x v k
  unreached-device x v (machine at) = clash (sym (below-stands x v) ∙ ap (stands (pin b d)) at ∙ kp.places.aside.1.0)
  unreached-device x v (bus is by) =
      clash (sym (sym (same-of (codes "bus") x (of-live (detach b d) (codes "bus") x is)) ∙ is) ∙ stands-no_bus (pin b d) kp x (below-stands x v))

  unreached-bus : (x m : ℕ) → Under (pin b d) d x → among (buses_of (pin b d) x) m ≡ true → IsReached (detach b d) m → ⊥
  unreached-bus x m v im i = go i
    where
      own : IsBusOf (pin b d) x m
      own = is-bus_of (pin b d) x m im

      mine : listed m (child_entries (pin b d) x) ≡ true
      mine = owns-listed m (child_entries (pin b d) x) own.owned

      go : IsReached (detach b d) m → ⊥
      go (device k) = clash (sym own.bus ∙ stands-no_bus (pin b d) kp m (stood m k))
      go (machine at) = clash (sym own.bus ∙ ap (is_of (pin b d) (codes "bus")) at ∙ machine-no_bus (pin b d) kp)
      go (bus is (machines j)) =
          let at : x ≡ MACHINE_BIRTH = one-parent (pin b d) kp x MACHINE_BIRTH m mine (machines-listed (pin b d) kp m j) in
          clash (sym (below-stands x v) ∙ ap (stands (pin b d)) at ∙ kp.places.aside.1.0)
      go (bus is (bridges q t o)) =
          let at : q ≡ x = one-parent (pin b d) kp q x m (owns-listed m (child_entries (pin b d) q) (owned q m o)) mine in
          unstood x v (subst (λ (n : ℕ). stands (detach b d) n ≡ true) at t)

  -- so as many holds are above what it reaches
  none-above : (n o : ℕ) → IsReached (detach b d) o → (IsReached (detach b d) n → ⊥) → among (post b n) o ≡ false
  none-above n o i none =
      decide (among (post b n) o)
      (λ k. absurd (none (reach-above (detach b d) kz n o (post-reach (detach b d) kz n o (frame-post b (detach b d) kb kz frame n o i ∙ k)) i)))
      (λ k. k)

  pub counts : (o : ℕ) → IsReached (detach b d) o → count (detach b d) o ≡ count b o
  counts o i =
      counted-same (λ r. among (post (detach b d) r) o) (λ r. among (post b r) o) (λ r. frame-post b (detach b d) kb kz frame r o i) (detach b d).holds
      ∙ ap (count_by (λ r. among (post b r) o)) still.holds
      ∙ unrealize-count (λ r. among (post b r) o) (pin b d) d (λ x v. none-above x o i (unreached-device x v))
      (λ x m v im. none-above m o i (unreached-bus x m v im))
      ∙ ap (count_by (λ r. among (post b r) o)) pin-still.holds

  -- a hold that is left is on what is still reached
  lit-before : (x : ℕ) → stands b x ≡ true → is_realized (pin b d) x ≡ true
  lit-before x k = pin-realized b d x ∙ kb.places.each x k refl

  pub lit-stands : (x : ℕ) → stands b x ≡ true → is_realized (unrealize (pin b d) d) x ≡ true → stands (detach b d) x ≡ true
  lit-stands x k lit = detach-lit s.places.0 b d rest s.places.1 e x k lit

  -- a bus of the machine is a bus still, for it is there
  machines-stay : (r : ℕ) → among (ROOT_BUS_BIRTH ∷ MEMORY_BUS_BIRTH ∷ []) r ≡ true → IsReached b r → IsReached (detach b d) r
  machines-stay r j i =
      let live : is_live (detach b d) r ≡ true = child-live (detach b d) kz.firm MACHINE_BIRTH r (machines-listed (detach b d) kz r j) in
      bus (same-of (codes "bus") r live ∙ pin-of b d (codes "bus") r ∙ machines-is b kb r j i) (machines j)

  hold-stays : (r : ℕ) → among (unrealize (pin b d) d).holds r ≡ true → IsReached b r → IsReached (detach b d) r
  hold-stays r on (machine at) = machine at
  hold-stays r on (device k) =
      decide (is_realized (unrealize (pin b d) d) r) (λ lit. device (lit-stands r k lit))
      (λ dim. clash (sym on ∙ device-loose (pin b d) d r (lit-before r k) dim))
  hold-stays r on (bus is by) = owner by
    where
      still-is : is_live (detach b d) r ≡ true → is_of (detach b d) (codes "bus") r ≡ true
      still-is live = same-of (codes "bus") r live ∙ pin-of b d (codes "bus") r ∙ is

      was-bus : is_of (pin b d) (codes "bus") r ≡ true
      was-bus = pin-of b d (codes "bus") r ∙ is

      owner : HasOwner b r → IsReached (detach b d) r
      owner (machines j) = machines-stay r j (bus is by)
      owner (bridges q t o) = decide (is_realized (unrealize (pin b d) d) q) stays goes
        where
          stays : is_realized (unrealize (pin b d) d) q ≡ true → IsReached (detach b d) r
          stays lit =
              let k : stands (detach b d) q ≡ true = lit-stands q t lit in
              let own : owns (detach b d) q r ≡ true = ap (list_any (owns_it r)) (children-stay q k) ∙ o in
              bus (still-is (child-live (detach b d) kz.firm q r (owns-listed r (child_entries (detach b d) q) own))) (bridges q k own)

          goes : is_realized (unrealize (pin b d) d) q ≡ false → IsReached (detach b d) r
          goes dim =
              let own : owns (pin b d) q r ≡ true = ap (list_any (owns_it r)) (pin-children b d q) ∙ o in
              clash (sym on ∙ bus-loose (pin b d) q r (owned-bus (pin b d) r was-bus (slots_at (pin b d) q) own) d (lit-before q t) dim)

  quiet : Quiet b (detach b d)
  quiet =
      quiet-then b (pin b d) (detach b d) pin-still.quiet
      (quiet-then (pin b d) (unrealize (pin b d) d) (detach b d) (unrealize-quiet (pin b d) d) still.quiet)

  born : (detach b d).born ≡ b.born
  born = still.born ∙ unrealize-born (pin b d) d ∙ pin-still.born

  pub holds-left : AllByRecursion (IsReached b) b.holds → AllByRecursion (IsReached (detach b d)) (detach b d).holds
  holds-left h =
      let on : AllByRecursion (IsReached b) (unrealize (pin b d) d).holds =
      unrealize-all_holds (IsReached b) (pin b d) d (subst (AllByRecursion (IsReached b)) (sym pin-still.holds) h) in
      subst (AllByRecursion (IsReached (detach b d))) (sym still.holds)
      (all-imply (λ r. (among (unrealize (pin b d) d).holds r ≡ true) × IsReached b r) (IsReached (detach b d)) (λ r k. hold-stays r k.0 k.1)
      (unrealize (pin b d) d).holds
      (all-both (λ r. among (unrealize (pin b d) d).holds r ≡ true) (IsReached b) (unrealize (pin b d) d).holds (members (unrealize (pin b d) d).holds) on))

  pub detach-phases : SoundPhases b → SoundPhases (detach b d)
  detach-phases h =
      record {
        in_turn = λ n. ap is_some (quiet n) ∙ h.in_turn n;
        unborn = λ n high. quiet n ∙ h.unborn n (subst (λ (m : ℕ). m < n) born high);
        reached = λ n i.
            quiet n ∙ h.reached n (frame-reached b (detach b d) kb kz frame n i)
            ∙ ap (λ (m : ℕ). Some (if m == 0 then stage.out else stage.held)) (sym (counts n i));
        holds = holds-left h.holds;
        buses = (machines-stay ROOT_BUS_BIRTH refl h.buses.0, (machines-stay MEMORY_BUS_BIRTH refl h.buses.1.0, tt));
        lone = λ n i. h.lone n (sym (kinds n (sym (is_some-map (λ (r : Record). r.kind) (record_of (detach b d) n)) ∙ ap is_some i) ∙ pin-kind b d n) ∙ i);
      }
