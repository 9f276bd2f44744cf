-- The law: how a device is taken out with all that is below it, without a bound.
use Rattle.std.proofs.Common.{◌≡◌, refl, ap, ap₂, sym, subst, ◌∙◌, ℕ, zero, suc, ◌+◌, ◌≤◌, Bool, true, false, ◌&&◌, ◌||◌, ◌==◌, List, [], ◌∷◌, length, Option, Some, None, arith, codes}
use Rattle.qo_model.proofs.Common.{list_any, ANONYMOUS_BIRTH, PERIPHERAL_BIRTH, Board, is_live, slots_at, among, bus_of, buses_of, is_realized, kids_of, births, is_of, pin, put_in_order, unpin, apart_within, detach, drained, is_bus_child, is_child_slot, left_bus, left_parent, let_go_where, lost_bus, lost_buses, unrealize}
use Rattle.std.proofs.lemmas.Option.{same_Some}
use Rattle.qo_model.specs.Paths.{parent_of}
use Rattle.qo_model.specs.Unplug.{first_of}
use Rattle.qo_model.proofs.PinLemmas.{IsUp, put-up}
use Rattle.qo_sound.proofs.FirmBoardLemmas.{WellFormed}
use Rattle.qo_sound.proofs.TestLemmas.{clash}
use Rattle.qo_sound.proofs.UnplugLemmas.{held-unrealize, HasPins}
use Rattle.qo_sound.proofs.ViewLemmas.{PinsRootAlone, rest-from_sound}
use Rattle.qo_sound_devices.specs.SoundDevices.{SoundDevices}
use Rattle.qo_sound_devices.specs.SoundPlaces.{child_entries, child_entry, IsHome, kid_entries, kid_entry, listed, owns, owns_it, PlacesBut, stands}
use Rattle.qo_sound_devices.proofs.DepartureLemmas.{unrealized-steps}
use Rattle.qo_sound_devices.proofs.DepthLemmas.{faded_by, is-bus_of, IsBusOf, room, stands-dimmed, unrealize-all, unrealize-only, unrealize-places}
use Rattle.qo_sound_devices.proofs.DetachmentLemmas.{closed-steps, dims, entries-short, first-among, first-kid, IsClosed, kid-taken, KidTaken, listed-kid, lost, LostBus, mid-pin, no-length, owned-bus, steps-pin, Takes, takes-apart, under-more}
use Rattle.qo_sound_devices.proofs.PlacesLemmas.{nothing, of-alike}
use Rattle.qo_sound_devices.proofs.UnparentingLemmas.{Mid, ReachedBySteps}
use Rattle.qo_sound_devices.proofs.UnrealizingLemmas.{FewerRealized, dimmed-none, Under, here}
use Rattle.qo_sound_devices.proofs.AttachmentLemmas.{parent-is}
use Rattle.qo_sound_devices.proofs.PinLemmas.{pin-children}
use Rattle.qo_sound_devices.proofs.PlacesLemmas.{or-cases, within-same}
use Rattle.qo_sound_devices.proofs.StepsLemmas.{within-then}
use Rattle.qo_sound_phases.proofs.UnparentingLemmas.{gone-apart, gone-before, Keeps, Walked, walked-none}
use Rattle.qo_plain.proofs.DetachedLemmas.{let-go-parent}
use Rattle.qo_plain.specs.Detaching.{bus, Detaches, DetachLaw, device, kid, no_bus, no_kid, Out, Task, the_buses, the_device, the_kids}

-- no kid as a birth, and none as an entry
none-first : (b : Board) (m : ℕ) → kid_entries b m ≡ [] → first_of (kids_of b m) ≡ None
none-first b m none = go (first_of (kids_of b m)) refl
  where
    go : (o : Option ℕ) → first_of (kids_of b m) ≡ o → first_of (kids_of b m) ≡ None
    go None e = e
    go (Some k) e = clash (sym (first-kid k (slots_at b m) e) ∙ ap (listed k) none)

bus-owned : (b : Board) (d m : ℕ) → first_of (buses_of b d) ≡ Some m → owns b d m ≡ true
bus-owned b d m e = (is-bus_of b d m (first-among (buses_of b d) m e)).owned

none-owns : (b : Board) (d : ℕ) → child_entries b d ≡ [] → first_of (buses_of b d) ≡ None
none-owns b d none = go (first_of (buses_of b d)) refl
  where
    go : (o : Option ℕ) → first_of (buses_of b d) ≡ o → first_of (buses_of b d) ≡ None
    go None e = e
    go (Some m) e = clash (sym (bus-owned b d m e) ∙ ap (list_any (owns_it m)) none)

-- a device that loses a bus: what is on the bus is taken out, and the device is where it was
pub record Loses (depth : ℕ → ℕ) (out : ℕ → Bool) (ps : List ℕ) (d q m : ℕ) (b x c : Board) : Type 0 where
  pub does : Out (the_kids m) b x
  pub went : ReachedBySteps depth out None ps b c
  pub still : (stands c d ≡ true) × (bus_of c d ≡ Some q)
  pub fewer : suc (length (child_entries c d)) ≤ length (child_entries b d)

-- what takes out an unrealized device that is deep enough does so
abbrev pub Does : (ℕ → ℕ) → (ℕ → Bool) → ℕ → (ℕ → Board → Board) → Type 0
Does depth out n f =
    (ps : List ℕ) → IsUp ps → (d q : ℕ) (b : Board) → Mid depth out None ps b → IsClosed b → stands b d ≡ true → bus_of b d ≡ Some q → is_realized b d ≡ false
    → 9 ≤ n + depth q → Out (the_device d) b (f d b)

module _ (depth : ℕ → ℕ) (out : ℕ → Bool) (n : ℕ) (f : ℕ → Board → Board) (takes : Takes depth out n f) (outs : Does depth out n f) (ps : List ℕ) (up : IsUp ps) where
  does-kids : (m : ℕ) → 9 ≤ n + depth m → (times : ℕ) (b : Board) → Mid depth out None ps b → IsClosed b
      → (is_live b m ≡ true → is_of b (codes "bus") m ≡ true) → ((k : ℕ) → listed k (kid_entries b m) ≡ true → is_realized b k ≡ false)
      → length (kid_entries b m) ≤ times → Out (the_kids m) b (drained f times m b)
  does-kids m deep zero b h closed is_bus dim few = no_kid m (none-first b m (no-length (kid_entries b m) few))
  does-kids m deep (suc times) b h closed is_bus dim few = go (first_of (kids_of b m)) refl (does-kids m deep times)
    where
      go : (o : Option ℕ) → first_of (kids_of b m) ≡ o
          → ((c : Board) → Mid depth out None ps c → IsClosed c → (is_live c m ≡ true → is_of c (codes "bus") m ≡ true) → ((k : ℕ) → listed k (kid_entries c m)
          ≡ true → is_realized c k ≡ false) → length (kid_entries c m) ≤ times → Out (the_kids m) c (drained f times m c))
          → Out (the_kids m) b (drained f (suc times) m b)
      go None e rest = rw (drained, e) (no_kid m e)
      go (Some k) e rest =
          let t : KidTaken depth out ps m k b (f k b) = kid-taken depth out n f takes ps up m k deep b h closed is_bus dim e in
          rw (drained, e) (kid m k e (outs ps up k m b h closed t.on.0 t.on.1 t.dim deep)
          (rest (f k b) t.one.went.mid t.closed t.bus t.dims (omega (arith, t.fewer, few))))

  pub loses : (d q m : ℕ) (b : Board) → Mid depth out None ps b → IsClosed b → stands b d ≡ true → bus_of b d ≡ Some q → is_realized b d ≡ false
      → 9 ≤ n + suc (depth q) → among (buses_of b d) m ≡ true → Loses depth out ps d q m b (drained f (length (slots_at b m)) m b) (lost_bus f d m b)
  loses d q m b h closed e on dim deep mine =
      let its : IsBusOf b d m = is-bus_of b d m mine in
      let lower : depth m ≡ suc (depth q) = h.places.shallow.below d q m e on its.owned in
      let all : LostBus depth out ps d m b (lost_bus f d m b) = lost depth out n f takes ps up d q m b h closed e on dim deep mine in
      record {
        does = does-kids m (omega (arith, deep, lower)) (length (slots_at b m)) b h closed (λ live. its.bus) (λ k l. closed d m k e its.owned its.bus l dim)
            (entries-short kid_entry (slots_at b m));
        went = all.went;
        still = all.above.on d q e on (omega (arith, lower));
        fewer = all.fewer;
      }

  loses-all : (d q : ℕ) → 9 ≤ n + suc (depth q) → (times : ℕ) (b : Board) → Mid depth out None ps b → IsClosed b → stands b d ≡ true → bus_of b d ≡ Some q
      → is_realized b d ≡ false → length (child_entries b d) ≤ times → Out (the_buses d) b (lost_buses f times d b)
  loses-all d q deep zero b h closed e on dim few = no_bus d (none-owns b d (no-length (child_entries b d) few))
  loses-all d q deep (suc times) b h closed e on dim few = go (first_of (buses_of b d)) refl (loses-all d q deep times)
    where
      go : (o : Option ℕ) → first_of (buses_of b d) ≡ o
          → ((c : Board) → Mid depth out None ps c → IsClosed c → stands c d ≡ true → bus_of c d ≡ Some q → is_realized c d ≡ false
          → length (child_entries c d) ≤ times → Out (the_buses d) c (lost_buses f times d c))
          → Out (the_buses d) b (lost_buses f (suc times) d b)
      go None p rest = rw (lost_buses, p) (no_bus d p)
      go (Some m) p rest =
          let c : Board = lost_bus f d m b in
          let one : Loses depth out ps d q m b (drained f (length (slots_at b m)) m b) c =
          loses d q m b h closed e on dim deep (first-among (buses_of b d) m p) in
          rw (lost_buses, p) (bus d m p one.does
          (rest c one.went.mid (closed-steps b c one.went.mid.sits.near.firm one.went.steps closed) one.still.0 one.still.1
          (unrealized-steps b c d one.went.steps dim) (omega (arith, one.fewer, few))))

-- to a depth
pub pinned-stands : (b : Board) (d y : ℕ) → stands (pin b d) y ≡ stands b y
unfolding pin
pinned-stands b d y = refl

pub pinned-bus : (b : Board) (d y : ℕ) → bus_of (pin b d) y ≡ bus_of b y
unfolding pin
pinned-bus b d y = refl

-- the parent of a device that stands, which lets it go once its buses are gone
parent-stands : (b : Board) → WellFormed b → (d : ℕ) → stands b d ≡ true → (p : ℕ) × (parent_of b d ≡ Some p)
parent-stands b firm d e =
    or-cases (listed d (child_entries b PERIPHERAL_BIRTH)) (listed d (child_entries b ANONYMOUS_BIRTH)) e
    (λ l. (PERIPHERAL_BIRTH, parent-is b firm PERIPHERAL_BIRTH d l)) (λ l. (ANONYMOUS_BIRTH, parent-is b firm ANONYMOUS_BIRTH d l))

let-go-bare : (b : Board) → WellFormed b → (d p : ℕ) → parent_of b d ≡ Some p → (u : Board) → FewerRealized (pin b d) u → (n : ℕ) → stands b d ≡ true
    → left_parent d (left_bus d (lost_buses (apart_within n) (length (slots_at u d)) d u))
    ≡ let_go_where (is_child_slot d) p (left_bus d (lost_buses (apart_within n) (length (slots_at u d)) d u))
let-go-bare b firm d p above u dim n e =
    let-go-parent b firm d p above (left_bus d (lost_buses (apart_within n) (length (slots_at u d)) d u))
    (λ x. within-then (gone.children x) (within-same (dim.children x ∙ pin-children b d x))) e
  where
    gone : Walked u (Keeps (pin b d) u dim d) (left_bus d (lost_buses (apart_within n) (length (slots_at u d)) d u))
    gone =
        gone-before (pin b d) u dim d (apart_within n) (λ x c v g. gone-apart (pin b d) u dim d n x c v g) d u here
        (walked-none u (Keeps (pin b d) u dim d))

pub does-apart : (depth : ℕ → ℕ) (out : ℕ → Bool) (n : ℕ) → Does depth out n (apart_within n)
unfolding apart_within
does-apart depth out zero =
    λ ps up d q b h closed e on dim deep. absurd (let most : depth q ≤ 8 = h.places.shallow.most q (h.places.owner d q e on) in omega (arith, most, deep))
does-apart depth out (suc n) =
    λ ps up d q b h closed e on dim deep.
    let mid : Mid depth out None (put_in_order d ps) (pin b d) = mid-pin depth out ps b d h in
    let (parent, above) = parent-stands b h.sits.near.firm d e in
    subst (λ (c : Board). Out (the_device d) b (unpin c d)) (sym (let-go-bare b h.sits.near.firm d parent above (pin b d) (dimmed-none (pin b d)) n e))
    (device d parent above
    (loses-all depth out n (apart_within n) (takes-apart depth out n) (does-apart depth out n) (put_in_order d ps) (put-up d ps up) d q (omega (arith, deep))
    (length (slots_at (pin b d) d)) (pin b d) mid (closed-steps b (pin b d) mid.sits.near.firm (steps-pin b d) closed) (pinned-stands b d d ∙ e)
    (pinned-bus b d d ∙ on) (unrealized-steps b (pin b d) d (steps-pin b d) dim) (entries-short child_entry (slots_at (pin b d) d))))

-- detaching
module _ (depth : ℕ → ℕ) (b : Board) (d : ℕ) (rest : PinsRootAlone b) (h : PlacesBut depth None (λ x. false) b) (e : stands b d ≡ true) where
  abbrev p : Board
  p = pin b d

  abbrev u : Board
  u = unrealize p d

  abbrev out : ℕ → Bool
  out = faded_by p u

  abbrev qs : List ℕ
  qs = put_in_order d (1 ∷ [])

  pinned : Mid depth (λ x. false) None qs p
  pinned = mid-pin depth (λ x. false) (1 ∷ []) b d (record { sits = record { near = rest.used; pins = rest.pinned }; one = refl; places = h })

  home : IsHome b d
  home = h.home d e (λ z. cc)

  on : bus_of p d ≡ Some home.bus
  on = pinned-bus b d d ∙ home.on

  there : stands p d ≡ true
  there = pinned-stands b d d ∙ e

  sits : HasPins qs u
  sits = held-unrealize qs d p pinned.sits

  pub middle : Mid depth out None qs u
  middle = record { sits = sits; one = pinned.one; places = unrealize-places depth p d sits.near.firm pinned.places }

  pub dark : (y : ℕ) → Under p d y → is_realized u y ≡ false
  dark y v = unrealize-all depth None (λ x. false) p pinned.sits.near.firm pinned.places d home.bus there on y v

  pub closed : IsClosed u
  closed x m k s o is l dim =
      let was : stands p x ≡ true = sym (stands-dimmed p u (dims b d) x) ∙ s in
      let under : Under p d x = unrealize-only p d x (pinned.places.each x was refl) dim in
      let is_bus : is_of p (codes "bus") m ≡ true = sym (of-alike p u m (codes "bus") ((dims b d).body m)) ∙ is in
      let own : owns p x m ≡ true = sym (ap (list_any (owns_it m)) ((dims b d).children x)) ∙ o in
      let below : listed k (kid_entries p m) ≡ true = sym (ap (listed k) ((dims b d).kids m)) ∙ l in
      dark k (under-more p d x m k under (owned-bus p m is_bus (slots_at p x) own) (listed-kid k (slots_at p m) below))

  apart : Out (the_buses d) u (lost_buses (apart_within (length (births b))) (length (slots_at u d)) d u)
  apart =
      loses-all depth out (length (births b)) (apart_within (length (births b))) (takes-apart depth out (length (births b)))
      (does-apart depth out (length (births b))) qs (put-up d (1 ∷ []) (tt, tt)) d home.bus
      (omega (arith, room depth None (λ x. false) b rest.used.firm h)) (length (slots_at u d)) u middle closed
      (stands-dimmed p u (dims b d) d ∙ there) ((dims b d).bus d ∙ on) (dark d here) (entries-short child_entry (slots_at u d))

detaches : (b : Board) → SoundDevices b → (d : ℕ) → stands b d ≡ true → Detaches b d
unfolding detach
detaches b h d e =
    let (parent, above) = parent-stands b (rest-from_sound b h.tree).used.firm d e in
    record {
      parent = parent;
      above = above;
      bare = lost_buses (apart_within (length (births b))) (length (slots_at (unrealize (pin b d) d) d)) d (unrealize (pin b d) d);
      buses = apart h.places.0 b d (rest-from_sound b h.tree) h.places.1 e;
      last =
          ap (λ (c : Board). unpin c d)
          (let-go-bare b (rest-from_sound b h.tree).used.firm d parent above (unrealize (pin b d) d) (dims b d) (length (births b)) e);
    }

-- nothing else can come of it
one-first : (o : Option ℕ) (m : ℕ) → o ≡ Some m → o ≡ None → ⊥
one-first o m e k = let bad : Some m ≡ None = sym e ∙ k in cc

once : {t : Task} {b c e : Board} → Out t b c → Out t b e → c ≡ e
once (device {b} {c} d p above h) (device {c = x} _ r also k) =
    ap₂ (λ (n : ℕ) (w : Board). unpin (let_go_where (is_child_slot d) n (left_bus d w)) d) (same_Some p r (sym above ∙ also)) (once h k)
once (no_bus d none) (no_bus _ also) = refl
once (no_bus {b} d none) (bus _ m e h k) = absurd (one-first (first_of (buses_of b d)) m e none)
once (bus {b} d m e h k) (no_bus _ none) = absurd (one-first (first_of (buses_of b d)) m e none)
once (bus {b} {c} {e} d m is h k) (bus {c = x} {e = y} _ n also i j) =
    once k
    (subst (λ (w : Board). Out (the_buses d) w y)
    (ap₂ (λ (q : ℕ) (w : Board). let_go_where (is_bus_child q) d w) (same_Some n m (sym also ∙ is))
    (sym (once h (subst (λ (q : ℕ). Out (the_kids q) b x) (same_Some n m (sym also ∙ is)) i)))) j)
once (no_kid m none) (no_kid _ also) = refl
once (no_kid {b} m none) (kid _ k e h i) = absurd (one-first (first_of (kids_of b m)) k e none)
once (kid {b} m k e h i) (no_kid _ none) = absurd (one-first (first_of (kids_of b m)) k e none)
once (kid {b} {c} {e} m k is h i) (kid {c = x} {e = y} _ j also f g) =
    once i
    (subst (λ (w : Board). Out (the_kids m) w y)
    (sym (once h (subst (λ (q : ℕ). Out (the_device q) b x) (same_Some j k (sym also ∙ is)) f))) g)

pub detach_lem : DetachLaw
detach_lem = record { detaches = detaches; once = λ t b c e h k. once h k }
