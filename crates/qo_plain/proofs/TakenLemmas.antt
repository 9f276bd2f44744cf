-- The law: how a device is taken out, by the kids and the buses of the board before.
use Rattle.std.proofs.Common.{◌≡◌, ◌⊎◌, inl, inr, refl, ap, ap₂, sym, subst, ◌∙◌, ℕ, zero, suc, ◌+◌, ◌≤◌, Bool, true, false, ◌||◌, ◌==◌, eqb, List, [], ◌∷◌, length, Option, Some, None, arith, codes}
use Rattle.qo_model.proofs.Common.{⊤, IsDistinct, option_map_or, ANONYMOUS_BIRTH, MACHINE_BIRTH, PERIPHERAL_BIRTH, TypeId, Board, is_live, slots_at, among, by_objects, IsLocal, leads, bus_of, buses_of, is_realized, kids_of, births, is_of, pin, put_in_order, unpin, below, is_a, apart_within, detach, drained, each, is_bus_child, left_bus, left_parent, let_go_where, lost_bus, lost_buses, unrealize}
use Rattle.std.proofs.Math.Path.{fun_ext}
use Rattle.std.proofs.lemmas.Bool.{eqb-true, eq-eqb, false_from_ne_true}
use Rattle.qo_model.specs.Unplug.{first_of}
use Rattle.qo_model.proofs.DepthLemmas.{by_objects_is}
use Rattle.qo_model.proofs.PinLemmas.{IsUp, put-up}
use Rattle.qo_sound.proofs.FirmBoardLemmas.{WellFormed}
use Rattle.qo_sound.proofs.TestLemmas.{clash}
use Rattle.qo_sound.proofs.ViewLemmas.{PinsRootAlone, rest-from_sound}
use Rattle.qo_sound_devices.specs.SoundPlaces.{child_entries, IsHome, listed, owns, PlacesBut, stands}
use Rattle.qo_sound_devices.proofs.DepartureLemmas.{bus-left, Unlinked, ownless-steps, parent-left, Parted, unrealized-steps}
use Rattle.qo_sound_devices.proofs.DepthLemmas.{faded_by, is-bus_of, IsBusOf, kid-of, kids-listed, room, stands-dimmed}
use Rattle.qo_sound_devices.proofs.DetachmentLemmas.{closed-steps, dims, IsClosed, mid-pin, owned-bus, steps-pin, TakenOut, Takes, takes-apart}
use Rattle.qo_sound_devices.proofs.LeavingLemmas.{Left}
use Rattle.qo_sound_devices.proofs.PlacesLemmas.{aside-apart, child-live, within-same, of-alike, stands-live}
use Rattle.qo_sound_devices.proofs.StepsLemmas.{Steps, steps-then}
use Rattle.qo_sound_devices.proofs.UnparentingLemmas.{Mid, ReachedBySteps, went-none}
use Rattle.qo_sound_devices.proofs.UnrealizingLemmas.{dimmed-none, here}
use Rattle.qo_sound_phases.proofs.ForestLemmas.{itself, Reach, reach-front}
use Rattle.qo_sound_phases.proofs.ListLemmas.{From, from-joined, joined-among}
use Rattle.qo_sound_phases.proofs.ResetTreeLemmas.{Placed, placed}
use Rattle.qo_sound_phases.proofs.UnparentingLemmas.{gone-apart, Keeps, Walked, walked-none, walked-unpin, walked-where}
use Rattle.qo_plain.specs.Taken.{IsByTurns, taken_turn, TakenLaw}
use Rattle.qo_plain.proofs.DetachedLemmas.{lost-none}
use Rattle.qo_plain.proofs.DetachingLemmas.{closed, dark, Does, does-apart, loses, Loses, middle, pinned-bus, pinned-stands}
use Rattle.qo_plain.proofs.ListLemmas.{each-same}
use Rattle.qo_plain.proofs.SparedLemmas.{apart-below, bus-was, buses-kept, buses-less, buses-once, buses-short, distinct-first, distinct-rest, Fresh, fresh-below, fresh-kept, fresh-pin, kid-owner, kid-was, kids-alike, kids-less, kids-once, kids-short, Later, later-in, later-stands, later-steps, not-back, Spares, spares-fewer, spares-none, spares-then, under-reach}
use Rattle.qo_plain.proofs.UnrealizeLemmas.{goes-bus, tree, under}

-- a bus that has no kid stays as it is drained
drained-none : (f : ℕ → Board → Board) (times m : ℕ) (b : Board) → kids_of b m ≡ [] → drained f times m b ≡ b
drained-none f zero m b e = refl
drained-none f (suc times) m b e = rw (drained, e) refl

drained-first : (f : ℕ → Board → Board) (times m x : ℕ) (xs : List ℕ) (b : Board) → kids_of b m ≡ x ∷ xs
    → drained f (suc times) m b ≡ drained f times m (f x b)
drained-first f times m x xs b e = rw (drained, e) refl

lost-first : (f : ℕ → Board → Board) (times d m : ℕ) (ms : List ℕ) (b : Board) → buses_of b d ≡ m ∷ ms
    → lost_buses f (suc times) d b ≡ lost_buses f times d (lost_bus f d m b)
lost-first f times d m ms b e = rw (lost_buses, e) refl

-- a walk after which the containers are there and have their children
walked-stands : (depth : ℕ → ℕ) (left : Option ℕ) (out : ℕ → Bool) (Stays : ℕ → Type 0) (b c : Board) → Walked b Stays c → Stays PERIPHERAL_BIRTH
    → Stays ANONYMOUS_BIRTH → PlacesBut depth left out c → WellFormed c → (y : ℕ) → stands b y ≡ true → stands c y ≡ true
walked-stands depth left out Stays b c w one other h firm y e =
    ap₂ (λ (xs zs : List (List ℕ × ℕ)). listed y xs || listed y zs)
    (w.still PERIPHERAL_BIRTH one (child-live c firm MACHINE_BIRTH PERIPHERAL_BIRTH h.parts.0))
    (w.still ANONYMOUS_BIRTH other (child-live c firm MACHINE_BIRTH ANONYMOUS_BIRTH h.parts.1.0))
    ∙ e

spares-walked : (depth : ℕ → ℕ) (out : ℕ → Bool) (d : ℕ) (b c : Board) → stands b d ≡ true → PlacesBut depth None out b → PlacesBut depth None out c
    → WellFormed c
    → Walked b (λ y. y ≡ d → ⊥) c → Spares (λ y. y ≡ d) b c
spares-walked depth out d b c e h i firm w =
    record { stand = λ y n s. stay y s; children = λ y n s. w.still y n (stands-live c firm y (stay y s)) }
  where
    stay : (y : ℕ) → stands b y ≡ true → stands c y ≡ true
    stay =
        walked-stands depth None out (λ y. y ≡ d → ⊥) b c w
        (λ is. clash (sym e ∙ ap (stands b) (sym is) ∙ h.aside.1.1.0)) (λ is. clash (sym e ∙ ap (stands b) (sym is) ∙ h.aside.1.1.1.0)) i firm

module _ (a : Board) (k : Placed a) (depth : ℕ → ℕ) (out : ℕ → Bool) (F : ℕ → Board → Board) where
  abbrev next : ℕ → List ℕ
  next = below a

  -- what takes out an unrealized device that is deep enough does so by the kids and buses before, and spares what is not below it
  record Plainly (d : ℕ) (b c : Board) : Type 0 where
    is : c ≡ F d b
    spares : Spares (Reach next d) b c

  abbrev TakesPlainly : ℕ → (ℕ → Board → Board) → Type 0
  TakesPlainly n f =
      (ps : List ℕ) → IsUp ps → (d q : ℕ) (b : Board) → Mid depth out None ps b → IsClosed b → stands b d ≡ true → bus_of b d ≡ Some q
      → is_realized b d ≡ false → 9 ≤ n + depth q → Later a b → Fresh a k d b → Plainly d b (f d b)

  -- a bus whose kids were taken out
  record Emptied (ps : List ℕ) (m : ℕ) (ks : List ℕ) (b c : Board) : Type 0 where
    is : c ≡ each F ks b
    went : ReachedBySteps depth out None ps b c
    spares : Spares (Reach next m) b c

  module _ (n : ℕ) (f : ℕ → Board → Board) (takes : Takes depth out n f) (does : TakesPlainly n f) (ps : List ℕ) (up : IsUp ps) where
    abbrev Empties : ℕ → List ℕ → ℕ → Type 0
    Empties m xs times =
        (b : Board) → Mid depth out None ps b → IsClosed b → Later a b → ((x : ℕ) → among xs x ≡ true → is_realized b x ≡ false) → kids_of b m ≡ xs
        → length xs ≤ times → ((x : ℕ) → among xs x ≡ true → Fresh a k x b) → Emptied ps m xs b (drained f times m b)

    empties : (m : ℕ) → 9 ≤ n + depth m → is_of a (codes "bus") m ≡ true → (xs : List ℕ) (times : ℕ) → Empties m xs times
    empties m deep isa [] times b h shut later dim e few fresh =
        rw (drained-none f times m b e)
        (record { is = refl; went = went-none depth out None ps b h; spares = spares-none (Reach next m) b })
    empties m deep isa (x ∷ xs) zero b h shut later dim e few fresh = absurd (omega (arith, few))
    empties m deep isa (x ∷ xs) (suc times) b h shut later dim e few fresh = go (empties m deep isa xs times)
      where
        c : Board
        c = f x b

        own : among (x ∷ xs) x ≡ true
        own = rw (eq-eqb x x refl) refl

        has : among (kids_of b m) x ≡ true
        has = rw e own

        had : among (kids_of a m) x ≡ true
        had = kid-was a k b later m x has

        goes : leads next m x ≡ true
        goes = rw (below, isa) had

        is : is_of b (codes "bus") m ≡ true
        is = later.kind m (kid-owner b m x has) ∙ isa

        its : (stands b x ≡ true) × (bus_of b x ≡ Some m)
        its = kid-of depth None out b h.places m x is (kids-listed x (slots_at b m) has)

        dark : is_realized b x ≡ false
        dark = dim x own

        one : TakenOut depth out ps x m b c
        one = takes ps up x m b h shut its.0 its.1 dark deep

        s : Steps b c
        s = one.went.steps

        first : Plainly x b c
        first = does ps up x m b h shut its.0 its.1 dark deep later (fresh x own)

        firm : WellFormed c
        firm = one.went.mid.sits.near.firm

        apart : (y : ℕ) → among xs y ≡ true → x ≡ y → ⊥
        apart y i same =
            clash
            (sym (subst (λ (z : ℕ). among xs z ≡ true) (sym same) i)
            ∙ distinct-first x xs (subst (IsDistinct eqb) e (kids-once a k b later m isa)))

        -- the kids that come later
        kid : (y : ℕ) → among xs y ≡ true → (leads next m y ≡ true) × (stands b y ≡ true)
        kid y i =
            let there : among (kids_of b m) y ≡ true = rw e (later-in y x xs i) in
            (rw (below, isa) (kid-was a k b later m y there), (kid-of depth None out b h.places m y is (kids-listed y (slots_at b m) there)).0)

        off : among (kids_of c m) x ≡ false
        off =
            false_from_ne_true (among (kids_of c m) x)
            (λ j.
            let isc : is_of c (codes "bus") m ≡ true = of-alike b c m (codes "bus") (s.body m (kid-owner c m x j)) ∙ is in
            clash (sym (kids-listed x (slots_at c m) j) ∙ one.unlisted m isc))

        fewer : kids_of c m ≡ xs
        fewer =
            kids-less a k depth out b c h.places one.went.mid.places firm s later m x xs isa e off
            (λ y i. first.spares.stand y (λ r. not-other y i r) (kid y i).1)
          where
            not-other : (y : ℕ) → among xs y ≡ true → Reach next x y → ⊥
            not-other y i r = apart-below a k m x y y goes (kid y i).0 (apart y i) r itself

        fresh-later : (y : ℕ) → among xs y ≡ true → Fresh a k y c
        fresh-later y i =
            fresh-kept a k depth out b c h.places one.went.mid.places firm s later (Reach next x) first.spares y
            (λ z r j. apart-below a k m x y z goes (kid y i).0 (apart y i) j r) (fresh y (later-in y x xs i))

        go : Empties m xs times → Emptied ps m (x ∷ xs) b (drained f (suc times) m b)
        go rest =
            let last : Emptied ps m xs c (drained f times m c) =
            rest c one.went.mid (closed-steps b c firm s shut) (later-steps a b c later s)
            (λ y i. unrealized-steps b c y s (dim y (later-in y x xs i))) fewer (omega (arith, few)) fresh-later in
            rw (drained-first f times m x xs b e)
            (record {
              is = last.is ∙ ap (each F xs) first.is;
              went = record { mid = last.went.mid; steps = steps-then b c (drained f times m c) s last.went.steps };
              spares =
                  spares-then (Reach next m) b c (drained f times m c)
                  (spares-fewer (Reach next x) (Reach next m) (λ y r. reach-front next m x y goes r) b c first.spares) last.spares;
            })

    -- a bus of a device: its kids are taken out, and it is let go
    abbrev lose : ℕ → ℕ → Board → Board
    lose d m e = let_go_where (is_bus_child m) d (each F (kids_of a m) e)

    -- a device whose buses were let go
    record Bared (d q : ℕ) (ms : List ℕ) (b c : Board) : Type 0 where
      is : c ≡ each (lose d) ms b
      went : ReachedBySteps depth out None ps b c
      spares : Spares (Reach next d) b c
      still : (stands c d ≡ true) × (bus_of c d ≡ Some q)
      bare : buses_of c d ≡ []

    abbrev Bares : ℕ → ℕ → List ℕ → ℕ → Type 0
    Bares d q ms times =
        (b : Board) → Mid depth out None ps b → IsClosed b → stands b d ≡ true → bus_of b d ≡ Some q → is_realized b d ≡ false → Later a b
        → buses_of b d ≡ ms → IsDistinct eqb ms → length ms ≤ times → ((m : ℕ) → among ms m ≡ true → Fresh a k m b)
        → Bared d q ms b (lost_buses f times d b)

    -- what a device loses with a bus: what is below the bus, and of its own children
    abbrev Lost : ℕ → ℕ → ℕ → Type 0
    Lost d m y = Reach next m y ⊎ (y ≡ d)

    bares : Does depth out n f → (d q : ℕ) → 9 ≤ n + suc (depth q) → (ms : List ℕ) (times : ℕ) → Bares d q ms times
    bares outs d q deep [] times b h shut e on dim later have once few fresh =
        rw (lost-none f times d b (ap first_of have))
        (record { is = refl; went = went-none depth out None ps b h; spares = spares-none (Reach next d) b; still = (e, on); bare = have })
    bares outs d q deep (m ∷ ms) zero b h shut e on dim later have once few fresh = absurd (omega (arith, few))
    bares outs d q deep (m ∷ ms) (suc times) b h shut e on dim later have once few fresh = go (bares outs d q deep ms times)
      where
        c : Board
        c = drained f (length (slots_at b m)) m b

        x : Board
        x = lost_bus f d m b

        own : among (m ∷ ms) m ≡ true
        own = rw (eq-eqb m m refl) refl

        -- a bus of those is one of the board before
        was : (y : ℕ) → among (m ∷ ms) y ≡ true → among (buses_of a d) y ≡ true
        was y i = bus-was a k b h.sits.near.firm later d y (rw have i)

        goes : (y : ℕ) → among (m ∷ ms) y ≡ true → leads next d y ≡ true
        goes y i = goes-bus a k d y (was y i)

        isa : is_of a (codes "bus") m ≡ true
        isa = (is-bus_of a d m (was m own)).bus

        has : among (buses_of b d) m ≡ true
        has = rw have own

        its : IsBusOf b d m
        its = is-bus_of b d m has

        lower : depth m ≡ suc (depth q)
        lower = h.places.shallow.below d q m e on its.owned

        kids : kids_of b m ≡ kids_of a m
        kids = (fresh m own).kids m itself isa

        short : length (kids_of a m) ≤ length (slots_at b m)
        short = subst (λ (xs : List ℕ). length xs ≤ length (slots_at b m)) kids (kids-short (slots_at b m))

        dark : (y : ℕ) → among (kids_of a m) y ≡ true → is_realized b y ≡ false
        dark y i =
            let there : among (kids_of b m) y ≡ true = rw kids i in
            shut d m y e its.owned its.bus (kids-listed y (slots_at b m) there) dim

        emptied : Emptied ps m (kids_of a m) b c
        emptied =
            empties m (omega (arith, deep, lower)) isa (kids_of a m) (length (slots_at b m)) b h shut later dark kids short
            (λ y i. fresh-below a k m y b (rw (below, isa) i) (fresh m own))

        lost : Loses depth out ps d q m b (drained f (length (slots_at b m)) m b) x
        lost = loses depth out n f takes outs ps up d q m b h shut e on dim deep has

        firm : WellFormed x
        firm = lost.went.mid.sits.near.firm

        walked : Walked c (λ y. y ≡ d → ⊥) x
        walked = walked-where c (λ y. y ≡ d → ⊥) (is_bus_child m) d (λ n. n refl) c (walked-none c (λ y. y ≡ d → ⊥))

        kind : (y : ℕ) → is_live x y ≡ true → is_of x (codes "bus") y ≡ is_of c (codes "bus") y
        kind y live = ap (λ (o : Option TypeId). option_map_or (λ (t : TypeId). is_a t (codes "bus")) o false) (walked.kin y live).1

        before : buses_of c d ≡ m ∷ ms
        before =
            buses-kept b c emptied.went.mid.sits.near.firm
            (λ y live. of-alike b c y (codes "bus") (emptied.went.steps.body y live)) d
            (emptied.spares.children d (not-back a k d m (goes m own)) e)
            ∙ have

        fewer : buses_of x d ≡ ms
        fewer = buses-less c x d m ms firm refl kind (stands-live x firm d lost.still.0) before

        spares : Spares (Lost d m) b x
        spares =
            spares-then (Lost d m) b c x (spares-fewer (Reach next m) (Lost d m) (λ y r. inl r) b c emptied.spares)
            (spares-fewer (λ y. y ≡ d) (Lost d m) (λ y is. inr is) c x
            (spares-walked depth out d c x (emptied.spares.stand d (not-back a k d m (goes m own)) e) emptied.went.mid.places lost.went.mid.places firm walked))

        apart : (y : ℕ) → among ms y ≡ true → m ≡ y → ⊥
        apart y i same = clash (sym (subst (λ (z : ℕ). among ms z ≡ true) (sym same) i) ∙ distinct-first m ms once)

        unlost : (y z : ℕ) → among ms y ≡ true → Reach next y z → Lost d m z → ⊥
        unlost y z i r (inl j) = apart-below a k d m y z (goes m own) (goes y (later-in y m ms i)) (apart y i) j r
        unlost y z i r (inr is) = not-back a k d y (goes y (later-in y m ms i)) (subst (Reach next y) is r)

        fresh-later : (y : ℕ) → among ms y ≡ true → Fresh a k y x
        fresh-later y i =
            fresh-kept a k depth out b x h.places lost.went.mid.places firm lost.went.steps later (Lost d m) spares y (λ z r l. unlost y z i r l)
            (fresh y (later-in y m ms i))

        below-it : (y : ℕ) → Lost d m y → Reach next d y
        below-it y (inl r) = reach-front next d m y (goes m own) r
        below-it y (inr is) = subst (Reach next d) (sym is) itself

        go : Bares d q ms times → Bared d q (m ∷ ms) b (lost_buses f (suc times) d b)
        go rest =
            let last : Bared d q ms x (lost_buses f times d x) =
            rest x lost.went.mid (closed-steps b x firm lost.went.steps shut) lost.still.0 lost.still.1 (unrealized-steps b x d lost.went.steps dim)
            (later-steps a b x later lost.went.steps) fewer (distinct-rest m ms once) (omega (arith, few)) fresh-later in
            rw (lost-first f times d m ms b have)
            (record {
              is = last.is ∙ ap (λ (y : Board). each (lose d) ms (let_go_where (is_bus_child m) d y)) emptied.is;
              went = record { mid = last.went.mid; steps = steps-then b x (lost_buses f times d x) lost.went.steps last.went.steps };
              spares =
                  spares-then (Reach next d) b x (lost_buses f times d x) (spares-fewer (Lost d m) (Reach next d) below-it b x spares) last.spares;
              still = last.still;
              bare = last.bare;
            })

-- a device, while it is held
module _ (a : Board) (k : Placed a) (depth : ℕ → ℕ) (out : ℕ → Bool) (F : ℕ → Board → Board)
    (turn : (d : ℕ) (c : Board) → F d c ≡ taken_turn a F d (pin c d)) where
  device : (n : ℕ) → TakesPlainly a k depth out F n (apart_within n) → TakesPlainly a k depth out F (suc n) (apart_within (suc n))
  unfolding apart_within
  device n does ps up d q b h shut e on dim deep later fresh = record { is = is; spares = record { stand = stand; children = children } }
    where
      p : Board
      p = pin b d

      mid : Mid depth out None (put_in_order d ps) p
      mid = mid-pin depth out ps b d h

      fresh_p : Fresh a k d p
      fresh_p = fresh-pin a k d d b fresh

      stood : stands a d ≡ true
      stood = later-stands a b later d e

      buses : buses_of p d ≡ buses_of a d
      buses = fresh_p.buses d itself stood

      short : length (buses_of a d) ≤ length (slots_at p d)
      short = subst (λ (xs : List ℕ). length xs ≤ length (slots_at p d)) buses (buses-short p (slots_at p d))

      c : Board
      c = lost_buses (apart_within n) (length (slots_at p d)) d p

      bared : Bared a k depth out F n (apart_within n) (takes-apart depth out n) does (put_in_order d ps) (put-up d ps up) d q (buses_of a d) p c
      bared =
          bares a k depth out F n (apart_within n) (takes-apart depth out n) does (put_in_order d ps) (put-up d ps up) (does-apart depth out n) d q
          (omega (arith, deep)) (buses_of a d) (length (slots_at p d)) p mid (closed-steps b p mid.sits.near.firm (steps-pin b d) shut)
          (pinned-stands b d d ∙ e) (pinned-bus b d d ∙ on) (unrealized-steps b p d (steps-pin b d) dim) (later-steps a b p later (steps-pin b d)) buses
          (buses-once a k d stood) short (λ m i. fresh-below a k d m p (goes-bus a k d m i) fresh_p)

      is : unpin (left_parent d (left_bus d c)) d ≡ F d b
      is = ap (λ (x : Board). unpin (left_parent d (left_bus d x)) d) bared.is ∙ sym (turn d b)

      off_bus : Left depth out (put_in_order d ps) d c (left_bus d c)
      off_bus = bus-left depth out (put_in_order d ps) c bared.went.mid d q bared.still.0 bared.still.1

      loose : Unlinked d (left_bus d c)
      loose =
          record {
            off = off_bus.off;
            unrealized =
                unrealized-steps c (left_bus d c) d off_bus.went.steps
                (unrealized-steps p c d bared.went.steps (unrealized-steps b p d (steps-pin b d) dim));
            ownless = ownless-steps c (left_bus d c) d off_bus.went.steps none;
            unlisted = off_bus.unlisted;
          }
        where
          none : (m : ℕ) → is_of c (codes "bus") m ≡ true → owns c d m ≡ false
          none m i =
              false_from_ne_true (owns c d m)
              (λ o. clash (sym (owned-bus c m i (slots_at c d) o) ∙ ap (λ (ms : List ℕ). among ms m) bared.bare))

      y : Board
      y = left_parent d (left_bus d c)

      off : Parted depth out (put_in_order d ps) d (left_bus d c) y
      off = parent-left depth out (put_in_order d ps) d (left_bus d c) off_bus.went.mid loose

      one : TakenOut depth out ps d q b (unpin y d)
      one = takes-apart depth out (suc n) ps up d q b h shut e on dim deep

      firm : WellFormed (unpin y d)
      firm = one.went.mid.sits.near.firm

      stand : (x : ℕ) → (Reach (below a) d x → ⊥) → stands b x ≡ true → stands (unpin y d) x ≡ true
      stand x apart s =
          walked-stands depth None out (λ z. ⊤) y (unpin y d) (walked-unpin y (λ z. ⊤) d y (walked-none y (λ z. ⊤))) tt tt one.went.mid.places firm x
          (off.stay.stands_on x other (off_bus.stay.stands_on x other (bared.spares.stand x apart (pinned-stands b d x ∙ s))))
        where
          other : (d == x) ≡ false
          other = false_from_ne_true (d == x) (λ i. apart (subst (Reach (below a) d) (eqb-true d x i) itself))

      gone : Walked b (Keeps b b (dimmed-none b) d) (unpin y d)
      gone = gone-apart b b (dimmed-none b) d (suc n) d b here (walked-none b (Keeps b b (dimmed-none b) d))

      children : (x : ℕ) → (Reach (below a) d x → ⊥) → stands b x ≡ true → child_entries (unpin y d) x ≡ child_entries b x
      children x apart s =
          gone.still x (
            λ v. apart (under-reach a k b h.sits.near.firm later d x v),
            aside-apart b (PERIPHERAL_BIRTH ∷ ANONYMOUS_BIRTH ∷ []) (h.places.aside.1.1.0, (h.places.aside.1.1.1.0, tt)) x s,
          )
          (stands-live (unpin y d) firm x (stand x apart s))

  plain-apart : (n : ℕ) → TakesPlainly a k depth out F n (apart_within n)
  plain-apart zero =
      λ ps up d q b h shut e on dim deep later fresh.
      absurd (let most : depth q ≤ 8 = h.places.shallow.most q (h.places.owner d q e on) in omega (arith, most, deep))
  plain-apart (suc n) = device n (plain-apart n)

-- the board on which all below the device is unrealized has the entries of the board before
module _ (b : Board) (k : Placed b) (d : ℕ) where
  fading : Later b (unrealize (pin b d) d)
  unfolding pin
  fading =
      record {
        kids = λ m. within-same ((dims b d).kids m);
        children = λ x. within-same ((dims b d).children x);
        kind = λ x e. of-alike (pin b d) (unrealize (pin b d) d) x (codes "bus") ((dims b d).body x);
      }

  faded : WellFormed (unrealize (pin b d) d) → Fresh b k d (unrealize (pin b d) d)
  unfolding pin
  faded firm =
      record {
        there = λ x r e. stands-dimmed (pin b d) (unrealize (pin b d) d) (dims b d) x ∙ e;
        buses = λ x r e.
            buses-kept b (unrealize (pin b d) d) firm (λ y live. of-alike (pin b d) (unrealize (pin b d) d) y (codes "bus") ((dims b d).body y)) x
            ((dims b d).children x);
        kids = λ m r is. kids-alike b (unrealize (pin b d) d) m ((dims b d).kids m);
      }

-- the way of taking out, over all that is below
abbrev held_turn : Board → (ℕ → Board → Board) → ℕ → Board → Board
held_turn b f d c = taken_turn b f d (pin c d)

local : (b : Board) → IsLocal (under b) (held_turn b)
local b d f g same = fun_ext at
  where
    at : (c : Board) → held_turn b f d c ≡ held_turn b g d c
    at c =
        ap (λ (x : Board). unpin (left_parent d (left_bus d x)) d)
        (each-same (λ m. λ e. let_go_where (is_bus_child m) d (each f (kids_of b m) e)) (λ m. λ e. let_go_where (is_bus_child m) d (each g (kids_of b m) e))
        (buses_of b d)
        (λ m i e.
        ap (let_go_where (is_bus_child m) d)
        (each-same f g (kids_of b m) (λ x j y. ap (λ (h : Board → Board). h y) (same x (joined-among (kids_of b) (buses_of b d) m x i j))) e)) (pin c d))

-- no two ways go by these steps
module _ (b : Board) (k : Placed b) (f g : ℕ → Board → Board) (is_f : IsByTurns b f) (is_g : IsByTurns b g) where
  both : (d : ℕ) → ((x : ℕ) → leads (under b) d x ≡ true → f x ≡ g x) → f d ≡ g d
  both d same = fun_ext (is_f d) ∙ local b d f g same ∙ sym (fun_ext (is_g d))

  -- what is below a device
  record IsBelow (d x : ℕ) : Type 0 where
    bus : ℕ
    its : IsBusOf b d bus
    there : stands b x ≡ true
    on : bus_of b x ≡ Some bus

  is-below : (d x : ℕ) → leads (under b) d x ≡ true → IsBelow d x
  is-below d x i =
      let h : From (kids_of b) (buses_of b d) x = from-joined (kids_of b) (buses_of b d) x i in
      let its : IsBusOf b d h.source = is-bus_of b d h.source h.there in
      let kid : (stands b x ≡ true) × (bus_of b x ≡ Some h.source) =
      kid-of k.depth None (λ y. false) b k.places h.source x its.bus (kids-listed x (slots_at b h.source) h.comes) in
      record { bus = h.source; its = its; there = kid.0; on = kid.1 }

  deep : (n d q : ℕ) → stands b d ≡ true → bus_of b d ≡ Some q → 9 ≤ n + k.depth q → f d ≡ g d
  deep zero d q e on few = absurd (let most : k.depth q ≤ 8 = k.places.shallow.most q (k.places.owner d q e on) in omega (arith, most, few))
  deep (suc n) d q e on few =
      both d
      (λ x i.
      let h : IsBelow d x = is-below d x i in
      deep n x h.bus h.there h.on (omega (arith, few, k.places.shallow.below d q h.bus e on h.its.owned)))

  one-way : (d : ℕ) → f d ≡ g d
  one-way d = both d (λ x i. let h : IsBelow d x = is-below d x i in deep 9 x h.bus h.there h.on (omega arith))

abbrev steps_of : Board → ℕ → Board → Board
steps_of b = by_objects (held_turn b) (λ d c. c) (births b)

pub taken_lem : TakenLaw
unfolding detach
taken_lem b h =
    record { step = steps_of b; is = turn; only = λ other is d c. ap (λ (g : Board → Board). g c) (one-way b k other (steps_of b) is turn d); whole = whole }
  where
    k : Placed b
    k = placed b h

    turn : (d : ℕ) (c : Board) → steps_of b d c ≡ taken_turn b (steps_of b) d (pin c d)
    turn d c = ap (λ (g : Board → Board). g c) (by_objects_is (under b) (held_turn b) (λ x e. e) (births b) (local b) (tree b k) d)

    whole : (d : ℕ) → stands b d ≡ true → detach b d ≡ taken_turn b (steps_of b) d (unrealize (pin b d) d)
    whole d e = ap (λ (c : Board). unpin (left_parent d (left_bus d c)) d) bared.is
      where
        rest : PinsRootAlone b
        rest = rest-from_sound b h.tree

        home : IsHome b d
        home = h.places.1.home d e (λ z. cc)

        u : Board
        u = unrealize (pin b d) d

        out : ℕ → Bool
        out = faded_by (pin b d) u

        n : ℕ
        n = length (births b)

        mid : Mid h.places.0 out None (put_in_order d (1 ∷ [])) u
        mid = middle h.places.0 b d rest h.places.1 e

        fresh : Fresh b k d u
        fresh = faded b k d mid.sits.near.firm

        buses : buses_of u d ≡ buses_of b d
        buses = fresh.buses d itself e

        short : length (buses_of b d) ≤ length (slots_at u d)
        short = subst (λ (xs : List ℕ). length xs ≤ length (slots_at u d)) buses (buses-short u (slots_at u d))

        bared : Bared b k h.places.0 out (steps_of b) n (apart_within n) (takes-apart h.places.0 out n) (plain-apart b k h.places.0 out (steps_of b) turn n)
            (put_in_order d (1 ∷ [])) (put-up d (1 ∷ []) (tt, tt)) d home.bus (buses_of b d) u (lost_buses (apart_within n) (length (slots_at u d)) d u)
        bared =
            bares b k h.places.0 out (steps_of b) n (apart_within n) (takes-apart h.places.0 out n) (plain-apart b k h.places.0 out (steps_of b) turn n)
            (put_in_order d (1 ∷ [])) (put-up d (1 ∷ []) (tt, tt)) (does-apart h.places.0 out n) d home.bus
            (omega (arith, room h.places.0 None (λ x. false) b rest.used.firm h.places.1)) (buses_of b d) (length (slots_at u d)) u mid
            (closed h.places.0 b d rest h.places.1 e) (stands-dimmed (pin b d) u (dims b d) d ∙ pinned-stands b d d ∙ e)
            ((dims b d).bus d ∙ pinned-bus b d d ∙ home.on) (dark h.places.0 b d rest h.places.1 e d here) (fading b k d) buses (buses-once b k d e) short
            (λ m i. fresh-below b k d m u (goes-bus b k d m i) fresh)
