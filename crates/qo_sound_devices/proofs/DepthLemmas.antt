-- Places after unrealizing: the recursion goes deep enough, and what is left of places.
use Rattle.std.proofs.Common.{◌≡◌, refl, ap, sym, subst, ◌∙◌, ℕ, zero, suc, ◌+◌, ◌≤◌, Bool, true, false, not, ◌&&◌, ◌||◌, ◌==◌, eqb, List, [], ◌∷◌, filter_map, length, Option, Some, None, arith, codes}
use Rattle.qo_model.proofs.Common.{⊤, AllByRecursion, list_any, bytes_eq, ANONYMOUS_BIRTH, MACHINE_BIRTH, PERIPHERAL_BIRTH, Board, Slot, plain, child, strong, weak, alias, is_live, slots_at, among, bus_in, bus_of, buses_of, clock_name, is_realized, strong_in, births, is_of, unrealize, without_all}
use Rattle.std.proofs.lemmas.Bool.{eqb-true}
use Rattle.std.proofs.Math.Bool.{or-true}
use Rattle.qo_model.proofs.StepLemmas.{live-among}
use Rattle.qo_sound.proofs.FirmBoardLemmas.{WellFormed}
use Rattle.qo_values.proofs.ListLemmas.{all-imply}
use Rattle.qo_sound_devices.specs.SoundPlaces.{child_entries, child_entry, HasOwner, machines, bridges, IsKid, kid_entries, kid_entry, listed, owns, owns_it, PlacesBut, stands}
use Rattle.qo_sound_devices.proofs.RemovalLemmas.{Moved, places-moved}
use Rattle.qo_sound_devices.proofs.PlacesLemmas.{all-listed, child-live, owner-live, within-same, stands-same}
use Rattle.qo_sound_devices.proofs.UnrealizingLemmas.{FewerRealized, dimmed-live, IsLow, turns-all, turns-dimmed, turns-only, Under, here, down}

-- the kids and buses that recursions go over
pub kids-listed : (k : ℕ) (slots : List (List ℕ × Slot)) → among (filter_map (λ (s : List ℕ × Slot). strong_in s.1) slots) k ≡ true
    → listed k (filter_map kid_entry slots) ≡ true
kids-listed k [] e = cc
kids-listed k ((name, plain v) ∷ slots) e = kids-listed k slots e
kids-listed k ((name, child m) ∷ slots) e = kids-listed k slots e
kids-listed k ((name, strong t None) ∷ slots) e = kids-listed k slots e
kids-listed k ((name, strong t (Some m)) ∷ slots) e = go (eqb k m) refl (kids-listed k slots)
  where
    go : (t : Bool) → eqb k m ≡ t
        → (among (filter_map (λ (s : List ℕ × Slot). strong_in s.1) slots) k ≡ true → listed k (filter_map kid_entry slots) ≡ true)
        → (m == k) || listed k (filter_map kid_entry slots) ≡ true
    go true p rest = let own : (m == k) ≡ true = grind (arith, p) in rw own refl
    go false p rest = rw (rest (rw p at e)) (or-true (m == k))
kids-listed k ((name, weak t target) ∷ slots) e = kids-listed k slots e
kids-listed k ((name, alias m property) ∷ slots) e = kids-listed k slots e

pub record IsBusOf (b : Board) (d m : ℕ) : Type 0 where
  pub bus : is_of b (codes "bus") m ≡ true
  pub owned : owns b d m ≡ true

bus-owned : (b : Board) (m : ℕ) (slots : List (List ℕ × Slot)) → among (filter_map (bus_in b) slots) m ≡ true
    → (is_of b (codes "bus") m ≡ true) × (list_any (owns_it m) (filter_map child_entry slots) ≡ true)
bus-owned b m [] e = cc
bus-owned b m ((name, plain v) ∷ slots) e = bus-owned b m slots e
bus-owned b m ((name, strong t target) ∷ slots) e = bus-owned b m slots e
bus-owned b m ((name, weak t target) ∷ slots) e = bus-owned b m slots e
bus-owned b m ((name, alias k property) ∷ slots) e = bus-owned b m slots e
bus-owned b m ((name, child k) ∷ slots) e = go (is_of b (codes "bus") k) refl (bytes_eq name clock_name) refl (eqb m k) refl (bus-owned b m slots)
  where
    go : (t : Bool) → is_of b (codes "bus") k ≡ t → (u : Bool) → bytes_eq name clock_name ≡ u → (v : Bool) → eqb m k ≡ v
        → (among (filter_map (bus_in b) slots) m ≡ true → (is_of b (codes "bus") m ≡ true) × (list_any (owns_it m) (filter_map child_entry slots) ≡ true))
        → (is_of b (codes "bus") m ≡ true) × (list_any (owns_it m) (filter_map child_entry ((name, child k) ∷ slots)) ≡ true)
    go true p false q true r rest =
        let own : (k == m) ≡ true = grind (arith, r) in
        (subst (λ (x : ℕ). is_of b (codes "bus") x ≡ true) (eqb-true k m own) p, rw (own, q) refl)
    go true p false q false r rest = after (rest (rw (p, q, r) at e))
      where
        after : (is_of b (codes "bus") m ≡ true) × (list_any (owns_it m) (filter_map child_entry slots) ≡ true)
            → (is_of b (codes "bus") m ≡ true) × (list_any (owns_it m) ((name, k) ∷ filter_map child_entry slots) ≡ true)
        after h = (h.0, rw h.1 (or-true (owns_it m (name, k))))
    go true p true q v r rest = after (rest (rw (p, q) at e))
      where
        after : (is_of b (codes "bus") m ≡ true) × (list_any (owns_it m) (filter_map child_entry slots) ≡ true)
            → (is_of b (codes "bus") m ≡ true) × (list_any (owns_it m) ((name, k) ∷ filter_map child_entry slots) ≡ true)
        after h = (h.0, rw h.1 (or-true (owns_it m (name, k))))
    go false p u q v r rest = after (rest (rw p at e))
      where
        after : (is_of b (codes "bus") m ≡ true) × (list_any (owns_it m) (filter_map child_entry slots) ≡ true)
            → (is_of b (codes "bus") m ≡ true) × (list_any (owns_it m) ((name, k) ∷ filter_map child_entry slots) ≡ true)
        after h = (h.0, rw h.1 (or-true (owns_it m (name, k))))

pub is-bus_of : (b : Board) (d m : ℕ) → among (buses_of b d) m ≡ true → IsBusOf b d m
is-bus_of b d m e =
    let h : (is_of b (codes "bus") m ≡ true) × (list_any (owns_it m) (child_entries b d) ≡ true) = bus-owned b m (slots_at b d) e in
    record { bus = h.0; owned = h.1 }

-- a kid of a bus
pub kid-of : (depth : ℕ → ℕ) (left : Option ℕ) (out : ℕ → Bool) (b : Board) → PlacesBut depth left out b → (q k : ℕ) → is_of b (codes "bus") q ≡ true
    → listed k (kid_entries b q) ≡ true → (stands b k ≡ true) × (bus_of b k ≡ Some q)
kid-of depth left out b h q k is e =
    all-listed (λ x. (stands b x ≡ true) × (bus_of b x ≡ Some q)) (kid_entries b q)
    (all-imply (IsKid b q) (λ (x : List ℕ × ℕ). (stands b x.1 ≡ true) × (bus_of b x.1 ≡ Some q)) (λ x i. (i.there, i.on)) (kid_entries b q) (h.kids q is)) k e

module _ (depth : ℕ → ℕ) (left : Option ℕ) (out : ℕ → Bool) (b : Board) (h : PlacesBut depth left out b) where
  -- no device has more than so many below it
  pub low : (n d q : ℕ) → stands b d ≡ true → bus_of b d ≡ Some q → 9 ≤ n + depth q → IsLow b n d
  low zero d q e on room = absurd (let most : depth q ≤ 8 = h.shallow.most q (h.owner d q e on) in omega (arith, most, room))
  low (suc n) d q e on room = λ m k im ik.
      let bus : IsBusOf b d m = is-bus_of b d m im in
      let kid : (stands b k ≡ true) × (bus_of b k ≡ Some m) = kid-of depth left out b h m k bus.bus (kids-listed k (slots_at b m) ik) in
      let deeper : depth m ≡ suc (depth q) = h.shallow.below d q m e on bus.owned in
      low n k m kid.0 kid.1 (omega (arith, room, deeper))

  -- what is below a device that stands stands
  pub under-stands : (d y : ℕ) → Under b d y → stands b d ≡ true → stands b y ≡ true
  under-stands d y here e = e
  under-stands d y (down m k im ik u) e = under-stands k y u (kid-of depth left out b h m k (is-bus_of b d m im).bus (kids-listed k (slots_at b m) ik)).0

-- the machine's objects are eight
less-without : (x : ℕ) (ns : List ℕ) → among ns x ≡ true → suc (length (without_all x ns)) ≤ length ns
less-without x [] e = cc
less-without x (n ∷ ns) e = go (n == x) refl (less-without x ns)
  where
    fewer : (ms : List ℕ) → length (without_all x ms) ≤ length ms
    fewer [] = omega arith
    fewer (m ∷ ms) = choose (m == x) refl (fewer ms)
      where
        choose : (t : Bool) → (m == x) ≡ t → length (without_all x ms) ≤ length ms → length (without_all x (m ∷ ms)) ≤ length (m ∷ ms)
        choose true p rest = rw p (omega (arith, rest))
        choose false p rest = rw p (omega (arith, rest))

    go : (t : Bool) → (n == x) ≡ t → (among ns x ≡ true → suc (length (without_all x ns)) ≤ length ns) → suc (length (without_all x (n ∷ ns))) ≤ length (n ∷ ns)
    go true p rest = rw p (omega (arith, fewer ns))
    go false p rest = let other : eqb x n ≡ false = grind (arith, p) in rw p (omega (arith, rest (rw other at e)))

still-among : (x y : ℕ) → (y == x) ≡ false → (ns : List ℕ) → among ns y ≡ true → among (without_all x ns) y ≡ true
still-among x y apart [] e = cc
still-among x y apart (n ∷ ns) e = go (n == x) refl (eqb y n) refl (still-among x y apart ns)
  where
    go : (t : Bool) → (n == x) ≡ t → (u : Bool) → eqb y n ≡ u → (among ns y ≡ true → among (without_all x ns) y ≡ true)
        → among (without_all x (n ∷ ns)) y ≡ true
    go true p true q rest = absurd (let same : (y == x) ≡ true = grind (arith, p, q) in let clash : true ≡ false = sym same ∙ apart in cc)
    go true p false q rest = rw p (rest (rw q at e))
    go false p true q rest = rw (p, q) refl
    go false p false q rest = rw (p, q) (rest (rw q at e))

IsApart : List ℕ → Type 0
IsApart [] = ⊤
IsApart (x ∷ xs) = AllByRecursion (λ y. (y == x) ≡ false) xs × IsApart xs

room-of : (xs ns : List ℕ) → IsApart xs → AllByRecursion (λ x. among ns x ≡ true) xs → length xs ≤ length ns
unfolding IsApart
room-of [] ns a h = omega arith
room-of (x ∷ xs) ns a h = omega (arith, room-of xs (without_all x ns) a.1 (stay xs a.0 h.1), less-without x ns h.0)
  where
    stay : (ys : List ℕ) → AllByRecursion (λ y. (y == x) ≡ false) ys → AllByRecursion (λ y. among ns y ≡ true) ys
        → AllByRecursion (λ y. among (without_all x ns) y ≡ true) ys
    stay [] b k = tt
    stay (y ∷ ys) b k = (still-among x y b.0 ns k.0, stay ys b.1 k.1)

pub room : (depth : ℕ → ℕ) (left : Option ℕ) (out : ℕ → Bool) (b : Board) → WellFormed b → PlacesBut depth left out b → 8 ≤ length (births b)
unfolding IsApart
room depth left out b firm h =
    room-of (1 ∷ 2 ∷ 3 ∷ 4 ∷ 5 ∷ 6 ∷ 7 ∷ 8 ∷ []) (births b) (
      (refl, (refl, (refl, (refl, (refl, (refl, (refl, tt))))))),
      (
        (refl, (refl, (refl, (refl, (refl, (refl, tt)))))),
        (
          (refl, (refl, (refl, (refl, (refl, tt))))),
          ((refl, (refl, (refl, (refl, tt)))), ((refl, (refl, (refl, tt))), ((refl, (refl, tt)), ((refl, tt), (tt, tt))))),
        ),
      ),
    ) (
      there 1 (owner-live b 1 2 h.machine),
      (
        there 2 (child-live b firm 1 2 h.machine),
        (
          there 3 (child-live b firm 2 3 h.parts.0),
          (
            there 4 (child-live b firm 2 4 h.parts.1.0),
            (
              there 5 (child-live b firm 2 5 h.parts.1.1.1.1.0),
              (
                there 6 (child-live b firm 2 6 h.parts.1.1.0),
                (there 7 (child-live b firm 2 7 h.parts.1.1.1.0), (there 8 (child-live b firm 1 8 h.objects), tt)),
              ),
            ),
          ),
        ),
      ),
    )
  where
    there : (x : ℕ) → is_live b x ≡ true → among (births b) x ≡ true
    there x e = sym (live-among b x) ∙ e

-- unrealizing

pub stands-dimmed : (b c : Board) → FewerRealized b c → (x : ℕ) → stands c x ≡ stands b x
stands-dimmed b c h = stands-same b c (h.children PERIPHERAL_BIRTH) (h.children ANONYMOUS_BIRTH)

pub moved-dimmed : (depth : ℕ → ℕ) (left : Option ℕ) (out : ℕ → Bool) (b c : Board) → WellFormed c → PlacesBut depth left out b → FewerRealized b c
    → Moved left b c
moved-dimmed depth left out b c firm h d =
    record {
      firm = firm;
      root = dimmed-live b c d 1 ∙ owner-live b 1 MACHINE_BIRTH h.machine;
      anonymous = d.anonymous;
      body = λ x e. d.body x;
      fixed = λ x e k. d.children x;
      shelves = λ x e k. within-same (d.children x);
      fading = λ x e k. d.fading x k;
      place = λ x e. d.place x;
      bus_back = λ x q e on. sym (d.bus x) ∙ on;
      bus_on = λ x e k. d.bus x;
      kid = λ q x is e. (stands-dimmed b c d x ∙ (kid-of depth left out b h q x is (sym (ap (listed x) (d.kids q)) ∙ e)).0, d.bus x);
      fewer = λ q e is. within-same (d.kids q);
      within = λ x e. within-same (d.children x);
      hold = λ q x is e s k l. ap (listed x) (d.kids q) ∙ l;
      owned = λ x q e on o. owned q o;
      owns_back = λ p q e o. sym (ap (list_any (owns_it q)) (d.children p)) ∙ o;
    }
  where
    owned : (q : ℕ) → HasOwner b q → HasOwner c q
    owned q (machines k) = machines k
    owned q (bridges p s o) = bridges p (stands-dimmed b c d p ∙ s) (ap (list_any (owns_it q)) (d.children p) ∙ o)

pub unrealize-dimmed : (b : Board) (d : ℕ) → FewerRealized b (unrealize b d)
unfolding unrealize
unrealize-dimmed b d = turns-dimmed b (suc (length (births b))) d b

pub unrealize-only : (b : Board) (d y : ℕ) → is_realized b y ≡ true → is_realized (unrealize b d) y ≡ false → Under b d y
unfolding unrealize
unrealize-only b d y was is = turns-only b (suc (length (births b))) d b y was is

pub unrealize-all : (depth : ℕ → ℕ) (left : Option ℕ) (out : ℕ → Bool) (b : Board) → WellFormed b → PlacesBut depth left out b → (d q : ℕ)
    → stands b d ≡ true → bus_of b d ≡ Some q → (y : ℕ) → Under b d y → is_realized (unrealize b d) y ≡ false
unfolding unrealize
unrealize-all depth left out b firm h d q e on y u =
    turns-all b (suc (length (births b))) d (low depth left out b h (suc (length (births b))) d q e on (omega (arith, room depth left out b firm h))) y u b

-- who was realized and is no more
abbrev pub faded_by : Board → Board → ℕ → Bool
faded_by b c x = is_realized b x && not (is_realized c x)

pub unrealize-places : (depth : ℕ → ℕ) (b : Board) (d : ℕ) → WellFormed (unrealize b d) → PlacesBut depth None (λ x. false) b
    → PlacesBut depth None (faded_by b (unrealize b d)) (unrealize b d)
unrealize-places depth b d firm h =
    places-moved b (unrealize b d) depth None None (faded_by b (unrealize b d)) (λ x. false)
    (moved-dimmed depth None (λ x. false) b (unrealize b d) firm h (unrealize-dimmed b d)) h (λ x e k. k)
    (λ x e k s. stands-dimmed b (unrealize b d) (unrealize-dimmed b d) x ∙ s)
    (λ x e k. each x e (is_realized (unrealize b d) x) refl k)
  where
    each : (x : ℕ) → stands (unrealize b d) x ≡ true → (t : Bool) → is_realized (unrealize b d) x ≡ t → faded_by b (unrealize b d) x ≡ false
        → is_realized (unrealize b d) x ≡ true
    each x e true p k = p
    each x e false p k =
        let was : is_realized b x ≡ true = h.each x (sym (stands-dimmed b (unrealize b d) (unrealize-dimmed b d) x) ∙ e) refl in
        absurd (let clash : true ≡ false = rw (was, p) at k in cc)
