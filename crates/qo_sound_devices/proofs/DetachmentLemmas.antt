-- A device that is taken out with all that is below it: places are kept, and it is gone.
use Rattle.std.proofs.Common.{inl, nat_eq, ◌≡◌, refl, ap, ap₂, sym, subst, ◌∙◌, ℕ, zero, suc, ◌+◌, ◌≤◌, ◌<◌, leb, Bool, true, false, not, ◌&&◌, ◌||◌, ◌==◌, eqb, List, [], ◌∷◌, filter_map, find, slice_get, length, Option, Some, None, is_some, option_map, option_and_then, arith, codes}
use Rattle.qo_model.proofs.Common.{cons_option, list_any, option_map_or, bytes_eq, ANONYMOUS_BIRTH, MACHINE_BIRTH, MEMORY_BUS_BIRTH, OBJECTS_BIRTH, PERIPHERAL_BIRTH, ROOT_BUS_BIRTH, Board, Record, Slot, plain, child, strong, weak, alias, record_of, is_live, slots_at, slot_at, among, bus_in, bus_of, buses_of, clock_name, is_realized, kids_of, strong_in, index_from, births, is_child, is_of, after, drop_slot, finalize, let_go, pin, put_in_order, unpin, with_dropped, without_first, without_hold, without_pin, apart_within, detach, drained, is_bus_child, left_bus, left_parent, let_go_where, lost_bus, lost_buses, taken_by, unrealize}
use Rattle.std.proofs.lemmas.Bool.{eqb-true, eq-eqb, false_from_ne_true}
use Rattle.std.proofs.lemmas.Option.{same_Some}
use Rattle.std.proofs.Math.Bool.{or-true}
use Rattle.qo_model.specs.Unplug.{first_of}
use Rattle.qo_sound.proofs.FirmBoardLemmas.{WellFormed}
use Rattle.qo_model.proofs.FirstSlotLemmas.{Found, found-at}
use Rattle.qo_model.proofs.PinLemmas.{IsUp, put-among, put-back, put-up, unpin-pins}
use Rattle.qo_sound.proofs.SeveringLemmas.{near-pin, near-unpin, pin-pins}
use Rattle.qo_sound.proofs.UnplugLemmas.{bus-apart, held-unrealize, held-where_other, HasPins}
use Rattle.qo_sound.proofs.ViewLemmas.{PinsRootAlone}
use Rattle.qo_sound.proofs.WorkLemmas.{InvariantBut}
use Rattle.qo_sound_devices.specs.SoundPlaces.{child_entries, child_entry, HasOwner, machines, bridges, IsHome, kid_entries, kid_entry, listed, owns, owns_it, PlacesBut, stands, names_it}
use Rattle.qo_sound_devices.proofs.LikenessLemmas.{alike-record}
use Rattle.qo_sound_devices.proofs.AttachmentLemmas.{owns-listed, parent-is}
use Rattle.qo_sound_devices.proofs.CommandLemmas.{Goes, goes-after, goes-pins}
use Rattle.qo_sound_devices.proofs.DropLemmas.{edited-slots, names-at, strong-dropped}
use Rattle.qo_sound_devices.proofs.LeavingLemmas.{IsUnlisted, Left, OthersStay, stay-kept, stay-then, unlisted-steps}
use Rattle.qo_sound_devices.proofs.DepthLemmas.{faded_by, is-bus_of, IsBusOf, kid-of, kids-listed, room, unrealize-all, unrealize-dimmed, unrealize-only, unrealize-places, stands-dimmed}
use Rattle.qo_sound_devices.proofs.DepartureLemmas.{bus-left, Unlinked, ownless-steps, parent-left, Parted, slot-is, stay-let_go, steps-let_go, unrealized-steps}
use Rattle.qo_sound_devices.proofs.PlacesLemmas.{after-kept, Kept, owner-live, kid-live, more, nothing, of-alike, of-live, or-cases, same, stands-live, Within, aside-apart, within-any}
use Rattle.qo_sound_devices.proofs.StepsLemmas.{Steps, steps-after, steps-alike, steps-then}
use Rattle.qo_sound_devices.proofs.UnparentingLemmas.{bus-dropped, dropped-read, for-each, is-child_slot, IsChildSlot, Mid, record-at, ReachedBySteps, went-let_go, went-none}
use Rattle.qo_sound_devices.proofs.UnrealizingLemmas.{FewerRealized, Under, here, down}

-- lengths of what is left

pub within-short : {A : Type 0} {xs ys : List A} → Within xs ys → length xs ≤ length ys
within-short (nothing ys) = omega arith
within-short (same x w) = omega (arith, within-short w)
within-short (more y w) = omega (arith, within-short w)

pub within-shorter : {A : Type 0} (p : A → Bool) {xs ys : List A} → Within xs ys → list_any p xs ≡ false → list_any p ys ≡ true → suc (length xs) ≤ length ys
within-shorter p (nothing []) e k = absurd (let clash : false ≡ true = k in cc)
within-shorter p (nothing (y ∷ ys)) e k = omega arith
within-shorter p (same {xs} {ys} x w) e k = go (p x) refl (within-shorter p w)
  where
    go : (t : Bool) → p x ≡ t → (list_any p xs ≡ false → list_any p ys ≡ true → suc (length xs) ≤ length ys) → suc (length (x ∷ xs)) ≤ length (x ∷ ys)
    go true q rest = absurd (let clash : true ≡ false = rw q at e in cc)
    go false q rest = omega (arith, rest (rw q at e) (rw q at k))
within-shorter p (more {xs} {ys} y w) e k = omega (arith, within-short w)

pub entries-short : (f : List ℕ × Slot → Option (List ℕ × ℕ)) (slots : List (List ℕ × Slot)) → length (filter_map f slots) ≤ length slots
entries-short f [] = omega arith
entries-short f (s ∷ slots) = go (f s) (entries-short f slots)
  where
    go : (o : Option (List ℕ × ℕ)) → length (filter_map f slots) ≤ length slots → length (cons_option o (filter_map f slots)) ≤ length (s ∷ slots)
    go None rest = omega (arith, rest)
    go (Some y) rest = omega (arith, rest)

pub no-length : {A : Type 0} (xs : List A) → length xs ≤ 0 → xs ≡ []
no-length [] e = refl
no-length (x ∷ xs) e = absurd (omega (arith, e))

-- first kids, and first buses

pub first-kid : (k : ℕ) (slots : List (List ℕ × Slot)) → first_of (filter_map (λ (s : List ℕ × Slot). strong_in s.1) slots) ≡ Some k
    → listed k (filter_map kid_entry slots) ≡ true
first-kid k [] e = cc
first-kid k ((name, plain v) ∷ slots) e = first-kid k slots e
first-kid k ((name, child m) ∷ slots) e = first-kid k slots e
first-kid k ((name, strong t None) ∷ slots) e = first-kid k slots e
first-kid k ((name, strong t (Some m)) ∷ slots) e = let own : (m == k) ≡ true = eq-eqb m k (same_Some m k e) in rw own refl
first-kid k ((name, weak t target) ∷ slots) e = first-kid k slots e
first-kid k ((name, alias m property) ∷ slots) e = first-kid k slots e

pub no-kid : (slots : List (List ℕ × Slot)) → first_of (filter_map (λ (s : List ℕ × Slot). strong_in s.1) slots) ≡ None → filter_map kid_entry slots ≡ []
no-kid [] e = refl
no-kid ((name, plain v) ∷ slots) e = no-kid slots e
no-kid ((name, child m) ∷ slots) e = no-kid slots e
no-kid ((name, strong t None) ∷ slots) e = no-kid slots e
no-kid ((name, strong t (Some m)) ∷ slots) e = absurd (let clash : Some m ≡ None = e in cc)
no-kid ((name, weak t target) ∷ slots) e = no-kid slots e
no-kid ((name, alias m property) ∷ slots) e = no-kid slots e

pub first-among : (ns : List ℕ) (m : ℕ) → first_of ns ≡ Some m → among ns m ≡ true
first-among [] m e = cc
first-among (n ∷ ns) m e = let own : eqb m n ≡ true = eq-eqb m n (sym (same_Some n m e)) in rw own refl

no-bus : (b : Board) (q : ℕ) → is_of b (codes "bus") q ≡ true → (slots : List (List ℕ × Slot)) → first_of (filter_map (bus_in b) slots) ≡ None
    → list_any (owns_it q) (filter_map child_entry slots) ≡ false
no-bus b q is [] e = refl
no-bus b q is ((name, plain v) ∷ slots) e = no-bus b q is slots e
no-bus b q is ((name, strong t target) ∷ slots) e = no-bus b q is slots e
no-bus b q is ((name, weak t target) ∷ slots) e = no-bus b q is slots e
no-bus b q is ((name, alias m property) ∷ slots) e = no-bus b q is slots e
no-bus b q is ((name, child k) ∷ slots) e = go (k == q) refl (bytes_eq name clock_name) refl (is_of b (codes "bus") k) refl (no-bus b q is slots)
  where
    go : (t : Bool) → (k == q) ≡ t → (u : Bool) → bytes_eq name clock_name ≡ u → (v : Bool) → is_of b (codes "bus") k ≡ v
        → (first_of (filter_map (bus_in b) slots) ≡ None → list_any (owns_it q) (filter_map child_entry slots) ≡ false)
        → list_any (owns_it q) ((name, k) ∷ filter_map child_entry slots) ≡ false
    go true p true w v x rest = rw (p, w) (rest (skip v x))
      where
        skip : (v : Bool) → is_of b (codes "bus") k ≡ v → first_of (filter_map (bus_in b) slots) ≡ None
        skip true x = rw (x, w) at e
        skip false x = rw x at e
    go true p false w v x rest =
        let bus : is_of b (codes "bus") k ≡ true = ap (is_of b (codes "bus")) (eqb-true k q p) ∙ is in
        absurd (let clash : Some k ≡ None = rw (bus, w) at e in cc)
    go false p u w true x rest = rw p (rest (skip u w))
      where
        skip : (u : Bool) → bytes_eq name clock_name ≡ u → first_of (filter_map (bus_in b) slots) ≡ None
        skip true w = rw (x, w) at e
        skip false w = absurd (let clash : Some k ≡ None = rw (x, w) at e in cc)
    go false p u w false x rest = rw p (rest (rw x at e))

-- a bus slot that is let go is an entry less
child-shorter : (m i : ℕ) (slots : List (List ℕ × Slot)) (s : List ℕ × Slot) → slice_get slots i ≡ Some s → IsChildSlot m s
    → suc (length (filter_map child_entry (without_hold i slots))) ≤ length (filter_map child_entry slots)
child-shorter m i [] s e is = cc
child-shorter m zero (x ∷ slots) s e is = go x (ap child_entry (same_Some x s e) ∙ is.entry)
  where
    go : (y : List ℕ × Slot) → child_entry y ≡ Some (s.0, m)
        → suc (length (filter_map child_entry (without_hold zero (y ∷ slots)))) ≤ length (filter_map child_entry (y ∷ slots))
    go (name, plain v) q = absurd (let clash : None ≡ Some (s.0, m) = q in cc)
    go (name, child k) q = omega arith
    go (name, strong t target) q = absurd (let clash : None ≡ Some (s.0, m) = q in cc)
    go (name, weak t target) q = absurd (let clash : None ≡ Some (s.0, m) = q in cc)
    go (name, alias k property) q = absurd (let clash : None ≡ Some (s.0, m) = q in cc)
child-shorter m (suc i) (x ∷ slots) s e is = go (child_entry x) (child-shorter m i slots s e is)
  where
    go : (o : Option (List ℕ × ℕ)) → suc (length (filter_map child_entry (without_hold i slots))) ≤ length (filter_map child_entry slots)
        → suc (length (cons_option o (filter_map child_entry (without_hold i slots)))) ≤ length (cons_option o (filter_map child_entry slots))
    go None rest = rest
    go (Some y) rest = omega (arith, rest)

pub none-owned : (m k : ℕ) (slots : List (List ℕ × Slot)) → index_from (is_bus_child m) k slots ≡ None → list_any (owns_it m) (filter_map child_entry slots) ≡ false
none-owned m k [] e = refl
none-owned m k ((name, plain v) ∷ slots) e = none-owned m (suc k) slots e
none-owned m k ((name, strong t target) ∷ slots) e = none-owned m (suc k) slots e
none-owned m k ((name, weak t target) ∷ slots) e = none-owned m (suc k) slots e
none-owned m k ((name, alias n property) ∷ slots) e = none-owned m (suc k) slots e
none-owned m k ((name, child n) ∷ slots) e = go (is_bus_child m (name, child n)) refl (none-owned m (suc k) slots)
  where
    go : (t : Bool) → is_bus_child m (name, child n) ≡ t
        → (index_from (is_bus_child m) (suc k) slots ≡ None → list_any (owns_it m) (filter_map child_entry slots) ≡ false)
        → owns_it m (name, n) || list_any (owns_it m) (filter_map child_entry slots) ≡ false
    go true p rest = absurd (let clash : Some k ≡ None = rw p at e in cc)
    go false p rest = rw p (rest (rw p at e))

-- the kids of an unrealized device are unrealized
abbrev pub IsClosed : Board → Type 0
IsClosed c =
    (p m k : ℕ) → stands c p ≡ true → owns c p m ≡ true → is_of c (codes "bus") m ≡ true → listed k (kid_entries c m) ≡ true → is_realized c p ≡ false
    → is_realized c k ≡ false

pub stood-steps : (b c : Board) → Steps b c → (x : ℕ) → stands c x ≡ true → stands b x ≡ true
stood-steps b c s x e =
    or-cases (listed x (child_entries c PERIPHERAL_BIRTH)) (listed x (child_entries c ANONYMOUS_BIRTH)) e
    (λ k. rw (within-any (names_it x) (s.children PERIPHERAL_BIRTH) k) refl)
    (λ k. rw (within-any (names_it x) (s.children ANONYMOUS_BIRTH) k) (or-true (listed x (child_entries b PERIPHERAL_BIRTH))))

pub closed-steps : (b c : Board) → WellFormed c → Steps b c → IsClosed b → IsClosed c
closed-steps b c firm s h p m k e o is l dim =
    let was : is_of b (codes "bus") m ≡ true = sym (of-alike b c m (codes "bus") (s.body m (of-live c (codes "bus") m is))) ∙ is in
    s.realized k (kid-live c firm m k l)
    ∙ h p m k (stood-steps b c s p e) (within-any (owns_it m) (s.children p) o) was (within-any (names_it k) (s.kids m) l)
    (sym (s.realized p (stands-live c firm p e)) ∙ dim)

-- devices on buses above a depth stay
pub record Above (depth : ℕ → ℕ) (l : ℕ) (b c : Board) : Type 0 where
  pub on : (x q : ℕ) → stands b x ≡ true → bus_of b x ≡ Some q → depth q < l → (stands c x ≡ true) × (bus_of c x ≡ Some q)

above-none : (depth : ℕ → ℕ) (l : ℕ) (b : Board) → Above depth l b b
above-none depth l b = record { on = λ x q e o low. (e, o) }

above-then : (depth : ℕ → ℕ) (l : ℕ) (b c d : Board) → Above depth l b c → Above depth l c d → Above depth l b d
above-then depth l b c d h k =
    record { on = λ x q e o low. let first : (stands c x ≡ true) × (bus_of c x ≡ Some q) = h.on x q e o low in k.on x q first.0 first.1 low }

above-lower : (depth : ℕ → ℕ) (l k : ℕ) (b c : Board) → k ≤ l → Above depth l b c → Above depth k b c
above-lower depth l k b c less h = record { on = λ x q e o low. h.on x q e o (omega (arith, less, low)) }

above-stay : (depth : ℕ → ℕ) (d q : ℕ) (b c : Board) → bus_of b d ≡ Some q → OthersStay d b c → Above depth (depth q) b c
above-stay depth d q b c on h =
    record {
      on = λ x p e o low.
          let differs : (d == x) ≡ false =
          false_from_ne_true (d == x)
          (λ k.
          let its : q ≡ p = same_Some q p (sym on ∙ ap (bus_of b) (eqb-true d x k) ∙ o) in
          let same_depth : depth q ≡ depth p = ap depth its in absurd (omega (arith, same_depth, low))) in
          (h.stands_on x differs e, h.bus_on x p differs e o);
    }

above-all : (depth : ℕ → ℕ) (left : Option ℕ) (out : ℕ → Bool) (l : ℕ) (b c : Board) → PlacesBut depth left out b → OthersStay 1 b c → Above depth l b c
above-all depth left out l b c h s =
    record {
      on = λ x q e o low.
          let differs : (1 == x) ≡ false =
          false_from_ne_true (1 == x) (λ k. let clash : true ≡ false = sym e ∙ ap (stands b) (sym (eqb-true 1 x k)) ∙ h.aside.0 in absurd cc) in
          (h_on x q e o differs);
    }
  where
    h_on : (x q : ℕ) → stands b x ≡ true → bus_of b x ≡ Some q → (1 == x) ≡ false → (stands c x ≡ true) × (bus_of c x ≡ Some q)
    h_on x q e o differs = (s.stands_on x differs e, s.bus_on x q differs e o)

-- who is realized stands on
pub record Lit (b c : Board) : Type 0 where
  pub on : (x : ℕ) → stands b x ≡ true → is_realized b x ≡ true → stands c x ≡ true

lit-none : (b : Board) → Lit b b
lit-none b = record { on = λ x e lit. e }

lit-then : (b c d : Board) → WellFormed c → Steps b c → Lit b c → Lit c d → Lit b d
lit-then b c d firm s h k =
    record { on = λ x e lit. let there : stands c x ≡ true = h.on x e lit in k.on x there (s.realized x (stands-live c firm x there) ∙ lit) }

-- where only one that is not realized may stand no more
lit-stay : (d : ℕ) (b c : Board) → is_realized b d ≡ false → OthersStay d b c → Lit b c
lit-stay d b c dim s =
    record {
      on =
          λ x e lit. s.stands_on x (false_from_ne_true (d == x) (λ k. let clash : true ≡ false = sym lit ∙ ap (is_realized b) (sym (eqb-true d x k)) ∙ dim in
          absurd cc)) e;
    }

lit-all : (depth : ℕ → ℕ) (left : Option ℕ) (out : ℕ → Bool) (b c : Board) → PlacesBut depth left out b → OthersStay 1 b c → Lit b c
lit-all depth left out b c h s =
    record {
      on =
          λ x e lit. s.stands_on x (false_from_ne_true (1 == x) (λ k. let clash : true ≡ false = sym e ∙ ap (stands b) (sym (eqb-true 1 x k)) ∙ h.aside.0 in
          absurd cc)) e;
    }

pub record TakenOut (depth : ℕ → ℕ) (out : ℕ → Bool) (ps : List ℕ) (d q : ℕ) (b c : Board) : Type 0 where
  pub went : ReachedBySteps depth out None ps b c
  pub above : Above depth (depth q) b c
  pub gone : stands c d ≡ false
  pub unlisted : IsUnlisted c d
  pub lit : Lit b c

-- what takes out an unrealized device that is deep enough, or for which the recursion is
abbrev pub Takes : (ℕ → ℕ) → (ℕ → Bool) → ℕ → (ℕ → Board → Board) → Type 0
Takes depth out n f =
    (ps : List ℕ) → IsUp ps → (d q : ℕ) (b : Board) → Mid depth out None ps b → IsClosed b → stands b d ≡ true → bus_of b d ≡ Some q → is_realized b d ≡ false
    → 9 ≤ n + depth q → TakenOut depth out ps d q b
    (f d b)

record Drained (depth : ℕ → ℕ) (out : ℕ → Bool) (ps : List ℕ) (m : ℕ) (b c : Board) : Type 0 where
  went : ReachedBySteps depth out None ps b c
  above : Above depth (depth m) b c
  empty : kid_entries c m ≡ []
  lit : Lit b c

listed-owner : (b : Board) (k m : ℕ) → listed k (kid_entries b m) ≡ true → is_live b m ≡ true
listed-owner b k m e = go (record_of b m) refl
  where
    go : (o : Option Record) → record_of b m ≡ o → is_live b m ≡ true
    go None q = absurd (let clash : false ≡ true = rw q at e in cc)
    go (Some r) q = ap is_some q

pub record LostBus (depth : ℕ → ℕ) (out : ℕ → Bool) (ps : List ℕ) (d m : ℕ) (b c : Board) : Type 0 where
  pub went : ReachedBySteps depth out None ps b c
  pub above : Above depth (depth m) b c
  pub fewer : suc (length (child_entries c d)) ≤ length (child_entries b d)
  pub lit : Lit b c

-- the first kid of a bus, and what is so once it is taken out
pub record KidTaken (depth : ℕ → ℕ) (out : ℕ → Bool) (ps : List ℕ) (m k : ℕ) (b c : Board) : Type 0 where
  pub on : (stands b k ≡ true) × (bus_of b k ≡ Some m)
  pub dim : is_realized b k ≡ false
  pub one : TakenOut depth out ps k m b c
  pub closed : IsClosed c
  pub bus : is_live c m ≡ true → is_of c (codes "bus") m ≡ true
  pub dims : (j : ℕ) → listed j (kid_entries c m) ≡ true → is_realized c j ≡ false
  pub fewer : suc (length (kid_entries c m)) ≤ length (kid_entries b m)

record LostAll (depth : ℕ → ℕ) (out : ℕ → Bool) (ps : List ℕ) (d q : ℕ) (b c : Board) : Type 0 where
  went : ReachedBySteps depth out None ps b c
  above : Above depth (suc (depth q)) b c
  ownless : (m : ℕ) → is_of c (codes "bus") m ≡ true → owns c d m ≡ false
  lit : Lit b c

and-left : (t u : Bool) → t && u ≡ true → t ≡ true
and-left true u e = refl
and-left false u e = e

module _ (depth : ℕ → ℕ) (out : ℕ → Bool) (n : ℕ) (f : ℕ → Board → Board) (takes : Takes depth out n f) (ps : List ℕ) (up : IsUp ps) where
  pub kid-taken : (m k : ℕ) → 9 ≤ n + depth m → (b : Board) → Mid depth out None ps b → IsClosed b
      → (is_live b m ≡ true → is_of b (codes "bus") m ≡ true) → ((j : ℕ) → listed j (kid_entries b m) ≡ true → is_realized b j ≡ false)
      → first_of (kids_of b m) ≡ Some k → KidTaken depth out ps m k b (f k b)
  kid-taken m k deep b h closed bus dim e =
      let has : listed k (kid_entries b m) ≡ true = first-kid k (slots_at b m) e in
      let is : is_of b (codes "bus") m ≡ true = bus (listed-owner b k m has) in
      let kid : (stands b k ≡ true) × (bus_of b k ≡ Some m) = kid-of depth None out b h.places m k is has in
      let one : TakenOut depth out ps k m b (f k b) = takes ps up k m b h closed kid.0 kid.1 (dim k has) deep in
      let s : Steps b (f k b) = one.went.steps in
      let isc : is_live (f k b) m ≡ true → is_of (f k b) (codes "bus") m ≡ true = λ live. of-alike b (f k b) m (codes "bus") (s.body m live) ∙ is in
      let away : listed k (kid_entries (f k b) m) ≡ false =
      false_from_ne_true (listed k (kid_entries (f k b) m))
      (λ l. let clash : true ≡ false = sym l ∙ one.unlisted m (isc (listed-owner (f k b) k m l)) in absurd cc) in
      record {
        on = kid;
        dim = dim k has;
        one = one;
        closed = closed-steps b (f k b) one.went.mid.sits.near.firm s closed;
        bus = isc;
        dims = λ j l. unrealized-steps b (f k b) j s (dim j (within-any (names_it j) (s.kids m) l));
        fewer = within-shorter (λ (x : List ℕ × ℕ). x.1 == k) (s.kids m) away has;
      }

  drain : (m : ℕ) → 9 ≤ n + depth m → (times : ℕ) (b : Board) → Mid depth out None ps b → IsClosed b
      → (is_live b m ≡ true → is_of b (codes "bus") m ≡ true) → ((k : ℕ) → listed k (kid_entries b m) ≡ true → is_realized b k ≡ false)
      → length (kid_entries b m) ≤ times → Drained depth out ps m b (drained f times m b)
  drain m deep zero b h closed bus dim few =
      record {
        went = went-none depth out None ps b h;
        above = above-none depth (depth m) b;
        empty = no-length (kid_entries b m) few;
        lit = lit-none b;
      }
  drain m deep (suc times) b h closed bus dim few = go (first_of (kids_of b m)) refl (drain m deep times)
    where
      go : (o : Option ℕ) → first_of (kids_of b m) ≡ o
          → ((c : Board) → Mid depth out None ps c → IsClosed c → (is_live c m ≡ true → is_of c (codes "bus") m ≡ true) → ((k : ℕ) → listed k (kid_entries c m)
          ≡ true → is_realized c k ≡ false) → length (kid_entries c m) ≤ times → Drained depth out ps m c (drained f times m c))
          → Drained depth out ps m b (drained f (suc times) m b)
      go None e rest =
          rw (drained, e)
          (record { went = went-none depth out None ps b h; above = above-none depth (depth m) b; empty = no-kid (slots_at b m) e; lit = lit-none b })
      go (Some k) e rest =
          let t : KidTaken depth out ps m k b (f k b) = kid-taken m k deep b h closed bus dim e in
          let first : ReachedBySteps depth out None ps b (f k b) = t.one.went in
          let last : Drained depth out ps m (f k b) (drained f times m (f k b)) =
          rest (f k b) first.mid t.closed t.bus t.dims (omega (arith, t.fewer, few)) in
          rw (drained, e) (record {
            went = record { mid = last.went.mid; steps = steps-then b (f k b) (drained f times m (f k b)) first.steps last.went.steps };
            above = above-then depth (depth m) b (f k b) (drained f times m (f k b)) t.one.above last.above;
            empty = last.empty;
            lit = lit-then b (f k b) (drained f times m (f k b)) first.mid.sits.near.firm first.steps t.one.lit last.lit;
          })

  pub lost : (d q m : ℕ) (b : Board) → Mid depth out None ps b → IsClosed b → stands b d ≡ true → bus_of b d ≡ Some q → is_realized b d ≡ false
      → 9 ≤ n + suc (depth q) → among (buses_of b d) m ≡ true → LostBus depth out ps d m b (lost_bus f d m b)
  unfolding drop_slot
  lost d q m b h closed e on dim deep mine = go (index_from (is_bus_child m) 0 (slots_at c d)) refl
    where
      bus : IsBusOf b d m
      bus = is-bus_of b d m mine

      lower : depth m ≡ suc (depth q)
      lower = h.places.shallow.below d q m e on bus.owned

      c : Board
      c = drained f (length (slots_at b m)) m b

      dr : Drained depth out ps m b c
      dr =
          drain m (omega (arith, deep, lower)) (length (slots_at b m)) b h closed (λ live. bus.bus) (λ k l. closed d m k e bus.owned bus.bus l dim)
          (entries-short kid_entry (slots_at b m))

      on_here : (stands c d ≡ true) × (bus_of c d ≡ Some q)
      on_here = dr.above.on d q e on (omega (arith, lower))

      k : Mid depth out None ps c
      k = dr.went.mid

      firm : WellFormed c
      firm = k.sits.near.firm

      sits : HasPins ps (let_go_where (is_bus_child m) d c)
      sits = held-where_other ps (is_bus_child m) (bus-apart m) d c k.sits

      go : (o : Option ℕ) → index_from (is_bus_child m) 0 (slots_at c d) ≡ o → LostBus depth out ps d m b (let_go_where (is_bus_child m) d c)
      go None p =
          rw (let_go_where, p)
          (record {
            went = dr.went;
            above = dr.above;
            fewer = within-shorter (owns_it m) (dr.went.steps.children d) (none-owned m 0 (slots_at c d) p) bus.owned;
            lit = dr.lit;
          })
      go (Some i) p = result
        where
          g : Found (is_bus_child m) (slots_at c d) i
          g = found-at (is_bus_child m) i (slots_at c d) p

          s : List ℕ × Slot
          s = g.entry

          owner : (r : Record) × (record_of c d ≡ Some r)
          owner = record-at c d (stands-live c firm d on_here.0)

          r : Record
          r = owner.0

          at : slice_get r.slots i ≡ Some s
          at = sym (ap (λ (o : Option Record). slice_get (option_map_or (λ (x : Record). x.slots) o []) i) owner.1) ∙ g.at

          is : IsChildSlot m s
          is = is-child_slot m s (and-left (is_child m s.1) (not (bytes_eq s.0 clock_name)) g.passes)

          x : Board
          x = drop_slot c d i

          places : PlacesBut depth None out x
          places = bus-dropped depth out None ps c k d i r owner.1 s at m on_here.0 is dr.empty refl

          sits_here : HasPins ps (let_go c d i)
          sits_here = rw (let_go_where, p) at sits

          slot : slot_at c d i ≡ Some s.1
          slot = slot-is c d i r s owner.1 at

          later : ReachedBySteps depth out None ps c (let_go c d i)
          later = went-let_go depth out None ps c k d i r owner.1 s at None sits_here places

          aside : among (1 ∷ MACHINE_BIRTH ∷ PERIPHERAL_BIRTH ∷ ANONYMOUS_BIRTH ∷ ROOT_BUS_BIRTH ∷ MEMORY_BUS_BIRTH ∷ OBJECTS_BIRTH ∷ []) d ≡ false
          aside =
              aside-apart c (1 ∷ MACHINE_BIRTH ∷ PERIPHERAL_BIRTH ∷ ANONYMOUS_BIRTH ∷ ROOT_BUS_BIRTH ∷ MEMORY_BUS_BIRTH ∷ OBJECTS_BIRTH ∷ []) k.places.aside d
              on_here.0

          shelf : (y : ℕ)
              → among (1 ∷ MACHINE_BIRTH ∷ PERIPHERAL_BIRTH ∷ ANONYMOUS_BIRTH ∷ ROOT_BUS_BIRTH ∷ MEMORY_BUS_BIRTH ∷ OBJECTS_BIRTH ∷ []) y ≡ true
              → child_entries x y ≡ child_entries c y
          shelf =
              for-each depth out None ps c k d i r owner.1 s at
              (λ y.
              among (1 ∷ MACHINE_BIRTH ∷ PERIPHERAL_BIRTH ∷ ANONYMOUS_BIRTH ∷ ROOT_BUS_BIRTH ∷ MEMORY_BUS_BIRTH ∷ OBJECTS_BIRTH ∷ []) y ≡ true
              → child_entries x y ≡ child_entries c y)
              (λ y u a z. a.children) (λ z. absurd (let clash : true ≡ false = sym z ∙ aside in cc))

          same-bus : (y : ℕ) → bus_of x y ≡ bus_of c y
          same-bus =
              for-each depth out None ps c k d i r owner.1 s at (λ y. bus_of x y ≡ bus_of c y) (λ y u a. a.bus)
              (dropped-read depth out None ps c k d i r owner.1 s at
              (λ ss. option_and_then strong_in (option_map (λ (y : List ℕ × Slot). y.1) (find (λ y. bytes_eq y.0 (codes "parent_bus")) ss)))
              (strong-dropped (codes "parent_bus") i r.slots (names-at c firm d r owner.1) s at (inl is.some)))

          stay_first : OthersStay 1 c x
          stay_first =
              record {
                stands_on =
                    λ y u z. ap₂ (λ (xs ys : List (List ℕ × ℕ)). listed y xs || listed y ys) (shelf PERIPHERAL_BIRTH refl) (shelf ANONYMOUS_BIRTH refl) ∙ z;
                bus_on = λ y w u z o. same-bus y ∙ o;
              }

          stay : OthersStay 1 c (let_go c d i)
          stay = stay-let_go depth out None None ps c k d i 1 s.1 slot sits_here.near.firm places stay_first

          entries : child_entries x d ≡ filter_map child_entry (without_hold i r.slots)
          entries = ap (filter_map child_entry) (edited-slots c d (with_dropped i) (λ y. refl) r owner.1)

          were : child_entries c d ≡ filter_map child_entry r.slots
          were = ap (λ (o : Option Record). filter_map child_entry (option_map_or (λ (y : Record). y.slots) o [])) owner.1

          less : suc (length (child_entries x d)) ≤ length (child_entries c d)
          less =
              let now : length (child_entries x d) ≡ length (filter_map child_entry (without_hold i r.slots)) =
              ap (λ (es : List (List ℕ × ℕ)). length es) entries in
              let was : length (child_entries c d) ≡ length (filter_map child_entry r.slots) = ap (λ (es : List (List ℕ × ℕ)). length es) were in
              omega (arith, now, was, child-shorter m i r.slots s at is)

          result : LostBus depth out ps d m b (let_go_where (is_bus_child m) d c)
          result =
              rw (let_go_where, p) (record {
                went = record { mid = later.mid; steps = steps-then b c (let_go c d i) dr.went.steps later.steps };
                above = above-then depth (depth m) b c (let_go c d i) dr.above (above-all depth None out (depth m) c (let_go c d i) k.places stay);
                fewer = omega (arith, less, within-short ((steps-let_go c d i s.1 slot).children d), within-short (dr.went.steps.children d));
                lit = lit-then b c (let_go c d i) firm dr.went.steps dr.lit (lit-all depth None out c (let_go c d i) k.places stay);
              })

  buses : (d q : ℕ) → 9 ≤ n + suc (depth q) → (times : ℕ) (b : Board) → Mid depth out None ps b → IsClosed b → stands b d ≡ true → bus_of b d ≡ Some q
      → is_realized b d ≡ false → length (child_entries b d) ≤ times → LostAll depth out ps d q b (lost_buses f times d b)
  buses d q deep zero b h closed e on dim few =
      record {
        went = went-none depth out None ps b h;
        above = above-none depth (suc (depth q)) b;
        ownless = λ m is. ap (list_any (owns_it m)) (no-length (child_entries b d) few);
        lit = lit-none b;
      }
  buses d q deep (suc times) b h closed e on dim few = go (first_of (buses_of b d)) refl (buses d q deep times)
    where
      go : (o : Option ℕ) → first_of (buses_of b d) ≡ o
          → ((c : Board) → Mid depth out None ps c → IsClosed c → stands c d ≡ true → bus_of c d ≡ Some q → is_realized c d ≡ false
          → length (child_entries c d) ≤ times → LostAll depth out ps d q c (lost_buses f times d c))
          → LostAll depth out ps d q b (lost_buses f (suc times) d b)
      go None p rest =
          rw (lost_buses, p)
          (record {
            went = went-none depth out None ps b h;
            above = above-none depth (suc (depth q)) b;
            ownless = λ m is. no-bus b m is (slots_at b d) p;
            lit = lit-none b;
          })
      go (Some m) p rest =
          let mine : among (buses_of b d) m ≡ true = first-among (buses_of b d) m p in
          let lower : depth m ≡ suc (depth q) = h.places.shallow.below d q m e on (is-bus_of b d m mine).owned in
          let c : Board = lost_bus f d m b in
          let one : LostBus depth out ps d m b c = lost d q m b h closed e on dim deep mine in
          let first : Above depth (suc (depth q)) b c = above-lower depth (depth m) (suc (depth q)) b c (omega (arith, lower)) one.above in
          let still : (stands c d ≡ true) × (bus_of c d ≡ Some q) = first.on d q e on (omega arith) in
          let last : LostAll depth out ps d q c (lost_buses f times d c) =
          rest c one.went.mid (closed-steps b c one.went.mid.sits.near.firm one.went.steps closed) still.0 still.1
          (unrealized-steps b c d one.went.steps dim) (omega (arith, one.fewer, few)) in
          rw (lost_buses, p) (record {
            went = record { mid = last.went.mid; steps = steps-then b c (lost_buses f times d c) one.went.steps last.went.steps };
            above = above-then depth (suc (depth q)) b c (lost_buses f times d c) first last.above;
            ownless = last.ownless;
            lit = lit-then b c (lost_buses f times d c) one.went.mid.sits.near.firm one.went.steps one.lit last.lit;
          })

  pub taken : (d q : ℕ) (b : Board) → Mid depth out None ps b → IsClosed b → stands b d ≡ true → bus_of b d ≡ Some q → is_realized b d ≡ false
      → 9 ≤ n + suc (depth q) → TakenOut depth out ps d q b (taken_by f d b)
  taken d q b h closed e on dim deep = result
    where
      c : Board
      c = lost_buses f (length (slots_at b d)) d b

      all : LostAll depth out ps d q b c
      all = buses d q deep (length (slots_at b d)) b h closed e on dim (entries-short child_entry (slots_at b d))

      still : (stands c d ≡ true) × (bus_of c d ≡ Some q)
      still = all.above.on d q e on (omega arith)

      x : Board
      x = left_bus d c

      gone_bus : Left depth out ps d c x
      gone_bus = bus-left depth out ps c all.went.mid d q still.0 still.1

      loose : Unlinked d x
      loose =
          record {
            off = gone_bus.off;
            unrealized = unrealized-steps c x d gone_bus.went.steps (unrealized-steps b c d all.went.steps dim);
            ownless = ownless-steps c x d gone_bus.went.steps all.ownless;
            unlisted = gone_bus.unlisted;
          }

      y : Board
      y = left_parent d x

      parted : Parted depth out ps d x y
      parted = parent-left depth out ps d x gone_bus.went.mid loose

      result : TakenOut depth out ps d q b y
      result =
          record {
            went = record { mid = parted.went.mid; steps = steps-then b c y all.went.steps (steps-then c x y gone_bus.went.steps parted.went.steps) };
            above =
                above-then depth (depth q) b c y (above-lower depth (suc (depth q)) (depth q) b c (omega arith) all.above)
                (above-stay depth d q c y still.1 (stay-then d c x y gone_bus.stay parted.stay));
            gone = parted.gone;
            unlisted = parted.unlisted;
            lit =
                lit-then b c y all.went.mid.sits.near.firm all.went.steps all.lit
                (lit-stay d c y (unrealized-steps b c d all.went.steps dim) (stay-then d c x y gone_bus.stay parted.stay));
          }

-- a device is held meanwhile

put-keeps : (n x : ℕ) (ms : List ℕ) → among ms x ≡ true → among (put_in_order n ms) x ≡ true
put-keeps n x [] e = cc
put-keeps n x (m ∷ ms) e = go (leb m n) refl (eqb x m) refl (put-keeps n x ms)
  where
    go : (t : Bool) → leb m n ≡ t → (u : Bool) → eqb x m ≡ u → (among ms x ≡ true → among (put_in_order n ms) x ≡ true)
        → among (put_in_order n (m ∷ ms)) x ≡ true
    go true p true q rest = rw (put_in_order, p, q) refl
    go true p false q rest = rw (put_in_order, p, q) (rest (rw q at e))
    go false p u q rest = rw (put_in_order, p) (rw e (or-true (eqb x n)))

pub steps-pin : (b : Board) (d : ℕ) → Steps b (pin b d)
unfolding pin
steps-pin b d = steps-alike b (pin b d) refl (λ x e. alike-record b (pin b d) x refl)

places-pin : (depth : ℕ → ℕ) (out : ℕ → Bool) (ps : List ℕ) (b : Board) (d : ℕ) → Mid depth out None ps b → PlacesBut depth None out (pin b d)
unfolding pin
places-pin depth out ps b d h =
    (goes-pins depth None out b (put_in_order d b.pins) h.sits.near.firm (put-keeps d 1 b.pins (ap (λ (qs : List ℕ). among qs 1) h.sits.pins ∙ h.one))
    h.places).places

above-pin : (depth : ℕ → ℕ) (l : ℕ) (b : Board) (d : ℕ) → Above depth l b (pin b d)
unfolding pin
above-pin depth l b d = record { on = λ x q e o low. (e, o) }

stood-pin : (b : Board) (d y : ℕ) → stands b y ≡ true → stands (pin b d) y ≡ true
unfolding pin
stood-pin b d y e = e

lit-pin : (b : Board) (d : ℕ) → Lit b (pin b d)
unfolding pin
lit-pin b d = record { on = λ x e lit. e }

pub mid-pin : (depth : ℕ → ℕ) (out : ℕ → Bool) (ps : List ℕ) (b : Board) (d : ℕ) → Mid depth out None ps b → Mid depth out None (put_in_order d ps) (pin b d)
mid-pin depth out ps b d h =
    record {
      sits = record { near = near-pin b d h.sits.near; pins = pin-pins b d ∙ ap (put_in_order d) h.sits.pins };
      one = put-keeps d 1 ps h.one;
      places = places-pin depth out ps b d h;
    }

-- and no longer
record Unpinned (depth : ℕ → ℕ) (out : ℕ → Bool) (ps : List ℕ) (b c : Board) : Type 0 where
  mid : Mid depth out None ps c
  steps : Steps b c
  stay : OthersStay 1 b c

unpinned : (depth : ℕ → ℕ) (out : ℕ → Bool) (ps : List ℕ) → IsUp ps → among ps 1 ≡ true → (b : Board) (d : ℕ)
    → Mid depth out None (put_in_order d ps) b → Unpinned depth out ps b (unpin b d)
unfolding unpin
unpinned depth out ps up one b d h = result
  where
    there : list_any (nat_eq d) b.pins ≡ true
    there = ap (list_any (nat_eq d)) h.sits.pins ∙ put-among d ps

    near : InvariantBut None (unpin b d)
    near = near-unpin b d there h.sits.near

    less : without_first d b.pins ≡ ps
    less = ap (without_first d) h.sits.pins ∙ put-back d ps up

    c : Board
    c = without_pin b d

    one_left : among c.pins 1 ≡ true
    one_left = ap (λ (qs : List ℕ). among qs 1) less ∙ one

    first : Goes depth None out b c
    first = goes-pins depth None out b (without_first d b.pins) h.sits.near.firm one_left h.places

    ends : WellFormed (after finalize c (Some d))
    ends = rw (unpin, there) at near.firm

    kept : Kept c (after finalize c (Some d))
    kept = after-kept c (Some d) ends (owner-live c 1 MACHINE_BIRTH first.places.machine) one_left

    second : Goes depth None out c (after finalize c (Some d))
    second = goes-after depth None out c (Some d) ends one_left first.places

    stay : OthersStay 1 b (after finalize c (Some d))
    stay =
        stay-then 1 b c (after finalize c (Some d)) (record { stands_on = λ x p e. e; bus_on = λ x q p e o. o })
        (stay-kept depth None out 1 c (after finalize c (Some d)) kept first.places)

    steps : Steps b (after finalize c (Some d))
    steps = steps-then b c (after finalize c (Some d)) (steps-alike b c refl (λ x e. alike-record b c x refl)) (steps-after c (Some d))

    result : Unpinned depth out ps b (unpin b d)
    result =
        record {
          mid = record { sits = record { near = near; pins = unpin-pins b d there ∙ less }; one = one; places = rw (unpin, there) second.places };
          steps = rw (unpin, there) steps;
          stay = rw (unpin, there) stay;
        }

-- a device that is pinned, taken out and unpinned
pinned-out : (depth : ℕ → ℕ) (out : ℕ → Bool) (n : ℕ) (f : ℕ → Board → Board) → Takes depth out n f → (ps : List ℕ) → IsUp ps → (d q : ℕ) (b : Board)
    → Mid depth out None ps b → IsClosed b → stands b d ≡ true → bus_of b d ≡ Some q → is_realized b d ≡ false → 9 ≤ n + suc (depth q)
    → TakenOut depth out ps d q b (unpin (taken_by f d (pin b d)) d)
pinned-out depth out n f takes ps up d q b h closed e on dim deep = result
  where
    p : Board
    p = pin b d

    mid : Mid depth out None (put_in_order d ps) p
    mid = mid-pin depth out ps b d h

    here_on : (stands p d ≡ true) × (bus_of p d ≡ Some q)
    here_on = (above-pin depth (suc (depth q)) b d).on d q e on (omega arith)

    c : Board
    c = taken_by f d p

    inner : TakenOut depth out (put_in_order d ps) d q p c
    inner =
        taken depth out n f takes (put_in_order d ps) (put-up d ps up) d q p mid (closed-steps b p mid.sits.near.firm (steps-pin b d) closed) here_on.0
        here_on.1
        (unrealized-steps b p d (steps-pin b d) dim) deep

    last : Unpinned depth out ps c (unpin c d)
    last = unpinned depth out ps up h.one c d inner.went.mid

    result : TakenOut depth out ps d q b (unpin c d)
    result =
        record {
          went = record { mid = last.mid; steps = steps-then b p (unpin c d) (steps-pin b d) (steps-then p c (unpin c d) inner.went.steps last.steps) };
          above =
              above-then depth (depth q) b p (unpin c d) (above-pin depth (depth q) b d)
              (above-then depth (depth q) p c (unpin c d) inner.above (above-all depth None out (depth q) c (unpin c d) inner.went.mid.places last.stay));
          gone = false_from_ne_true (stands (unpin c d) d) (λ k. let clash : true ≡ false = sym (stood-steps c (unpin c d) last.steps d k) ∙ inner.gone in
              absurd cc);
          unlisted = unlisted-steps c (unpin c d) d last.steps inner.unlisted;
          lit =
              lit-then b p (unpin c d) mid.sits.near.firm (steps-pin b d) (lit-pin b d)
              (lit-then p c (unpin c d) inner.went.mid.sits.near.firm inner.went.steps inner.lit
              (lit-all depth None out c (unpin c d) inner.went.mid.places last.stay));
        }

pub takes-apart : (depth : ℕ → ℕ) (out : ℕ → Bool) (n : ℕ) → Takes depth out n (apart_within n)
unfolding apart_within
takes-apart depth out zero =
    λ ps up d q b h closed e on dim deep. absurd (let most : depth q ≤ 8 = h.places.shallow.most q (h.places.owner d q e on) in omega (arith, most, deep))
takes-apart depth out (suc n) =
    λ ps up d q b h closed e on dim deep. pinned-out depth out n (apart_within n) (takes-apart depth out n) ps up d q b h closed e on dim (omega (arith, deep))

-- what is below a device, from below
data Above_it (b : Board) (d : ℕ) : ℕ → Type 0 where
  itself : Above_it b d d
  further : {y : ℕ} (x m : ℕ) → Above_it b d x → owns b x m ≡ true → is_of b (codes "bus") m ≡ true → listed y (kid_entries b m) ≡ true → Above_it b d y

turned : (b : Board) (d x y : ℕ) → Above_it b d x → Under b x y → Above_it b d y
turned b d x y a here = a
turned b d x y a (down m k im ik u) = turned b d k y (further x m a (is-bus_of b x m im).owned (is-bus_of b x m im).bus (kids-listed k (slots_at b m) ik)) u

-- below what is below a device are others
pub under-more : (b : Board) (d x m k : ℕ) → Under b d x → among (buses_of b x) m ≡ true → among (kids_of b m) k ≡ true → Under b d k
under-more b d x m k here im ik = down m k im ik here
under-more b d x m k (down n j jn jk u) im ik = down n j jn jk (under-more b j x m k u im ik)

-- what is owned is gone over
pub owned-bus : (b : Board) (q : ℕ) → is_of b (codes "bus") q ≡ true → (slots : List (List ℕ × Slot))
    → list_any (owns_it q) (filter_map child_entry slots) ≡ true → among (filter_map (bus_in b) slots) q ≡ true
owned-bus b q is [] e = cc
owned-bus b q is ((name, plain v) ∷ slots) e = owned-bus b q is slots e
owned-bus b q is ((name, strong t target) ∷ slots) e = owned-bus b q is slots e
owned-bus b q is ((name, weak t target) ∷ slots) e = owned-bus b q is slots e
owned-bus b q is ((name, alias m property) ∷ slots) e = owned-bus b q is slots e
owned-bus b q is ((name, child k) ∷ slots) e = go (is_of b (codes "bus") k) refl (bytes_eq name clock_name) refl (k == q) refl (owned-bus b q is slots)
  where
    go : (t : Bool) → is_of b (codes "bus") k ≡ t → (u : Bool) → bytes_eq name clock_name ≡ u → (v : Bool) → (k == q) ≡ v
        → (list_any (owns_it q) (filter_map child_entry slots) ≡ true → among (filter_map (bus_in b) slots) q ≡ true)
        → among (filter_map (bus_in b) ((name, child k) ∷ slots)) q ≡ true
    go true x false w true v rest = let own : eqb q k ≡ true = grind (arith, v) in rw (x, w, own) refl
    go true x false w false v rest = rw (x, w) (rw (rest (rw v at e)) (or-true (eqb q k)))
    go true x true w v y rest = rw (x, w) (rest (skip v y))
      where
        skip : (v : Bool) → (k == q) ≡ v → list_any (owns_it q) (filter_map child_entry slots) ≡ true
        skip true y = rw (y, w) at e
        skip false y = rw y at e
    go false x u w true v rest = absurd (let clash : false ≡ true = sym x ∙ ap (is_of b (codes "bus")) (eqb-true k q v) ∙ is in cc)
    go false x u w false v rest = rw x (rest (rw v at e))

pub listed-kid : (k : ℕ) (slots : List (List ℕ × Slot)) → listed k (filter_map kid_entry slots) ≡ true
    → among (filter_map (λ (s : List ℕ × Slot). strong_in s.1) slots) k ≡ true
listed-kid k [] e = cc
listed-kid k ((name, plain v) ∷ slots) e = listed-kid k slots e
listed-kid k ((name, child m) ∷ slots) e = listed-kid k slots e
listed-kid k ((name, strong t None) ∷ slots) e = listed-kid k slots e
listed-kid k ((name, strong t (Some m)) ∷ slots) e = go (m == k) refl (listed-kid k slots)
  where
    go : (u : Bool) → (m == k) ≡ u
        → (listed k (filter_map kid_entry slots) ≡ true → among (filter_map (λ (s : List ℕ × Slot). strong_in s.1) slots) k ≡ true)
        → among (filter_map (λ (s : List ℕ × Slot). strong_in s.1) ((name, strong t (Some m)) ∷ slots)) k ≡ true
    go true p rest = let own : eqb k m ≡ true = grind (arith, p) in rw own refl
    go false p rest = rw (rest (rw p at e)) (or-true (eqb k m))
listed-kid k ((name, weak t target) ∷ slots) e = listed-kid k slots e
listed-kid k ((name, alias m property) ∷ slots) e = listed-kid k slots e

-- what detaching unrealizes
pub dims : (b : Board) (d : ℕ) → FewerRealized (pin b d) (unrealize (pin b d) d)
dims b d = unrealize-dimmed (pin b d) d

-- detaching
module _ (depth : ℕ → ℕ) (b : Board) (d : ℕ) (rest : PinsRootAlone b) (h : PlacesBut depth None (λ x. false) b) (e : stands b d ≡ true) where
  p : Board
  p = pin b d

  c : Board
  c = unrealize p d

  qs : List ℕ
  qs = put_in_order d (1 ∷ [])

  first : Mid depth (λ x. false) None (1 ∷ []) b
  first = record { sits = record { near = rest.used; pins = rest.pinned }; one = refl; places = h }

  pinned : Mid depth (λ x. false) None (put_in_order d (1 ∷ [])) (pin b d)
  pinned = mid-pin depth (λ x. false) (1 ∷ []) b d first

  home : IsHome b d
  home = h.home d e (λ z. cc)

  at_home : (stands (pin b d) d ≡ true) × (bus_of (pin b d) d ≡ Some home.bus)
  at_home = (above-pin depth (suc (depth home.bus)) b d).on d home.bus e home.on (omega arith)

  sits : HasPins (put_in_order d (1 ∷ [])) (unrealize (pin b d) d)
  sits = held-unrealize (put_in_order d (1 ∷ [])) d (pin b d) pinned.sits

  abbrev out : ℕ → Bool
  out = faded_by (pin b d) (unrealize (pin b d) d)

  middle : Mid depth (faded_by (pin b d) (unrealize (pin b d) d)) None (put_in_order d (1 ∷ [])) (unrealize (pin b d) d)
  middle = record { sits = sits; one = pinned.one; places = unrealize-places depth (pin b d) d sits.near.firm pinned.places }

  dark : (y : ℕ) → Under (pin b d) d y → is_realized (unrealize (pin b d) d) y ≡ false
  dark y u = unrealize-all depth None (λ x. false) (pin b d) pinned.sits.near.firm pinned.places d home.bus at_home.0 at_home.1 y u

  closed : IsClosed (unrealize (pin b d) d)
  closed x m k s o is l dim =
      let was : stands (pin b d) x ≡ true = sym (stands-dimmed (pin b d) (unrealize (pin b d) d) (dims b d) x) ∙ s in
      let lit : is_realized (pin b d) x ≡ true = pinned.places.each x was refl in
      let under : Under (pin b d) d x = unrealize-only (pin b d) d x lit dim in
      let bus : is_of (pin b d) (codes "bus") m ≡ true = sym (of-alike (pin b d) (unrealize (pin b d) d) m (codes "bus") ((dims b d).body m)) ∙ is in
      let own : owns (pin b d) x m ≡ true = sym (ap (list_any (owns_it m)) ((dims b d).children x)) ∙ o in
      let kid : listed k (kid_entries (pin b d) m) ≡ true = sym (ap (listed k) ((dims b d).kids m)) ∙ l in
      dark k (under-more (pin b d) d x m k under (owned-bus (pin b d) m bus (slots_at (pin b d) x) own) (listed-kid k (slots_at (pin b d) m) kid))

  taken_out : TakenOut depth (faded_by (pin b d) (unrealize (pin b d) d)) (put_in_order d (1 ∷ [])) d home.bus (unrealize (pin b d) d)
      (taken_by (apart_within (length (births b))) d (unrealize (pin b d) d))
  taken_out =
      taken depth (faded_by (pin b d) (unrealize (pin b d) d)) (length (births b)) (apart_within (length (births b)))
      (takes-apart depth (faded_by (pin b d) (unrealize (pin b d) d)) (length (births b))) (put_in_order d (1 ∷ [])) (put-up d (1 ∷ []) (tt, tt)) d home.bus
      (unrealize (pin b d) d) middle closed
      (stands-dimmed (pin b d) (unrealize (pin b d) d) (dims b d) d ∙ at_home.0) ((dims b d).bus d ∙ at_home.1) (dark d here)
      (omega (arith, room depth None (λ x. false) b rest.used.firm h))

  abbrev x : Board
  x = taken_by (apart_within (length (births b))) d (unrealize (pin b d) d)

  last : Unpinned depth (faded_by (pin b d) (unrealize (pin b d) d)) (1 ∷ []) (taken_by (apart_within (length (births b))) d (unrealize (pin b d) d))
      (unpin (taken_by (apart_within (length (births b))) d (unrealize (pin b d) d)) d)
  last =
      unpinned depth (faded_by (pin b d) (unrealize (pin b d) d)) (1 ∷ []) (tt, tt) refl
      (taken_by (apart_within (length (births b))) d (unrealize (pin b d) d)) d taken_out.went.mid

  abbrev z : Board
  z = unpin (taken_by (apart_within (length (births b))) d (unrealize (pin b d) d)) d

  later : Steps (unrealize (pin b d) d) z
  later = steps-then (unrealize (pin b d) d) x z taken_out.went.steps last.steps

  gone : stands z d ≡ false
  gone = false_from_ne_true (stands z d) (λ k. let clash : true ≡ false = sym (stood-steps x z last.steps d k) ∙ taken_out.gone in absurd cc)

  -- who was below the device stood, and stands no more
  below-stood : (y : ℕ) → Above_it (pin b d) d y → stands (pin b d) y ≡ true
  below-stood y itself = at_home.0
  below-stood y (further w m a o is l) = (kid-of depth None (λ v. false) (pin b d) pinned.places m y is l).0

  one-owner : (m v w : ℕ) → listed m (child_entries (pin b d) v) ≡ true → listed m (child_entries (pin b d) w) ≡ true → v ≡ w
  one-owner m v w k l = same_Some v w (sym (parent-is (pin b d) pinned.sits.near.firm v m k) ∙ parent-is (pin b d) pinned.sits.near.firm w m l)

  none-stands : (y : ℕ) → Above_it (pin b d) d y → stands z y ≡ true → ⊥
  none-stands y itself k = let clash : true ≡ false = sym k ∙ gone in absurd cc
  none-stands y (further w m a o is l) k = go (none-stands w a) owner
    where
      on_before : bus_of (pin b d) y ≡ Some m
      on_before = (kid-of depth None (λ v. false) (pin b d) pinned.places m y is l).1

      its : IsHome z y
      its = last.mid.places.home y k (λ v. cc)

      same_bus : its.bus ≡ m
      same_bus = same_Some its.bus m (sym (sym ((dims b d).bus y) ∙ later.bus y its.bus its.on) ∙ on_before)

      owner : HasOwner z m
      owner = subst (HasOwner z) same_bus (last.mid.places.owner y its.bus k its.on)

      mine : listed m (child_entries (pin b d) w) ≡ true
      mine = owns-listed m (child_entries (pin b d) w) o

      of-machine : (n : ℕ) → m ≡ n → listed n (child_entries (pin b d) MACHINE_BIRTH) ≡ true → ⊥
      of-machine n q has =
          let is_machine : w ≡ MACHINE_BIRTH =
          one-owner m w MACHINE_BIRTH mine (subst (λ (j : ℕ). listed j (child_entries (pin b d) MACHINE_BIRTH) ≡ true) (sym q) has) in
          let clash : true ≡ false = sym (below-stood w a) ∙ ap (stands (pin b d)) is_machine ∙ pinned.places.aside.1.0 in
          absurd cc

      go : (stands z w ≡ true → ⊥) → HasOwner z m → ⊥
      go none (machines u) = choose (eqb m ROOT_BUS_BIRTH) refl (eqb m MEMORY_BUS_BIRTH) refl
        where
          choose : (t : Bool) → eqb m ROOT_BUS_BIRTH ≡ t → (j : Bool) → eqb m MEMORY_BUS_BIRTH ≡ j → ⊥
          choose true q j r = of-machine ROOT_BUS_BIRTH (eqb-true m ROOT_BUS_BIRTH q) pinned.places.parts.1.1.0
          choose false q true r = of-machine MEMORY_BUS_BIRTH (eqb-true m MEMORY_BUS_BIRTH r) pinned.places.parts.1.1.1.0
          choose false q false r = let clash : false ≡ true = rw (q, r) at u in absurd cc
      go none (bridges v s t) =
          let before : owns (pin b d) v m ≡ true = sym (ap (list_any (owns_it m)) ((dims b d).children v)) ∙ within-any (owns_it m) (later.children v) t in
          let is_mine : v ≡ w = one-owner m v w (owns-listed m (child_entries (pin b d) v) before) mine in
          none (subst (λ (j : ℕ). stands z j ≡ true) is_mine s)

  detached : PlacesBut depth None (λ v. false) z
  detached =
      record {
        machine = q.machine;
        objects = q.objects;
        parts = q.parts;
        rooted = q.rooted;
        children = q.children;
        aside = q.aside;
        peripheral = q.peripheral;
        anonymous = q.anonymous;
        kids = q.kids;
        home = q.home;
        owner = q.owner;
        shallow = q.shallow;
        only = q.only;
        each = λ y k apart. each y k (is_realized (pin b d) y) refl (is_realized (unrealize (pin b d) d) y) refl;
        ids = q.ids;
        once = q.once;
      }
    where
      q : PlacesBut depth None (faded_by (pin b d) (unrealize (pin b d) d)) z
      q = last.mid.places

      each : (y : ℕ) → stands z y ≡ true → (t : Bool) → is_realized (pin b d) y ≡ t → (u : Bool) → is_realized (unrealize (pin b d) d) y ≡ u
          → is_realized z y ≡ true
      each y k true r false s = absurd (none-stands y (turned (pin b d) d d y itself (unrealize-only (pin b d) d y r s)) k)
      each y k true r true s = q.each y k (rw (r, s) refl)
      each y k false r u s = q.each y k (rw r refl)

  -- who is realized when all below it are unrealized stands on
  still-lit : (y : ℕ) → stands b y ≡ true → is_realized (unrealize (pin b d) d) y ≡ true → stands z y ≡ true
  still-lit y s lit =
      (lit-then (unrealize (pin b d) d) x z taken_out.went.mid.sits.near.firm taken_out.went.steps taken_out.lit
      (lit-all depth None (faded_by (pin b d) (unrealize (pin b d) d)) x z taken_out.went.mid.places last.stay)).on y
      (stands-dimmed (pin b d) (unrealize (pin b d) d) (dims b d) y ∙ stood-pin b d y s) lit

-- a device that stands is detached: places are sound, and it stands no more
pub detach-places : (depth : ℕ → ℕ) (b : Board) (d : ℕ) → PinsRootAlone b → PlacesBut depth None (λ x. false) b → stands b d ≡ true
    → PlacesBut depth None (λ x. false) (detach b d)
unfolding detach
detach-places depth b d rest h e = subst (PlacesBut depth None (λ x. false)) refl (detached depth b d rest h e)

pub detach-lit : (depth : ℕ → ℕ) (b : Board) (d : ℕ) → PinsRootAlone b → PlacesBut depth None (λ x. false) b → stands b d ≡ true → (y : ℕ) → stands b y ≡ true
    → is_realized (unrealize (pin b d) d) y ≡ true → stands (detach b d) y ≡ true
unfolding detach
detach-lit depth b d rest h e y s lit = still-lit depth b d rest h e y s lit
