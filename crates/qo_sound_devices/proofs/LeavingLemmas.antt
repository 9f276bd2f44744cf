-- A device leaves its bus, and its container.
use Rattle.std.proofs.Common.{inl, inr, ◌≡◌, ◌≢◌, refl, ap, sym, subst, ◌∙◌, ℕ, zero, suc, Bool, true, false, ◌||◌, ◌==◌, List, [], ◌∷◌, filter_map, find, slice_get, Option, Some, None, option_map, option_and_then, codes}
use Rattle.qo_model.proofs.Common.{AllByRecursion, cons_option, IsDistinct, option_map_or, bytes_eq, ANONYMOUS_BIRTH, MACHINE_BIRTH, PERIPHERAL_BIRTH, TypeId, Board, Record, Slot, plain, child, strong, weak, alias, record_of, is_live, slots_at, slot_at, cut, among, bus_of, kid_name, bus_slot_of, strong_in, index_from, child_of, is_of, after, drop_slot, finalize, with_dropped, without_hold, is_named, names_kid, take_slot, take_where}
use Rattle.std.proofs.lemmas.Bool.{eqb-true, eq-eqb, false_from_ne_true}
use Rattle.std.proofs.lemmas.Option.{same_Some}
use Rattle.std.proofs.lemmas.Slice.Eq.{bytes_eq-Decides}
use Rattle.qo_model.proofs.EditLemmas.{StandsAt, stands-at}
use Rattle.qo_model.proofs.FirstSlotLemmas.{Found, found-at, none-found}
use Rattle.qo_sound.proofs.CutLemmas.{near-cut}
use Rattle.qo_sound.proofs.ChangeLemmas.{emptied-at, near-drop, other-lasts}
use Rattle.qo_sound.proofs.FirmBoardLemmas.{WellFormed}
use Rattle.qo_values.proofs.ListLemmas.{all-imply}
use Rattle.qo_sound.proofs.SlotLemmas.{IsNoClock, names_in, no_child}
use Rattle.qo_sound.proofs.UnplugLemmas.{held-taken, kid-held, on-record, HasPins, slot-of}
use Rattle.qo_sound.proofs.WorkLemmas.{InvariantBut}
use Rattle.qo_sound_devices.specs.SoundPlaces.{IsHome, IsKid, kid_entries, kid_entry, listed, PlacesBut, stands, names_it}
use Rattle.qo_sound_devices.proofs.DropLemmas.{edited-slots, names-at, none-named, strong-dropped}
use Rattle.qo_sound_devices.proofs.DepthLemmas.{kid-of}
use Rattle.qo_sound_devices.proofs.PlacesLemmas.{within-any, stands-same}
use Rattle.qo_sound_devices.proofs.PlacesLemmas.{after-kept, after-places, Kept, of-alike, of-live, owner-live, places-kept, same-stands, stands-live}
use Rattle.qo_sound_devices.proofs.StepsLemmas.{Steps, steps-after, steps-then}
use Rattle.qo_sound_devices.proofs.UnparentingLemmas.{any-kid_dropped, cut-kept, dropped, dropped-read, for-each, kid-gone, link-dropped, link-stands, Mid, record-at, ReachedBySteps}

-- a fact of the entry of a slot
pub all-at : (P : List ℕ × ℕ → Type 0) (i : ℕ) (slots : List (List ℕ × Slot)) (s : List ℕ × Slot) (e : List ℕ × ℕ) → slice_get slots i ≡ Some s
    → kid_entry s ≡ Some e → AllByRecursion P (filter_map kid_entry slots) → P e
all-at P i [] s e at is h = cc
all-at P zero (x ∷ slots) s e at is h =
    (subst (λ (o : Option (List ℕ × ℕ)). AllByRecursion P (cons_option o (filter_map kid_entry slots))) (ap kid_entry (same_Some x s at) ∙ is) h).0
all-at P (suc i) (x ∷ slots) s e at is h = go (kid_entry x) h (all-at P i slots s e at is)
  where
    go : (o : Option (List ℕ × ℕ)) → AllByRecursion P (cons_option o (filter_map kid_entry slots)) → (AllByRecursion P (filter_map kid_entry slots) → P e) → P e
    go None k rest = rest k
    go (Some y) k rest = rest k.1

pub unnamed : (name : List ℕ) (slots : List (List ℕ × Slot)) (k : ℕ) → index_from (is_named name) k slots ≡ None
    → option_and_then strong_in (option_map (λ (s : List ℕ × Slot). s.1) (find (λ s. bytes_eq s.0 name) slots)) ≡ None
unnamed name slots k e = ap (option_and_then strong_in) (none-found name slots k e)

-- a link of a name that was let go is empty, where names differ
pub strong-gone : (name : List ℕ) (i : ℕ) (slots : List (List ℕ × Slot)) → IsDistinct bytes_eq (names_in slots) → (s : List ℕ × Slot)
    → slice_get slots i ≡ Some s → bytes_eq s.0 name ≡ true
    → option_and_then strong_in (option_map (λ (x : List ℕ × Slot). x.1) (find (λ x. bytes_eq x.0 name) (without_hold i slots))) ≡ None
unfolding IsDistinct
strong-gone name i [] h s e is = cc
strong-gone name zero (x ∷ slots) h s e is = go x (ap (λ (y : List ℕ × Slot). bytes_eq y.0 name) (same_Some x s e) ∙ is) h
  where
    go : (y : List ℕ × Slot) → bytes_eq y.0 name ≡ true → IsDistinct bytes_eq (names_in (y ∷ slots))
        → option_and_then strong_in (option_map (λ (x : List ℕ × Slot). x.1) (find (λ x. bytes_eq x.0 name) (without_hold zero (y ∷ slots)))) ≡ None
    go (own, plain v) p k = rw p refl
    go (own, child m) p k = ap (option_and_then strong_in) (none-named name own ((bytes_eq-Decides own name).0 p) slots k.0)
    go (own, strong t target) p k = rw p refl
    go (own, weak t target) p k = rw p refl
    go (own, alias m property) p k = rw p refl
strong-gone name (suc i) (x ∷ slots) h s e is = go (bytes_eq x.0 name) refl (strong-gone name i slots h.1 s e is)
  where
    later : (j : ℕ) (ys : List (List ℕ × Slot)) → slice_get ys j ≡ Some s → AllByRecursion (λ m. bytes_eq x.0 m ≡ false) (names_in ys)
        → bytes_eq x.0 s.0 ≡ false
    later j [] q a = cc
    later zero (y ∷ ys) q a = subst (λ (z : List ℕ × Slot). bytes_eq x.0 z.0 ≡ false) (same_Some y s q) a.0
    later (suc j) (y ∷ ys) q a = later j ys q a.1

    go : (t : Bool) → bytes_eq x.0 name ≡ t
        → option_and_then strong_in (option_map (λ (x : List ℕ × Slot). x.1) (find (λ x. bytes_eq x.0 name) (without_hold i slots))) ≡ None
        → option_and_then strong_in (option_map (λ (x : List ℕ × Slot). x.1) (find (λ x. bytes_eq x.0 name) (x ∷ without_hold i slots))) ≡ None
    go false p rest = rw p rest
    go true p rest =
        let same_name : x.0 ≡ s.0 = (bytes_eq-Decides x.0 name).0 p ∙ sym ((bytes_eq-Decides s.0 name).0 is) in
        absurd (let clash : true ≡ false = sym ((bytes_eq-Decides x.0 s.0).1 same_name) ∙ later i slots e h.0 in cc)

-- where no slot of a bus is found that names a device, none does
none-kid : (d k : ℕ) (slots : List (List ℕ × Slot)) → index_from (names_kid d) k slots ≡ None → listed d (filter_map kid_entry slots) ≡ false
none-kid d k [] e = refl
none-kid d k ((name, plain v) ∷ slots) e = none-kid d (suc k) slots e
none-kid d k ((name, child m) ∷ slots) e = none-kid d (suc k) slots e
none-kid d k ((name, strong t None) ∷ slots) e = none-kid d (suc k) slots e
none-kid d k ((name, weak t target) ∷ slots) e = none-kid d (suc k) slots e
none-kid d k ((name, alias m property) ∷ slots) e = none-kid d (suc k) slots e
none-kid d k ((name, strong t (Some m)) ∷ slots) e = go (m == d) refl (none-kid d (suc k) slots)
  where
    go : (t : Bool) → (m == d) ≡ t → (index_from (names_kid d) (suc k) slots ≡ None → listed d (filter_map kid_entry slots) ≡ false)
        → (m == d) || listed d (filter_map kid_entry slots) ≡ false
    go true p rest = absurd (let clash : Some k ≡ None = rw p at e in cc)
    go false p rest = rw p (rest (rw p at e))

-- no bus has d
abbrev pub IsUnlisted : Board → ℕ → Type 0
IsUnlisted c d = (q : ℕ) → is_of c (codes "bus") q ≡ true → listed d (kid_entries c q) ≡ false

pub unlisted-steps : (b c : Board) (d : ℕ) → Steps b c → IsUnlisted b d → IsUnlisted c d
unlisted-steps b c d s h q is =
    let live : is_live c q ≡ true = of-live c (codes "bus") q is in
    let was : is_of b (codes "bus") q ≡ true = sym (of-alike b c q (codes "bus") (s.body q live)) ∙ is in
    false_from_ne_true (listed d (kid_entries c q)) (λ e. let clash : true ≡ false = sym (within-any (names_it d) (s.kids q) e) ∙ h q was in absurd cc)

-- others stand as before, on the same bus
pub record OthersStay (d : ℕ) (b c : Board) : Type 0 where
  pub stands_on : (x : ℕ) → (d == x) ≡ false → stands b x ≡ true → stands c x ≡ true
  pub bus_on : (x q : ℕ) → (d == x) ≡ false → stands b x ≡ true → bus_of b x ≡ Some q → bus_of c x ≡ Some q

pub stay-then : (d : ℕ) (b c e : Board) → OthersStay d b c → OthersStay d c e → OthersStay d b e
stay-then d b c e h k =
    record { stands_on = λ x p t. k.stands_on x p (h.stands_on x p t); bus_on = λ x q p t o. k.bus_on x q p (h.stands_on x p t) (h.bus_on x q p t o) }

pub stay-none : (d : ℕ) (b : Board) → OthersStay d b b
stay-none d b = record { stands_on = λ x p t. t; bus_on = λ x q p t o. o }

pub stay-kept : (depth : ℕ → ℕ) (left : Option ℕ) (out : ℕ → Bool) (d : ℕ) (b c : Board) → Kept b c → PlacesBut depth left out b → OthersStay d b c
stay-kept depth left out d b c k h =
    record {
      stands_on = λ x p t. same-stands b c k depth left out h x ∙ t;
      bus_on = λ x q p t o. k.bus x (stands-live c k.firm x (same-stands b c k depth left out h x ∙ t)) t ∙ o;
    }

-- a device that left its bus
pub record Left (depth : ℕ → ℕ) (out : ℕ → Bool) (ps : List ℕ) (d : ℕ) (b c : Board) : Type 0 where
  pub went : ReachedBySteps depth out (Some d) ps b c
  pub stay : OthersStay d b c
  pub off : bus_of c d ≡ None
  pub unlisted : IsUnlisted c d

-- a bus of which d is taken
pub record Taken (depth : ℕ → ℕ) (out : ℕ → Bool) (ps : List ℕ) (d m : ℕ) (b c : Board) : Type 0 where
  pub went : ReachedBySteps depth out (Some d) ps b c
  pub stay : OthersStay d b c
  pub there : stands c d ≡ true
  pub on : bus_of c d ≡ Some m
  pub unlisted : IsUnlisted c d

pub taken-kid : (depth : ℕ → ℕ) (out : ℕ → Bool) (ps : List ℕ) (b : Board) → Mid depth out None ps b → (d m : ℕ) → stands b d ≡ true
    → bus_of b d ≡ Some m → Taken depth out ps d m b (take_where (names_kid d) m b)
unfolding drop_slot cut
taken-kid depth out ps b h d m e on = go (index_from (names_kid d) 0 (slots_at b m)) refl
  where
    home : IsHome b d
    home = h.places.home d e (λ z. cc)

    its : home.bus ≡ m
    its = same_Some home.bus m (sym home.on ∙ on)

    bus : is_of b (codes "bus") m ≡ true
    bus = subst (λ (y : ℕ). is_of b (codes "bus") y ≡ true) its home.is_bus

    has : listed d (kid_entries b m) ≡ true
    has = subst (λ (y : ℕ). listed d (kid_entries b y) ≡ true) its home.kid

    firm : WellFormed b
    firm = h.sits.near.firm

    go : (o : Option ℕ) → index_from (names_kid d) 0 (slots_at b m) ≡ o → Taken depth out ps d m b (take_where (names_kid d) m b)
    go None q = absurd (let clash : true ≡ false = sym has ∙ none-kid d 0 (slots_at b m) q in cc)
    go (Some i) q = result
      where
        f : Found (names_kid d) (slots_at b m) i
        f = found-at (names_kid d) i (slots_at b m) q

        typed : (t : TypeId) × (f.entry.1 ≡ strong t (Some d))
        typed = kid-held d f.entry f.passes

        slot : slot_at b m i ≡ Some (strong typed.0 (Some d))
        slot = slot-of b m i f.entry f.at ∙ ap Some typed.1

        owner : (r : Record) × (record_of b m ≡ Some r)
        owner = record-at b m (of-live b (codes "bus") m bus)

        r : Record
        r = owner.0

        at : slice_get r.slots i ≡ Some f.entry
        at = sym (ap (λ (o : Option Record). slice_get (option_map_or (λ (x : Record). x.slots) o []) i) owner.1) ∙ f.at

        entry : kid_entry f.entry ≡ Some (f.entry.0, d)
        entry = ap (λ (x : Slot). kid_entry (f.entry.0, x)) typed.1

        was : slots_at b m ≡ r.slots
        was = ap (λ (o : Option Record). option_map_or (λ (x : Record). x.slots) o []) owner.1

        all : AllByRecursion (IsKid b m) (filter_map kid_entry r.slots)
        all = subst (λ (ss : List (List ℕ × Slot)). AllByRecursion (IsKid b m) (filter_map kid_entry ss)) was (h.places.kids m bus)

        own : IsKid b m (f.entry.0, d)
        own = all-at (IsKid b m) i r.slots f.entry (f.entry.0, d) at entry all

        place : ℕ
        place = own.slot.0

        name : f.entry.0 ≡ kid_name place
        name = own.slot.1.1.1

        other_name : bytes_eq f.entry.0 (codes "parent_bus") ≡ false
        other_name = subst (λ (y : List ℕ). bytes_eq y (codes "parent_bus") ≡ false) (sym name) refl

        none : child_of f.entry.1 ≡ None
        none = ap child_of typed.1

        c : Board
        c = drop_slot b m i

        same-bus : (x : ℕ) → bus_of c x ≡ bus_of b x
        same-bus =
            for-each depth out None ps b h m i r owner.1 f.entry at (λ y. bus_of c y ≡ bus_of b y) (λ y p a. a.bus)
            (dropped-read depth out None ps b h m i r owner.1 f.entry at
            (λ ss. option_and_then strong_in (option_map (λ (y : List ℕ × Slot). y.1) (find (λ y. bytes_eq y.0 (codes "parent_bus")) ss)))
            (strong-dropped (codes "parent_bus") i r.slots (names-at b firm m r owner.1) f.entry at (inr other_name)))

        hold : (p x : ℕ) → is_of b (codes "bus") p ≡ true → d ≢ x → listed x (kid_entries b p) ≡ true → listed x (kid_entries c p) ≡ true
        hold p x isb differs =
            for-each depth out None ps b h m i r owner.1 f.entry at (λ y. listed x (kid_entries b y) ≡ true → listed x (kid_entries c y) ≡ true)
            (λ y k a l. ap (listed x) a.kids ∙ l)
            (λ l. dropped-read depth out None ps b h m i r owner.1 f.entry at (λ ss. listed x (filter_map kid_entry ss)) (any-kid_dropped
            (λ (z : List ℕ × ℕ). z.1 == x) i r.slots f.entry (f.entry.0, d) at entry (false_from_ne_true (d == x) (λ k. differs (eqb-true d x k)))) ∙ l) p

        first : PlacesBut depth (Some d) out c
        first = link-dropped depth out None ps b h m i r owner.1 f.entry at d none (λ x. inl (λ z. cc)) (λ x k. same-bus x) (λ p x isb l. same-bus x) hold

        step : Steps b c
        step = dropped depth out None ps b h m i r owner.1 f.entry at

        first-unlisted : IsUnlisted c d
        first-unlisted p is =
            let live : is_live c p ≡ true = of-live c (codes "bus") p is in
            let isb : is_of b (codes "bus") p ≡ true = sym (of-alike b c p (codes "bus") (step.body p live)) ∙ is in
            for-each depth out None ps b h m i r owner.1 f.entry at
            (λ y. is_of b (codes "bus") y ≡ true → (y == m) ≡ (p == m) → listed d (kid_entries c y) ≡ false)
            (λ y k a ib same_y.
            ap (listed d) a.kids
            ∙ false_from_ne_true (listed d (kid_entries b y))
            (λ l.
            let clash : y ≡ m = same_Some y m (sym (kid-of depth None out b h.places y d ib l).1 ∙ on) in
            absurd (let both : true ≡ false = sym (eq-eqb y m clash) ∙ k in cc)))
            (λ ib same_y. gone)
            p isb refl
          where
            gone : listed d (kid_entries c m) ≡ false
            gone =
                now (filter_map kid_entry (without_hold i r.slots))
                (kid-gone d i (kid_name place) r.slots f.entry (names-at b firm m r owner.1)
                (all-imply (IsKid b m) (λ (z : List ℕ × ℕ). z.1 ≡ d → z.0 ≡ kid_name place) same_place (filter_map kid_entry r.slots) all) at entry)
              where
                same_place : (z : List ℕ × ℕ) → IsKid b m z → z.1 ≡ d → z.0 ≡ kid_name place
                same_place z k is_d =
                    let here : bus_slot_of b d ≡ Some k.slot.0 = subst (λ (y : ℕ). bus_slot_of b y ≡ Some k.slot.0) is_d k.slot.1.1.0 in
                    k.slot.1.1.1 ∙ ap kid_name (same_Some k.slot.0 place (sym here ∙ own.slot.1.1.0))

                now : (es : List (List ℕ × ℕ)) → listed d (filter_map kid_entry (without_hold i r.slots)) ≡ false → listed d (kid_entries c m) ≡ false
                now es k = ap (λ (ss : List (List ℕ × Slot)). listed d (filter_map kid_entry ss)) (edited-slots b m (with_dropped i) (λ x. refl) r owner.1) ∙ k

        other : (x : Record) (s : List ℕ × Slot) → record_of b m ≡ Some x → slice_get x.slots i ≡ Some s → IsNoClock s
        other x s k l = subst IsNoClock (on-record b m i f.entry s x f.at k l) (no_child none)

        near_first : InvariantBut (Some d) c
        near_first = near-drop b m i (strong typed.0 (Some d)) slot (other-lasts b m i other (strong typed.0 (Some d)) slot) h.sits.near

        empty : slot_at c m i ≡ Some (strong typed.0 None)
        empty = emptied-at b m i (strong typed.0 (Some d)) (strong typed.0 None) slot refl

        near_second : InvariantBut (Some d) (cut m i c)
        near_second = near-cut (Some d) c m i (strong typed.0 None) empty refl refl near_first

        here : StandsAt c m i (strong typed.0 None)
        here = stands-at c m i (strong typed.0 None) empty

        second : Kept c (cut m i c) × Steps c (cut m i c)
        second =
            cut-kept c (owner-live c 1 MACHINE_BIRTH first.machine) m i near_first.firm near_second.firm here.owner here.found here.entry here.at typed.0
            here.is

        places_second : PlacesBut depth (Some d) out (cut m i c)
        places_second = places-kept c (cut m i c) second.0 depth (Some d) out first

        sits : HasPins ps (take_where (names_kid d) m b)
        sits = held-taken ps d m b h.sits

        ends : WellFormed (after finalize (cut m i c) (Some d))
        ends = rw (take_where, q, take_slot, slot) at sits.near.firm

        pinned : among (cut m i c).pins 1 ≡ true
        pinned = ap (λ (qs : List ℕ). among qs 1) h.sits.pins ∙ h.one

        third : Kept (cut m i c) (after finalize (cut m i c) (Some d))
        third = after-kept (cut m i c) (Some d) ends (owner-live (cut m i c) 1 MACHINE_BIRTH places_second.machine) pinned

        last : Board
        last = after finalize (cut m i c) (Some d)

        stands_first : (x : ℕ) → stands c x ≡ stands b x
        stands_first =
            stands-same b c
            (link-stands depth out None ps b h m i r owner.1 f.entry at none PERIPHERAL_BIRTH)
            (link-stands depth out None ps b h m i r owner.1 f.entry at none ANONYMOUS_BIRTH)

        stay_first : OthersStay d b c
        stay_first = record { stands_on = λ x p t. stands_first x ∙ t; bus_on = λ x k p t o. same-bus x ∙ o }

        stands_second : (x : ℕ) → stands (cut m i c) x ≡ stands c x
        stands_second = same-stands c (cut m i c) second.0 depth (Some d) out first

        stands_third : (x : ℕ) → stands last x ≡ stands (cut m i c) x
        stands_third = same-stands (cut m i c) last third depth (Some d) out places_second

        there : stands last d ≡ true
        there = stands_third d ∙ stands_second d ∙ stands_first d ∙ e

        on_last : bus_of last d ≡ Some m
        on_last =
            third.bus d (stands-live last ends d there) (stands_second d ∙ stands_first d ∙ e)
            ∙ second.0.bus d (stands-live (cut m i c) near_second.firm d (stands_second d ∙ stands_first d ∙ e)) (stands_first d ∙ e)
            ∙ same-bus d ∙ on

        steps : Steps b last
        steps = steps-then b c last step (steps-then c (cut m i c) last second.1 (steps-after (cut m i c) (Some d)))

        result : Taken depth out ps d m b (take_where (names_kid d) m b)
        result =
            subst (Taken depth out ps d m b) (sym (shape q slot))
            (record {
              went =
                  record {
                    mid =
                        record {
                          sits = subst (HasPins ps) (shape q slot) sits;
                          one = h.one;
                          places = after-places depth (Some d) out (cut m i c) (Some d) ends pinned places_second;
                        };
                    steps = steps;
                  };
              stay =
                  stay-then d b c last stay_first
                  (stay-then d c (cut m i c) last (stay-kept depth (Some d) out d c (cut m i c) second.0 first)
                  (stay-kept depth (Some d) out d (cut m i c) last third places_second));
              there = there;
              on = on_last;
              unlisted = unlisted-steps c last d (steps-then c (cut m i c) last second.1 (steps-after (cut m i c) (Some d))) first-unlisted;
            })
          where
            shape : index_from (names_kid d) 0 (slots_at b m) ≡ Some i → slot_at b m i ≡ Some (strong typed.0 (Some d)) → take_where (names_kid d) m b ≡ last
            shape k l = rw (take_where, k, take_slot, l) refl
