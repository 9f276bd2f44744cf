-- A device leaves its bus whole, and its container.
use Rattle.std.proofs.Common.{◌⊎◌, inl, inr, ◌≡◌, ◌≢◌, refl, ap, ap₂, sym, subst, ◌∙◌, ℕ, ◌≤◌, Bool, true, false, ◌||◌, ◌==◌, List, [], ◌∷◌, filter_map, find, slice_get, sum_by, Option, Some, None, option_map, option_and_then, arith, codes}
use Rattle.qo_model.proofs.Common.{AllByRecursion, option_map_or, bytes_eq, ANONYMOUS_BIRTH, MACHINE_BIRTH, PERIPHERAL_BIRTH, Board, Record, Slot, plain, child, strong, weak, alias, record_of, is_live, slots_at, slot_at, among, bus_of, is_realized, strong_in, index_from, child_of, is_of, after, drop_slot, finalize, let_go, with_dropped, is_child_slot, is_named, left_bus, left_parent, let_go_where, names_kid, take_where, is_open}
use Rattle.std.proofs.lemmas.Bool.{eqb-true, eq-eqb, false_from_ne_true}
use Rattle.std.proofs.lemmas.Option.{same_Some}
use Rattle.qo_model.specs.Board.{referent}
use Rattle.qo_model.proofs.FirstSlotLemmas.{Found, found-at, first-found}
use Rattle.qo_model.proofs.ReleaseLemmas.{found-within}
use Rattle.qo_sound.proofs.FirmBoardLemmas.{WellFormed, parents_in}
use Rattle.qo_sound.proofs.SlotLemmas.{one_child}
use Rattle.qo_sound.proofs.TestLemmas.{decide}
use Rattle.qo_sound.proofs.UnplugLemmas.{held-where_open, held-where_other, named-apart, HasPins}
use Rattle.qo_sound_devices.specs.SoundPlaces.{child_entries, child_entry, IsKid, kid_entries, kid_entry, listed, owns, owns_it, PlacesBut, stands, names_it}
use Rattle.qo_sound_devices.proofs.DropLemmas.{edited-slots, names-at}
use Rattle.qo_sound_devices.proofs.LeavingLemmas.{all-at, IsUnlisted, Left, OthersStay, stay-kept, stay-none, stay-then, strong-gone, Taken, taken-kid, unlisted-steps, unnamed}
use Rattle.qo_sound_devices.proofs.PlacesLemmas.{within-any, stands-same}
use Rattle.qo_sound_devices.proofs.PlacesLemmas.{after-kept, child-live, Kept, of-alike, of-live, owner-live, realized-live, stands-live, within-any}
use Rattle.qo_sound_devices.proofs.StepsLemmas.{Steps, steps-after, steps-then}
use Rattle.qo_sound_devices.proofs.UnparentingLemmas.{child-dropped, child-gone, dropped, for-each, is-child_slot, IsChildSlot, link-dropped, link-stands, Mid, none-listed, record-at, ReachedBySteps, went-let_go, went-none, bus-stays, listed-stays}

pub none-of : {A : Type 0} (o : Option A) → ((x : A) → o ≡ Some x → ⊥) → o ≡ None
none-of None f = refl
none-of (Some x) f = absurd (f x refl)

-- what a slot is whose strong link has a target
record IsStrong (m : ℕ) (s : List ℕ × Slot) : Type 0 where
  no_child : child_of s.1 ≡ None
  entry : kid_entry s ≡ Some (s.0, m)

is-strong : (m : ℕ) (s : List ℕ × Slot) → strong_in s.1 ≡ Some m → IsStrong m s
is-strong m (name, plain v) e = absurd (let clash : None ≡ Some m = e in cc)
is-strong m (name, child k) e = absurd (let clash : None ≡ Some m = e in cc)
is-strong m (name, strong t None) e = absurd (let clash : None ≡ Some m = e in cc)
is-strong m (name, strong t (Some k)) e = record { no_child = refl; entry = ap (λ (x : ℕ). Some (name, x)) (same_Some k m e) }
is-strong m (name, weak t target) e = absurd (let clash : None ≡ Some m = e in cc)
is-strong m (name, alias k property) e = absurd (let clash : None ≡ Some m = e in cc)

-- after a slot that was let go, all but its object stand as before where the drop leaves them so
pub stay-let_go : (depth : ℕ → ℕ) (out : ℕ → Bool) (left now : Option ℕ) (ps : List ℕ) (b : Board) → Mid depth out left ps b → (n i d : ℕ) (s : Slot)
    → slot_at b n i ≡ Some s → WellFormed (let_go b n i) → PlacesBut depth now out (drop_slot b n i) → OthersStay d b (drop_slot b n i)
    → OthersStay d b (let_go b n i)
unfolding let_go drop_slot
stay-let_go depth out left now ps b h n i d s slot firm places first =
    let c : Board = drop_slot b n i in
    let ends : WellFormed (after finalize c (referent s)) = rw (let_go, slot) at firm in
    let pinned : among c.pins 1 ≡ true = ap (λ (qs : List ℕ). among qs 1) h.sits.pins ∙ h.one in
    let kept : Kept c (after finalize c (referent s)) = after-kept c (referent s) ends (owner-live c 1 MACHINE_BIRTH places.machine) pinned in
    rw (let_go, slot) (stay-then d b c (after finalize c (referent s)) first (stay-kept depth now out d c (after finalize c (referent s)) kept places))

-- the rest of a slot let go are steps of the board without the slot
pub steps-let_go : (b : Board) (n i : ℕ) (s : Slot) → slot_at b n i ≡ Some s → Steps (drop_slot b n i) (let_go b n i)
unfolding let_go
steps-let_go b n i s slot = rw (let_go, slot) (steps-after (drop_slot b n i) (referent s))

pub slot-is : (b : Board) (n i : ℕ) (r : Record) (s : List ℕ × Slot) → record_of b n ≡ Some r → slice_get r.slots i ≡ Some s → slot_at b n i ≡ Some s.1
slot-is b n i r s found at =
    ap (λ (o : Option Record). option_map (λ (x : List ℕ × Slot). x.1) (slice_get (option_map_or (λ (x : Record). x.slots) o []) i)) found
    ∙ ap (option_map (λ (x : List ℕ × Slot). x.1)) at

-- who is not d differs from it
is-or-differs : (d x : ℕ) → Some d ≢ Some x ⊎ (d ≡ x)
is-or-differs d x =
    decide (d == x) (λ p. inr (eqb-true d x p)) (λ p. inl (λ z. let clash : true ≡ false = sym (eq-eqb d x (same_Some d x z)) ∙ p in absurd cc))

-- the link to its bus is let go
unlinked : (depth : ℕ → ℕ) (out : ℕ → Bool) (ps : List ℕ) (d m : ℕ) (b c : Board) → Taken depth out ps d m b c
    → Left depth out ps d b (let_go_where (is_named (codes "parent_bus")) d c)
unfolding drop_slot
unlinked depth out ps d m b c t = go (index_from (is_named (codes "parent_bus")) 0 (slots_at c d)) refl
  where
    h : Mid depth out (Some d) ps c
    h = t.went.mid

    firm : WellFormed c
    firm = h.sits.near.firm

    sits : HasPins ps (let_go_where (is_named (codes "parent_bus")) d c)
    sits = held-where_other ps (is_named (codes "parent_bus")) (named-apart (codes "parent_bus") refl) d c h.sits

    go : (o : Option ℕ) → index_from (is_named (codes "parent_bus")) 0 (slots_at c d) ≡ o
        → Left depth out ps d b (let_go_where (is_named (codes "parent_bus")) d c)
    go None q = absurd (let clash : None ≡ Some m = sym (unnamed (codes "parent_bus") (slots_at c d) 0 q) ∙ t.on in cc)
    go (Some i) q = result
      where
        f : Found (is_named (codes "parent_bus")) (slots_at c d) i
        f = found-at (is_named (codes "parent_bus")) i (slots_at c d) q

        s : List ℕ × Slot
        s = f.entry

        owner : (r : Record) × (record_of c d ≡ Some r)
        owner = record-at c d (stands-live c firm d t.there)

        r : Record
        r = owner.0

        at : slice_get r.slots i ≡ Some s
        at = sym (ap (λ (o : Option Record). slice_get (option_map_or (λ (x : Record). x.slots) o []) i) owner.1) ∙ f.at

        named : find (λ (x : List ℕ × Slot). bytes_eq x.0 (codes "parent_bus")) (slots_at c d) ≡ Some s
        named = sym (first-found (codes "parent_bus") (slots_at c d) 0 i i q (omega arith)) ∙ f.at

        is : IsStrong m s
        is = is-strong m s (sym (ap (λ (o : Option (List ℕ × Slot)). option_and_then strong_in (option_map (λ (x : List ℕ × Slot). x.1) o)) named) ∙ t.on)

        e : Board
        e = drop_slot c d i

        step : Steps c e
        step = dropped depth out (Some d) ps c h d i r owner.1 s at

        same-bus : (x : ℕ) → d ≢ x → bus_of e x ≡ bus_of c x
        same-bus = for-each depth out (Some d) ps c h d i r owner.1 s at (λ y. d ≢ y → bus_of e y ≡ bus_of c y) (λ y p a k. a.bus) (λ k. absurd (k refl))

        kid : (p x : ℕ) → is_of c (codes "bus") p ≡ true → listed x (kid_entries e p) ≡ true → bus_of e x ≡ bus_of c x
        kid p x isb l =
            same-bus x
            (λ z.
            let clash : true ≡ false =
            sym (within-any (names_it x) (step.kids p) l) ∙ ap (λ (y : ℕ). listed y (kid_entries c p)) (sym z) ∙ t.unlisted p isb in
            absurd cc)

        no_bus : is_of c (codes "bus") d ≡ true → ⊥
        no_bus isb =
            let all : AllByRecursion (IsKid c d) (filter_map kid_entry r.slots) =
            subst (λ (ss : List (List ℕ × Slot)). AllByRecursion (IsKid c d) (filter_map kid_entry ss))
            (ap (λ (o : Option Record). option_map_or (λ (x : Record). x.slots) o []) owner.1) (h.places.kids d isb) in
            let own : IsKid c d (s.0, m) = all-at (IsKid c d) i r.slots s (s.0, m) at is.entry all in
            let other : bytes_eq s.0 (codes "parent_bus") ≡ false = subst (λ (y : List ℕ). bytes_eq y (codes "parent_bus") ≡ false) (sym own.slot.1.1.1) refl in
            let clash : true ≡ false = sym f.passes ∙ other in
            absurd cc

        hold : (p x : ℕ) → is_of c (codes "bus") p ≡ true → d ≢ x → listed x (kid_entries c p) ≡ true → listed x (kid_entries e p) ≡ true
        hold p x isb k =
            for-each depth out (Some d) ps c h d i r owner.1 s at
            (λ y. is_of c (codes "bus") y ≡ true → listed x (kid_entries c y) ≡ true → listed x (kid_entries e y) ≡ true)
            (λ y u a ib l. ap (listed x) a.kids ∙ l) (λ ib l. absurd (no_bus ib)) p isb

        places : PlacesBut depth (Some d) out e
        places = link-dropped depth out (Some d) ps c h d i r owner.1 s at d is.no_child (is-or-differs d) same-bus kid hold

        sits_here : HasPins ps (let_go c d i)
        sits_here = rw (let_go_where, q) at sits

        slot : slot_at c d i ≡ Some s.1
        slot = slot-is c d i r s owner.1 at

        later : ReachedBySteps depth out (Some d) ps c (let_go c d i)
        later = went-let_go depth out (Some d) ps c h d i r owner.1 s at (Some d) sits_here places

        off_first : bus_of e d ≡ None
        off_first =
            ap
            (λ (ss : List (List ℕ × Slot)).
            option_and_then strong_in (option_map (λ (x : List ℕ × Slot). x.1) (find (λ x. bytes_eq x.0 (codes "parent_bus")) ss)))
            (edited-slots c d (with_dropped i) (λ x. refl) r owner.1)
            ∙ strong-gone (codes "parent_bus") i r.slots (names-at c firm d r owner.1) s at f.passes

        stay_first : OthersStay d c e
        stay_first =
            record {
              stands_on = λ x p k. stands-same c e (link-stands depth out (Some d) ps c h d i r owner.1 s at is.no_child PERIPHERAL_BIRTH)
                  (link-stands depth out (Some d) ps c h d i r owner.1 s at is.no_child ANONYMOUS_BIRTH) x ∙ k;
              bus_on = λ x p u k o. same-bus x (λ z. let clash : true ≡ false = sym (eq-eqb d x z) ∙ u in absurd cc) ∙ o;
            }

        result : Left depth out ps d b (let_go_where (is_named (codes "parent_bus")) d c)
        result =
            rw (let_go_where, q) (record {
              went = record { mid = later.mid; steps = steps-then b c (let_go c d i) t.went.steps later.steps };
              stay =
                  stay-then d b c (let_go c d i) t.stay
                  (stay-let_go depth out (Some d) (Some d) ps c h d i d s.1 slot sits_here.near.firm places stay_first);
              off = none-of (bus_of (let_go c d i) d) (λ x k. let clash : None ≡ Some x = sym off_first ∙ (steps-let_go c d i s.1 slot).bus d x k in absurd cc);
              unlisted = unlisted-steps c (let_go c d i) d later.steps t.unlisted;
            })

pub bus-left : (depth : ℕ → ℕ) (out : ℕ → Bool) (ps : List ℕ) (b : Board) → Mid depth out None ps b → (d m : ℕ) → stands b d ≡ true
    → bus_of b d ≡ Some m → Left depth out ps d b (left_bus d b)
bus-left depth out ps b h d m e on = rw (left_bus, on) (unlinked depth out ps d m b (take_where (names_kid d) m b) (taken-kid depth out ps b h d m e on))

-- a device without bus, unrealized, whose buses no bus has: what stays of it after steps
pub record Unlinked (d : ℕ) (b : Board) : Type 0 where
  pub off : bus_of b d ≡ None
  pub unrealized : is_realized b d ≡ false
  pub ownless : (q : ℕ) → is_of b (codes "bus") q ≡ true → owns b d q ≡ false
  pub unlisted : IsUnlisted b d

pub ownless-steps : (b c : Board) (d : ℕ) → Steps b c → ((q : ℕ) → is_of b (codes "bus") q ≡ true → owns b d q ≡ false) → (q : ℕ)
    → is_of c (codes "bus") q ≡ true → owns c d q ≡ false
ownless-steps b c d s h q is =
    let live : is_live c q ≡ true = of-live c (codes "bus") q is in
    let was : is_of b (codes "bus") q ≡ true = sym (of-alike b c q (codes "bus") (s.body q live)) ∙ is in
    false_from_ne_true (owns c d q) (λ e. let clash : true ≡ false = sym (within-any (owns_it q) (s.children d) e) ∙ h q was in absurd cc)

pub unrealized-steps : (b c : Board) (d : ℕ) → Steps b c → is_realized b d ≡ false → is_realized c d ≡ false
unrealized-steps b c d s h = false_from_ne_true (is_realized c d) (λ e. let clash : true ≡ false = sym e ∙ s.realized d (realized-live c d e) ∙ h in absurd cc)

loose-steps : (b c : Board) (d : ℕ) → Steps b c → Unlinked d b → Unlinked d c
loose-steps b c d s h =
    record {
      off = none-of (bus_of c d) (λ x k. let clash : None ≡ Some x = sym h.off ∙ s.bus d x k in absurd cc);
      unrealized = unrealized-steps b c d s h.unrealized;
      ownless = ownless-steps b c d s h.ownless;
      unlisted = unlisted-steps b c d s h.unlisted;
    }

record Shelved (depth : ℕ → ℕ) (out : ℕ → Bool) (ps : List ℕ) (d n : ℕ) (b c : Board) : Type 0 where
  went : ReachedBySteps depth out (Some d) ps b c
  stay : OthersStay d b c
  loose : Unlinked d c
  gone : listed d (child_entries c n) ≡ false

-- it leaves a container
shelved : (depth : ℕ → ℕ) (out : ℕ → Bool) (ps : List ℕ) (d : ℕ) (b : Board) → Mid depth out (Some d) ps b → (n : ℕ)
    → among (PERIPHERAL_BIRTH ∷ ANONYMOUS_BIRTH ∷ []) n ≡ true → is_open n ≡ true → is_live b n ≡ true → Unlinked d b
    → Shelved depth out ps d n b (let_go_where (is_child_slot d) n b)
unfolding drop_slot
shelved depth out ps d b h n shelf wide live loose = go (index_from (is_child_slot d) 0 (slots_at b n)) refl
  where
    firm : WellFormed b
    firm = h.sits.near.firm

    sits : HasPins ps (let_go_where (is_child_slot d) n b)
    sits = held-where_open ps (is_child_slot d) n b wide h.sits

    go : (o : Option ℕ) → index_from (is_child_slot d) 0 (slots_at b n) ≡ o → Shelved depth out ps d n b (let_go_where (is_child_slot d) n b)
    go None q =
        rw (let_go_where, q)
        (record { went = went-none depth out (Some d) ps b h; stay = stay-none d b; loose = loose; gone = none-listed d 0 (slots_at b n) q })
    go (Some i) q = result
      where
        f : Found (is_child_slot d) (slots_at b n) i
        f = found-at (is_child_slot d) i (slots_at b n) q

        s : List ℕ × Slot
        s = f.entry

        owner : (r : Record) × (record_of b n ≡ Some r)
        owner = record-at b n live

        r : Record
        r = owner.0

        at : slice_get r.slots i ≡ Some s
        at = sym (ap (λ (o : Option Record). slice_get (option_map_or (λ (x : Record). x.slots) o []) i) owner.1) ∙ f.at

        is : IsChildSlot d s
        is = is-child_slot d s f.passes

        c : Board
        c = drop_slot b n i

        step : Steps b c
        step = dropped depth out (Some d) ps b h n i r owner.1 s at

        places : PlacesBut depth (Some d) out c
        places = child-dropped depth out (Some d) ps b h n i r owner.1 s at d shelf is (is-or-differs d) loose.off loose.unrealized loose.ownless loose.unlisted

        sits_here : HasPins ps (let_go b n i)
        sits_here = rw (let_go_where, q) at sits

        slot : slot_at b n i ≡ Some s.1
        slot = slot-is b n i r s owner.1 at

        later : ReachedBySteps depth out (Some d) ps b (let_go b n i)
        later = went-let_go depth out (Some d) ps b h n i r owner.1 s at (Some d) sits_here places

        stay_first : OthersStay d b c
        stay_first =
            record {
              stands_on = λ x p k.
                  ap₂ (λ (t u : Bool). t || u)
                  (listed-stays depth out (Some d) ps b h n i r owner.1 s at d is x p PERIPHERAL_BIRTH)
                  (listed-stays depth out (Some d) ps b h n i r owner.1 s at d is x p ANONYMOUS_BIRTH)
                  ∙ k;
              bus_on = λ x p u k o. bus-stays depth out (Some d) ps b h n i r owner.1 s at d is x ∙ o;
            }

        few : sum_by (one_child d) r.slots ≤ 1
        few = omega (arith, found-within (parents_in d) n b.records r owner.1, firm.one_parent d)

        gone_first : listed d (child_entries c n) ≡ false
        gone_first =
            ap (λ (ss : List (List ℕ × Slot)). listed d (filter_map child_entry ss)) (edited-slots b n (with_dropped i) (λ x. refl) r owner.1)
            ∙ child-gone d i r.slots s at f.passes few

        result : Shelved depth out ps d n b (let_go_where (is_child_slot d) n b)
        result =
            rw (let_go_where, q) (record {
              went = later;
              stay = stay-let_go depth out (Some d) (Some d) ps b h n i d s.1 slot sits_here.near.firm places stay_first;
              loose = loose-steps b (let_go b n i) d later.steps loose;
              gone =
                  false_from_ne_true (listed d (child_entries (let_go b n i) n))
                  (λ k. let clash : true ≡ false = sym (within-any (names_it d) ((steps-let_go b n i s.1 slot).children n) k) ∙ gone_first in absurd cc);
            })

-- and both
pub record Parted (depth : ℕ → ℕ) (out : ℕ → Bool) (ps : List ℕ) (d : ℕ) (b c : Board) : Type 0 where
  pub went : ReachedBySteps depth out None ps b c
  pub stay : OthersStay d b c
  pub gone : stands c d ≡ false
  pub unlisted : IsUnlisted c d

pub parent-left : (depth : ℕ → ℕ) (out : ℕ → Bool) (ps : List ℕ) (d : ℕ) (b : Board) → Mid depth out (Some d) ps b → Unlinked d b
    → Parted depth out ps d b (left_parent d b)
parent-left depth out ps d b h loose =
    record {
      went =
          record {
            mid = record { sits = two.went.mid.sits; one = two.went.mid.one; places = places };
            steps = steps-then b c e one.went.steps two.went.steps;
          };
      stay = stay-then d b c e one.stay two.stay;
      gone = gone;
      unlisted = two.loose.unlisted;
    }
  where
    c : Board
    c = let_go_where (is_child_slot d) PERIPHERAL_BIRTH b

    e : Board
    e = let_go_where (is_child_slot d) ANONYMOUS_BIRTH c

    one : Shelved depth out ps d PERIPHERAL_BIRTH b c
    one = shelved depth out ps d b h PERIPHERAL_BIRTH refl refl (child-live b h.sits.near.firm MACHINE_BIRTH PERIPHERAL_BIRTH h.places.parts.0) loose

    two : Shelved depth out ps d ANONYMOUS_BIRTH c e
    two =
        shelved depth out ps d c one.went.mid ANONYMOUS_BIRTH refl refl
        (child-live c one.went.mid.sits.near.firm MACHINE_BIRTH ANONYMOUS_BIRTH one.went.mid.places.parts.1.0) one.loose

    still : listed d (child_entries e PERIPHERAL_BIRTH) ≡ false
    still =
        false_from_ne_true (listed d (child_entries e PERIPHERAL_BIRTH))
        (λ k. let clash : true ≡ false = sym (within-any (names_it d) (two.went.steps.children PERIPHERAL_BIRTH) k) ∙ one.gone in absurd cc)

    gone : stands e d ≡ false
    gone = rw (still, two.gone) refl

    p : PlacesBut depth (Some d) out e
    p = two.went.mid.places

    places : PlacesBut depth None out e
    places =
        record {
          machine = p.machine;
          objects = p.objects;
          parts = p.parts;
          rooted = p.rooted;
          children = p.children;
          aside = p.aside;
          peripheral = p.peripheral;
          anonymous = p.anonymous;
          kids = p.kids;
          home = λ x k a. p.home x k (λ z. let clash : true ≡ false = sym k ∙ ap (stands e) (sym (same_Some d x z)) ∙ gone in absurd cc);
          owner = p.owner;
          shallow = p.shallow;
          only = p.only;
          each = p.each;
          ids = p.ids;
          once = p.once;
        }
