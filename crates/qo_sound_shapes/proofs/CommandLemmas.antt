-- The commands on objects keep the shape.
use Rattle.std.proofs.Common.{◌≡◌, refl, ap, sym, subst, ◌∙◌, rules, ℕ, zero, suc, ◌<◌, ◌≤◌, ◌+◌, Bool, true, false, eqb, List, [], ◌∷◌, length, filter_map, map, slice_get, codes, Option, Some, None, is_some, option_map, arith}
use Rattle.qo_model.proofs.Common.{⊤, AllByRecursion, option_map_or, bytes_eq, ANONYMOUS_BIRTH, MACHINE_BIRTH, MEMORY_BUS_BIRTH, OBJECTS_BIRTH, PERIPHERAL_BIRTH, ROOT_BIRTH, ROOT_BUS_BIRTH, SYSTEM_CLOCK_BIRTH, Code, TypeId, Container, Val, Board, Record, Slot, plain, child, strong, weak, alias, is_live, kind_of, record_of, slot_at, slots_at, changed_at, point, pointed, set, with_added, with_changed, with_val, among, Change, added, after_write, changed, deleted, severed, wrote, Given, added_as, object_add, object_del, refusal_of, sever, severed_from, with_object, opening_board, attached, child_of, is_of, pointed_at, relinked, property_named, write, drop_slot, edit, forgotten, forgotten_in, let_go, pin, with_dropped, without_hold, TypeInfo, is_a, slots_of, types}
use Rattle.qo_model.specs.declared.properties.Property.{Property}
use Rattle.qo_model.specs.declared.properties.PropertyRole.{PropertyRole}
use Rattle.std.proofs.lemmas.Bool.{eqb-true}
use Rattle.std.proofs.lemmas.Option.{same_Some}
use Rattle.std.proofs.lemmas.Slice.Eq.{bytes_eq-Decides}
use Rattle.qo_model.specs.Board.{referent}
use Rattle.qo_model.specs.declared.properties.PropertyRole.TheVariants as row
use Rattle.qo_model.proofs.ComesToLemmas.{addition-comes, deletion-comes, sever-comes, severed-comes}
use Rattle.qo_model.proofs.StepLemmas.{found-birth}
use Rattle.qo_model.proofs.WrittenLemmas.{link-childless}
use Rattle.qo_model.proofs.WrittenLemmas.{write-comes}
use Rattle.qo_sound.proofs.AddLemmas.{creatable, made}
use Rattle.qo_sound.proofs.FirmBoardLemmas.{WellFormed}
use Rattle.qo_sound.proofs.SlotLemmas.{names-changed, names-each, names_in}
use Rattle.qo_sound.proofs.ViewLemmas.{rest-from_sound}
use Rattle.qo_sound_devices.proofs.WriteLemmas.{child-entry-pointed}
use Rattle.qo_sound_devices.specs.SoundDevices.{SoundDevices}
use Rattle.qo_sound_devices.specs.SoundPlaces.{child_entries, IsKid, kid_entries, kid_entry, listed, PlacesBut, stands}
use Rattle.qo_sound_devices.proofs.LikenessLemmas.{child-entry-forgotten}
use Rattle.qo_sound_devices.proofs.AttachmentLemmas.{owner-attached}
use Rattle.qo_sound_devices.proofs.DevicesLawLemmas.{devices_kept_lem}
use Rattle.qo_sound_devices.proofs.DepartureLemmas.{slot-is}
use Rattle.qo_sound_devices.proofs.PlacesLemmas.{child-live, high-absent, stands-live}
use Rattle.qo_sound_phases.proofs.FixedObjectLemmas.{child-val}
use Rattle.qo_sound_shapes.specs.SoundShape.{HasSlots, IsChildSlot, is_child_role, HasRole, IsFurther, IsShaped, SoundShape}
use Rattle.qo_sound_shapes.proofs.BoardLemmas.{container-eight, all-after, all-edit, all-imply_of, all-let_go, all-new, all-pin, all-unpin, AllOf, good-all, OpeningLive, shape-all}
use Rattle.qo_sound_shapes.proofs.ShapeLemmas.{Good, good-added, good-changed, good-dropped, good-forgotten, good-slots, is_first, mild-pointed, rows-pointed}
use Rattle.qo_sound_shapes.proofs.NewObjectLemmas.{created-own, fresh-has, fresh-like, given-has, good-new}
use Rattle.qo_sound_shapes.proofs.QuietChangeLemmas.{good-set, RowTakes, slot-of, Takes}
use Rattle.qo_sound_shapes.proofs.RowLemmas.{has-dropped, held-slots, IsHolding, link-apart, NoKidLinks, none-kid, Slots}
use Rattle.qo_sound_shapes.proofs.CommandTypeLemmas.{changed-typed}
use Rattle.qo_sound_shapes.proofs.CompletenessLemmas.{entries-changed, entries-each, entries-let_go, entries_in, Kept, kept-of, kept-slots, names-let_go, whole-kept}

-- on a board that is sound as far as devices go the machine's objects are there
pub live-devices : (b : Board) → SoundDevices b → OpeningLive b
unfolding opening_board types
live-devices b h = (
  root (kind_of b ROOT_BIRTH) refl,
  (
    there ROOT_BIRTH MACHINE_BIRTH p.machine,
    (
      there MACHINE_BIRTH PERIPHERAL_BIRTH p.parts.0,
      (
        there MACHINE_BIRTH ANONYMOUS_BIRTH p.parts.1.0,
        (
          there MACHINE_BIRTH SYSTEM_CLOCK_BIRTH p.parts.1.1.1.1.0,
          (
            there MACHINE_BIRTH ROOT_BUS_BIRTH p.parts.1.1.0,
            (there MACHINE_BIRTH MEMORY_BUS_BIRTH p.parts.1.1.1.0, (there ROOT_BIRTH OBJECTS_BIRTH p.objects, tt)),
          ),
        ),
      ),
    ),
  ),
)
  where
    p : PlacesBut h.places.0 None (λ d. false) b
    p = h.places.1

    firm : WellFormed b
    firm = (rest-from_sound b h.tree).used.firm

    there : (m n : ℕ) → listed n (child_entries b m) ≡ true → is_live b n ≡ true
    there m n e = child-live b firm m n e

    root : (o : Option TypeId) → kind_of b ROOT_BIRTH ≡ o → is_live b ROOT_BIRTH ≡ true
    root o e = go (record_of b ROOT_BIRTH) refl
      where
        go : (r : Option Record) → record_of b ROOT_BIRTH ≡ r → is_live b ROOT_BIRTH ≡ true
        go None q = absurd (let clash : None ≡ Some Container = sym (ap (option_map (λ (y : Record). y.kind)) q) ∙ p.rooted.root in cc)
        go (Some r) q = ap is_some q

-- containers

pub container-kind : (n : ℕ) → kind_of opening_board n ≡ Some Container → (r : Record) → r.birth ≡ n → Good r → r.kind ≡ Container
container-kind n e r own h = h.kind Container (ap (kind_of opening_board) own ∙ e)

pub childless : AllByRecursion (λ (p : Property). is_child_role p.role ≡ false) (slots_of Container)
unfolding types
childless = search rules

pub child-row : (kind : PropertyRole) (m : ℕ) → HasRole kind (child m) → is_child_role kind ≡ true
child-row (row.Plain type first) m h = absurd h
child-row (row.Child k) m h = refl
child-row (row.Link k true) m h = absurd h
child-row (row.Link k false) m h = absurd h
child-row (row.Alias owner of) m h = absurd h

-- a slot of a container is let go
pub good-emptied : (i : ℕ) (r : Record) → is_first r.birth ≡ false → r.kind ≡ Container → Good r → Good (with_dropped i r)
good-emptied i r apart kind h = good-slots r _ h has (λ e. absurd (let clash : true ≡ false = sym e ∙ apart in cc))
  where
    R : Property → Type 0
    R p = is_child_role p.role ≡ false

    has : HasSlots r.kind (slots_of r.kind) (with_dropped i r).slots
    has =
        has-dropped (λ (p : Property). is_child_role p.role ≡ false) r.kind i (slots_of r.kind)
        (subst (λ (t : TypeId). AllByRecursion (λ (p : Property). is_child_role p.role ≡ false) (slots_of t)) (sym kind) childless) h.shaped.slots
        (λ p s m own at is row.
        absurd
        (let clash : true ≡ false = sym (child-row p.role m (subst (HasRole p.role) is row.fits)) ∙ own in
        cc))
        (subst NoKidLinks (sym kind) (λ name to target k. k))

-- a fact of each object: it is good, and from a board on it is kept whole where it stood in a container
pub record Full (o : Board) (r : Record) : Type 0 where
  pub good : Good r
  pub kept : Kept o r

late-shelf : (n : ℕ) → 8 < n → among (PERIPHERAL_BIRTH ∷ ANONYMOUS_BIRTH ∷ []) n ≡ false
late-shelf n late = go (eqb n PERIPHERAL_BIRTH) refl (eqb n ANONYMOUS_BIRTH) refl
  where
    go : (t : Bool) → eqb n PERIPHERAL_BIRTH ≡ t → (u : Bool) → eqb n ANONYMOUS_BIRTH ≡ u → among (PERIPHERAL_BIRTH ∷ ANONYMOUS_BIRTH ∷ []) n ≡ false
    go true p u q = let is : n ≡ PERIPHERAL_BIRTH = eqb-true n PERIPHERAL_BIRTH p in absurd (let clash : 8 < 3 = omega (arith, late, is) in omega arith)
    go false p true q = let is : n ≡ ANONYMOUS_BIRTH = eqb-true n ANONYMOUS_BIRTH q in absurd (let clash : 8 < 4 = omega (arith, late, is) in omega arith)
    go false p false q = rw (p, q) refl

module _ (o : Board) where
  full-slots : (r : Record) (slots : Slots) → Good (record r { slots = slots }) → names_in slots ≡ names_in r.slots
      → entries_in slots ≡ entries_in r.slots → Full o r
      → Full o (record r { slots = slots })
  full-slots r slots good names entries h = record { good = good; kept = kept-slots o r slots names entries h.kept }

  full-forgotten : (n : ℕ) (r : Record) → Full o r → Full o (forgotten n r)
  full-forgotten n r h =
      full-slots r (map (λ (s : List ℕ × Slot). (s.0, forgotten_in n s.1)) r.slots) (good-forgotten n r h.good) (names-each (forgotten_in n) r.slots)
      (entries-each (forgotten_in n) (child-entry-forgotten n) r.slots) h

  full-dropped : (i : ℕ) (r : Record) → ((s : List ℕ × Slot) → slice_get r.slots i ≡ Some s → child_of s.1 ≡ None) → NoKidLinks r.kind → Full o r
      → Full o (with_dropped i r)
  full-dropped i r none apart h =
      full-slots r (without_hold i r.slots) (good-dropped i r none apart h.good) (names-let_go i r.slots none) (entries-let_go i r.slots none) h

  full-pointed : (m i : ℕ) (r : Record) → Full o r → Full o (with_changed (pointed m) i r)
  full-pointed m i r h =
      full-slots r (changed_at (pointed m) i r.slots)
      (good-changed (pointed m) (mild-pointed m) i r (λ p x row at is. rows-pointed m p.role x.1 is.fits) h.good) (names-changed (pointed m) i r.slots)
      (entries-changed (pointed m) (child-entry-pointed m) i r.slots) h

  full-set : (name : List ℕ) (v : Val) (i : ℕ) (r : Record) (entry : List ℕ × Slot) → slice_get r.slots i ≡ Some entry → bytes_eq entry.0 name ≡ true
      → Takes r.kind name v → Full o r → Full o (with_changed (with_val v) i r)
  full-set name v i r entry at named takes h =
      full-slots r (changed_at (with_val v) i r.slots) (good-set name v i r entry at named takes h.good) (names-changed (with_val v) i r.slots)
      (entries-changed (with_val v) (child-val v) i r.slots) h

  module _ (aside : stands o OBJECTS_BIRTH ≡ false) where
    -- at `/objects`
    kept-objects : (r : Record) → r.birth ≡ OBJECTS_BIRTH → Kept o r
    kept-objects r own =
        record {
          each = λ s. absurd (let clash : true ≡ false = sym s ∙ ap (stands o) own ∙ aside in cc);
          shelf = λ on. absurd (let clash : true ≡ false = sym on ∙ ap (among (PERIPHERAL_BIRTH ∷ ANONYMOUS_BIRTH ∷ [])) own in cc);
        }

    full-emptied : (i : ℕ) (r : Record) → r.birth ≡ OBJECTS_BIRTH → Full o r → Full o (with_dropped i r)
    full-emptied i r own h =
        record {
          good = good-emptied i r (ap is_first own) (container-kind OBJECTS_BIRTH container-eight r own h.good) h.good;
          kept = kept-objects (with_dropped i r) own;
        }

    full-added : (name : List ℕ) (s : Slot) → IsChildSlot s → (r : Record) → r.birth ≡ OBJECTS_BIRTH → Full o r → Full o (with_added name s r)
    full-added name s kin r own h =
        record {
          good =
              good-added name s r (ap is_first own)
              (subst (λ (x : TypeId). IsFurther x (name, s)) (sym (container-kind OBJECTS_BIRTH container-eight r own h.good)) kin) h.good;
          kept = kept-objects (with_added name s r) own;
        }

-- slots that are no strong links

abbrev IsWeak : List ℕ × Slot → Type 0
IsWeak (name, strong t target) = ⊥
IsWeak s = ⊤

weak-at : (xs : Slots) (i : ℕ) (t : TypeId) (target : Option ℕ) → AllByRecursion IsWeak xs
    → option_map (λ (s : List ℕ × Slot). s.1) (slice_get xs i) ≡ Some (strong t target) → ⊥
weak-at [] i t target h e = absurd (let clash : None ≡ Some (strong t target) = e in cc)
weak-at ((name, s) ∷ xs) zero t target h e = subst (λ (x : Slot). IsWeak (name, x)) (same_Some s (strong t target) e) h.0
weak-at (x ∷ xs) (suc i) t target h e = weak-at xs i t target h.1 e

weak-slots : (xs : Slots) → AllByRecursion IsHolding xs → filter_map kid_entry xs ≡ [] → AllByRecursion IsWeak xs
weak-slots [] h e = tt
weak-slots ((name, plain v) ∷ xs) h e = (tt, weak-slots xs h.1 e)
weak-slots ((name, child m) ∷ xs) h e = (tt, weak-slots xs h.1 e)
weak-slots ((name, strong t None) ∷ xs) h e = absurd h.0
weak-slots ((name, strong t (Some m)) ∷ xs) h e = absurd (let clash : (name, m) ∷ filter_map kid_entry xs ≡ [] = e in cc)
weak-slots ((name, weak t target) ∷ xs) h e = (tt, weak-slots xs h.1 e)
weak-slots ((name, alias m property) ∷ xs) h e = (tt, weak-slots xs h.1 e)

module _ (base : Board) (aside : stands base OBJECTS_BIRTH ≡ false) where
  -- `object-del`
  deleted-all : (b : Board) (id : List ℕ) → AllOf (Full base) b → AllOf (Full base) (object_del b id).board
  deleted-all b id h = deletion-comes (AllOf (Full base)) b id h (λ i e.
      all-let_go (Full base) (full-forgotten base) OBJECTS_BIRTH i b (λ r q own k. full-emptied base aside i r own k) h)

  -- `x-sever`: of a bus, which has no kids where it is detached, and of what is no bus
  severed-bus : (places i n : ℕ) (b : Board) → AllByRecursion IsWeak (slots_at b n) → severed_from places i n b ≡ b
  severed-bus zero i n b h = refl
  severed-bus (suc places) i n b h = go (slot_at b n i) refl (severed-bus places (suc i) n b h)
    where
      go : (s : Option Slot) → slot_at b n i ≡ s → severed_from places (suc i) n b ≡ b → severed_from (suc places) i n b ≡ b
      go None p rest = rw (severed_from, p) rest
      go (Some (plain v)) p rest = rw (severed_from, p) rest
      go (Some (child m)) p rest = rw (severed_from, p) rest
      go (Some (weak t target)) p rest = rw (severed_from, p) rest
      go (Some (alias m property)) p rest = rw (severed_from, p) rest
      go (Some (strong t target)) p rest = absurd (weak-at (slots_at b n) i t target h p)

  -- an object that is no bus where it is n
  record Severing (n : ℕ) (r : Record) : Type 0 where
    full : Full base r
    apart : r.birth ≡ n → NoKidLinks r.kind

  severed-all : (places i n : ℕ) (b : Board) → AllOf (Severing n) b → AllOf (Severing n) (severed_from places i n b)
  severed-all places i n b h = severed-comes (AllOf (Severing n)) n cuts places i b h
    where
      cuts : (c : Board) (j : ℕ) (t : TypeId) (target : Option ℕ) → slot_at c n j ≡ Some (strong t target) → AllOf (Severing n) c
          → AllOf (Severing n) (let_go c n j)
      cuts c j t target p all =
          all-let_go (Severing n) (λ m r k. record { full = full-forgotten base m r k.full; apart = k.apart }) n j c
          (λ r e own k. record { full = full-dropped base j r (no_child r e) (k.apart own) k.full; apart = k.apart }) all
        where
          no_child : (r : Record) → record_of c n ≡ Some r → (s : List ℕ × Slot) → slice_get r.slots j ≡ Some s → child_of s.1 ≡ None
          no_child r e s at =
              let here : slot_at c n j ≡ Some s.1 =
              ap (λ (o : Option Record). option_map (λ (x : List ℕ × Slot). x.1) (slice_get (option_map_or (λ (y : Record). y.slots) o []) j)) e
              ∙ ap (option_map (λ (x : List ℕ × Slot). x.1)) at in
              sym (ap child_of (same_Some (strong t target) s.1 (sym p ∙ here)))

  sever-links : (b : Board) (n places : ℕ) → (is_of b (codes "bus") n ≡ true → kid_entries b n ≡ []) → AllOf (Full base) b
      → AllOf (Full base) (severed_from places 0 n (pin b n))
  unfolding pin
  sever-links b n places bare h = go (record_of b n) refl
    where
      pinned : AllOf (Full base) (pin b n)
      pinned = all-pin (Full base) n b h

      of : (apart : (r : Record) → record_of b n ≡ Some r → NoKidLinks r.kind) → AllOf (Full base) (severed_from places 0 n (pin b n))
      of apart =
          all-imply_of (Severing n) (Full base) (λ r k. k.full) (severed_from places 0 n (pin b n))
          (severed-all places 0 n (pin b n)
          (λ x r e.
          record { full = h x r e; apart = λ own. apart r (ap (record_of b) (sym own ∙ found-birth x b.records r e) ∙ e) }))

      go : (o : Option Record) → record_of b n ≡ o → AllOf (Full base) (severed_from places 0 n (pin b n))
      go None e = of (λ r q. absurd (let clash : None ≡ Some r = sym e ∙ q in cc))
      go (Some r) e = by (is_a r.kind (codes "bus")) refl
        where
          by : (t : Bool) → is_a r.kind (codes "bus") ≡ t → AllOf (Full base) (severed_from places 0 n (pin b n))
          by false q = of (λ y k. subst (λ (x : Record). NoKidLinks x.kind) (same_Some r y (sym e ∙ k)) (none-kid r.kind q))
          by true q =
              let is : is_of b (codes "bus") n ≡ true =
              ap (λ (o : Option Record). option_map_or (λ (t : TypeId). is_a t (codes "bus")) (option_map (λ (y : Record). y.kind) o) false) e ∙ q in
              let none : filter_map kid_entry r.slots ≡ [] =
              sym (ap (λ (o : Option Record). filter_map kid_entry (option_map_or (λ (y : Record). y.slots) o [])) e) ∙ bare is in
              let weaks : AllByRecursion IsWeak (slots_at b n) =
              subst (AllByRecursion IsWeak) (sym (ap (λ (o : Option Record). option_map_or (λ (y : Record). y.slots) o []) e))
              (weak-slots r.slots (held-slots r.kind q (h n r e).good.shaped.slots) none) in
              subst (AllOf (Full base)) (sym (severed-bus places 0 n (pin b n) weaks)) pinned

  sever-all : (b : Board) (n : ℕ) → (attached b n ≡ false → is_of b (codes "bus") n ≡ true → kid_entries b n ≡ []) → AllOf (Full base) b
      → AllOf (Full base) (sever b n).board
  sever-all b n bare h = sever-comes (AllOf (Full base)) b n h (λ there away.
      all-unpin (Full base) (full-forgotten base) n (severed_from (length (slots_at b n)) 0 n (pin b n))
      (sever-links b n (length (slots_at b n)) (bare away) h))

  -- `object-add`

  object-all : (b : Board) (t : TypeId) (id : List ℕ) (props : List Given) → stands base (b.born + 1) ≡ false → 8 ≤ b.born
      → is_a t (codes "user-creatable") ≡ true → refusal_of b t props ≡ None
      → AllOf (Full base) b → AllOf (Full base) (with_object b t id props)
  object-all b t id props apart begun creatable none h =
      all-new (Full base) (made b t props) (edit OBJECTS_BIRTH (with_added id (child (b.born + 1))) b) (with_object b t id props) refl
      (full-new (made b t props) refl (record { slots = given-has b t props none (fresh-has t (created-own t creatable)); registers = fresh-like t }))
      (all-edit (Full base) OBJECTS_BIRTH (with_added id (child (b.born + 1))) (λ r. refl) b
      (λ r e own k. full-added base aside id (child (b.born + 1)) tt r own k) h)
    where
      full-new : (r : Record) → r.birth ≡ b.born + 1 → IsShaped r → Full base r
      full-new r own shaped =
          record {
            good = good-new r (omega (arith, begun, own)) shaped;
            kept =
                record {
                  each = λ s. absurd (let clash : true ≡ false = sym s ∙ ap (stands base) own ∙ apart in cc);
                  shelf =
                      λ on. absurd (let clash : true ≡ false = sym on ∙ ap (among (PERIPHERAL_BIRTH ∷ ANONYMOUS_BIRTH ∷ [])) own
                      ∙ late-shelf (b.born + 1) (omega (arith, begun)) in cc);
                };
          }

  added-all : (b : Board) (driver id : List ℕ) (props : List Given) → stands base (b.born + 1) ≡ false → 8 ≤ b.born → AllOf (Full base) b
      → AllOf (Full base) (object_add b driver id props).board
  added-all b driver id props apart begun h =
      addition-comes (AllOf (Full base)) b driver id props h (λ row e o is. taken row (creatable b row id e) o is)
    where
      taken : (row : TypeInfo) → is_a row.id (codes "user-creatable") ≡ true → (o : Option Code) → refusal_of b row.id props ≡ o
          → AllOf (Full base) (added_as b row.id id props o).board
      taken row creatable (Some code) e = h
      taken row creatable None e = object-all b row.id id props apart begun creatable e h

  -- `qom-set`

  module _ (b : Board) (h : AllOf (Full base) b) (n i : ℕ) where
    -- an object that has no links to kids
    abbrev IsApart : Type 0
    IsApart = (r : Record) → record_of b n ≡ Some r → NoKidLinks r.kind

    relinked-all : IsApart → (s : Slot) → slot_at b n i ≡ Some s → child_of s ≡ None → (target : Option ℕ) → AllOf (Full base) (relinked b n i target)
    unfolding point drop_slot
    relinked-all apart s e none target =
        rw (relinked, e) (all-after (Full base) (full-forgotten base) (referent s) (pointed_at target n i (drop_slot b n i)) (points target))
      where
        dropped : AllOf (Full base) (drop_slot b n i)
        dropped =
            all-edit (Full base) n (with_dropped i) (λ r. refl) b
            (λ r q own k. full-dropped base i r (λ x at. ap child_of (same_Some x.1 s (sym (slot-is b n i r x q at) ∙ e)) ∙ none) (apart r q) k) h

        points : (to : Option ℕ) → AllOf (Full base) (pointed_at to n i (drop_slot b n i))
        points None = dropped
        points (Some m) =
            all-edit (Full base) n (with_changed (pointed m) i) (λ r. refl) (drop_slot b n i)
            (λ r q own k. full-pointed base m i r k) dropped

    module _ (name : List ℕ) (entry : List ℕ × Slot) (at : slice_get (slots_at b n) i ≡ Some entry) (named : bytes_eq entry.0 name ≡ true) where
      val-all : (v : Val) → ((r : Record) → record_of b n ≡ Some r → Takes r.kind name v) → AllOf (Full base) (set n i v b)
      unfolding set
      val-all v takes =
          all-edit (Full base) n (with_changed (with_val v) i) (λ r. refl) b
          (λ r q own k. full-set base name v i r entry (slot-of b n i r entry q at) named (takes r q) k) h

  write-all : (b : Board) (n : ℕ) (name : List ℕ) (v : Val) → AllOf (Full base) b → AllOf (Full base) (after_write b (write b n name v))
  write-all b n name v h = write-comes (AllOf (Full base)) b h n name v (λ i t p kind e may.
      let row_in : (r : Record) → record_of b n ≡ Some r → property_named r.kind name ≡ Some p =
      λ r q. ap (λ k. property_named k name) (same_Some r.kind t (sym (ap (option_map (λ (y : Record). y.kind)) q) ∙ kind)) ∙ e in
      record {
        value = λ old at type first is fits.
            val-all b h n i name (name, plain old) at ((bytes_eq-Decides name name).1 refl) v
            (λ r q.
            subst (λ (o : Option Property). elim o as (λ _. Type 0) [ None ↦ ⊤ | Some x ↦ RowTakes x.role v ]) (sym (row_in r q))
            (subst (λ (k : PropertyRole). RowTakes k v) (sym is) fits));
        link = λ u s left link leaves at to holds is path target told.
            relinked-all b h n i (λ r q. link-apart r.kind to holds name p (row_in r q) is) s (ap (option_map (λ (x : List ℕ × Slot). x.1)) at)
            (link-childless u s link) target;
      })

-- each of them

changed-all : (b : Board) (change : Change) → stands b OBJECTS_BIRTH ≡ false → stands b (b.born + 1) ≡ false → 8 ≤ b.born
    → ((n : ℕ) → attached b n ≡ false → is_of b (codes "bus") n ≡ true → kid_entries b n ≡ []) → AllOf (Full b) b → AllOf (Full b) (changed b change)
changed-all b (added driver id props) aside apart begun bare h = added-all b aside b driver id props apart begun h
changed-all b (deleted id) aside apart begun bare h = deleted-all b aside b id h
changed-all b (wrote n name v) aside apart begun bare h = write-all b aside b n name v h
changed-all b (severed n) aside apart begun bare h = sever-all b aside b n (bare n) h

pub begun-devices : (b : Board) → SoundDevices b → 8 ≤ b.born
begun-devices b h = (rest-from_sound b h.tree).used.firm.begun

-- no device stands in a container that is still to be born
pub unborn-apart : (b : Board) → SoundDevices b → stands b (b.born + 1) ≡ false
unborn-apart b h = go (stands b (b.born + 1)) refl
  where
    firm : WellFormed b
    firm = (rest-from_sound b h.tree).used.firm

    go : (t : Bool) → stands b (b.born + 1) ≡ t → stands b (b.born + 1) ≡ false
    go true e =
        absurd
        (let clash : true ≡ false = sym (stands-live b firm (b.born + 1) e) ∙ high-absent b firm (b.born + 1) (omega arith) in
        cc)
    go false e = e

-- a bus that is detached has no kids
bare-devices : (b : Board) → SoundDevices b → (n : ℕ) → attached b n ≡ false → is_of b (codes "bus") n ≡ true → kid_entries b n ≡ []
bare-devices b h n apart is = go (kid_entries b n) (h.places.1.kids n is)
  where
    go : (es : List (List ℕ × ℕ)) → AllByRecursion (IsKid b n) es → es ≡ []
    go [] k = refl
    go (e ∷ es) k =
        absurd
        (let clash : true ≡ false =
        sym (owner-attached b h.tree.0 (rest-from_sound b h.tree).used.firm h.places.0 None (λ d. false) h.places.1 n
        (h.places.1.owner e.1 n k.0.there k.0.on)) ∙ apart in
        cc)

pub changed-shape : (b : Board) (change : Change) → SoundDevices b → SoundShape b → SoundShape (changed b change)
changed-shape b change devices h =
    shape-all (changed b change) (live-devices (changed b change) (devices_kept_lem.change b change devices))
    (whole-kept b (changed b change) (λ x r e. (all x r e).kept)) (changed-typed b change devices h) (λ x r e. (all x r e).good)
  where
    all : AllOf (Full b) (changed b change)
    all =
        changed-all b change devices.places.1.aside.1.1.1.1.1.1.0 (unborn-apart b devices) (begun-devices b devices) (bare-devices b devices)
        (λ x r e. record { good = good-all b h x r e; kept = kept-of b h.whole x r e })
