-- The steps by which a device is taken out: a bus without kids goes, the device leaves its bus, and then its container.
use Rattle.std.proofs.Common.{◌⊎◌, inl, inr, ◌≡◌, ◌≢◌, refl, ap, ap₂, sym, subst, ◌∙◌, ℕ, zero, suc, ◌≤◌, Bool, true, false, ◌||◌, ◌==◌, eqb, List, [], ◌∷◌, filter_map, find, remove, slice_get, sum_by, Option, Some, None, is_some, option_map, option_and_then, arith, codes}
use Rattle.qo_model.proofs.Common.{AllByRecursion, cons_option, IsDistinct, list_any, option_map_or, bytes_eq, ANONYMOUS_BIRTH, MACHINE_BIRTH, MEMORY_BUS_BIRTH, OBJECTS_BIRTH, PERIPHERAL_BIRTH, ROOT_BUS_BIRTH, TypeId, Val, Board, Record, Slot, plain, child, strong, weak, alias, record_of, is_live, slots_at, slot_at, cut, with_cut, among, bus_of, is_realized, is_true, number_in, plain_in, strong_in, index_from, child_of, is_child, is_of, after, drop_slot, edit, edited, emptied, finalize, let_go, with_dropped, without_hold, is_child_slot}
use Rattle.std.proofs.lemmas.Bool.{eqb-true}
use Rattle.std.proofs.lemmas.Option.{same_Some}
use Rattle.std.proofs.lemmas.Slice.Eq.{bytes_eq-Decides}
use Rattle.std.proofs.Math.Bool.{or-true}
use Rattle.qo_model.specs.Board.{referent}
use Rattle.qo_model.proofs.EditLemmas.{left_of, sum-without_hold}
use Rattle.qo_model.proofs.FirstSlotLemmas.{named_in}
use Rattle.qo_model.proofs.StepLemmas.{drop-record, is_some-map}
use Rattle.qo_sound.proofs.FirmBoardLemmas.{WellFormed, firm-drop}
use Rattle.qo_sound.proofs.SlotLemmas.{names_in, one_child}
use Rattle.qo_sound.proofs.UnplugLemmas.{HasPins}
use Rattle.qo_sound_devices.specs.SoundPlaces.{child_entries, child_entry, HasOwner, machines, bridges, IsHome, kid_entries, kid_entry, listed, owns, owns_it, PlacesBut, stands, names_it}
use Rattle.qo_sound_devices.proofs.LikenessLemmas.{Alike}
use Rattle.qo_sound_devices.proofs.DropLemmas.{children-kept, KeptAt, kept-edit, kids-kept, names-at, strong-dropped}
use Rattle.qo_sound_devices.proofs.AttachmentLemmas.{found-counted, listed-found}
use Rattle.qo_sound_devices.proofs.DepthLemmas.{kid-of}
use Rattle.qo_sound_devices.proofs.RemovalLemmas.{Moved, places-moved}
use Rattle.qo_sound_devices.proofs.PlacesLemmas.{after-places, Kept, or-cases, owner-live, stands-live, within-same, within-any, stands-same, aside-apart}
use Rattle.qo_sound_devices.proofs.StepsLemmas.{apart-alike, at-slots, dropped-slots, entries-removed, removed-same, SlotSteps, moved-steps, Steps, steps-after, steps-edit, steps-none, steps-then}

-- a board while something is taken out of it
pub record Mid (depth : ℕ → ℕ) (out : ℕ → Bool) (left : Option ℕ) (ps : List ℕ) (c : Board) : Type 0 where
  pub sits : HasPins ps c
  pub one : among ps 1 ≡ true
  pub places : PlacesBut depth left out c

pub record ReachedBySteps (depth : ℕ → ℕ) (out : ℕ → Bool) (left : Option ℕ) (ps : List ℕ) (b c : Board) : Type 0 where
  pub mid : Mid depth out left ps c
  pub steps : Steps b c

pub went-none : (depth : ℕ → ℕ) (out : ℕ → Bool) (left : Option ℕ) (ps : List ℕ) (b : Board) → Mid depth out left ps b → ReachedBySteps depth out left ps b b
went-none depth out left ps b h = record { mid = h; steps = steps-none b }

-- the object of what is there
pub record-at : (b : Board) (n : ℕ) → is_live b n ≡ true → (r : Record) × (record_of b n ≡ Some r)
record-at b n e = go (record_of b n) refl
  where
    go : (o : Option Record) → record_of b n ≡ o → (r : Record) × (record_of b n ≡ Some r)
    go None q = absurd (let clash : false ≡ true = sym (ap is_some q) ∙ e in cc)
    go (Some r) q = (r, q)

-- a slot that is a child slot of m
pub record IsChildSlot (m : ℕ) (s : List ℕ × Slot) : Type 0 where
  pub entry : child_entry s ≡ Some (s.0, m)
  pub no_kid : kid_entry s ≡ None
  pub some : is_some (child_of s.1) ≡ true

pub is-child_slot : (m : ℕ) (s : List ℕ × Slot) → is_child m s.1 ≡ true → IsChildSlot m s
is-child_slot m (name, plain v) e = absurd (let clash : false ≡ true = e in cc)
is-child_slot m (name, child k) e = record { entry = ap (λ (x : ℕ). Some (name, x)) (eqb-true k m e); no_kid = refl; some = refl }
is-child_slot m (name, strong t target) e = absurd (let clash : false ≡ true = e in cc)
is-child_slot m (name, weak t target) e = absurd (let clash : false ≡ true = e in cc)
is-child_slot m (name, alias k property) e = absurd (let clash : false ≡ true = e in cc)

-- the other entries stay
pub any-child_dropped : (p : List ℕ × ℕ → Bool) (i : ℕ) (slots : List (List ℕ × Slot)) (s : List ℕ × Slot) (e : List ℕ × ℕ)
    → slice_get slots i ≡ Some s → child_entry s ≡ Some e → p e ≡ false
    → list_any p (filter_map child_entry (without_hold i slots)) ≡ list_any p (filter_map child_entry slots)
any-child_dropped p i [] s e at is no_more = cc
any-child_dropped p (suc i) (x ∷ slots) s e at is no_more = go (child_entry x) (any-child_dropped p i slots s e at is no_more)
  where
    go : (o : Option (List ℕ × ℕ)) → list_any p (filter_map child_entry (without_hold i slots)) ≡ list_any p (filter_map child_entry slots)
        → list_any p (cons_option o (filter_map child_entry (without_hold i slots))) ≡ list_any p (cons_option o (filter_map child_entry slots))
    go None rest = rest
    go (Some y) rest = ap (λ (t : Bool). p y || t) rest
any-child_dropped p zero (x ∷ slots) s e at is no_more = go x (ap child_entry (same_Some x s at) ∙ is)
  where
    go : (y : List ℕ × Slot) → child_entry y ≡ Some e
        → list_any p (filter_map child_entry (without_hold zero (y ∷ slots))) ≡ list_any p (filter_map child_entry (y ∷ slots))
    go (name, plain v) q = absurd (let clash : None ≡ Some e = q in cc)
    go (name, child m) q = let other : p (name, m) ≡ false = ap p (same_Some (name, m) e q) ∙ no_more in rw other refl
    go (name, strong t target) q = absurd (let clash : None ≡ Some e = q in cc)
    go (name, weak t target) q = absurd (let clash : None ≡ Some e = q in cc)
    go (name, alias m property) q = absurd (let clash : None ≡ Some e = q in cc)

pub any-kid_dropped : (p : List ℕ × ℕ → Bool) (i : ℕ) (slots : List (List ℕ × Slot)) (s : List ℕ × Slot) (e : List ℕ × ℕ) → slice_get slots i ≡ Some s
    → kid_entry s ≡ Some e → p e ≡ false → list_any p (filter_map kid_entry (without_hold i slots)) ≡ list_any p (filter_map kid_entry slots)
any-kid_dropped p i [] s e at is no_more = cc
any-kid_dropped p (suc i) (x ∷ slots) s e at is no_more = go (kid_entry x) (any-kid_dropped p i slots s e at is no_more)
  where
    go : (o : Option (List ℕ × ℕ)) → list_any p (filter_map kid_entry (without_hold i slots)) ≡ list_any p (filter_map kid_entry slots)
        → list_any p (cons_option o (filter_map kid_entry (without_hold i slots))) ≡ list_any p (cons_option o (filter_map kid_entry slots))
    go None rest = rest
    go (Some y) rest = ap (λ (t : Bool). p y || t) rest
any-kid_dropped p zero (x ∷ slots) s e at is no_more = go x (ap kid_entry (same_Some x s at) ∙ is)
  where
    go : (y : List ℕ × Slot) → kid_entry y ≡ Some e
        → list_any p (filter_map kid_entry (without_hold zero (y ∷ slots))) ≡ list_any p (filter_map kid_entry (y ∷ slots))
    go (name, plain v) q = absurd (let clash : None ≡ Some e = q in cc)
    go (name, child m) q = absurd (let clash : None ≡ Some e = q in cc)
    go (name, strong t None) q = absurd (let clash : None ≡ Some e = q in cc)
    go (name, strong t (Some m)) q = let other : p (name, m) ≡ false = ap p (same_Some (name, m) e q) ∙ no_more in rw other refl
    go (name, weak t target) q = absurd (let clash : None ≡ Some e = q in cc)
    go (name, alias m property) q = absurd (let clash : None ≡ Some e = q in cc)

-- a slot of one object that is let go
module _ (depth : ℕ → ℕ) (out : ℕ → Bool) (left : Option ℕ) (ps : List ℕ) (b : Board) (h : Mid depth out left ps b) (n i : ℕ) (r : Record)
    (found : record_of b n ≡ Some r) (s : List ℕ × Slot) (at : slice_get r.slots i ≡ Some s) where
  firm : WellFormed b
  firm = h.sits.near.firm

  root : is_live b 1 ≡ true
  root = owner-live b 1 MACHINE_BIRTH h.places.machine

  pub dropped : Steps b (drop_slot b n i)
  unfolding drop_slot
  dropped = steps-edit b n (with_dropped i) (λ x. refl) (λ x. refl) r found (dropped-slots i r.slots (names-at b firm n r found))

  pub dropped-alike : (x : ℕ) → (x == n) ≡ false → Alike b (drop_slot b n i) x
  unfolding drop_slot
  dropped-alike x apart = apart-alike b n (with_dropped i) (λ y. refl) (λ y. refl) r found x apart

  pub dropped-read : {A : Type 0} (f : List (List ℕ × Slot) → A) → f (without_hold i r.slots) ≡ f r.slots → f (slots_at (drop_slot b n i) n) ≡ f (slots_at b n)
  unfolding drop_slot
  dropped-read f e = at-slots b n (with_dropped i) (λ y. refl) (λ y. refl) r found f e

  pub dropped-root : is_live (drop_slot b n i) 1 ≡ true
  unfolding drop_slot
  dropped-root = go (1 == n) refl
    where
      go : (t : Bool) → (1 == n) ≡ t → is_live (drop_slot b n i) 1 ≡ true
      go t p = ap is_some (drop-record b n i 1) ∙ is_some-map (edited n (with_dropped i)) (record_of b 1) ∙ root

  -- a fact of each object, where it is one of what is alike and of this one
  pub for-each : (P : ℕ → Type 0) → ((x : ℕ) → (x == n) ≡ false → Alike b (drop_slot b n i) x → P x) → P n → (x : ℕ) → P x
  for-each P other here x = go (x == n) refl
    where
      go : (t : Bool) → (x == n) ≡ t → P x
      go true p = subst P (sym (eqb-true x n p)) here
      go false p = other x p (dropped-alike x p)

  -- a child slot that is let go leaves the buses of all, the kids of buses, and where all but its child are listed
  pub bus-stays : (m : ℕ) → IsChildSlot m s → (x : ℕ) → bus_of (drop_slot b n i) x ≡ bus_of b x
  bus-stays m is =
      for-each (λ y. bus_of (drop_slot b n i) y ≡ bus_of b y) (λ y p a. a.bus)
      (dropped-read (λ ss. option_and_then strong_in (named_in (codes "parent_bus") ss))
      (strong-dropped (codes "parent_bus") i r.slots (names-at b firm n r found) s at (inl is.some)))

  kids-stay : (m : ℕ) → IsChildSlot m s → (x : ℕ) → kid_entries (drop_slot b n i) x ≡ kid_entries b x
  kids-stay m is =
      for-each (λ y. kid_entries (drop_slot b n i) y ≡ kid_entries b y) (λ y p a. a.kids)
      (dropped-read (filter_map kid_entry) (kids-kept i r.slots s at is.no_kid))

  pub listed-stays : (m : ℕ) → IsChildSlot m s → (x : ℕ) → (m == x) ≡ false → (y : ℕ)
      → listed x (child_entries (drop_slot b n i) y) ≡ listed x (child_entries b y)
  listed-stays m is x differs =
      for-each (λ y. listed x (child_entries (drop_slot b n i) y) ≡ listed x (child_entries b y)) (λ y p a. ap (listed x) a.children)
      (dropped-read (λ ss. listed x (filter_map child_entry ss))
      (any-child_dropped (λ (e : List ℕ × ℕ). e.1 == x) i r.slots s (s.0, m) at is.entry differs))

  -- who is not d does not leave its bus, where d alone may
  stays-on : (d : ℕ) → ((x : ℕ) → left ≢ Some x ⊎ (d ≡ x)) → (x : ℕ) → stands (drop_slot b n i) x ≡ true → Some d ≢ Some x → left ≢ Some x
  stays-on d was x k differs = go (was x)
    where
      go : left ≢ Some x ⊎ (d ≡ x) → left ≢ Some x
      go (inl a) = a
      go (inr a) = absurd (differs (ap Some a))

  -- the places after it, from those of the board without the slot
  pub went-let_go : (now : Option ℕ) → HasPins ps (let_go b n i) → PlacesBut depth now out (drop_slot b n i) → ReachedBySteps depth out now ps b (let_go b n i)
  unfolding let_go drop_slot
  went-let_go now sits places =
      let slot : slot_at b n i ≡ Some s.1 =
      ap (λ (o : Option Record). option_map (λ (x : List ℕ × Slot). x.1) (slice_get (option_map_or (λ (x : Record). x.slots) o []) i)) found
      ∙ ap (option_map (λ (x : List ℕ × Slot). x.1)) at in
      let c : Board = drop_slot b n i in
      let ends : WellFormed (after finalize c (referent s.1)) = rw (let_go, slot) at sits.near.firm in
      let pinned : among c.pins 1 ≡ true = ap (λ (qs : List ℕ). among qs 1) h.sits.pins ∙ h.one in
      record {
        mid =
            record {
              sits = sits;
              one = h.one;
              places = rw (let_go, slot) (after-places depth now out c (referent s.1) ends pinned places);
            };
        steps = rw (let_go, slot) (steps-then b c (after finalize c (referent s.1)) dropped (steps-after c (referent s.1)));
      }

  -- a child slot of an object that stands, whose child is no bus with kids
  pub bus-dropped : (m : ℕ) → stands b n ≡ true → IsChildSlot m s → kid_entries b m ≡ [] → left ≡ None → PlacesBut depth None out (drop_slot b n i)
  bus-dropped m e is none lone =
      places-moved b (drop_slot b n i) depth None left out out moved h.places (λ x k q. rw lone (λ z. cc)) (λ x there k was. same-stands x ∙ was)
      (λ x k apart. dropped.realized x (stands-live c (firm-drop b n i firm) x k) ∙ h.places.each x (sym (same-stands x) ∙ k) apart)
    where
      c : Board
      c = drop_slot b n i

      aside : among (1 ∷ MACHINE_BIRTH ∷ PERIPHERAL_BIRTH ∷ ANONYMOUS_BIRTH ∷ ROOT_BUS_BIRTH ∷ MEMORY_BUS_BIRTH ∷ OBJECTS_BIRTH ∷ []) n ≡ false
      aside = aside-apart b (1 ∷ MACHINE_BIRTH ∷ PERIPHERAL_BIRTH ∷ ANONYMOUS_BIRTH ∷ ROOT_BUS_BIRTH ∷ MEMORY_BUS_BIRTH ∷ OBJECTS_BIRTH ∷ []) h.places.aside n e

      child-same : (x : ℕ)
          → among (1 ∷ MACHINE_BIRTH ∷ PERIPHERAL_BIRTH ∷ ANONYMOUS_BIRTH ∷ ROOT_BUS_BIRTH ∷ MEMORY_BUS_BIRTH ∷ OBJECTS_BIRTH ∷ []) x ≡ true
          → child_entries c x ≡ child_entries b x
      child-same x =
          for-each
          (λ y.
          among (1 ∷ MACHINE_BIRTH ∷ PERIPHERAL_BIRTH ∷ ANONYMOUS_BIRTH ∷ ROOT_BUS_BIRTH ∷ MEMORY_BUS_BIRTH ∷ OBJECTS_BIRTH ∷ []) y ≡ true
          → child_entries c y ≡ child_entries b y)
          (λ y p a k. a.children) (λ k. absurd (let clash : true ≡ false = sym k ∙ aside in cc)) x

      same-stands : (x : ℕ) → stands c x ≡ stands b x
      same-stands = stands-same b c (child-same PERIPHERAL_BIRTH refl) (child-same ANONYMOUS_BIRTH refl)

      still-owns : (q : ℕ) → (m == q) ≡ false → (p : ℕ) → owns b p q ≡ true → owns c p q ≡ true
      still-owns q apart =
          for-each (λ p. owns b p q ≡ true → owns c p q ≡ true) (λ p k a o. ap (list_any (owns_it q)) a.children ∙ o)
          (λ o.
          dropped-read (λ ss. list_any (owns_it q) (filter_map child_entry ss))
          (any-child_dropped (owns_it q) i r.slots s (s.0, m) at is.entry (rw apart refl))
          ∙ o)

      owned : (x q : ℕ) → stands c x ≡ true → bus_of c x ≡ Some q → HasOwner b q → HasOwner c q
      owned x q k on (machines o) = machines o
      owned x q k on (bridges p t o) = go (m == q) refl
        where
          go : (u : Bool) → (m == q) ≡ u → HasOwner c q
          go false u = bridges p (same-stands p ∙ t) (still-owns q u p o)
          go true u =
              let home : IsHome b x = h.places.home x (sym (same-stands x) ∙ k) (rw lone (λ z. cc)) in
              let its : home.bus ≡ m = same_Some home.bus m (sym home.on ∙ sym (bus-stays m is x) ∙ on ∙ ap Some (sym (eqb-true m q u))) in
              absurd (let clash : false ≡ true = sym (ap (listed x) none) ∙ subst (λ (y : ℕ). listed x (kid_entries b y) ≡ true) its home.kid in cc)

      moved : Moved None b c
      moved =
          moved-steps None b c (firm-drop b n i firm) dropped-root dropped
          (λ x k. child-same x (wider x k))
          (λ x k apart. bus-stays m is x)
          (λ q x isb l. (same-stands x ∙ (kid-of depth left out b h.places q x isb (sym (ap (listed x) (kids-stay m is q)) ∙ l)).0, bus-stays m is x))
          (λ q x isb apart l. ap (listed x) (kids-stay m is q) ∙ l)
          owned
        where
          wider : (x : ℕ) → among (1 ∷ MACHINE_BIRTH ∷ []) x ≡ true
              → among (1 ∷ MACHINE_BIRTH ∷ PERIPHERAL_BIRTH ∷ ANONYMOUS_BIRTH ∷ ROOT_BUS_BIRTH ∷ MEMORY_BUS_BIRTH ∷ OBJECTS_BIRTH ∷ []) x ≡ true
          wider x k = go (eqb x 1) refl (eqb x MACHINE_BIRTH) refl
            where
              go : (t : Bool) → eqb x 1 ≡ t → (u : Bool) → eqb x MACHINE_BIRTH ≡ u
                  → among (1 ∷ MACHINE_BIRTH ∷ PERIPHERAL_BIRTH ∷ ANONYMOUS_BIRTH ∷ ROOT_BUS_BIRTH ∷ MEMORY_BUS_BIRTH ∷ OBJECTS_BIRTH ∷ []) x ≡ true
              go true p u q = rw p refl
              go false p true q = rw (p, q) refl
              go false p false q = absurd (let clash : false ≡ true = rw (p, q) at k in cc)

  -- steps that keep all child slots: a link that is let go
  pub link-stands : child_of s.1 ≡ None → (x : ℕ) → child_entries (drop_slot b n i) x ≡ child_entries b x
  link-stands none =
      for-each (λ y. child_entries (drop_slot b n i) y ≡ child_entries b y) (λ y p a. a.children)
      (dropped-read (filter_map child_entry) (children-kept i r.slots s at none))

  -- a link that is let go, by which a bus has d, or which is the bus of d, which no bus has
  pub link-dropped : (d : ℕ) → child_of s.1 ≡ None → ((x : ℕ) → left ≢ Some x ⊎ (d ≡ x)) → ((x : ℕ) → d ≢ x → bus_of (drop_slot b n i) x ≡ bus_of b x)
      → ((q x : ℕ) → is_of b (codes "bus") q ≡ true → listed x (kid_entries (drop_slot b n i) q) ≡ true → bus_of (drop_slot b n i) x ≡ bus_of b x)
      → ((q x : ℕ) → is_of b (codes "bus") q ≡ true → d ≢ x → listed x (kid_entries b q) ≡ true → listed x (kid_entries (drop_slot b n i) q) ≡ true)
      → PlacesBut depth (Some d) out (drop_slot b n i)
  link-dropped d none was same_bus kid hold =
      places-moved b c depth (Some d) left out out moved h.places (stays-on d was) (λ x there k w. same-stands x ∙ w)
      (λ x k a. dropped.realized x (stands-live c (firm-drop b n i firm) x k) ∙ h.places.each x (sym (same-stands x) ∙ k) a)
    where
      c : Board
      c = drop_slot b n i

      same-stands : (x : ℕ) → stands c x ≡ stands b x
      same-stands = stands-same b c (link-stands none PERIPHERAL_BIRTH) (link-stands none ANONYMOUS_BIRTH)

      owned : (q : ℕ) → HasOwner b q → HasOwner c q
      owned q (machines o) = machines o
      owned q (bridges p t o) = bridges p (same-stands p ∙ t) (ap (list_any (owns_it q)) (link-stands none p) ∙ o)

      moved : Moved (Some d) b c
      moved =
          moved-steps (Some d) b c (firm-drop b n i firm) dropped-root dropped
          (λ x k. link-stands none x)
          (λ x k differs. same_bus x (λ z. differs (ap Some z)))
          (λ q x isb l. (same-stands x ∙ (kid-of depth left out b h.places q x isb (within-any (names_it x) (dropped.kids q) l)).0, kid q x isb l))
          (λ q x isb differs l. hold q x isb (λ z. differs (ap Some z)) l)
          (λ x q k on o. owned q o)

  -- the child slot of a container, of a device without bus and buses that no bus has
  pub child-dropped : (d : ℕ) → among (PERIPHERAL_BIRTH ∷ ANONYMOUS_BIRTH ∷ []) n ≡ true → IsChildSlot d s → ((x : ℕ) → left ≢ Some x ⊎ (d ≡ x))
      → bus_of b d ≡ None → is_realized b d ≡ false
      → ((q : ℕ) → is_of b (codes "bus") q ≡ true → owns b d q ≡ false) → ((q : ℕ) → is_of b (codes "bus") q ≡ true → listed d (kid_entries b q) ≡ false)
      → PlacesBut depth (Some d) out (drop_slot b n i)
  child-dropped d shelf is was off unrealized ownless unlisted =
      places-moved b c depth (Some d) left out out moved h.places (stays-on d was) only
      (λ x k a. dropped.realized x (stands-live c (firm-drop b n i firm) x k) ∙ h.places.each x (stood x k) a)
    where
      c : Board
      c = drop_slot b n i

      same-stands : (x : ℕ) → (d == x) ≡ false → stands c x ≡ stands b x
      same-stands x differs = ap₂ (λ (t u : Bool). t || u) (listed-stays d is x differs PERIPHERAL_BIRTH) (listed-stays d is x differs ANONYMOUS_BIRTH)

      stood : (x : ℕ) → stands c x ≡ true → stands b x ≡ true
      stood x k =
          or-cases (listed x (child_entries c PERIPHERAL_BIRTH)) (listed x (child_entries c ANONYMOUS_BIRTH)) k
          (λ e. rw (within-any (names_it x) (dropped.children PERIPHERAL_BIRTH) e) refl)
          (λ e. rw (within-any (names_it x) (dropped.children ANONYMOUS_BIRTH) e) (or-true (listed x (child_entries b PERIPHERAL_BIRTH))))

      only : (x : ℕ) → is_live c x ≡ true → is_realized c x ≡ true → stands b x ≡ true → stands c x ≡ true
      only x there k e = go (d == x) refl
        where
          go : (t : Bool) → (d == x) ≡ t → stands c x ≡ true
          go false p = same-stands x p ∙ e
          go true p = absurd (let clash : true ≡ false = sym k ∙ dropped.realized x there ∙ ap (is_realized b) (sym (eqb-true d x p)) ∙ unrealized in cc)

      nobody : among (1 ∷ MACHINE_BIRTH ∷ []) n ≡ true → ⊥
      nobody k = go (eqb n 1) refl (eqb n MACHINE_BIRTH) refl
        where
          go : (t : Bool) → eqb n 1 ≡ t → (u : Bool) → eqb n MACHINE_BIRTH ≡ u → ⊥
          go true p u q =
              let clash : false ≡ true = subst (λ (y : ℕ). among (PERIPHERAL_BIRTH ∷ ANONYMOUS_BIRTH ∷ []) y ≡ true) (eqb-true n 1 p) shelf in
              absurd cc
          go false p true q =
              let clash : false ≡ true =
              subst (λ (y : ℕ). among (PERIPHERAL_BIRTH ∷ ANONYMOUS_BIRTH ∷ []) y ≡ true) (eqb-true n MACHINE_BIRTH q) shelf in
              absurd cc
          go false p false q = let clash : false ≡ true = rw (p, q) at k in absurd cc

      alone : stands b n ≡ true → ⊥
      alone k = go (eqb n PERIPHERAL_BIRTH) refl (eqb n ANONYMOUS_BIRTH) refl
        where
          go : (t : Bool) → eqb n PERIPHERAL_BIRTH ≡ t → (u : Bool) → eqb n ANONYMOUS_BIRTH ≡ u → ⊥
          go true p u q = let clash : true ≡ false = sym k ∙ ap (stands b) (eqb-true n PERIPHERAL_BIRTH p) ∙ h.places.aside.1.1.0 in absurd cc
          go false p true q = let clash : true ≡ false = sym k ∙ ap (stands b) (eqb-true n ANONYMOUS_BIRTH q) ∙ h.places.aside.1.1.1.0 in absurd cc
          go false p false q = let clash : false ≡ true = rw (p, q) at shelf in absurd cc

      fixed : (x : ℕ) → among (1 ∷ MACHINE_BIRTH ∷ []) x ≡ true → child_entries c x ≡ child_entries b x
      fixed = for-each (λ y. among (1 ∷ MACHINE_BIRTH ∷ []) y ≡ true → child_entries c y ≡ child_entries b y) (λ y p a k. a.children) (λ k. absurd (nobody k))

      still-owns : (q p : ℕ) → stands b p ≡ true → owns b p q ≡ true → owns c p q ≡ true
      still-owns q =
          for-each (λ p. stands b p ≡ true → owns b p q ≡ true → owns c p q ≡ true) (λ p k a t o. ap (list_any (owns_it q)) a.children ∙ o)
          (λ t o. absurd (alone t))

      owned : (x q : ℕ) → stands c x ≡ true → bus_of c x ≡ Some q → HasOwner b q → HasOwner c q
      owned x q k on (machines o) = machines o
      owned x q k on (bridges p t o) = go (d == p) refl
        where
          go : (u : Bool) → (d == p) ≡ u → HasOwner c q
          go false u = bridges p (same-stands p u ∙ t) (still-owns q p t o)
          go true u = at_home (was x)
            where
              on_before : bus_of b x ≡ Some q
              on_before = sym (bus-stays d is x) ∙ on

              at_home : left ≢ Some x ⊎ (d ≡ x) → HasOwner c q
              at_home (inr a) = absurd (let clash : None ≡ Some q = sym off ∙ ap (bus_of b) a ∙ on_before in cc)
              at_home (inl a) =
                  let home : IsHome b x = h.places.home x (stood x k) a in
                  let its : home.bus ≡ q = same_Some home.bus q (sym home.on ∙ on_before) in
                  let bus : is_of b (codes "bus") q ≡ true = subst (λ (y : ℕ). is_of b (codes "bus") y ≡ true) its home.is_bus in
                  absurd (let clash : true ≡ false = sym o ∙ ap (λ (y : ℕ). owns b y q) (sym (eqb-true d p u)) ∙ ownless q bus in cc)

      kid : (q x : ℕ) → is_of b (codes "bus") q ≡ true → listed x (kid_entries c q) ≡ true → (stands c x ≡ true) × (bus_of c x ≡ bus_of b x)
      kid q x isb l = (go (d == x) refl, bus-stays d is x)
        where
          before : listed x (kid_entries b q) ≡ true
          before = sym (ap (listed x) (kids-stay d is q)) ∙ l

          go : (t : Bool) → (d == x) ≡ t → stands c x ≡ true
          go false p = same-stands x p ∙ (kid-of depth left out b h.places q x isb before).0
          go true p = absurd (let clash : true ≡ false = sym before ∙ ap (λ (y : ℕ). listed y (kid_entries b q)) (sym (eqb-true d x p)) ∙ unlisted q isb in cc)

      moved : Moved (Some d) b c
      moved =
          moved-steps (Some d) b c (firm-drop b n i firm) dropped-root dropped fixed (λ x k a. bus-stays d is x) kid
          (λ q x isb a l. ap (listed x) (kids-stay d is q) ∙ l) owned

-- an empty link is removed
pub cut-kept : (b : Board) → is_live b 1 ≡ true → (n i : ℕ) → WellFormed b → WellFormed (cut n i b) → (r : Record) → record_of b n ≡ Some r
    → (s : List ℕ × Slot)
    → slice_get r.slots i ≡ Some s → (t : TypeId) → s.1 ≡ strong t None → Kept b (cut n i b) × Steps b (cut n i b)
unfolding cut
cut-kept b root n i firm firm_after r found s at t is =
    (kept-edit n (with_cut i) (λ x. refl) (λ x. refl) b firm_after root here, steps-edit b n (with_cut i) (λ x. refl) (λ x. refl) r found slots)
  where
    names : IsDistinct bytes_eq (names_in r.slots)
    names = names-at b firm n r found

    none_in : {A : Type 0} (f : Slot → Option A) → f (strong t None) ≡ None → f s.1 ≡ None
    none_in f e = ap f is ∙ e

    kid : kid_entry s ≡ None
    kid = ap (λ (x : Slot). kid_entry (s.0, x)) is

    child_none : child_entry s ≡ None
    child_none = ap (λ (x : Slot). child_entry (s.0, x)) is

    plains : (name : List ℕ)
        → option_and_then plain_in (option_map (λ (y : List ℕ × Slot). y.1) (find (λ y. bytes_eq y.0 name) (remove r.slots i)))
        ≡ option_and_then plain_in (option_map (λ (y : List ℕ × Slot). y.1) (find (λ y. bytes_eq y.0 name) r.slots))
    plains name = removed-same plain_in name i r.slots names s at (none_in plain_in refl)

    strongs : (name : List ℕ)
        → option_and_then strong_in (option_map (λ (y : List ℕ × Slot). y.1) (find (λ y. bytes_eq y.0 name) (remove r.slots i)))
        ≡ option_and_then strong_in (option_map (λ (y : List ℕ × Slot). y.1) (find (λ y. bytes_eq y.0 name) r.slots))
    strongs name = removed-same strong_in name i r.slots names s at (none_in strong_in refl)

    slots : SlotSteps r.slots (remove r.slots i)
    slots =
        record {
          fewer =
              record {
                children = within-same (entries-removed child_entry i r.slots s at child_none);
                kids = within-same (entries-removed kid_entry i r.slots s at kid);
              };
          plains = plains;
          strongs = λ name q e. sym (strongs name) ∙ e;
        }

    reads : {A : Type 0} (f : List (List ℕ × Slot) → A) → f (remove r.slots i) ≡ f r.slots → f (slots_at (edit n (with_cut i) b) n) ≡ f (slots_at b n)
    reads f e = at-slots b n (with_cut i) (λ x. refl) (λ x. refl) r found f e

    here : KeptAt b (edit n (with_cut i) b) n
    here =
        record {
          realized =
              reads
              (λ ss.
              option_map_or is_true
              (option_and_then plain_in (option_map (λ (y : List ℕ × Slot). y.1) (find (λ y. bytes_eq y.0 (codes "realized")) ss))) false)
              (ap (λ (o : Option Val). option_map_or is_true o false) (plains (codes "realized")));
          bus = λ k. reads (λ ss. option_and_then strong_in (option_map (λ (y : List ℕ × Slot). y.1) (find (λ y. bytes_eq y.0 (codes "parent_bus")) ss)))
              (strongs (codes "parent_bus"));
          place = λ k. reads (λ ss. option_and_then number_in (option_and_then plain_in
              (option_map (λ (y : List ℕ × Slot). y.1) (find (λ y. bytes_eq y.0 (codes "slot")) ss)))) (ap (option_and_then number_in) (plains (codes "slot")));
          children = λ k. reads (filter_map child_entry) (entries-removed child_entry i r.slots s at child_none);
          kids = λ k o. reads (filter_map kid_entry) (entries-removed kid_entry i r.slots s at kid);
          fewer = λ k. within-same (reads (filter_map kid_entry) (entries-removed kid_entry i r.slots s at kid));
          within = within-same (reads (filter_map child_entry) (entries-removed child_entry i r.slots s at child_none));
        }

-- where a device is a child at most once, it is none after the end of its slot
pub child-gone : (d i : ℕ) (slots : List (List ℕ × Slot)) (s : List ℕ × Slot) → slice_get slots i ≡ Some s → is_child d s.1 ≡ true
    → sum_by (one_child d) slots ≤ 1 → listed d (filter_map child_entry (without_hold i slots)) ≡ false
child-gone d i slots s at is few = go (listed d (filter_map child_entry (without_hold i slots))) refl
  where
    left_none : (y : Slot) → is_child d y ≡ true → emptied y ≡ None
    left_none (plain v) e = absurd (let clash : false ≡ true = e in cc)
    left_none (child m) e = refl
    left_none (strong t target) e = absurd (let clash : false ≡ true = e in cc)
    left_none (weak t target) e = absurd (let clash : false ≡ true = e in cc)
    left_none (alias m property) e = absurd (let clash : false ≡ true = e in cc)

    go : (t : Bool) → listed d (filter_map child_entry (without_hold i slots)) ≡ t → listed d (filter_map child_entry (without_hold i slots)) ≡ false
    go false p = p
    go true p =
        let one : one_child d s ≡ 1 = rw is refl in
        let nothing_left : left_of (one_child d) s ≡ 0 = rw (left_of, left_none s.1 is) refl in
        let some : 1 ≤ sum_by (one_child d) (without_hold i slots) = found-counted d (without_hold i slots) (sym (listed-found d (without_hold i slots)) ∙ p) in
        absurd (let clash : 2 ≤ 1 = omega (arith, one, nothing_left, some, few, sum-without_hold (one_child d) i slots s at) in omega (arith, clash))

-- where no slot is found that names a device, none does
pub none-listed : (d k : ℕ) (slots : List (List ℕ × Slot)) → index_from (is_child_slot d) k slots ≡ None → listed d (filter_map child_entry slots) ≡ false
none-listed d k [] e = refl
none-listed d k ((name, plain v) ∷ slots) e = none-listed d (suc k) slots e
none-listed d k ((name, strong t target) ∷ slots) e = none-listed d (suc k) slots e
none-listed d k ((name, weak t target) ∷ slots) e = none-listed d (suc k) slots e
none-listed d k ((name, alias m property) ∷ slots) e = none-listed d (suc k) slots e
none-listed d k ((name, child m) ∷ slots) e = go (m == d) refl (none-listed d (suc k) slots)
  where
    go : (t : Bool) → (m == d) ≡ t → (index_from (is_child_slot d) (suc k) slots ≡ None → listed d (filter_map child_entry slots) ≡ false)
        → (m == d) || listed d (filter_map child_entry slots) ≡ false
    go true p rest = absurd (let clash : Some k ≡ None = rw p at e in cc)
    go false p rest = rw p (rest (rw p at e))

-- a bus has a kid of one name at most once
pub kid-gone : (d i : ℕ) (name : List ℕ) (slots : List (List ℕ × Slot)) (s : List ℕ × Slot) → IsDistinct bytes_eq (names_in slots)
    → AllByRecursion (λ (e : List ℕ × ℕ). e.1 ≡ d → e.0 ≡ name) (filter_map kid_entry slots) → slice_get slots i ≡ Some s
    → kid_entry s ≡ Some (s.0, d) → listed d (filter_map kid_entry (without_hold i slots)) ≡ false
unfolding IsDistinct
kid-gone d i name [] s distinct h at is = cc
kid-gone d zero name (x ∷ slots) s distinct h at is =
    go x (ap kid_entry (same_Some x s at) ∙ is ∙ ap (λ (y : List ℕ × Slot). Some (y.0, d)) (sym (same_Some x s at))) distinct h
  where
    none-left : (own : List ℕ) → own ≡ name → (ys : List (List ℕ × Slot)) → AllByRecursion (λ m. bytes_eq own m ≡ false) (names_in ys)
        → AllByRecursion (λ (e : List ℕ × ℕ). e.1 ≡ d → e.0 ≡ name) (filter_map kid_entry ys) → listed d (filter_map kid_entry ys) ≡ false
    none-left own is_name [] a k = refl
    none-left own is_name ((n, plain v) ∷ ys) a k = none-left own is_name ys a.1 k
    none-left own is_name ((n, child m) ∷ ys) a k = none-left own is_name ys a.1 k
    none-left own is_name ((n, strong t None) ∷ ys) a k = none-left own is_name ys a.1 k
    none-left own is_name ((n, weak t target) ∷ ys) a k = none-left own is_name ys a.1 k
    none-left own is_name ((n, alias m property) ∷ ys) a k = none-left own is_name ys a.1 k
    none-left own is_name ((n, strong t (Some m)) ∷ ys) a k = choose (m == d) refl (none-left own is_name ys a.1 k.1)
      where
        choose : (u : Bool) → (m == d) ≡ u → listed d (filter_map kid_entry ys) ≡ false → (m == d) || listed d (filter_map kid_entry ys) ≡ false
        choose false p rest = rw p rest
        choose true p rest =
            let its : own ≡ n = is_name ∙ sym (k.0 (eqb-true m d p)) in
            absurd (let clash : true ≡ false = sym ((bytes_eq-Decides own n).1 its) ∙ a.0 in cc)

    go : (y : List ℕ × Slot) → kid_entry y ≡ Some (y.0, d) → IsDistinct bytes_eq (names_in (y ∷ slots))
        → AllByRecursion (λ (e : List ℕ × ℕ). e.1 ≡ d → e.0 ≡ name) (filter_map kid_entry (y ∷ slots))
        → listed d (filter_map kid_entry (without_hold zero (y ∷ slots))) ≡ false
    go (n, plain v) q a k = absurd (let clash : None ≡ Some (n, d) = q in cc)
    go (n, child m) q a k = absurd (let clash : None ≡ Some (n, d) = q in cc)
    go (n, strong t None) q a k = absurd (let clash : None ≡ Some (n, d) = q in cc)
    go (n, strong t (Some m)) q a k = none-left n (k.0 (ap (λ (e : List ℕ × ℕ). e.1) (same_Some (n, m) (n, d) q))) slots a.0 k.1
    go (n, weak t target) q a k = absurd (let clash : None ≡ Some (n, d) = q in cc)
    go (n, alias m property) q a k = absurd (let clash : None ≡ Some (n, d) = q in cc)
kid-gone d (suc i) name (x ∷ slots) s distinct h at is = choose x distinct h (kid-gone d i name slots s distinct.1)
  where
    named-later : (own : List ℕ) (j : ℕ) (ys : List (List ℕ × Slot)) → slice_get ys j ≡ Some s
        → AllByRecursion (λ m. bytes_eq own m ≡ false) (names_in ys) → bytes_eq own s.0 ≡ false
    named-later own j [] e a = cc
    named-later own zero (y ∷ ys) e a = subst (λ (z : List ℕ × Slot). bytes_eq own z.0 ≡ false) (same_Some y s e) a.0
    named-later own (suc j) (y ∷ ys) e a = named-later own j ys e a.1

    named-here : (j : ℕ) (ys : List (List ℕ × Slot)) → slice_get ys j ≡ Some s
        → AllByRecursion (λ (e : List ℕ × ℕ). e.1 ≡ d → e.0 ≡ name) (filter_map kid_entry ys) → s.0 ≡ name
    named-here j [] e a = cc
    named-here (suc j) (y ∷ ys) e a = further (kid_entry y) a (named-here j ys e)
      where
        further : (o : Option (List ℕ × ℕ)) → AllByRecursion (λ (e : List ℕ × ℕ). e.1 ≡ d → e.0 ≡ name) (cons_option o (filter_map kid_entry ys))
            → (AllByRecursion (λ (e : List ℕ × ℕ). e.1 ≡ d → e.0 ≡ name) (filter_map kid_entry ys) → s.0 ≡ name) → s.0 ≡ name
        further None k rest = rest k
        further (Some z) k rest = rest k.1
    named-here zero (y ∷ ys) e a =
        (subst (λ (o : Option (List ℕ × ℕ)). AllByRecursion (λ (e : List ℕ × ℕ). e.1 ≡ d → e.0 ≡ name) (cons_option o (filter_map kid_entry ys)))
        (ap kid_entry (same_Some y s e) ∙ is) a).0 refl

    rest-of : (o : Option (List ℕ × ℕ)) (ys : List (List ℕ × ℕ)) → AllByRecursion (λ (e : List ℕ × ℕ). e.1 ≡ d → e.0 ≡ name) (cons_option o ys)
        → AllByRecursion (λ (e : List ℕ × ℕ). e.1 ≡ d → e.0 ≡ name) ys
    rest-of None ys k = k
    rest-of (Some z) ys k = k.1

    choose : (y : List ℕ × Slot) → IsDistinct bytes_eq (names_in (y ∷ slots))
        → AllByRecursion (λ (e : List ℕ × ℕ). e.1 ≡ d → e.0 ≡ name) (filter_map kid_entry (y ∷ slots))
        → (AllByRecursion (λ (e : List ℕ × ℕ). e.1 ≡ d → e.0 ≡ name) (filter_map kid_entry slots) → slice_get slots i ≡ Some s → kid_entry s ≡ Some (s.0, d)
        → listed d (filter_map kid_entry (without_hold i slots)) ≡ false)
        → listed d (filter_map kid_entry (y ∷ without_hold i slots)) ≡ false
    choose y a k rest = go (kid_entry y) refl
      where
        later : listed d (filter_map kid_entry (without_hold i slots)) ≡ false
        later = rest (rest-of (kid_entry y) (filter_map kid_entry slots) k) at is

        go : (o : Option (List ℕ × ℕ)) → kid_entry y ≡ o → listed d (cons_option (kid_entry y) (filter_map kid_entry (without_hold i slots))) ≡ false
        go None q = rw q later
        go (Some e) q = decide (e.1 == d) refl
          where
            name-of : (z : List ℕ × Slot) → kid_entry z ≡ Some e → z.0 ≡ e.0
            name-of (n, plain v) u = absurd (let clash : None ≡ Some e = u in cc)
            name-of (n, child m) u = absurd (let clash : None ≡ Some e = u in cc)
            name-of (n, strong t None) u = absurd (let clash : None ≡ Some e = u in cc)
            name-of (n, strong t (Some m)) u = ap (λ (z : List ℕ × ℕ). z.0) (same_Some (n, m) e u)
            name-of (n, weak t target) u = absurd (let clash : None ≡ Some e = u in cc)
            name-of (n, alias m property) u = absurd (let clash : None ≡ Some e = u in cc)

            first : AllByRecursion (λ (z : List ℕ × ℕ). z.1 ≡ d → z.0 ≡ name) (cons_option (Some e) (filter_map kid_entry slots))
            first =
                subst
                (λ (o : Option (List ℕ × ℕ)). AllByRecursion (λ (z : List ℕ × ℕ). z.1 ≡ d → z.0 ≡ name) (cons_option o (filter_map kid_entry slots))) q k

            decide : (u : Bool) → (e.1 == d) ≡ u → listed d (cons_option (kid_entry y) (filter_map kid_entry (without_hold i slots))) ≡ false
            decide false u = rw (q, u) later
            decide true u =
                let its : y.0 ≡ s.0 = name-of y q ∙ first.0 (eqb-true e.1 d u) ∙ sym (named-here i slots at first.1) in
                absurd (let clash : true ≡ false = sym ((bytes_eq-Decides y.0 s.0).1 its) ∙ named-later y.0 i slots at a.0 in cc)
