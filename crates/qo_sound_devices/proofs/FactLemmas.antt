-- What the soundness of devices says of them, from the facts of places.
use Rattle.std.proofs.Common.{◌≡◌, refl, ap, sym, subst, ◌∙◌, ℕ, ◌≤◌, Bool, true, false, ◌==◌, List, [], ◌∷◌, filter_map, Option, Some, None, option_and_then, codes, arith}
use Rattle.qo_model.proofs.Common.{AllByRecursion, IsDistinct, option_map_or, bytes_eq, ANONYMOUS_BIRTH, PERIPHERAL_BIRTH, BUS_DEPTH_MAX, Board, Record, Slot, plain, child, strong, weak, alias, record_of, depth_of, is_realized, strong_at, strong_in, attached, canonical, is_of}
use Rattle.std.proofs.lemmas.Slice.Eq.{bytes_eq-Decides}
use Rattle.std.proofs.lemmas.Bool.{eqb-true}
use Rattle.qo_model.proofs.FirstSlotLemmas.{named_in}
use Rattle.qo_sound.proofs.FirmBoardLemmas.{WellFormed}
use Rattle.qo_sound.proofs.SlotLemmas.{names_in}
use Rattle.qo_sound.proofs.ViewLemmas.{PinsRootAlone, rest-from_sound}
use Rattle.qo_sound_devices.specs.DeviceFacts.{DevicesSayLaw, IsOnBus}
use Rattle.qo_sound_devices.specs.SoundDevices.{SoundDevices}
use Rattle.qo_sound_devices.specs.SoundPlaces.{child_entries, has_entry, HasOwner, IsAnonymous, IsHome, IsKid, IsPeripheral, kid_entries, kid_entry, listed, path_of, stands}
use Rattle.qo_sound_devices.proofs.AttachmentLemmas.{owner-attached, stands-attached}
use Rattle.qo_sound_devices.proofs.DropLemmas.{names-at}
use Rattle.qo_sound_devices.proofs.PathLemmas.{anonymous-steps, peripheral-steps}
use Rattle.qo_sound_devices.proofs.PlacesLemmas.{or-cases}
use Rattle.qo_sound_devices.proofs.PlugLemmas.{depth-is}
use Rattle.qo_sound_devices.proofs.LocationLemmas.{attached-owner, attached-stands, Entry, entry-of, machine-no_device}

-- the link of a name, where names differ
other-name : (own name : List ℕ) (d : ℕ) (slots : List (List ℕ × Slot)) → AllByRecursion (λ m. bytes_eq own m ≡ false) (names_in slots)
    → has_entry (name, d) (filter_map kid_entry slots) ≡ true → bytes_eq own name ≡ false
other-name own name d [] h e = cc
other-name own name d ((n, plain v) ∷ slots) h e = other-name own name d slots h.1 e
other-name own name d ((n, child m) ∷ slots) h e = other-name own name d slots h.1 e
other-name own name d ((n, strong t None) ∷ slots) h e = other-name own name d slots h.1 e
other-name own name d ((n, weak t target) ∷ slots) h e = other-name own name d slots h.1 e
other-name own name d ((n, alias m property) ∷ slots) h e = other-name own name d slots h.1 e
other-name own name d ((n, strong t (Some m)) ∷ slots) h e = go (m == d) refl (bytes_eq n name) refl (other-name own name d slots h.1)
  where
    go : (u : Bool) → (m == d) ≡ u → (v : Bool) → bytes_eq n name ≡ v → (has_entry (name, d) (filter_map kid_entry slots) ≡ true → bytes_eq own name ≡ false)
        → bytes_eq own name ≡ false
    go true p true q rest = subst (λ (x : List ℕ). bytes_eq own x ≡ false) ((bytes_eq-Decides n name).0 q) h.0
    go true p false q rest = rest (rw (p, q) at e)
    go false p v q rest = rest (rw p at e)

kid-named : (name : List ℕ) (d : ℕ) (slots : List (List ℕ × Slot)) → IsDistinct bytes_eq (names_in slots)
    → has_entry (name, d) (filter_map kid_entry slots) ≡ true → option_and_then strong_in (named_in name slots) ≡ Some d
unfolding IsDistinct
kid-named name d [] h e = cc
kid-named name d (s ∷ slots) h e = go (bytes_eq s.0 name) refl (kid-named name d slots h.1)
  where
    here : (x : List ℕ × Slot) → AllByRecursion (λ m. bytes_eq x.0 m ≡ false) (names_in slots) → bytes_eq x.0 name ≡ true
        → has_entry (name, d) (filter_map kid_entry (x ∷ slots)) ≡ true → strong_in x.1 ≡ Some d
    here (n, plain v) k p l = absurd (let clash : true ≡ false = sym p ∙ other-name n name d slots k l in cc)
    here (n, child m) k p l = absurd (let clash : true ≡ false = sym p ∙ other-name n name d slots k l in cc)
    here (n, strong t None) k p l = absurd (let clash : true ≡ false = sym p ∙ other-name n name d slots k l in cc)
    here (n, weak t target) k p l = absurd (let clash : true ≡ false = sym p ∙ other-name n name d slots k l in cc)
    here (n, alias m property) k p l = absurd (let clash : true ≡ false = sym p ∙ other-name n name d slots k l in cc)
    here (n, strong t (Some m)) k p l = pick (m == d) refl
      where
        pick : (u : Bool) → (m == d) ≡ u → Some m ≡ Some d
        pick true q = ap Some (eqb-true m d q)
        pick false q = absurd (let clash : true ≡ false = sym p ∙ other-name n name d slots k (rw q at l) in cc)

    after : (x : List ℕ × Slot) → bytes_eq x.0 name ≡ false → has_entry (name, d) (filter_map kid_entry (x ∷ slots)) ≡ true
        → has_entry (name, d) (filter_map kid_entry slots) ≡ true
    after (n, plain v) p l = l
    after (n, child m) p l = l
    after (n, strong t None) p l = l
    after (n, weak t target) p l = l
    after (n, alias m property) p l = l
    after (n, strong t (Some m)) p l = pick (m == d) refl
      where
        pick : (u : Bool) → (m == d) ≡ u → has_entry (name, d) (filter_map kid_entry slots) ≡ true
        pick true q = rw (q, p) at l
        pick false q = rw q at l

    go : (u : Bool) → bytes_eq s.0 name ≡ u
        → (has_entry (name, d) (filter_map kid_entry slots) ≡ true → option_and_then strong_in (named_in name slots) ≡ Some d)
        → option_and_then strong_in (named_in name (s ∷ slots)) ≡ Some d
    go true p rest = rw p (here s h.0 p e)
    go false p rest = rw p (rest (after s p e))

kid-in : (b : Board) → WellFormed b → (q d : ℕ) (name : List ℕ) → has_entry (name, d) (kid_entries b q) ≡ true → strong_at b q name ≡ Some d
kid-in b firm q d name e = go (record_of b q) refl
  where
    go : (o : Option Record) → record_of b q ≡ o → strong_at b q name ≡ Some d
    go None p = absurd (let clash : false ≡ true = rw p at e in cc)
    go (Some r) p =
        ap (λ (o : Option Record). option_and_then strong_in (named_in name (option_map_or (λ (x : Record). x.slots) o []))) p
        ∙ kid-named name d r.slots (names-at b firm q r p)
        (sym (ap (λ (o : Option Record). has_entry (name, d) (filter_map kid_entry (option_map_or (λ (x : Record). x.slots) o []))) p) ∙ e)

module _ (b : Board) (h : SoundDevices b) where
  rest : PinsRootAlone b
  rest = rest-from_sound b h.tree

  -- a device is realized where it is attached
  says-realized : (d : ℕ) → is_of b (codes "device") d ≡ true → is_realized b d ≡ attached b d
  says-realized d is = go (is_realized b d) refl (attached b d) refl
    where
      go : (t : Bool) → is_realized b d ≡ t → (u : Bool) → attached b d ≡ u → is_realized b d ≡ attached b d
      go true p true q = p ∙ sym q
      go false p false q = p ∙ sym q
      go true p false q =
          absurd (let clash : true ≡ false =
          sym (stands-attached b h.tree.0 rest.used.firm h.places.0 None (λ x. false) h.places.1 d (h.places.1.only d p)) ∙ q in cc)
      go false p true q =
          absurd (let clash : true ≡ false =
          sym (h.places.1.each d (attached-stands b h.tree.0 rest.used.firm h.places.0 None (λ x. false) h.places.1 d is q) refl) ∙ p in cc)

  says-on_bus : (d : ℕ) → is_realized b d ≡ true → IsOnBus b d
  says-on_bus d lit =
      let (slot, (low, (at, name))) = kid.holds.slot in
      record {
        bus = home.bus;
        slot = slot;
        on = home.on;
        at = at;
        is_bus = home.is_bus;
        fits = kid.holds.fits;
        home = owner-attached b h.tree.0 rest.used.firm h.places.0 None (λ x. false) h.places.1 home.bus (h.places.1.owner d home.bus stood home.on);
        low = low;
        there = ap (strong_at b home.bus) (sym name) ∙ kid-in b rest.used.firm home.bus d kid.name kid.there;
      }
    where
      stood : stands b d ≡ true
      stood = h.places.1.only d lit

      home : IsHome b d
      home = h.places.1.home d stood (λ z. cc)

      kid : Entry (IsKid b home.bus) d (kid_entries b home.bus)
      kid = entry-of (IsKid b home.bus) d (kid_entries b home.bus) (h.places.1.kids home.bus home.is_bus) home.kid

  -- its kept path
  says-path : (d : ℕ) → is_realized b d ≡ true → path_of b d ≡ canonical b d
  says-path d lit =
      or-cases (listed d (child_entries b PERIPHERAL_BIRTH)) (listed d (child_entries b ANONYMOUS_BIRTH)) stood
      (λ l. let k : Entry (IsPeripheral b) d (child_entries b PERIPHERAL_BIRTH) =
      entry-of (IsPeripheral b) d (child_entries b PERIPHERAL_BIRTH) h.places.1.peripheral l in
      k.holds.path ∙ sym (rw not_root (peripheral-steps b h.tree.0 rest.used.firm h.places.1.rooted d k.name not_root k.there)))
      (λ l. let k : Entry (IsAnonymous b) d (child_entries b ANONYMOUS_BIRTH) =
      entry-of (IsAnonymous b) d (child_entries b ANONYMOUS_BIRTH) h.places.1.anonymous l in
      k.holds.path ∙ sym (rw not_root (anonymous-steps b h.tree.0 rest.used.firm h.places.1.rooted d k.name not_root k.there)))
    where
      stood : stands b d ≡ true
      stood = h.places.1.only d lit

      not_root : (d == 1) ≡ false
      not_root = go (d == 1) refl
        where
          go : (t : Bool) → (d == 1) ≡ t → (d == 1) ≡ false
          go false p = p
          go true p = absurd (let clash : true ≡ false = sym stood ∙ ap (stands b) (eqb-true d 1 p) ∙ h.places.1.aside.0 in cc)

  says-depth : (q : ℕ) → is_of b (codes "bus") q ≡ true → attached b q ≡ true → depth_of b q ≤ BUS_DEPTH_MAX
  says-depth q is home =
      let owner : HasOwner b q = attached-owner b h.tree.0 rest.used.firm h.places.0 None (λ x. false) h.places.1 q is home in
      let same : h.places.0 q ≡ depth_of b q =
      depth-is h.places.0 (λ x. false) b rest.used.firm h.places.1
      (machine-no_device h.places.0 None (λ x. false) b h.places.1) q owner in
      let most : h.places.0 q ≤ 8 = h.places.1.shallow.most q owner in
      omega (arith, same, most)

pub devices_say_lem : DevicesSayLaw
devices_say_lem =
    record {
      realized = says-realized;
      on_bus = says-on_bus;
      path = says-path;
      one_id = λ b h. h.places.1.once;
      depth = says-depth;
    }
