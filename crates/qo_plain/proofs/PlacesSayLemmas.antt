-- What the soundness of places says of devices, in the words of the tree.
use Rattle.std.proofs.Common.{◌≡◌, refl, ap, sym, ◌∙◌, ℕ, ◌≤◌, Bool, true, false, ◌&&◌, eqb, List, [], ◌∷◌, codes, Option, Some, None, option_map, arith}
use Rattle.qo_model.proofs.Common.{IsDistinct, ANONYMOUS_BIRTH, PERIPHERAL_BIRTH, BUS_DEPTH_MAX, Board, slots_at, among, bus_of, bus_slot_of, depth_of, is_realized, kid_at, kid_name, attached, canonical, is_of, path_down_to, place_of, graph_of}
use Rattle.std.proofs.lemmas.Bool.{eqb-true}
use Rattle.std.proofs.lemmas.Option.{same_Some}
use Rattle.std.proofs.Math.Bool.{or-true}
use Rattle.qo_model.specs.Paths.{parent_of}
use Rattle.qo_sound.specs.TreeKept.{SoundTree}
use Rattle.qo_sound.proofs.FirmBoardLemmas.{WellFormed}
use Rattle.qo_sound.proofs.TestLemmas.{clash, clash-back, decide}
use Rattle.qo_sound.proofs.ViewLemmas.{rest-from_sound}
use Rattle.qo_sound_devices.specs.DeviceFacts.{IsOnBus}
use Rattle.qo_sound_devices.specs.SoundDevices.{SoundDevices}
use Rattle.qo_sound_devices.specs.SoundPlaces.{child_entries, IsAnonymous, IsKid, IsPeripheral, listed, path_of, SoundPlaces, stands}
use Rattle.qo_sound_devices.proofs.FactLemmas.{devices_say_lem}
use Rattle.qo_sound_devices.proofs.LawLemmas.{places_kept_lem}
use Rattle.qo_sound_devices.proofs.LocationLemmas.{Entry, entry-of, place-listed, place-named}
use Rattle.qo_sound_devices.proofs.PlacesLemmas.{or-cases}
use Rattle.qo_sound_devices.proofs.PlugLemmas.{stands-device}
use Rattle.qo_plain.specs.Places.{by_id, by_number, IsNamed, PlainPlaces}
use Rattle.qo_plain.proofs.PlaceListLemmas.{kid-has, kid-number}

-- what is a child of a container of devices stands
pub stands-in : (b : Board) (m p : ℕ) → listed m (child_entries b p) ≡ true → among (PERIPHERAL_BIRTH ∷ ANONYMOUS_BIRTH ∷ []) p ≡ true → stands b m ≡ true
stands-in b m p l k = go (eqb p PERIPHERAL_BIRTH) refl (eqb p ANONYMOUS_BIRTH) refl
  where
    go : (t : Bool) → eqb p PERIPHERAL_BIRTH ≡ t → (u : Bool) → eqb p ANONYMOUS_BIRTH ≡ u → stands b m ≡ true
    go true q u r = rw (sym (ap (λ (n : ℕ). listed m (child_entries b n)) (eqb-true p PERIPHERAL_BIRTH q)) ∙ l) refl
    go false q true r =
        rw (sym (ap (λ (n : ℕ). listed m (child_entries b n)) (eqb-true p ANONYMOUS_BIRTH r)) ∙ l) (or-true (listed m (child_entries b PERIPHERAL_BIRTH)))
    go false q false r = clash-back (rw (q, r) at k)

module _ (b : Board) (tree : SoundTree b) (h : SoundPlaces b) where
  firm : WellFormed b
  firm = (rest-from_sound b tree).used.firm

  -- the board without pending removals and notices
  abbrev quiet : Board
  quiet = record b { pending = []; notices = [] }

  quiet-sound : SoundDevices quiet
  unfolding graph_of IsDistinct
  quiet-sound =
      record {
        tree = tree;
        places = places_kept_lem.beside b quiet refl (omega arith) refl tree h;
        lists = record { pending = tt; once = tt; asked = tt; notices = tt; few = omega arith };
      }

  device-stands : (d : ℕ) → stands b d ≡ true → is_of b (codes "device") d ≡ true
  device-stands d e = stands-device h.0 None (λ x. false) b h.1 d e

  says-contained : (m p : ℕ) → parent_of b m ≡ Some p → among (PERIPHERAL_BIRTH ∷ ANONYMOUS_BIRTH ∷ []) p ≡ true → is_of b (codes "device") m ≡ true
  says-contained m p e k = go (place_of b m) refl
    where
      go : (o : Option (ℕ × List ℕ)) → place_of b m ≡ o → is_of b (codes "device") m ≡ true
      go None q = absurd (let none : None ≡ Some p = sym (ap (option_map (λ (u : ℕ × List ℕ). u.0)) q) ∙ e in cc)
      go (Some u) q =
          let same : u.0 ≡ p = same_Some u.0 p (sym (ap (option_map (λ (v : ℕ × List ℕ). v.0)) q) ∙ e) in
          device-stands m (stands-in b m u.0 (place-listed b firm m u q) (ap (among (PERIPHERAL_BIRTH ∷ ANONYMOUS_BIRTH ∷ [])) same ∙ k))

  says-realized : (d : ℕ) → is_realized b d ≡ (is_of b (codes "device") d && attached b d)
  unfolding attached
  says-realized d =
      decide (is_of b (codes "device") d) (λ p. rw p (devices_say_lem.realized quiet quiet-sound d p)) (λ p. rw p (decide (is_realized b d) (lit p) (λ q. q)))
    where
      lit : is_of b (codes "device") d ≡ false → is_realized b d ≡ true → is_realized b d ≡ false
      lit p q = clash (sym (device-stands d (h.1.only d q)) ∙ p)

  says-on : (d : ℕ) → is_realized b d ≡ true → IsOnBus b d
  unfolding attached
  says-on d lit =
      let k : IsOnBus quiet d = devices_say_lem.on_bus quiet quiet-sound d lit in
      record { bus = k.bus; slot = k.slot; on = k.on; at = k.at; is_bus = k.is_bus; fits = k.fits; home = k.home; low = k.low; there = k.there }

  says-named : (d : ℕ) → is_realized b d ≡ true → IsNamed b d
  says-named d lit =
      or-cases (listed d (child_entries b PERIPHERAL_BIRTH)) (listed d (child_entries b ANONYMOUS_BIRTH)) (h.1.only d lit)
      (λ l. let k : Entry (IsPeripheral b) d (child_entries b PERIPHERAL_BIRTH) =
      entry-of (IsPeripheral b) d (child_entries b PERIPHERAL_BIRTH) h.1.peripheral l in
      by_id k.name k.holds.id (place-named b firm PERIPHERAL_BIRTH d k.name k.there))
      (λ l. let k : Entry (IsAnonymous b) d (child_entries b ANONYMOUS_BIRTH) =
      entry-of (IsAnonymous b) d (child_entries b ANONYMOUS_BIRTH) h.1.anonymous l in
      let (n, (low, is)) = k.holds.numbered in
      by_number n k.holds.id low
      (place-named b firm ANONYMOUS_BIRTH d k.name k.there ∙ ap (λ (name : List ℕ). Some (ANONYMOUS_BIRTH, name)) is))

  says-path : (d : ℕ) → is_realized b d ≡ true → path_of b d ≡ canonical b d
  unfolding path_down_to
  says-path d lit = devices_say_lem.path quiet quiet-sound d lit

  says-kids : (q slot d : ℕ) → is_of b (codes "bus") q ≡ true → kid_at b q slot ≡ Some d
      → (is_realized b d ≡ true) × ((bus_of b d ≡ Some q) × (bus_slot_of b d ≡ Some slot))
  says-kids q slot d is e =
      let k : IsKid b q (kid_name slot, d) = kid-has (IsKid b q) (kid_name slot) d (slots_at b q) (h.1.kids q is) e in
      let (n, (low, (at, name))) = k.slot in
      (h.1.each d k.there refl, (k.on, at ∙ ap Some (sym (kid-number slot n name))))

  says-depth : (q : ℕ) → is_of b (codes "bus") q ≡ true → attached b q ≡ true → depth_of b q ≤ BUS_DEPTH_MAX
  unfolding attached depth_of
  says-depth q is home = devices_say_lem.depth quiet quiet-sound q is home

  pub places-say : PlainPlaces b
  places-say =
      record {
        contained = says-contained;
        realized = says-realized;
        each = λ d lit. record { on = says-on d lit; named = says-named d lit; path = says-path d lit };
        kids = says-kids;
        ids = h.1.ids;
        once = h.1.once;
        depth = says-depth;
      }
