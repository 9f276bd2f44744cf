-- `object-del` and `x-sever` keep places.
use Rattle.std.proofs.Common.{◌⊎◌, nat_eq, ◌≡◌, refl, ap, sym, subst, ◌∙◌, ℕ, leb, eqb, Bool, true, false, List, [], ◌∷◌, slice_get, length, Option, Some, None, is_some, option_map, codes}
use Rattle.qo_model.proofs.Common.{list_any, option_map_or, bytes_eq, MACHINE_BIRTH, OBJECTS_BIRTH, TypeId, Board, Record, Slot, plain, child, strong, weak, alias, slots_at, slot_at, among, is_object_named, object_del, sever, severed_from, attached, child_of, is_of, after, drop_slot, finalize, let_go, pin, put_in_order, unpin, without_first, without_pin, SoundGraph}
use Rattle.std.proofs.lemmas.Option.{same_Some}
use Rattle.std.proofs.Math.Bool.{or-true}
use Rattle.qo_model.specs.Board.{referent}
use Rattle.qo_model.proofs.ComesToLemmas.{deletion-comes, sever-comes, severed-comes}
use Rattle.qo_model.proofs.EditLemmas.{StandsAt, stands-at}
use Rattle.qo_sound.proofs.ChangeLemmas.{near-deleted, near-unlinked}
use Rattle.qo_sound.proofs.FirmBoardLemmas.{WellFormed, firm-beside}
use Rattle.qo_model.proofs.FirstSlotLemmas.{Found, found-at}
use Rattle.qo_model.proofs.PinLemmas.{put-among, put-back, release-pins, severed-pins}
use Rattle.qo_sound.proofs.SeveringLemmas.{near-pin, near-unpin, pin-pins}
use Rattle.qo_sound.proofs.ViewLemmas.{PinsRootAlone, sound-from_rest}
use Rattle.qo_sound.proofs.WorkLemmas.{InvariantBut}
use Rattle.qo_sound_devices.specs.SoundPlaces.{HasOwner, kid_entry, PlacesBut, stands}
use Rattle.qo_sound_devices.proofs.LikenessLemmas.{alike-record}
use Rattle.qo_sound_devices.proofs.AttachmentLemmas.{owner-attached, stands-attached}
use Rattle.qo_sound_devices.proofs.DropLemmas.{kept-drop}
use Rattle.qo_sound_devices.proofs.PlacesLemmas.{after-kept, Keeps, keeps-none, Kept, kept-alike, keeper, owner-back, owner-live, places-kept, same-stands}

-- places are kept, and nobody more stands or has an owner
pub record Goes (depth : ℕ → ℕ) (left : Option ℕ) (out : ℕ → Bool) (b c : Board) : Type 0 where
  pub places : PlacesBut depth left out c
  pub stood : (d : ℕ) → stands c d ≡ stands b d
  pub owned : (q : ℕ) → HasOwner c q → HasOwner b q
  pub pinned : among c.pins 1 ≡ true

pub goes-then : (depth : ℕ → ℕ) (left : Option ℕ) (out : ℕ → Bool) (b c d : Board) → Goes depth left out b c → Goes depth left out c d → Goes depth left out b d
goes-then depth left out b c d h k = record { places = k.places; stood = λ x. k.stood x ∙ h.stood x; owned = λ q o. h.owned q (k.owned q o); pinned = k.pinned }

pub goes-kept : (depth : ℕ → ℕ) (left : Option ℕ) (out : ℕ → Bool) (b c : Board) → Kept b c → among c.pins 1 ≡ true → PlacesBut depth left out b
    → Goes depth left out b c
goes-kept depth left out b c kept pinned h =
    record {
      places = places-kept b c kept depth left out h;
      stood = same-stands b c kept depth left out h;
      owned = owner-back b c kept depth left out h;
      pinned = pinned;
    }

pub goes-none : (depth : ℕ → ℕ) (left : Option ℕ) (out : ℕ → Bool) (b : Board) → among b.pins 1 ≡ true → PlacesBut depth left out b → Goes depth left out b b
goes-none depth left out b pinned h = record { places = h; stood = λ d. refl; owned = λ q o. o; pinned = pinned }

pub goes-after : (depth : ℕ → ℕ) (left : Option ℕ) (out : ℕ → Bool) (b : Board) (o : Option ℕ) → WellFormed (after finalize b o) → among b.pins 1 ≡ true
    → PlacesBut depth left out b → Goes depth left out b (after finalize b o)
goes-after depth left out b o firm pinned h =
    goes-kept depth left out b (after finalize b o) (after-kept b o firm (owner-live b 1 MACHINE_BIRTH h.machine) pinned)
    (ap (λ (ps : List ℕ). among ps 1) (release-pins b o) ∙ pinned) h

pub keeps-goes : (depth : ℕ → ℕ) (b c : Board) → Goes depth None (λ d. false) b c → Keeps depth b c
keeps-goes depth b c g = record { places = g.places; stood = g.stood }

-- other pins
pub goes-pins : (depth : ℕ → ℕ) (left : Option ℕ) (out : ℕ → Bool) (b : Board) (ps : List ℕ) → WellFormed b → among ps 1 ≡ true → PlacesBut depth left out b
    → Goes depth left out b (record b { pins = ps })
goes-pins depth left out b ps f pinned h =
    goes-kept depth left out b (record b { pins = ps })
    (kept-alike b (record b { pins = ps }) firm (owner-live b 1 MACHINE_BIRTH h.machine) refl (λ x there. alike-record b (record b { pins = ps }) x refl))
    pinned h
  where
    firm : WellFormed (record b { pins = ps })
    firm =
        firm-beside b (record b { pins = ps }) f

-- a slot is let go of which places do not speak
pub goes-let_go : (depth : ℕ → ℕ) (left : Option ℕ) (out : ℕ → Bool) (b : Board) (n i : ℕ) → WellFormed b → WellFormed (let_go b n i) → among b.pins 1 ≡ true
    → ((s : List ℕ × Slot) → slice_get (slots_at b n) i ≡ Some s → stands b n ≡ true → (is_some (child_of s.1) ≡ true) ⊎
    (bytes_eq s.0 (codes "parent_bus") ≡ false))
    → ((s : List ℕ × Slot) → slice_get (slots_at b n) i ≡ Some s → keeper b n ≡ true → child_of s.1 ≡ None)
    → ((s : List ℕ × Slot) → slice_get (slots_at b n) i ≡ Some s → is_of b (codes "bus") n ≡ true → HasOwner b n → kid_entry s ≡ None)
    → PlacesBut depth left out b → Goes depth left out b (let_go b n i)
unfolding let_go drop_slot
goes-let_go depth left out b n i firm firm_after pinned link children kids h = go (slot_at b n i) refl
  where
    go : (o : Option Slot) → slot_at b n i ≡ o → Goes depth left out b (let_go b n i)
    go None e = rw (let_go, e) (goes-none depth left out b pinned h)
    go (Some s) e =
        let at : StandsAt b n i s = stands-at b n i s e in
        let here : slice_get (slots_at b n) i ≡ Some at.entry =
        ap (λ (o : Option Record). slice_get (option_map_or (λ (r : Record). r.slots) o []) i) at.found ∙ at.at in
        let kept : Kept b (drop_slot b n i) =
        kept-drop b firm (owner-live b 1 MACHINE_BIRTH h.machine) n i at.entry at.owner at.found at.at (link at.entry here) (children at.entry here)
        (kids at.entry here) in
        let first : Goes depth left out b (drop_slot b n i) = goes-kept depth left out b (drop_slot b n i) kept pinned h in
        let ends : WellFormed (after finalize (drop_slot b n i) (referent s)) = rw (let_go, e) at firm_after in
        rw (let_go, e)
        (goes-then depth left out b (drop_slot b n i) (after finalize (drop_slot b n i) (referent s)) first
        (goes-after depth left out (drop_slot b n i) (referent s) ends pinned first.places))

-- `object-del`
all-aside : (b : Board) (depth : ℕ → ℕ) (left : Option ℕ) (out : ℕ → Bool) → PlacesBut depth left out b → stands b OBJECTS_BIRTH ≡ false
all-aside b depth left out h = h.aside.1.1.1.1.1.1.0

is-child : (id : List ℕ) (s : List ℕ × Slot) → is_object_named id s ≡ true → kid_entry s ≡ None
is-child id (name, plain v) e = refl
is-child id (name, child m) e = refl
is-child id (name, strong t target) e = absurd (let clash : false ≡ true = e in cc)
is-child id (name, weak t target) e = refl
is-child id (name, alias m property) e = refl

pub object_del-places : (depth : ℕ → ℕ) (b : Board) (id : List ℕ) → PinsRootAlone b → PlacesBut depth None (λ d. false) b
    → Keeps depth b (object_del b id).board
object_del-places depth b id rest h = deletion-comes (Keeps depth b) b id (keeps-none depth b h) (λ i e.
    let apart : stands b OBJECTS_BIRTH ≡ false = all-aside b depth None (λ d. false) h in
    let f : Found (is_object_named id) (slots_at b OBJECTS_BIRTH) i = found-at (is_object_named id) i (slots_at b OBJECTS_BIRTH) e in
    keeps-goes depth b (let_go b OBJECTS_BIRTH i) (goes-let_go depth None (λ d. false) b OBJECTS_BIRTH i rest.used.firm
    (near-deleted b i rest.used).firm (ap (λ (ps : List ℕ). among ps 1) rest.pinned)
    (λ s k q. absurd (let clash : false ≡ true = sym apart ∙ q in cc))
    (λ s k q. absurd (let clash : false ≡ true = sym apart ∙ q in cc))
    (λ s k q o. subst (λ (x : List ℕ × Slot). kid_entry x ≡ None) (same_Some f.entry s (sym f.at ∙ k)) (is-child id f.entry f.passes))
    h))

-- `x-sever`
record Severing (depth : ℕ → ℕ) (n : ℕ) (b c : Board) : Type 0 where
  near : InvariantBut None c
  places : PlacesBut depth None (λ d. false) c
  pinned : among c.pins 1 ≡ true
  out : stands c n ≡ false
  stood : (d : ℕ) → stands c d ≡ stands b d
  unowned : HasOwner c n → ⊥

severed-let_go : (depth : ℕ → ℕ) (n i : ℕ) (t : TypeId) (target : Option ℕ) (b c : Board) → slot_at c n i ≡ Some (strong t target) → Severing depth n b c
    → Severing depth n b (let_go c n i)
severed-let_go depth n i t target b c e h =
    let near : InvariantBut None (let_go c n i) = near-unlinked c n i t target e h.near in
    let goes : Goes depth None (λ d. false) c (let_go c n i) =
    goes-let_go depth None (λ d. false) c n i h.near.firm near.firm h.pinned
    (λ s k q. absurd (let clash : false ≡ true = sym h.out ∙ q in cc))
    (λ s k q. ap child_of (same_Some s.1 (strong t target) (sym (ap (option_map (λ (x : List ℕ × Slot). x.1)) k) ∙ e)))
    (λ s k q o. absurd (h.unowned o))
    h.places in
    record {
      near = near;
      places = goes.places;
      pinned = goes.pinned;
      out = goes.stood n ∙ h.out;
      stood = λ d. goes.stood d ∙ h.stood d;
      unowned = λ o. h.unowned (goes.owned n o);
    }

severed-all : (depth : ℕ → ℕ) (places i n : ℕ) (b c : Board) → Severing depth n b c → Severing depth n b (severed_from places i n c)
severed-all depth places i n b c h =
    severed-comes (Severing depth n b) n (λ d j t target e k. severed-let_go depth n j t target b d e k) places i c h

pub put-one : (n : ℕ) → among (put_in_order n (1 ∷ [])) 1 ≡ true
put-one n = go (leb 1 n) refl
  where
    go : (t : Bool) → leb 1 n ≡ t → among (put_in_order n (1 ∷ [])) 1 ≡ true
    go true p = rw (put_in_order, p) refl
    go false p = rw (put_in_order, p) (or-true (eqb 1 n))

severed-places : (depth : ℕ → ℕ) (b : Board) (n places : ℕ) → PinsRootAlone b → PlacesBut depth None (λ d. false) b → attached b n ≡ false
    → Keeps depth b (unpin (severed_from places 0 n (pin b n)) n)
unfolding pin unpin
severed-places depth b n places rest h apart = ends
  where
    graph : SoundGraph b
    graph = (sound-from_rest b rest).0

    aside : stands b n ≡ false
    aside = go (stands b n) refl
      where
        go : (t : Bool) → stands b n ≡ t → stands b n ≡ false
        go false p = p
        go true p = absurd (let clash : true ≡ false = sym (stands-attached b graph rest.used.firm depth None (λ d. false) h n p) ∙ apart in cc)

    unowned : HasOwner b n → ⊥
    unowned o = let clash : true ≡ false = sym (owner-attached b graph rest.used.firm depth None (λ d. false) h n o) ∙ apart in absurd cc

    pins_are : (pin b n).pins ≡ put_in_order n (1 ∷ [])
    pins_are = pin-pins b n ∙ ap (put_in_order n) rest.pinned

    pinned-first : Goes depth None (λ d. false) b (pin b n)
    pinned-first =
        goes-pins depth None (λ d. false) b (put_in_order n b.pins) rest.used.firm
        (ap (λ (ps : List ℕ). among (put_in_order n ps) 1) rest.pinned ∙ put-one n) h

    begins : Severing depth n b (pin b n)
    begins =
        record {
          near = near-pin b n rest.used;
          places = pinned-first.places;
          pinned = pinned-first.pinned;
          out = pinned-first.stood n ∙ aside;
          stood = pinned-first.stood;
          unowned = λ o. unowned (pinned-first.owned n o);
        }

    c : Board
    c = severed_from places 0 n (pin b n)

    there : Severing depth n b c
    there = severed-all depth places 0 n b (pin b n) begins

    pins_stay : c.pins ≡ put_in_order n (1 ∷ [])
    pins_stay = severed-pins places 0 n (pin b n) ∙ pins_are

    has : list_any (nat_eq n) c.pins ≡ true
    has = ap (list_any (nat_eq n)) pins_stay ∙ put-among n (1 ∷ [])

    near_after : InvariantBut None (unpin c n)
    near_after = near-unpin c n has there.near

    one_left : among (without_first n c.pins) 1 ≡ true
    one_left = ap (λ (ps : List ℕ). among (without_first n ps) 1) pins_stay ∙ ap (λ (ps : List ℕ). among ps 1) (put-back n (1 ∷ []) (tt, tt))

    ends : Keeps depth b (unpin c n)
    ends =
        let less : Goes depth None (λ d. false) c (without_pin c n) =
        goes-pins depth None (λ d. false) c (without_first n c.pins) there.near.firm one_left there.places in
        let firm_after : WellFormed (after finalize (without_pin c n) (Some n)) = rw (unpin, has) at near_after.firm in
        let last : Goes depth None (λ d. false) (without_pin c n) (after finalize (without_pin c n) (Some n)) =
        goes-after depth None (λ d. false) (without_pin c n) (Some n) firm_after one_left less.places in
        rw (unpin, has) (record { places = last.places; stood = λ d. last.stood d ∙ less.stood d ∙ there.stood d })

pub sever-places : (depth : ℕ → ℕ) (b : Board) (n : ℕ) → PinsRootAlone b → PlacesBut depth None (λ d. false) b → Keeps depth b (sever b n).board
sever-places depth b n rest h =
    sever-comes (Keeps depth b) b n (keeps-none depth b h) (λ there away. severed-places depth b n (length (slots_at b n)) rest h away)
