-- Adding a device, and the places of devices: refused attempts keep them, and what is known of a board on which one may be added.
use Rattle.std.proofs.Common.{◌≡◌, refl, ap, sym, ◌∙◌, ℕ, zero, suc, ◌<◌, Bool, true, false, ◌==◌, List, [], ◌∷◌, find, length, codes, Option, Some, None, option_and_then, arith}
use Rattle.qo_model.proofs.Common.{if◌then◌else◌, list_any, option_map_or, bytes_eq, ANONYMOUS_BIRTH, MACHINE_BIRTH, MEMORY_BUS_BIRTH, PERIPHERAL_BIRTH, ROOT_BUS_BIRTH, Code, TypeId, Board, Record, by_depth, bridge_of, bus_above, bus_of, depth_of, depth_turn, device_named, has_id, births, is_of, Wanted, barred_early, barred_late, bus_for, cut_attempt, plug, plug_as, plug_attempt, plug_by, plug_late, resources_of, type_barred, with_plugged, TypeInfo, is_a, type_named}
use Rattle.std.proofs.lemmas.Slice.Eq.{bytes_eq-Decides}
use Rattle.qo_model.proofs.AmongLemmas.{among-all}
use Rattle.qo_sound.proofs.FirmBoardLemmas.{WellFormed}
use Rattle.qo_sound.proofs.PlugLemmas.{IsPlace, cut_attempt-rest, device-of, place-of, plug_attempt-rest}
use Rattle.qo_values.proofs.ListLemmas.{all-imply}
use Rattle.qo_sound.proofs.ViewLemmas.{PinsRootAlone}
use Rattle.qo_sound_devices.specs.SoundPlaces.{child_entries, HasOwner, machines, bridges, id_of, IsAnonymous, IsHome, IsPeripheral, listed, PlacesBut, stands}
use Rattle.qo_sound_devices.proofs.LikenessLemmas.{alike-record}
use Rattle.qo_sound_devices.proofs.AttachmentLemmas.{owns-listed, parent-is}
use Rattle.qo_sound_devices.proofs.DepthLemmas.{room}
use Rattle.qo_sound_devices.proofs.PlacesLemmas.{all-listed, kept-alike, or-cases, owner-live, places-kept}

-- attempts take births, and are noted
pub plug_attempt-places : (depth : ℕ → ℕ) (b : Board) (t : TypeId) (bus stage : ℕ) → PinsRootAlone b → PlacesBut depth None (λ x. false) b
    → PlacesBut depth None (λ x. false) (plug_attempt b t bus stage)
plug_attempt-places depth b t bus stage rest h =
    places-kept b (plug_attempt b t bus stage)
    (kept-alike b (plug_attempt b t bus stage) (plug_attempt-rest b t bus stage rest).used.firm (owner-live b 1 MACHINE_BIRTH h.machine) refl
    (λ x e. alike-record b (plug_attempt b t bus stage) x refl))
    depth None (λ x. false) h

pub cut_attempt-places : (depth : ℕ → ℕ) (b : Board) (t : TypeId) (i : ℕ) (joined : Bool) → PinsRootAlone b → PlacesBut depth None (λ x. false) b
    → PlacesBut depth None (λ x. false) (cut_attempt b t i joined)
cut_attempt-places depth b t i joined rest h =
    places-kept b (cut_attempt b t i joined)
    (kept-alike b (cut_attempt b t i joined) (cut_attempt-rest b t i joined rest).used.firm (owner-live b 1 MACHINE_BIRTH h.machine) refl
    (λ x e. alike-record b (cut_attempt b t i joined) x refl))
    depth None (λ x. false) h

-- what a device that is added finds: nothing refuses it
pub record Accepted (b : Board) (t : TypeId) (bus : ℕ) (a : Wanted) : Type 0 where
  pub device : is_a t (codes "device") ≡ true
  pub chosen : bus_for b t a.bus ≡ Some bus
  pub early : barred_early b t a ≡ None
  pub late : barred_late b t bus a.props ≡ None
  pub place : IsPlace b t a (resources_of b t bus a.props)

-- a fact of the board after an add: as it was, after an attempt, or after a device that was added
module _ (P : Board → Type 0) (b : Board) (a : Wanted) (same : P b) (attempt : (t : TypeId) (bus stage : ℕ) → P (plug_attempt b t bus stage))
    (taken : (t : TypeId) (bus : ℕ) → Accepted b t bus a → P (with_plugged b t a (resources_of b t bus a.props))) where
  by-late : (t : TypeId) (bus : ℕ) (o : Option (ℕ × Code)) → barred_late b t bus a.props ≡ o
      → (barred_late b t bus a.props ≡ None → Accepted b t bus a) → P (plug_late b t bus a o).board
  by-late t bus (Some refusal) e accepted = attempt t bus refusal.0
  by-late t bus None e accepted = taken t bus (accepted e)

  by-stage : (t : TypeId) → is_a t (codes "device") ≡ true → (o : Option (ℕ × Code)) → barred_early b t a ≡ o → P (plug_as b t a o).board
  by-stage t device (Some refusal) e = same
  by-stage t device None e = go (bus_for b t a.bus) refl
    where
      go : (m : Option ℕ) → bus_for b t a.bus ≡ m → P (plug_as b t a None).board
      go None p = rw (plug_as, p) same
      go (Some bus) p =
          rw (plug_as, p)
          (by-late t bus (barred_late b t bus a.props) refl
          (λ late. record { device = device; chosen = p; early = e; late = late; place = place-of b t bus a device p e late }))

  by-type : (o : Option Code) → type_barred a.driver ≡ o → P (plug_by b a o).board
  by-type (Some code) e = same
  by-type None e = go (type_named a.driver) refl
    where
      go : (row : Option TypeInfo) → type_named a.driver ≡ row → P (plug_by b a None).board
      go None p = rw (plug_by, p) same
      go (Some row) p = rw (plug_by, p) (by-stage row.id (device-of row (rw (type_barred, p) at e)) (barred_early b row.id a) refl)

  pub after-plug : P (plug b a).board
  unfolding plug
  after-plug = by-type (type_barred a.driver) refl

-- depths

pub stands-device : (depth : ℕ → ℕ) (left : Option ℕ) (out : ℕ → Bool) (b : Board) → PlacesBut depth left out b → (d : ℕ) → stands b d ≡ true
    → is_of b (codes "device") d ≡ true
stands-device depth left out b h d e =
    or-cases (listed d (child_entries b PERIPHERAL_BIRTH)) (listed d (child_entries b ANONYMOUS_BIRTH)) e
    (all-listed (λ x. is_of b (codes "device") x ≡ true) (child_entries b PERIPHERAL_BIRTH)
    (all-imply (IsPeripheral b) (λ (x : List ℕ × ℕ). is_of b (codes "device") x.1 ≡ true) (λ x k. k.device) (child_entries b PERIPHERAL_BIRTH) h.peripheral) d)
    (all-listed (λ x. is_of b (codes "device") x ≡ true) (child_entries b ANONYMOUS_BIRTH)
    (all-imply (IsAnonymous b) (λ (x : List ℕ × ℕ). is_of b (codes "device") x.1 ≡ true) (λ x k. k.device) (child_entries b ANONYMOUS_BIRTH) h.anonymous) d)

module _ (depth : ℕ → ℕ) (out : ℕ → Bool) (b : Board) (firm : WellFormed b) (h : PlacesBut depth None out b) where
  module _ (machine : is_of b (codes "device") MACHINE_BIRTH ≡ false) where
    none-above : (q : ℕ) → listed q (child_entries b MACHINE_BIRTH) ≡ true → bus_above b q ≡ None
    none-above q e =
        let bridge : bridge_of b q ≡ None =
        ap (option_and_then (λ p. if is_of b (codes "device") p then Some p else None)) (parent-is b firm MACHINE_BIRTH q e)
        ∙ ap (λ (t : Bool). if t then Some MACHINE_BIRTH else None) machine in
        ap (option_and_then (bus_of b)) bridge

    depth-machines : (k q : ℕ) → listed q (child_entries b MACHINE_BIRTH) ≡ true → depth q ≡ 0 → by_depth (depth_turn b) (λ x. 0) (suc k) q ≡ depth q
    depth-machines k q e none = rw (depth_turn, none-above q e) (sym none)

    depth-enough : (k q : ℕ) → HasOwner b q → depth q < k → by_depth (depth_turn b) (λ x. 0) k q ≡ depth q
    depth-enough zero q o low = absurd (let clash : 0 < 0 = omega (arith, low) in omega arith)
    depth-enough (suc k) q (machines e) low =
        among-all (λ x. by_depth (depth_turn b) (λ y. 0) (suc k) x ≡ depth x) (ROOT_BUS_BIRTH ∷ MEMORY_BUS_BIRTH ∷ [])
        (depth-machines k ROOT_BUS_BIRTH h.parts.1.1.0 h.shallow.top.0, (depth-machines k MEMORY_BUS_BIRTH h.parts.1.1.1.0 h.shallow.top.1.0, tt)) q e
    depth-enough (suc k) q (bridges p s o) low =
        let home : IsHome b p = h.home p s (λ z. cc) in
        let deeper : depth q ≡ suc (depth home.bus) = h.shallow.below p home.bus q s home.on o in
        let bridge : bridge_of b q ≡ Some p =
        ap (option_and_then (λ x. if is_of b (codes "device") x then Some x else None)) (parent-is b firm p q (owns-listed q (child_entries b p) o))
        ∙ ap (λ (t : Bool). if t then Some p else None) (stands-device depth None out b h p s) in
        let above : bus_above b q ≡ Some home.bus = ap (option_and_then (bus_of b)) bridge ∙ home.on in
        let below : by_depth (depth_turn b) (λ x. 0) k home.bus ≡ depth home.bus =
        depth-enough k home.bus (h.owner p home.bus s home.on) (omega (arith, low, deeper)) in
        rw (depth_turn, above) (ap (λ (m : ℕ). suc m) below ∙ sym deeper)

    pub depth-is : (q : ℕ) → HasOwner b q → depth q ≡ depth_of b q
    unfolding depth_of
    depth-is q o = sym (depth-enough (suc (length (births b))) q o (omega (arith, h.shallow.most q o, room depth None out b firm h)))

-- an id that no device has is no object's
named-none : (id : List ℕ) (rs : List Record) (x : ℕ) → list_any (has_id id) rs ≡ false
    → option_and_then (λ (r : Record). r.device_id) (find (λ (r : Record). r.birth == x) rs) ≡ Some id → ⊥
named-none id [] x e k = absurd (let clash : None ≡ Some id = k in cc)
named-none id (r ∷ rs) x e k = go (r.birth == x) refl (has_id id r) refl (named-none id rs x)
  where
    go : (t : Bool) → (r.birth == x) ≡ t → (u : Bool) → has_id id r ≡ u
        → (list_any (has_id id) rs ≡ false → option_and_then (λ (y : Record). y.device_id) (find (λ (y : Record). y.birth == x) rs) ≡ Some id → ⊥) → ⊥
    go t p true q rest = absurd (let clash : true ≡ false = rw q at e in cc)
    go false p false q rest = rest (rw q at e) (rw p at k)
    go true p false q rest =
        let own : r.device_id ≡ Some id = rw p at k in
        absurd
        (let clash : true ≡ false =
        sym ((bytes_eq-Decides id id).1 refl) ∙ sym (ap (λ (o : Option (List ℕ)). option_map_or (λ (its : List ℕ). bytes_eq its id) o false) own) ∙ q in
        cc)

pub id-new : (b : Board) (id : List ℕ) → device_named b id ≡ false → (x : ℕ) → id_of b x ≡ Some id → ⊥
id-new b id e x k = named-none id b.records x e k
