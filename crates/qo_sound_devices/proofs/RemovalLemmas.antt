-- Places after a step that takes a device out: what has to be shown of such a step.
use Rattle.std.proofs.Common.{◌≡◌, ◌≢◌, refl, ap, sym, ◌∙◌, ℕ, Bool, true, false, ◌==◌, List, [], ◌∷◌, Option, Some, codes}
use Rattle.qo_model.proofs.Common.{AllByRecursion, ANONYMOUS_BIRTH, MACHINE_BIRTH, MEMORY_BUS_BIRTH, OBJECTS_BIRTH, PERIPHERAL_BIRTH, ROOT_BUS_BIRTH, Board, is_live, slots_at, among, bus_of, is_realized, bus_slot_of, is_of}
use Rattle.std.proofs.lemmas.Bool.{eq-eqb}
use Rattle.std.proofs.Math.Bool.{or-true}
use Rattle.qo_sound.proofs.FirmBoardLemmas.{WellFormed}
use Rattle.qo_sound.proofs.RecordLemmas.{all-both}
use Rattle.qo_values.proofs.ListLemmas.{all-imply}
use Rattle.qo_sound_devices.specs.SoundPlaces.{child_entries, HasOwner, IsHome, IsKid, IsShallow, kid_entries, listed, owns, PlacesBut, stands, names_it}
use Rattle.qo_sound_devices.proofs.PlacesLemmas.{all-within, bus-listed, child-live, children-within, rooted-same, id-alike, id-live, kid-live, of-alike, of-live, or-cases, realized-live, SameBody, stands-live, suits-alike, Within, parts-same, within-any, OwnersStay, owners-stay, part-live, peripheral-within, anonymous-within}

-- each entry is listed
pub all-in : (es : List (List ℕ × ℕ)) → AllByRecursion (λ (e : List ℕ × ℕ). listed e.1 es ≡ true) es
all-in [] = tt
all-in (x ∷ es) = (
  rw (eq-eqb x.1 x.1 refl) refl,
  all-imply (λ (e : List ℕ × ℕ). listed e.1 es ≡ true) (λ (e : List ℕ × ℕ). listed e.1 (x ∷ es) ≡ true) (λ e k. rw k (or-true (x.1 == e.1))) es (all-in es),
)

-- a step: fewer devices stand, on fewer buses, and what stays is as before, but that `left` may have left its bus
pub record Moved (left : Option ℕ) (b c : Board) : Type 0 where
  pub firm : WellFormed c
  pub root : is_live c 1 ≡ true
  pub anonymous : c.anonymous ≡ b.anonymous
  pub body : (x : ℕ) → is_live c x ≡ true → SameBody b c x
  pub fixed : (x : ℕ) → is_live c x ≡ true → among (1 ∷ MACHINE_BIRTH ∷ []) x ≡ true → child_entries c x ≡ child_entries b x
  pub shelves : (x : ℕ) → is_live c x ≡ true → among (PERIPHERAL_BIRTH ∷ ANONYMOUS_BIRTH ∷ []) x ≡ true → Within (child_entries c x) (child_entries b x)
  pub fading : (x : ℕ) → is_live c x ≡ true → is_realized c x ≡ true → is_realized b x ≡ true
  pub place : (x : ℕ) → stands c x ≡ true → bus_slot_of c x ≡ bus_slot_of b x
  pub bus_back : (x q : ℕ) → stands c x ≡ true → bus_of c x ≡ Some q → bus_of b x ≡ Some q
  pub bus_on : (x : ℕ) → stands c x ≡ true → left ≢ Some x → bus_of c x ≡ bus_of b x
  pub kid : (q x : ℕ) → is_of b (codes "bus") q ≡ true → listed x (kid_entries c q) ≡ true → (stands c x ≡ true) × (bus_of c x ≡ bus_of b x)
  pub fewer : (q : ℕ) → is_live c q ≡ true → is_of b (codes "bus") q ≡ true → Within (kid_entries c q) (kid_entries b q)
  pub within : (x : ℕ) → is_live c x ≡ true → Within (child_entries c x) (child_entries b x)
  pub hold : (q x : ℕ) → is_of b (codes "bus") q ≡ true → is_live c q ≡ true → stands c x ≡ true → left ≢ Some x → listed x (kid_entries b q) ≡ true
      → listed x (kid_entries c q) ≡ true
  pub owned : (x q : ℕ) → stands c x ≡ true → bus_of c x ≡ Some q → HasOwner b q → HasOwner c q
  pub owns_back : (p q : ℕ) → stands c p ≡ true → owns c p q ≡ true → owns b p q ≡ true

module _ (b c : Board) (depth : ℕ → ℕ) (left before : Option ℕ) (out out_before : ℕ → Bool) (m : Moved left b c) (h : PlacesBut depth before out_before b)
    (apart : (x : ℕ) → stands c x ≡ true → left ≢ Some x → before ≢ Some x)
    (only : (x : ℕ) → is_live c x ≡ true → is_realized c x ≡ true → stands b x ≡ true → stands c x ≡ true)
    (each : (x : ℕ) → stands c x ≡ true → out x ≡ false → is_realized c x ≡ true) where
  machine : listed MACHINE_BIRTH (child_entries c 1) ≡ true
  machine = ap (listed MACHINE_BIRTH) (m.fixed 1 m.root refl) ∙ h.machine

  machine-live : is_live c MACHINE_BIRTH ≡ true
  machine-live = child-live c m.firm 1 MACHINE_BIRTH machine

  second : child_entries c MACHINE_BIRTH ≡ child_entries b MACHINE_BIRTH
  second = m.fixed MACHINE_BIRTH machine-live refl

  peripherals : Within (child_entries c PERIPHERAL_BIRTH) (child_entries b PERIPHERAL_BIRTH)
  peripherals = m.shelves PERIPHERAL_BIRTH (part-live b c m.firm second PERIPHERAL_BIRTH h.parts.0) refl

  anonymouses : Within (child_entries c ANONYMOUS_BIRTH) (child_entries b ANONYMOUS_BIRTH)
  anonymouses = m.shelves ANONYMOUS_BIRTH (part-live b c m.firm second ANONYMOUS_BIRTH h.parts.1.0) refl

  pub stood : (d : ℕ) → stands c d ≡ true → stands b d ≡ true
  stood d e =
      or-cases (listed d (child_entries c PERIPHERAL_BIRTH)) (listed d (child_entries c ANONYMOUS_BIRTH)) e
      (λ k. rw (within-any (names_it d) peripherals k) refl)
      (λ k. rw (within-any (names_it d) anonymouses k) (or-true (listed d (child_entries b PERIPHERAL_BIRTH))))

  there : (d : ℕ) → stands c d ≡ true → is_live c d ≡ true
  there d e = stands-live c m.firm d e

  kids : (q : ℕ) → is_of c (codes "bus") q ≡ true → AllByRecursion (IsKid c q) (kid_entries c q)
  kids q e =
      let live : is_live c q ≡ true = of-live c (codes "bus") q e in
      let was : is_of b (codes "bus") q ≡ true = sym (of-alike b c q (codes "bus") (m.body q live)) ∙ e in
      all-imply (λ (x : List ℕ × ℕ). (listed x.1 (kid_entries c q) ≡ true) × IsKid b q x) (IsKid c q) (one live was) (kid_entries c q)
      (all-both (λ (x : List ℕ × ℕ). listed x.1 (kid_entries c q) ≡ true) (IsKid b q) (kid_entries c q) (all-in (kid_entries c q))
      (all-within (IsKid b q) (m.fewer q live was) (h.kids q was)))
    where
      one : is_live c q ≡ true → is_of b (codes "bus") q ≡ true → (x : List ℕ × ℕ) → (listed x.1 (kid_entries c q) ≡ true) × IsKid b q x → IsKid c q x
      one live was x k =
          let (n, (low, (place, name))) = k.1.slot in
          let stays : (stands c x.1 ≡ true) × (bus_of c x.1 ≡ bus_of b x.1) = m.kid q x.1 was k.0 in
          record {
            there = stays.0;
            on = stays.1 ∙ k.1.on;
            fits = suits-alike b c q x.1 (m.body q live) (m.body x.1 (there x.1 stays.0)) ∙ k.1.fits;
            slot = (n, (low, (m.place x.1 stays.0 ∙ place, name)));
          }

  home : (d : ℕ) → stands c d ≡ true → left ≢ Some d → IsHome c d
  home d e stays =
      let old : IsHome b d = h.home d (stood d e) (apart d e stays) in
      let on : bus_of c d ≡ Some old.bus = m.bus_on d e stays ∙ old.on in
      let live : is_live c old.bus ≡ true = kid-live c m.firm d old.bus (bus-listed old.bus (slots_at c d) on) in
      record {
        bus = old.bus;
        on = on;
        is_bus = of-alike b c old.bus (codes "bus") (m.body old.bus live) ∙ old.is_bus;
        kid = m.hold old.bus d old.is_bus live e stays old.kid;
      }

  owner-back : OwnersStay c b
  owner-back = owners-stay c b stood m.owns_back

  shallow : IsShallow depth c
  shallow =
      record {
        top = h.shallow.top;
        below = λ p q n e on o. h.shallow.below p q n (stood p e) (m.bus_back p q e on) (m.owns_back p n e o);
        most = λ q o. h.shallow.most q (owner-back q o);
      }

  pub places-moved : PlacesBut depth left out c
  places-moved =
      record {
        machine = machine;
        objects = ap (listed OBJECTS_BIRTH) (m.fixed 1 m.root refl) ∙ h.objects;
        parts = parts-same b c second h.parts;
        rooted = rooted-same b c (m.body 1 m.root) (m.fixed 1 m.root refl) second h.rooted;
        children = children-within b c m.firm m.body m.within h.children;
        aside =
            all-imply (λ n. stands b n ≡ false) (λ n. stands c n ≡ false) no_more
            (1 ∷ MACHINE_BIRTH ∷ PERIPHERAL_BIRTH ∷ ANONYMOUS_BIRTH ∷ ROOT_BUS_BIRTH ∷ MEMORY_BUS_BIRTH ∷ OBJECTS_BIRTH ∷ []) h.aside;
        peripheral = peripheral-within b c m.firm m.body PERIPHERAL_BIRTH peripherals h.peripheral;
        anonymous = anonymous-within b c m.firm m.body m.anonymous ANONYMOUS_BIRTH anonymouses h.anonymous;
        kids = kids;
        home = home;
        owner = λ d q e on. m.owned d q e on (h.owner d q (stood d e) (m.bus_back d q e on));
        shallow = shallow;
        only = λ d e. only d (realized-live c d e) e (h.only d (m.fading d (realized-live c d e) e));
        each = each;
        ids = λ d id e.
            let a : SameBody b c d = m.body d (id-live c d id e) in
            of-alike b c d (codes "device") a ∙ h.ids d id (sym (id-alike b c d a) ∙ e);
        once = λ d x id e q. h.once d x id (sym (id-alike b c d (m.body d (id-live c d id e))) ∙ e) (sym (id-alike b c x (m.body x (id-live c x id q))) ∙ q);
      }
    where
      no_more : (n : ℕ) → stands b n ≡ false → stands c n ≡ false
      no_more n e = go (stands c n) refl
        where
          go : (t : Bool) → stands c n ≡ t → stands c n ≡ false
          go false p = p
          go true p = absurd (let clash : true ≡ false = sym (stood n p) ∙ e in cc)
