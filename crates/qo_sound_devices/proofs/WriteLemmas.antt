-- `qom-set` keeps places, taken or refused.
use Rattle.std.proofs.Common.{inr, rules, ◌≡◌, refl, ap, sym, subst, ◌∙◌, ℕ, zero, suc, Bool, true, false, not, ◌&&◌, ◌||◌, List, [], ◌∷◌, filter_map, find, slice_get, Option, Some, None, is_some, option_map, option_and_then, codes}
use Rattle.qo_model.proofs.Common.{AllByRecursion, option_map_or, bytes_eq, MACHINE_BIRTH, TypeId, Val, Board, Record, Slot, plain, child, strong, weak, alias, record_of, kind_of, is_live, slots_at, slot_at, changed_at, point, pointed, set, with_changed, with_val, among, is_realized, is_true, number_in, plain_in, strong_in, after_write, child_of, is_of, may_set, pointed_at, relinked, property_named, write, after, drop_slot, edit, edited, emptied, finalize, with_dropped, without_hold, property_name, is_a, slots_of, types}
use Rattle.qo_model.specs.declared.properties.Property.{Property}
use Rattle.std.proofs.lemmas.Bool.{not-true, and_parts}
use Rattle.std.proofs.lemmas.Option.{same_Some}
use Rattle.std.proofs.lemmas.Slice.Eq.{bytes_eq-Decides}
use Rattle.qo_values.proofs.EachLemmas.{each}
use Rattle.qo_model.specs.Board.{referent}
use Rattle.qo_model.proofs.EditLemmas.{StandsAt, stands-at}
use Rattle.qo_model.proofs.FirstSlotLemmas.{named-changed, named-other}
use Rattle.qo_model.proofs.StepLemmas.{drop-live, found-edited}
use Rattle.qo_sound.proofs.ChangeLemmas.{emptied-at, near-relinked, near-set}
use Rattle.qo_model.proofs.WrittenLemmas.{IsLink, holding, seeing, link-childless}
use Rattle.qo_sound.proofs.TargetLemmas.{target-fit}
use Rattle.qo_sound.proofs.FirmBoardLemmas.{edited-kinds, FitsKind, WellFormed, firm-changed, firm-drop, Linked}
use Rattle.qo_sound.proofs.ReadLemmas.{plain-pointed}
use Rattle.qo_sound.proofs.SlotLemmas.{child-pointed}
use Rattle.qo_sound.proofs.ViewLemmas.{PinsRootAlone}
use Rattle.qo_model.proofs.WrittenLemmas.{SlotFound, write-comes}
use Rattle.qo_sound_devices.specs.SoundPlaces.{child_entry, PlacesBut}
use Rattle.qo_sound_devices.proofs.LikenessLemmas.{Alike}
use Rattle.qo_sound_devices.proofs.CommandLemmas.{Goes, goes-after, goes-kept, goes-then, keeps-goes}
use Rattle.qo_sound_devices.proofs.DropLemmas.{edited-slots, kept-drop, kept-edit, KeptAt}
use Rattle.qo_sound_devices.proofs.PlacesLemmas.{Keeps, keeps-none, Kept, kept-alike, of-alike, owner-live, within-same}
use Rattle.qo_sound_devices.proofs.UnrealizingLemmas.{FewerRealized, dimmed-live, entries-changed, mild-dimmed, mild-val, reads}

-- what `qom-set` may write: no property of buses, and none that places speak of
abbrev fits_places : TypeId → Property → Bool
fits_places t p =
    not (may_set p.access) ||
    ((not (is_a t (codes "bus")) && not (bytes_eq (property_name p.name) (codes "parent_bus"))) &&
    (not (bytes_eq (property_name p.name) (codes "realized")) && not (bytes_eq (property_name p.name) (codes "slot"))))

all-fit : (t : TypeId) → AllByRecursion (λ (p : Property). fits_places t p ≡ true) (slots_of t)
unfolding types
all-fit = each (λ (t : TypeId). AllByRecursion (λ (p : Property). fits_places t p ≡ true) (slots_of t)) (search rules)

pub record Fits (b : Board) (n : ℕ) (name : List ℕ) : Type 0 where
  pub no_bus : is_of b (codes "bus") n ≡ false
  pub unlinked : bytes_eq name (codes "parent_bus") ≡ false
  pub unmarked : bytes_eq name (codes "realized") ≡ false
  pub unplaced : bytes_eq name (codes "slot") ≡ false

found-fits : (t : TypeId) (name : List ℕ) (ps : List Property) → AllByRecursion (λ (p : Property). fits_places t p ≡ true) ps → (row : Property)
    → find (λ (p : Property). bytes_eq (property_name p.name) name) ps ≡ Some row
    → (fits_places t row ≡ true) × (bytes_eq (property_name row.name) name ≡ true)
found-fits t name [] h row e = cc
found-fits t name (p ∷ ps) h row e = go (bytes_eq (property_name p.name) name) refl (found-fits t name ps h.1 row)
  where
    go : (u : Bool) → bytes_eq (property_name p.name) name ≡ u
        → (find (λ (x : Property). bytes_eq (property_name x.name) name) ps ≡ Some row
        → (fits_places t row ≡ true) × (bytes_eq (property_name row.name) name ≡ true))
        → (fits_places t row ≡ true) × (bytes_eq (property_name row.name) name ≡ true)
    go true q rest = subst (λ (x : Property). (fits_places t x ≡ true) × (bytes_eq (property_name x.name) name ≡ true)) (same_Some p row (rw q at e)) (h.0, q)
    go false q rest = rest (rw q at e)

pub row-fits : (b : Board) (n : ℕ) (name : List ℕ) (row : Property) → option_and_then (λ t. property_named t name) (kind_of b n) ≡ Some row
    → may_set row.access ≡ true → Fits b n name
row-fits b n name row e may = go (kind_of b n) refl e
  where
    go : (o : Option TypeId) → kind_of b n ≡ o → option_and_then (λ t. property_named t name) o ≡ Some row → Fits b n name
    go None q k = absurd (let clash : None ≡ Some row = k in cc)
    go (Some t) q k =
        let all : (fits_places t row ≡ true) × (bytes_eq (property_name row.name) name ≡ true) = found-fits t name (slots_of t) (all-fit t) row k in
        let parts : (not (is_a t (codes "bus")) && not (bytes_eq (property_name row.name) (codes "parent_bus")))
        && (not (bytes_eq (property_name row.name) (codes "realized")) && not (bytes_eq (property_name row.name) (codes "slot"))) ≡ true =
        rw (fits_places, may) at all.0 in
        let halves : (not (is_a t (codes "bus")) && not (bytes_eq (property_name row.name) (codes "parent_bus")) ≡ true)
        × (not (bytes_eq (property_name row.name) (codes "realized")) && not (bytes_eq (property_name row.name) (codes "slot")) ≡ true) =
        and_parts (not (is_a t (codes "bus")) && not (bytes_eq (property_name row.name) (codes "parent_bus")))
        (not (bytes_eq (property_name row.name) (codes "realized")) && not (bytes_eq (property_name row.name) (codes "slot"))) parts in
        let kinds : (not (is_a t (codes "bus")) ≡ true) × (not (bytes_eq (property_name row.name) (codes "parent_bus")) ≡ true) =
        and_parts (not (is_a t (codes "bus"))) (not (bytes_eq (property_name row.name) (codes "parent_bus"))) halves.0 in
        let names : (not (bytes_eq (property_name row.name) (codes "realized")) ≡ true) × (not (bytes_eq (property_name row.name) (codes "slot")) ≡ true) =
        and_parts (not (bytes_eq (property_name row.name) (codes "realized"))) (not (bytes_eq (property_name row.name) (codes "slot"))) halves.1 in
        let its : property_name row.name ≡ name = (bytes_eq-Decides (property_name row.name) name).0 all.1 in
        record {
          no_bus = ap (λ (o : Option TypeId). option_map_or (λ (k : TypeId). is_a k (codes "bus")) o false) q ∙ not-true (is_a t (codes "bus")) kinds.0;
          unlinked =
              subst (λ (x : List ℕ). bytes_eq x (codes "parent_bus") ≡ false) its
              (not-true (bytes_eq (property_name row.name) (codes "parent_bus")) kinds.1);
          unmarked =
              subst (λ (x : List ℕ). bytes_eq x (codes "realized") ≡ false) its (not-true (bytes_eq (property_name row.name) (codes "realized")) names.0);
          unplaced = subst (λ (x : List ℕ). bytes_eq x (codes "slot") ≡ false) its (not-true (bytes_eq (property_name row.name) (codes "slot")) names.1);
        }

-- a plain value
set-kept : (b : Board) (n i : ℕ) (v : Val) (name : List ℕ) → Fits b n name → SlotFound name (slots_at b n) i → WellFormed (set n i v b) → is_live b 1 ≡ true
    → Kept b (set n i v b)
unfolding set
set-kept b n i v name fits f firm root = kept-alike b c firm (dimmed-live b c dims 1 ∙ root) refl alike
  where
    c : Board
    c = edit n (with_changed (with_val v) i) b

    own : f.entry.0 ≡ name
    own = (bytes_eq-Decides f.entry.0 name).0 f.passes

    same_named : (other : List ℕ) → bytes_eq name other ≡ false → (slots : List (List ℕ × Slot)) → slots_at b n ≡ slots
        → option_map (λ (s : List ℕ × Slot). s.1) (find (λ s. bytes_eq s.0 other) (changed_at (with_val v) i slots))
        ≡ option_map (λ (s : List ℕ × Slot). s.1) (find (λ s. bytes_eq s.0 other) slots)
    same_named other apart slots q =
        named-other (with_val v) other i slots f.entry (ap (λ (x : List (List ℕ × Slot)). slice_get x i) (sym q) ∙ f.at)
        (subst (λ (x : List ℕ). bytes_eq x other ≡ false) (sym own) apart)

    realized : (x : ℕ) → is_realized c x ≡ is_realized b x
    realized =
        reads (with_val v) n i b
        (λ slots.
        option_map_or is_true (option_and_then plain_in (option_map (λ (s : List ℕ × Slot). s.1) (find (λ s. bytes_eq s.0 (codes "realized")) slots))) false)
        (λ slots q. ap (λ (o : Option Slot). option_map_or is_true (option_and_then plain_in o) false) (same_named (codes "realized") fits.unmarked slots q))

    dims : FewerRealized b c
    dims =
        mild-dimmed (with_val v) (mild-val v) n i b (λ slots q. ap (option_and_then plain_in) (same_named (codes "slot") fits.unplaced slots q))
        (λ x q. sym (realized x) ∙ q)

    alike : (x : ℕ) → is_live c x ≡ true → Alike b c x
    alike x there = record { children = dims.children x; kids = dims.kids x; bus = dims.bus x; place = dims.place x; realized = realized x; body = dims.body x }

pub child-entry-pointed : (m : ℕ) (s : List ℕ × Slot) → child_entry (s.0, pointed m s.1) ≡ child_entry s
child-entry-pointed m (name, plain v) = refl
child-entry-pointed m (name, child k) = refl
child-entry-pointed m (name, strong t target) = refl
child-entry-pointed m (name, weak t target) = refl
child-entry-pointed m (name, alias k property) = refl

-- a link of an object that is no bus, and that is no bus's link, points elsewhere
point-kept : (depth : ℕ → ℕ) (b : Board) → PlacesBut depth None (λ x. false) b → (n i m : ℕ) (name : List ℕ) → SlotFound name (slots_at b n) i
    → bytes_eq name (codes "parent_bus") ≡ false → is_of b (codes "bus") n ≡ false → WellFormed (point n i m b) → Kept b (point n i m b)
unfolding point
point-kept depth b h n i m name f unlinked no_bus firm =
    kept-edit n (with_changed (pointed m) i) (λ r. refl) (λ r. refl) b firm (owner-live b 1 MACHINE_BIRTH h.machine) here
  where
    c : Board
    c = edit n (with_changed (pointed m) i) b

    other : {A : Type 0} → is_of b (codes "bus") n ≡ true → A
    other e = absurd (let clash : true ≡ false = sym e ∙ no_bus in cc)

    apart : bytes_eq f.entry.0 (codes "parent_bus") ≡ false
    apart = subst (λ (x : List ℕ). bytes_eq x (codes "parent_bus") ≡ false) (sym ((bytes_eq-Decides f.entry.0 name).0 f.passes)) unlinked

    at_owner : {A : Type 0} (g : List (List ℕ × Slot) → A)
        → ((slots : List (List ℕ × Slot)) → slots_at b n ≡ slots → g (changed_at (pointed m) i slots) ≡ g slots) → g (slots_at c n) ≡ g (slots_at b n)
    at_owner g same = go (record_of b n) refl
      where
        go : (o : Option Record) → record_of b n ≡ o → g (slots_at c n) ≡ g (slots_at b n)
        go None q =
            let was : slots_at b n ≡ [] = ap (λ (o : Option Record). option_map_or (λ (r : Record). r.slots) o []) q in
            let now : slots_at c n ≡ [] =
            ap (λ (o : Option Record). option_map_or (λ (r : Record). r.slots) o [])
            (found-edited n (with_changed (pointed m) i) (λ r. refl) n b.records ∙ ap (option_map (edited n (with_changed (pointed m) i))) q) in
            ap g (now ∙ sym was)
        go (Some r) q =
            let was : slots_at b n ≡ r.slots = ap (λ (o : Option Record). option_map_or (λ (y : Record). y.slots) o []) q in
            ap g (edited-slots b n (with_changed (pointed m) i) (λ y. refl) r q) ∙ same r.slots was ∙ sym (ap g was)

    plains : (own : List ℕ)
        → option_and_then plain_in (option_map (λ (s : List ℕ × Slot). s.1) (find (λ s. bytes_eq s.0 own) (slots_at c n)))
        ≡ option_and_then plain_in (option_map (λ (s : List ℕ × Slot). s.1) (find (λ s. bytes_eq s.0 own) (slots_at b n)))
    plains own =
        at_owner (λ slots. option_and_then plain_in (option_map (λ (s : List ℕ × Slot). s.1) (find (λ s. bytes_eq s.0 own) slots)))
        (λ slots q. named-changed plain_in (pointed m) (plain-pointed m) own i slots)

    here : KeptAt b c n
    here =
        record {
          realized = ap (λ (o : Option Val). option_map_or is_true o false) (plains (codes "realized"));
          bus =
              λ k. at_owner (λ slots. option_and_then strong_in (option_map (λ (s : List ℕ × Slot). s.1) (find (λ s. bytes_eq s.0 (codes "parent_bus")) slots)))
              (λ slots q. ap (option_and_then strong_in)
              (named-other (pointed m) (codes "parent_bus") i slots f.entry (ap (λ (x : List (List ℕ × Slot)). slice_get x i) (sym q) ∙ f.at) apart));
          place = λ k. ap (option_and_then number_in) (plains (codes "slot"));
          children = λ k. at_owner (filter_map child_entry) (λ slots q. entries-changed child_entry (pointed m) (child-entry-pointed m) i slots);
          kids = λ k o. other k;
          fewer = other;
          within = within-same (at_owner (filter_map child_entry) (λ slots q. entries-changed child_entry (pointed m) (child-entry-pointed m) i slots));
        }

-- a link that was let go keeps its name
name-kept : (i : ℕ) (slots : List (List ℕ × Slot)) (s : List ℕ × Slot) (left : Slot) → slice_get slots i ≡ Some s → emptied s.1 ≡ Some left
    → slice_get (without_hold i slots) i ≡ Some (s.0, left)
name-kept i [] s left e q = cc
name-kept zero (x ∷ slots) s left e q =
    let is : emptied x.1 ≡ Some left = ap (λ (y : List ℕ × Slot). emptied y.1) (same_Some x s e) ∙ q in
    rw (without_hold, is) (ap (λ (y : List ℕ × Slot). Some (y.0, left)) (same_Some x s e))
name-kept (suc i) (x ∷ slots) s left e q = name-kept i slots s left e q

-- a link is written
left-link : (t : TypeId) (s : Slot) → IsLink t s
    → (left : Slot) × ((emptied s ≡ Some left) × ((kinds : ℕ → Option TypeId) (m : ℕ) → FitsKind kinds t (Some m) → Linked kinds (pointed m left)))
left-link t (strong u target) (holding to) = (strong t None, (refl, λ kinds m f. f))
left-link t (weak u target) (seeing to) = (weak t None, (refl, λ kinds m f. f))
left-link t (plain v) l = elim l [ ]
left-link t (child m) l = elim l [ ]
left-link t (alias m property) l = elim l [ ]

set-pins : (n i : ℕ) (v : Val) (b : Board) → among b.pins 1 ≡ true → among (set n i v b).pins 1 ≡ true
unfolding set
set-pins n i v b e = e

relinked-places : (depth : ℕ → ℕ) (b : Board) (n i : ℕ) (name : List ℕ) (t : TypeId) (s : Slot) → Fits b n name → SlotFound name (slots_at b n) i
    → IsLink t s → slot_at b n i ≡ Some s → (target : Option ℕ) → FitsKind (kind_of b) t target → PinsRootAlone b → PlacesBut depth None (λ x. false) b
    → Keeps depth b (relinked b n i target)
unfolding drop_slot point
relinked-places depth b n i name t s fits f link e target fits_target rest h = rw (relinked, e) (ends target fits_target refl)
  where
    at : StandsAt b n i s
    at = stands-at b n i s e

    same_entry : f.entry ≡ at.entry
    same_entry = same_Some f.entry at.entry (sym f.at ∙ ap (λ (o : Option Record). slice_get (option_map_or (λ (x : Record). x.slots) o []) i) at.found ∙ at.at)

    c : Board
    c = drop_slot b n i

    root : is_live b 1 ≡ true
    root = owner-live b 1 MACHINE_BIRTH h.machine

    pinned : among b.pins 1 ≡ true
    pinned = ap (λ (ps : List ℕ). among ps 1) rest.pinned

    kept : Kept b c
    kept =
        kept-drop b rest.used.firm root n i at.entry at.owner at.found at.at
        (λ k.
        inr
        (subst (λ (x : List ℕ × Slot). bytes_eq x.0 (codes "parent_bus") ≡ false) same_entry
        (subst (λ (x : List ℕ). bytes_eq x (codes "parent_bus") ≡ false) (sym ((bytes_eq-Decides f.entry.0 name).0 f.passes)) fits.unlinked)))
        (λ k. ap child_of at.is ∙ link-childless t s link)
        (λ k o. absurd (let clash : true ≡ false = sym k ∙ fits.no_bus in cc))

    first : Goes depth None (λ x. false) b c
    first = goes-kept depth None (λ x. false) b c kept pinned h

    named_after : (left : Slot) → emptied s ≡ Some left → SlotFound name (slots_at c n) i
    named_after left leaves =
        record {
          entry = (at.entry.0, left);
          at =
              ap (λ (ss : List (List ℕ × Slot)). slice_get ss i) (edited-slots b n (with_dropped i) (λ x. refl) at.owner at.found)
              ∙ name-kept i at.owner.slots at.entry left at.at (ap emptied at.is ∙ leaves);
          passes = subst (λ (x : List ℕ × Slot). bytes_eq x.0 name ≡ true) same_entry f.passes;
        }

    live_n : is_live c n ≡ true
    live_n = drop-live b n i n ∙ ap is_some at.found

    ends : (to : Option ℕ) → FitsKind (kind_of b) t to → to ≡ target → Keeps depth b (after finalize (pointed_at to n i c) (referent s))
    ends to fits_to is =
        keeps-goes depth b (after finalize (pointed_at to n i c) (referent s))
        (goes-then depth None (λ x. false) b (pointed_at to n i c) (after finalize (pointed_at to n i c) (referent s)) (middle to fits_to)
        (goes-after depth None (λ x. false) (pointed_at to n i c) (referent s) firm_after (pins_to to) (middle to fits_to).places))
      where
        near_firm : WellFormed (relinked b n i to)
        near_firm = (near-relinked b n i t s link e to fits_to rest.used).firm

        firm_after : WellFormed (after finalize (pointed_at to n i c) (referent s))
        firm_after = rw (relinked, e) at near_firm

        pins_to : (goal : Option ℕ) → among (pointed_at goal n i c).pins 1 ≡ true
        pins_to None = pinned
        pins_to (Some m) = pinned

        middle : (goal : Option ℕ) → FitsKind (kind_of b) t goal → Goes depth None (λ x. false) b (pointed_at goal n i c)
        middle None k = first
        middle (Some m) k =
            let (left, (leaves, points)) = left-link t s link in
            let empty : slot_at c n i ≡ Some left = emptied-at b n i s left e leaves in
            let same_kinds : kind_of c ≡ kind_of b = edited-kinds n (with_dropped i) (λ r. refl) (λ r. refl) b in
            let firm : WellFormed (point n i m c) =
            firm-changed (pointed m) (child-pointed m) c n i
            (λ x q old.
            subst (λ (y : Slot). Linked (kind_of c) (pointed m y)) (same_Some left x (sym empty ∙ q))
            (subst (λ (kinds : ℕ → Option TypeId). Linked kinds (pointed m left)) (sym same_kinds) (points (kind_of b) m k)))
            (firm-drop b n i rest.used.firm) in
            let no_bus : is_of c (codes "bus") n ≡ false = of-alike b c n (codes "bus") (kept.body n live_n) ∙ fits.no_bus in
            goes-then depth None (λ x. false) b c (point n i m c) first
            (goes-kept depth None (λ x. false) c (point n i m c)
            (point-kept depth c first.places n i m name (named_after left leaves) fits.unlinked no_bus firm) pinned first.places)

pub write-places : (depth : ℕ → ℕ) (b : Board) (n : ℕ) (name : List ℕ) (v : Val) → PinsRootAlone b → PlacesBut depth None (λ x. false) b
    → Keeps depth b (after_write b (write b n name v))
write-places depth b n name v rest h = write-comes (Keeps depth b) b (keeps-none depth b h) n name v (λ i t p kind e may.
    let fits_row : Fits b n name = row-fits b n name p (ap (option_and_then (λ k. property_named k name)) kind ∙ e) may in
    let found : (s : Slot) → slice_get (slots_at b n) i ≡ Some (name, s) → SlotFound name (slots_at b n) i =
    λ s at. record { entry = (name, s); at = at; passes = (bytes_eq-Decides name name).1 refl } in
    let there : (s : Slot) → slice_get (slots_at b n) i ≡ Some (name, s) → slot_at b n i ≡ Some s = λ s at. ap (option_map (λ (x : List ℕ × Slot). x.1)) at in
    record {
      value = λ old at type first is fits.
          keeps-goes depth b (set n i v b) (goes-kept depth None (λ x. false) b (set n i v b)
          (set-kept b n i v name fits_row (found (plain old) at) (near-set b n i v old (there (plain old) at) rest.used).firm
          (owner-live b 1 MACHINE_BIRTH h.machine))
          (set-pins n i v b (ap (λ (ps : List ℕ). among ps 1) rest.pinned)) h);
      link = λ u s left link leaves at to holds is path target told.
          relinked-places depth b n i name u s fits_row (found s at) link (there s at) target (target-fit b u path target told) rest h;
    })
