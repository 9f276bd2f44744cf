-- Who shows at an address: a device that stands in its place, or what a board boots from.
use Rattle.std.proofs.Common.{◌≡◌, refl, sym, ap, subst, ◌∙◌, ℕ, zero, suc, ◌+◌, ◌-◌, ◌<◌, ◌≤◌, ◌%◌, ◌==◌, Bool, true, false, cond, nat_lt, eqb, List, [], ◌∷◌, ◌++◌, get_or, map, length, codes, Option, Some, None, option_map, arith, ⊎_elim}
use Rattle.std.specs.Int.Signed.{le_z}
use Rattle.std.specs.Option.{option_map_or}
use Rattle.std.proofs.lemmas.Bool.{cases_lt}
use Rattle.qo_values.specs.declared.births.TheConstants.{MEMORY_BUS_BIRTH, ROOT_BUS_BIRTH}
use Rattle.qo_memmap.specs.Regions.{Area, Seen, Target, area_at, area_shows, child_shows, children_show, kind_shows, or_itself, over, shows_at, shows_within}
use Rattle.qo_memmap.specs.declared.region.Kind.{Kind}
use Rattle.qo_memmap.specs.declared.region.Kind.TheVariants.{Container, Leaf, Alias}
use Rattle.qo_memmap.specs.declared.region.Place.{Place}
use Rattle.qo_model.specs.Board.{Board}
use Rattle.qo_model.specs.Depth.{among}
use Rattle.qo_model.specs.Devices.{depth_of}
use Rattle.qo_model.specs.Paths.{is_of}
use Rattle.qo_model.specs.Reset.{below, post}
use Rattle.qo_sound.proofs.TestLemmas.{clash, decide}
use Rattle.qo_sound_devices.specs.SoundDevices.{SoundDevices}
use Rattle.qo_sound_devices.specs.SoundPlaces.{stands}
use Rattle.qo_sound_phases.proofs.ForestLemmas.{Reach, further, itself}
use Rattle.qo_sound_phases.proofs.ListLemmas.{among-cases}
use Rattle.qo_sound_phases.proofs.ResetTreeLemmas.{leads-cases, placed, post-reach}
use Rattle.qo_layout.specs.Layout.{board_map, bus_of_slots, device_leaf, mapped, memory_window, region_of, register_at, register_in, root_number, slot_size}
use Rattle.qo_layout.specs.declared.addresses.TheConstants.{BOOT_LEAF}
use Rattle.qo_layout.specs.declared.views.RegisterPlace.{RegisterPlace}
use Rattle.qo_layout.specs.declared.views.TheConstants.{REGISTER_SIZE}
use Rattle.qo_layout.proofs.RegionLemmas.{last-at, mapped-in, member-at}

-- Leaves.

-- a leaf of one of the regions
record IsLeaf (areas : List Area) (d : ℕ) : Type 0 where
  region : ℕ
  is : (area_at areas region).kind ≡ Leaf d

-- what regions show is of a leaf, if what those show that they name is
abbrev FromLeaf : List Area → (ℕ → ℕ → Option Target) → Type 0
FromLeaf areas shows = (r a : ℕ) (t : Target) → shows r a ≡ Some t → IsLeaf areas t.leaf

child-leaf : (areas : List Area) (shows : ℕ → ℕ → Option Target) → FromLeaf areas shows → (place : Place) (a : ℕ) (seen : Seen)
    → child_shows shows place a ≡ Some seen → IsLeaf areas seen.target.leaf
child-leaf areas shows from place a seen e = go (nat_lt a place.at) e
  where
    shown : (o : Option Target) → shows place.region (a - place.at) ≡ o
        → option_map (λ (t : Target). record { priority = place.priority; target = t }) o ≡ Some seen → IsLeaf areas seen.target.leaf
    shown None is e = absurd (let no : None ≡ Some seen = e in cc)
    shown (Some t) is e =
        let same : t ≡ seen.target = cc in
        subst (λ (x : Target). IsLeaf areas x.leaf) same (from place.region (a - place.at) t is)

    go : (t : Bool) → cond t None (option_map (λ (t : Target). record { priority = place.priority; target = t }) (shows place.region (a - place.at))) ≡ Some seen
        → IsLeaf areas seen.target.leaf
    go true e = absurd (let no : None ≡ Some seen = e in cc)
    go false e = shown (shows place.region (a - place.at)) refl e

over-leaf : (areas : List Area) (first later : Option Seen) (seen : Seen) → ((s : Seen) → first ≡ Some s → IsLeaf areas s.target.leaf)
    → ((s : Seen) → later ≡ Some s → IsLeaf areas s.target.leaf) → over first later ≡ Some seen → IsLeaf areas seen.target.leaf
over-leaf areas first None seen one other e = one seen e
over-leaf areas None (Some later) seen one other e = other seen e
over-leaf areas (Some first) (Some later) seen one other e = go (le_z first.priority later.priority) e
  where
    go : (t : Bool) → cond t (Some later) (Some first) ≡ Some seen → IsLeaf areas seen.target.leaf
    go true e = other seen e
    go false e = one seen e

children-leaf : (areas : List Area) (shows : ℕ → ℕ → Option Target) → FromLeaf areas shows → (places : List Place) (a : ℕ) (seen : Seen)
    → children_show shows places a ≡ Some seen → IsLeaf areas seen.target.leaf
children-leaf areas shows from [] a seen e = absurd (let no : None ≡ Some seen = e in cc)
children-leaf areas shows from (place ∷ places) a seen e =
    over-leaf areas (child_shows shows place a) (children_show shows places a) seen (λ s is. child-leaf areas shows from place a s is)
    (λ s is. children-leaf areas shows from places a s is) e

kind-leaf : (areas : List Area) (shows : ℕ → ℕ → Option Target) → FromLeaf areas shows → (r : ℕ) (kind : Kind) (a : ℕ) (t : Target)
    → (area_at areas r).kind ≡ kind → kind_shows shows kind a ≡ Some t → IsLeaf areas t.leaf
kind-leaf areas shows from r Container a t is e = absurd (let no : None ≡ Some t = e in cc)
kind-leaf areas shows from r (Leaf leaf) a t is e =
    let same : leaf ≡ t.leaf = cc in record { region = r; is = is ∙ ap Leaf same }
kind-leaf areas shows from r (Alias region offset) a t is e = from region (a + offset) t e

area-leaf : (areas : List Area) (shows : ℕ → ℕ → Option Target) → FromLeaf areas shows → (r a : ℕ) (t : Target)
    → area_shows shows (area_at areas r) a ≡ Some t → IsLeaf areas t.leaf
area-leaf areas shows from r a t e = go (nat_lt a (area_at areas r).size) e
  where
    area : Area
    area = area_at areas r

    shown : (o : Option Seen) → children_show shows area.children a ≡ o → or_itself o (kind_shows shows area.kind a) ≡ Some t → IsLeaf areas t.leaf
    shown None is e = kind-leaf areas shows from r area.kind a t refl e
    shown (Some seen) is e =
        let same : seen.target ≡ t = cc in
        subst (λ (x : Target). IsLeaf areas x.leaf) same (children-leaf areas shows from area.children a seen is)

    go : (b : Bool) → cond b (or_itself (children_show shows area.children a) (kind_shows shows area.kind a)) None ≡ Some t → IsLeaf areas t.leaf
    go true e = shown (children_show shows area.children a) refl e
    go false e = absurd (let no : None ≡ Some t = e in cc)

shown-leaf : (n : ℕ) (areas : List Area) → FromLeaf areas (shows_within n areas)
unfolding shows_within
shown-leaf zero areas r a t e = absurd (let no : None ≡ Some t = e in cc)
shown-leaf (suc n) areas r a t e = area-leaf areas (shows_within n areas) (shown-leaf n areas) r a t e

-- Leaves of a board.

-- a device with a region, which is no bus
record IsMapped (b : Board) (d : ℕ) : Type 0 where
  there : among (mapped b) d ≡ true
  no_bus : is_of b (codes "bus") d ≡ false

leaf-of : (b : Board) (o d : ℕ) → among (mapped b) o ≡ true → (region_of b o).kind ≡ Leaf d → IsMapped b d
leaf-of b o d there e = memory (o == MEMORY_BUS_BIRTH) e
  where
    bus : (t : Bool) → is_of b (codes "bus") o ≡ t → (cond t (bus_of_slots b o (slot_size (depth_of b o))) (device_leaf b o)).kind ≡ Leaf d → IsMapped b d
    bus true is e = absurd (let no : Container ≡ Leaf d = e in cc)
    bus false is e =
        let same : o ≡ d = cc in
        record { there = subst (λ (x : ℕ). among (mapped b) x ≡ true) same there; no_bus = subst (λ (x : ℕ). is_of b (codes "bus") x ≡ false) same is }

    memory : (t : Bool) → (cond t (memory_window b) (cond (is_of b (codes "bus") o) (bus_of_slots b o (slot_size (depth_of b o))) (device_leaf b o))).kind ≡ Leaf d → IsMapped b d
    memory true e = absurd (let no : Container ≡ Leaf d = e in cc)
    memory false e = bus (is_of b (codes "bus") o) refl e

leaf-behind : (b : Board) (n d : ℕ) → (area_at (board_map b) (length (mapped b) + n)).kind ≡ Leaf d → (d == BOOT_LEAF) ≡ false → IsMapped b d
leaf-behind b zero d e apart =
    let is : Leaf BOOT_LEAF ≡ Leaf d = sym (ap (λ (area : Area). area.kind) (last-at b 0)) ∙ e in
    let same : BOOT_LEAF ≡ d = cc in
    clash (sym (subst (λ (x : ℕ). (x == BOOT_LEAF) ≡ true) same refl) ∙ apart)
leaf-behind b (suc zero) d e apart = absurd (let no : Alias _ 0 ≡ Leaf d = sym (ap (λ (area : Area). area.kind) (last-at b 1)) ∙ e in cc)
leaf-behind b (suc (suc zero)) d e apart = absurd (let no : Container ≡ Leaf d = sym (ap (λ (area : Area). area.kind) (last-at b 2)) ∙ e in cc)
leaf-behind b (suc (suc (suc n))) d e apart =
    absurd (let no : Container ≡ Leaf d = sym (ap (λ (area : Area). area.kind) (last-at b (suc (suc (suc n))))) ∙ e in cc)

leaf-mapped : (b : Board) (d : ℕ) → IsLeaf (board_map b) d → (d == BOOT_LEAF) ≡ false → IsMapped b d
leaf-mapped b d leaf apart =
    ⊎_elim
    (λ low.
    let member = member-at leaf.region (mapped b) low in
    leaf-of b (get_or (mapped b) leaf.region 0) d member.0
    (sym (ap (λ (area : Area). area.kind) (mapped-in (region_of b) _ _ leaf.region (mapped b) low)) ∙ leaf.is))
    (λ high.
    let same : length (mapped b) + (leaf.region - length (mapped b)) ≡ leaf.region = omega arith in
    leaf-behind b (leaf.region - length (mapped b)) d (ap (λ (r : ℕ). (area_at (board_map b) r).kind) same ∙ leaf.is) apart)
    (cases_lt leaf.region (length (mapped b)))

-- Who stands.

reach-stands : (b : Board) (h : SoundDevices b) (r d : ℕ) → is_of b (codes "bus") r ≡ true → Reach (below b) r d → is_of b (codes "bus") d ≡ false
    → stands b d ≡ true
reach-stands b h r d bus itself apart = clash (sym bus ∙ apart)
reach-stands b h r d bus (further {p} i e) apart =
    leads-cases b (placed b h) p d e (λ its there on. there) (λ other is own. clash (sym is ∙ apart))

mapped-stands : (b : Board) (h : SoundDevices b) (d : ℕ) → is_of b (codes "bus") ROOT_BUS_BIRTH ≡ true → is_of b (codes "bus") MEMORY_BUS_BIRTH ≡ true
    → IsMapped b d → stands b d ≡ true
mapped-stands b h d root memory m =
    among-cases d (post b ROOT_BUS_BIRTH) (post b MEMORY_BUS_BIRTH) m.there
    (λ i. reach-stands b h ROOT_BUS_BIRTH d root (post-reach b (placed b h) ROOT_BUS_BIRTH d i) m.no_bus)
    (λ i. reach-stands b h MEMORY_BUS_BIRTH d memory (post-reach b (placed b h) MEMORY_BUS_BIRTH d i) m.no_bus)

-- the device whose register shows at an address stands, but for what the board boots from
pub shown-stands : (b : Board) (h : SoundDevices b) → is_of b (codes "bus") ROOT_BUS_BIRTH ≡ true → is_of b (codes "bus") MEMORY_BUS_BIRTH ≡ true → (at : ℕ)
    (place : RegisterPlace) → register_at b at ≡ Some place → (place.device == BOOT_LEAF) ≡ false → stands b place.device ≡ true
shown-stands b h root memory at place e apart = go (at % REGISTER_SIZE == 0) e
  where
    shown : (o : Option Target) → shows_at (board_map b) (root_number b) at ≡ o → option_map register_in o ≡ Some place → stands b place.device ≡ true
    shown None is e = absurd (let no : None ≡ Some place = e in cc)
    shown (Some t) is e =
        let same : t.leaf ≡ place.device = ap (λ (o : Option RegisterPlace). option_map_or (λ (p : RegisterPlace). p.device) o 0) e in
        let leaf : IsLeaf (board_map b) place.device =
        subst (IsLeaf (board_map b)) same (shown-leaf (suc (root_number b)) (board_map b) (root_number b) at t is)
        in
        mapped-stands b h place.device root memory (leaf-mapped b place.device leaf apart)

    go : (t : Bool) → cond t (option_map register_in (shows_at (board_map b) (root_number b) at)) None ≡ Some place → stands b place.device ≡ true
    go true e = shown (shows_at (board_map b) (root_number b) at) refl e
    go false e = absurd (let no : None ≡ Some place = e in cc)
