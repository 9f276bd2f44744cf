-- How deep the regions of a board stand in one another.
use Rattle.std.proofs.Common.{◌≡◌, refl, ap, sym, subst, ◌∙◌, ℕ, zero, suc, ◌+◌, ◌-◌, ◌*◌, ◌/◌, ◌<◌, ◌≤◌, true, false, ◌==◌, ltb, List, [], ◌∷◌, ◌++◌, take, Option, Some, None, codes, inl, inr, ◌⊎◌, arith}
use Rattle.std.specs.List.{AllByRecursion, flat_map}
use Rattle.std.specs.Option.{option_map_or}
use Rattle.std.proofs.lemmas.Bool.{eqb-true, ltb-true, ltb-false}
use Rattle.std.proofs.lemmas.List.{get_or_past, length-take}
use Rattle.qo_values.specs.Placing.{window_start}
use Rattle.qo_values.specs.declared.births.TheConstants.{MEMORY_BUS_BIRTH, ROOT_BUS_BIRTH}
use Rattle.qo_model.specs.Board.{Board}
use Rattle.qo_model.specs.Depth.{among}
use Rattle.qo_model.specs.Devices.{depth_of, first_bus, kid_at}
use Rattle.qo_model.specs.Paths.{is_of}
use Rattle.qo_sound.proofs.TestLemmas.{decide, clash}
use Rattle.qo_sound_devices.specs.SoundDevices.{SoundDevices}
use Rattle.qo_sound_devices.specs.SoundPlaces.{HasOwner, machines, stands}
use Rattle.qo_sound_phases.proofs.ResetTreeLemmas.{Placed, placed as places-of, stands-no_bus}
use Rattle.qo_sound_shapes.specs.SoundShape.{SoundShape}
use Rattle.qo_memmap.specs.Regions.{Area, area_at, area_rank, children_rank, rank_at, rank_within}
use Rattle.qo_memmap.specs.declared.region.Kind.TheVariants.{Container}
use Rattle.qo_memmap.specs.declared.region.Place.{Place}
use Rattle.qo_layout.specs.Layout.{board_map, boot_number, device_places, low_alias, low_number, mapped, memory_places, number_of, placed, range_of, region_of, root_region, slot_places, slot_size, slots_of_bus}
use Rattle.qo_layout.proofs.MapLemmas.{memory-is, root-is}
use Rattle.qo_layout.proofs.RegionLemmas.{IsBusBelow, IsKidAt, boot-at, bus-below, bus-on, kid-below, kid-on, low-at, mapped-below, mapped-cases, memory-mapped, region-at, root-mapped}

-- regions that children name stand less deep than so
children-most : (rank : ℕ → ℕ) (most : ℕ) (places : List Place) → AllByRecursion (λ (p : Place). rank p.region + 1 ≤ most) places
    → children_rank rank places ≤ most
children-most rank most [] h = omega arith
children-most rank most (p ∷ places) h = omega (arith, h.0, children-most rank most places h.1)

all-joined : (P : Place → Type 0) (xs ys : List Place) → AllByRecursion P xs → AllByRecursion P ys → AllByRecursion P (xs ++ ys)
all-joined P [] ys h k = k
all-joined P (x ∷ xs) ys h k = (h.0, all-joined P xs ys h.1 k)

all-by_slot : (P : Place → Type 0) (places : ℕ → List Place) (slots : List ℕ) → ((i : ℕ) → AllByRecursion P (places i)) → AllByRecursion P (flat_map places slots)
all-by_slot P places [] each = tt
all-by_slot P places (i ∷ slots) each = all-joined P (places i) (flat_map places slots) (each i) (all-by_slot P places slots each)

-- the region of a number among the first ones, or none
taken-at : (areas : List Area) (k r : ℕ) → r < k → area_at (take k areas) r ≡ area_at areas r
taken-at [] zero r less = absurd (omega arith)
taken-at [] (suc k) r less = refl
taken-at (x ∷ areas) zero r less = absurd (omega arith)
taken-at (x ∷ areas) (suc k) zero less = refl
taken-at (x ∷ areas) (suc k) (suc r) less = taken-at areas k r (omega arith)

none-at : (areas : List Area) (k r : ℕ) → k ≤ r → area_at (take k areas) r ≡ record { size = 0; kind = Container; children = [] }
none-at areas k r past = get_or_past (take k areas) r (record { size = 0; kind = Container; children = [] }) (omega (arith, length-take {A = Area} k areas))

-- a rank among the first ones is at most that of the region where this is there, and else 0
rank-at : (areas : List Area) (k n r most : ℕ) → area_rank (rank_within n (take k areas)) (area_at areas r) ≤ most
    → rank_within (suc n) (take k areas) r ≤ most
unfolding rank_within
rank-at areas k n r most low =
    decide (ltb r k)
    (λ e. let same : area_at (take k areas) r ≡ area_at areas r = taken-at areas k r (ltb-true r k e) in rw same low)
    (λ e.
    let none : area_at (take k areas) r ≡ record { size = 0; kind = Container; children = [] } = none-at areas k r (ltb-false r k e) in
    rw none (omega arith))

module _ (b : Board) (h : SoundDevices b) (shape : SoundShape b) where
  abbrev pub k : Placed b
  k = places-of b h

  -- how deep regions may stand at most, by a rank of numbers
  pub record AreShallow (rank : ℕ → ℕ) : Type 0 where
    pub devices : (d : ℕ) → among (mapped b) d ≡ true → stands b d ≡ true → rank (number_of b d) ≤ 0
    pub buses : (q : ℕ) → among (mapped b) q ≡ true → is_of b (codes "bus") q ≡ true → HasOwner b q → (q == MEMORY_BUS_BIRTH) ≡ false
        → rank (number_of b q) + k.depth q ≤ 9
    pub memory : rank (number_of b MEMORY_BUS_BIRTH) ≤ 1
    pub boot : rank (boot_number b) ≤ 0
    pub low : rank (low_number b) ≤ 2

  -- so what these make of a region is
  device-area : (rank : ℕ → ℕ) (d : ℕ) → stands b d ≡ true → area_rank rank (region_of b d) ≤ 0
  device-area rank d stood = rw (off-memory, stands-no_bus b k d stood) (omega arith)
    where
      off-memory : (d == MEMORY_BUS_BIRTH) ≡ false
      off-memory =
          decide (d == MEMORY_BUS_BIRTH) (λ p. clash (sym stood ∙ ap (stands b) (eqb-true d MEMORY_BUS_BIRTH p) ∙ k.places.aside.1.1.1.1.1.0)) (λ p. p)

  module _ (rank : ℕ → ℕ) (so : AreShallow rank) where
    bus-area : (q : ℕ) → among (mapped b) q ≡ true → is_of b (codes "bus") q ≡ true → HasOwner b q → (q == MEMORY_BUS_BIRTH) ≡ false
        → area_rank rank (region_of b q) + k.depth q ≤ 9
    bus-area q e is own apart =
        let most : k.depth q ≤ 8 = k.places.shallow.most q own in
        let all : children_rank rank (flat_map (slot_places b q (slot_size (depth_of b q))) slots_of_bus) ≤ 9 - k.depth q =
        children-most rank (9 - k.depth q) (flat_map (slot_places b q (slot_size (depth_of b q))) slots_of_bus)
        (all-by_slot (λ (p : Place). rank p.region + 1 ≤ 9 - k.depth q) (slot_places b q (slot_size (depth_of b q))) slots_of_bus
        (λ i. by_kid i (kid_at b q i) refl)) in
        rw (apart, is) (omega (arith, all, most))
      where
        kid : (i d : ℕ) → IsKidAt b h q i d → rank (number_of b d) + 1 ≤ 9 - k.depth q
        kid i d its =
            let none : rank (number_of b d) ≤ 0 = so.devices d (mapped-below b h q d e (kid-below b h q i d its)) its.stood in
            omega (arith, none, k.places.shallow.most q own)

        by_bus : (i d : ℕ) → IsKidAt b h q i d → (size : ℕ) (o : Option ℕ) → first_bus b d ≡ o
            → AllByRecursion (λ (p : Place). rank p.region + 1 ≤ 9 - k.depth q) (placed b d (i * size) ∷ option_map_or (λ m. placed b m (i * size + size / 2) ∷ []) o [])
        by_bus i d its size None f = (kid i d its, tt)
        by_bus i d its size (Some m) f =
            let bus : IsBusBelow b h q m = bus-on b h q i d m its f in
            let there : among (mapped b) m ≡ true = mapped-below b h d m (mapped-below b h q d e (kid-below b h q i d its)) (bus-below b h q i d m its f) in
            let less : rank (number_of b m) + k.depth m ≤ 9 = so.buses m there bus.is_bus bus.owner bus.apart in
            let deeper : k.depth m ≡ suc (k.depth q) = bus.deeper in
            (kid i d its, (omega (arith, less, deeper), tt))

        by_kid : (i : ℕ) (o : Option ℕ) → kid_at b q i ≡ o
            → AllByRecursion (λ (p : Place). rank p.region + 1 ≤ 9 - k.depth q)
            (option_map_or (device_places b (i * slot_size (depth_of b q)) (slot_size (depth_of b q))) o [])
        by_kid i None f = tt
        by_kid i (Some d) f = by_bus i d (kid-on b h q i d is f) (slot_size (depth_of b q)) (first_bus b d) refl

    memory-area : area_rank rank (region_of b MEMORY_BUS_BIRTH) ≤ 1
    memory-area =
        let all : children_rank rank (flat_map (memory_places b) slots_of_bus) ≤ 1 =
        children-most rank 1 (flat_map (memory_places b) slots_of_bus)
        (all-by_slot (λ (p : Place). rank p.region + 1 ≤ 1) (memory_places b) slots_of_bus (λ i. by_kid i (kid_at b MEMORY_BUS_BIRTH i) refl)) in
        omega (arith, all)
      where
        by_kid : (i : ℕ) (o : Option ℕ) → kid_at b MEMORY_BUS_BIRTH i ≡ o
            → AllByRecursion (λ (p : Place). rank p.region + 1 ≤ 1) (option_map_or (λ d. placed b d ((range_of b d).address - window_start) ∷ []) o [])
        by_kid i None f = tt
        by_kid i (Some d) f =
            let its : IsKidAt b h MEMORY_BUS_BIRTH i d = kid-on b h MEMORY_BUS_BIRTH i d (memory-is b shape) f in
            let none : rank (number_of b d) ≤ 0 =
            so.devices d (mapped-below b h MEMORY_BUS_BIRTH d (memory-mapped b h) (kid-below b h MEMORY_BUS_BIRTH i d its)) its.stood in
            (omega (arith, none), tt)

    pub low-area : area_rank rank (low_alias b) ≤ 2
    low-area = let least = so.memory in omega (arith, least)

    pub object-area : (o : ℕ) → among (mapped b) o ≡ true → area_rank rank (region_of b o) ≤ 9
    object-area o e = by (mapped-cases b h (root-is b shape) (memory-is b shape) o e)
      where
        by : ((is_of b (codes "bus") o ≡ true) × HasOwner b o) ⊎ (stands b o ≡ true) → area_rank rank (region_of b o) ≤ 9
        by (inr s) = let none = device-area rank o s in omega (arith, none)
        by (inl its) =
            decide (o == MEMORY_BUS_BIRTH)
            (λ p. subst (λ (x : ℕ). area_rank rank (region_of b x) ≤ 9) (sym (eqb-true o MEMORY_BUS_BIRTH p)) (let one = memory-area in omega (arith, one)))
            (λ p. let less = bus-area o e its.0 its.1 p in omega (arith, less))

    pub root-area : area_rank rank (root_region b) ≤ 10
    root-area =
        let root = so.buses ROOT_BUS_BIRTH (root-mapped b h) (root-is b shape) (machines refl) refl in
        omega (arith, root, so.memory, so.boot, so.low)

  -- at any number of turns, and so the ranks themselves
  shallow-within : (first n : ℕ) → AreShallow (rank_within n (take first (board_map b)))
  unfolding rank_within
  shallow-within first zero =
      record {
        devices = λ d e s. omega arith;
        buses = λ q e is own apart. (let most : k.depth q ≤ 8 = k.places.shallow.most q own in omega (arith, most));
        memory = omega arith;
        boot = omega arith;
        low = omega arith;
      }
  shallow-within first (suc n) = go (shallow-within first n)
    where
      go : AreShallow (rank_within n (take first (board_map b))) → AreShallow (rank_within (suc n) (take first (board_map b)))
      go so =
          record {
            devices = λ d e s.
                rank-at (board_map b) first n (number_of b d) 0
                (subst (λ (area : Area). area_rank (rank_within n (take first (board_map b))) area ≤ 0) (sym (region-at b d e))
                (device-area (rank_within n (take first (board_map b))) d s));
            buses = λ q e is own apart.
                (let less = bus-area (rank_within n (take first (board_map b))) so q e is own apart in
                let most : k.depth q ≤ 8 = k.places.shallow.most q own in
                let low : rank_within (suc n) (take first (board_map b)) (number_of b q) ≤ 9 - k.depth q =
                rank-at (board_map b) first n (number_of b q) (9 - k.depth q)
                (subst (λ (area : Area). area_rank (rank_within n (take first (board_map b))) area ≤ 9 - k.depth q) (sym (region-at b q e)) (omega (arith, less))) in
                omega (arith, low, most));
            memory =
                rank-at (board_map b) first n (number_of b MEMORY_BUS_BIRTH) 1
                (subst (λ (area : Area). area_rank (rank_within n (take first (board_map b))) area ≤ 1) (sym (region-at b MEMORY_BUS_BIRTH (memory-mapped b h)))
                (memory-area (rank_within n (take first (board_map b))) so));
            boot =
                rank-at (board_map b) first n (boot_number b) 0
                (subst (λ (area : Area). area_rank (rank_within n (take first (board_map b))) area ≤ 0) (sym (boot-at b)) (omega arith));
            low =
                rank-at (board_map b) first n (low_number b) 2
                (subst (λ (area : Area). area_rank (rank_within n (take first (board_map b))) area ≤ 2) (sym (low-at b))
                (low-area (rank_within n (take first (board_map b))) so));
          }

  pub shallow-at : (first : ℕ) → AreShallow (rank_at (take first (board_map b)))
  shallow-at first =
      record {
        devices = λ d e s. (shallow-within first (suc (number_of b d))).devices d e s;
        buses = λ q e is own apart. (shallow-within first (suc (number_of b q))).buses q e is own apart;
        memory = (shallow-within first (suc (number_of b MEMORY_BUS_BIRTH))).memory;
        boot = (shallow-within first (suc (boot_number b))).boot;
        low = (shallow-within first (suc (low_number b))).low;
      }
