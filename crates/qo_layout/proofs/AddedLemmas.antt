-- The law: each region of a board may be added to those before it.
use Rattle.std.proofs.Common.{◌≡◌, refl, ap, sym, subst, ◌∙◌, ℕ, ◌+◌, ◌-◌, ◌*◌, ◌/◌, ◌^◌, ◌<◌, ◌≤◌, true, false, ◌==◌, eqb, leb, [], ◌∷◌, length, map, take, Option, Some, None, codes, inl, inr, ◌⊎◌, arith}
use Rattle.std.specs.Cmp.{nat_eq_equiv}
use Rattle.std.specs.List.{flat_map, list_all}
use Rattle.std.specs.Option.{option_map_or}
use Rattle.std.proofs.Math.ListN.{length-append}
use Rattle.std.proofs.Math.Pow.{pow_mono}
use Rattle.std.proofs.lemmas.Bool.{and_parts, le-leb}
use Rattle.std.proofs.lemmas.List.{length-map, length-take-le}
use Rattle.std.proofs.lemmas.Map.Made.{length-le_from_is_member}
use Rattle.std.proofs.lemmas.Nat.{mul-le}
use Rattle.qo_values.specs.Placing.{window_start}
use Rattle.qo_values.specs.declared.births.TheConstants.{MACHINE_BIRTH, MEMORY_BUS_BIRTH, ROOT_BUS_BIRTH}
use Rattle.qo_values.specs.declared.limits.TheConstants.{LIVE_OBJECTS_MAX}
use Rattle.qo_model.specs.Board.{Board, Record}
use Rattle.qo_model.specs.Depth.{among}
use Rattle.qo_model.specs.Devices.{bus_of, depth_of, first_bus, kid_at}
use Rattle.qo_model.specs.Paths.{births, is_of}
use Rattle.qo_model.specs.Reset.{post}
use Rattle.qo_model.proofs.StepLemmas.{live-among}
use Rattle.qo_sound.proofs.TestLemmas.{decide}
use Rattle.qo_sound_devices.specs.SoundDevices.{SoundDevices}
use Rattle.qo_sound_devices.specs.SoundPlaces.{HasOwner, stands}
use Rattle.qo_sound_phases.specs.SoundPhases.{machine}
use Rattle.qo_sound_phases.proofs.ReachLemmas.{post-reached, reached-live}
use Rattle.qo_sound_phases.proofs.ResetTreeLemmas.{Placed, placed as places-of, post-once, stands-no_bus}
use Rattle.qo_sound_claims.specs.SoundClaims.{SoundClaims}
use Rattle.qo_sound_shapes.specs.SoundShape.{SoundShape}
use Rattle.qo_memmap.specs.Regions.{Area, area_at, area_rank, is_in_range, kind_in_range, names_below, rank_at}
use Rattle.qo_memmap.specs.declared.map.TheConstants.{MAX_RANK}
use Rattle.qo_memmap.specs.declared.region.Kind.TheVariants.{Container}
use Rattle.qo_memmap.specs.declared.region.Place.{Place}
use Rattle.qo_memmap.specs.declared.region.TheConstants.{ADDRESS_LIMIT}
use Rattle.qo_layout.specs.Layout.{MapLaw, is_memory, board_map, boot_leaf, device_places, low_alias, low_number, mapped, memory_places, placed, range_of, region_of, root_number, root_region, slot_places, slot_size, slots_of_bus}
use Rattle.qo_layout.proofs.DimmLemmas.{address-fits, dimm-fits}
use Rattle.qo_layout.proofs.MachineLemmas.{below-machine}
use Rattle.qo_layout.proofs.MapLemmas.{all-slots, each-region, low-under, memory-is, object-under, root-is, root-under}
use Rattle.qo_layout.proofs.RankLemmas.{object-area, root-area, low-area, shallow-at}
use Rattle.qo_layout.proofs.RegionLemmas.{IsKidAt, depth-same, kid-on, mapped-cases}
use Rattle.qo_layout.proofs.WindowLemmas.{fits}

not-zero : (n : ℕ) → 1 ≤ n → eqb n 0 ≡ false
not-zero n some = grind (arith, some)

-- a region whose numbers are in range
in-range : (area : Area) → 1 ≤ area.size → area.size ≤ ADDRESS_LIMIT → kind_in_range area.kind ≡ true
    → list_all (λ (p : Place). leb p.at ADDRESS_LIMIT) area.children ≡ true → is_in_range area ≡ true
in-range area some most kind places =
    let apart : eqb area.size 0 ≡ false = grind (arith, some) in
    rw (apart, le-leb area.size ADDRESS_LIMIT most, kind, places) refl

module _ (b : Board) (h : SoundDevices b) (shape : SoundShape b) where
  abbrev pub k : Placed b
  k = places-of b h

  -- Numbers in range.

  slot-most : (depth : ℕ) → slot_size depth ≤ 2 ^ 44
  slot-most depth = let low : 44 - 4 * depth ≤ 44 = omega arith in pow_mono low

  slot-range : (q size i : ℕ) → is_of b (codes "bus") q ≡ true → size ≤ 2 ^ 44
      → list_all (λ (p : Place). leb p.at ADDRESS_LIMIT) (slot_places b q size i) ≡ true
  slot-range q size i is most = by_kid (kid_at b q i) refl
    where
      by_bus : (d : ℕ) → IsKidAt b h q i d → (o : Option ℕ)
          → list_all (λ (p : Place). leb p.at ADDRESS_LIMIT) (placed b d (i * size) ∷ option_map_or (λ m. placed b m (i * size + size / 2) ∷ []) o [])
          ≡ true
      by_bus d its o =
          let low : i ≤ 7 = (let less = its.low in omega arith) in
          let at : i * size ≤ 7 * 2 ^ 44 = mul-le i size 7 (2 ^ 44) low most in
          let begins : leb (i * size) ADDRESS_LIMIT ≡ true = le-leb (i * size) ADDRESS_LIMIT (omega (arith, at)) in
          let second : leb (i * size + size / 2) ADDRESS_LIMIT ≡ true = le-leb (i * size + size / 2) ADDRESS_LIMIT (omega (arith, at, most)) in
          go o begins second
        where
          go : (o : Option ℕ) → leb (i * size) ADDRESS_LIMIT ≡ true → leb (i * size + size / 2) ADDRESS_LIMIT ≡ true
              → list_all (λ (p : Place). leb p.at ADDRESS_LIMIT) (placed b d (i * size) ∷ option_map_or (λ m. placed b m (i * size + size / 2) ∷ []) o [])
              ≡ true
          go None begins second = rw begins refl
          go (Some m) begins second = rw (begins, second) refl

      by_kid : (o : Option ℕ) → kid_at b q i ≡ o
          → list_all (λ (p : Place). leb p.at ADDRESS_LIMIT) (option_map_or (device_places b (i * size) size) o []) ≡ true
      by_kid None f = refl
      by_kid (Some d) f = by_bus d (kid-on b h q i d is f) (first_bus b d)

  module _ (claims : SoundClaims b) where
    memory-range : (i : ℕ) → list_all (λ (p : Place). leb p.at ADDRESS_LIMIT) (memory_places b i) ≡ true
    memory-range i = by_kid (kid_at b MEMORY_BUS_BIRTH i) refl
      where
        by_kid : (o : Option ℕ) → kid_at b MEMORY_BUS_BIRTH i ≡ o
            → list_all (λ (p : Place). leb p.at ADDRESS_LIMIT) (option_map_or (λ d. placed b d ((range_of b d).address - window_start) ∷ []) o []) ≡ true
        by_kid None f = refl
        by_kid (Some d) f =
            let its : IsKidAt b h MEMORY_BUS_BIRTH i d = kid-on b h MEMORY_BUS_BIRTH i d (memory-is b shape) f in
            let high = address-fits b h shape claims d its.stood its.on in
            rw (le-leb ((range_of b d).address - window_start) ADDRESS_LIMIT (omega (arith, high))) refl

    device-range : (d : ℕ) → stands b d ≡ true → (d == MEMORY_BUS_BIRTH) ≡ false → is_in_range (region_of b d) ≡ true
    device-range d stood off = decide (is_memory b d) memory other
      where
        memory : is_memory b d ≡ true → is_in_range (region_of b d) ≡ true
        memory e =
            let both = and_parts (option_map_or (λ q. q == MEMORY_BUS_BIRTH) (bus_of b d) false) (is_of b (codes "mem-dimm") d) e in
            let range = dimm-fits b h shape claims d stood both.1 in
            let some : eqb (range_of b d).size 0 ≡ false = not-zero (range_of b d).size range.0 in
            let most : leb (range_of b d).size ADDRESS_LIMIT ≡ true = le-leb (range_of b d).size ADDRESS_LIMIT (omega (arith, range.1)) in
            rw (off, stands-no_bus b k d stood, both.0, both.1, some, most) refl

        other : is_memory b d ≡ false → is_in_range (region_of b d) ≡ true
        other e = rw (off, stands-no_bus b k d stood, e) refl

    pub object-range : (o : ℕ) → among (mapped b) o ≡ true → is_in_range (region_of b o) ≡ true
    object-range o e =
        decide (o == MEMORY_BUS_BIRTH)
        (λ p.
        rw p (let all = all-slots (λ (x : Place). leb x.at ADDRESS_LIMIT) (memory_places b) slots_of_bus memory-range in rw all refl))
        (λ p. by p (mapped-cases b h (root-is b shape) (memory-is b shape) o e))
      where
        by : (o == MEMORY_BUS_BIRTH) ≡ false → ((is_of b (codes "bus") o ≡ true) × HasOwner b o) ⊎ (stands b o ≡ true) → is_in_range (region_of b o) ≡ true
        by off (inr s) = device-range o s off
        by off (inl its) =
            let shallow : k.depth o ≤ 8 = k.places.shallow.most o its.1 in
            let deep : depth_of b o ≤ 8 = (let same = depth-same b h o its.1 in omega (arith, shallow, same)) in
            let least : 4096 ≤ slot_size (depth_of b o) = fits (depth_of b o) deep in
            let most : slot_size (depth_of b o) ≤ 2 ^ 44 = slot-most (depth_of b o) in
            rw (off, its.0)
            (in-range (record {
              size = 8 * slot_size (depth_of b o);
              kind = Container;
              children = flat_map (slot_places b o (slot_size (depth_of b o))) slots_of_bus;
            })
            (omega (arith, least)) (omega (arith, most)) refl
            (all-slots (λ (x : Place). leb x.at ADDRESS_LIMIT) (slot_places b o (slot_size (depth_of b o))) slots_of_bus
            (λ i. slot-range o (slot_size (depth_of b o)) i its.0 most)))

  -- How many there are.

  pub few : length b.records ≤ LIVE_OBJECTS_MAX → length (mapped b) ≤ LIVE_OBJECTS_MAX
  few room =
      let whole : length (births b) ≡ length b.records = length-map b.records (λ (r : Record). r.birth) in
      let all : length (post b MACHINE_BIRTH) ≤ length (births b) =
      length-le_from_is_member nat_eq_equiv (post b MACHINE_BIRTH) (births b) (post-once b k MACHINE_BIRTH)
      (λ m e. sym (live-among b m) ∙ reached-live b k m (post-reached b k MACHINE_BIRTH m (machine refl) e)) in
      omega (arith, whole, all, room, below-machine b h shape, length-append (post b ROOT_BUS_BIRTH) (post b MEMORY_BUS_BIRTH))

  -- The law.

  module _ (claims : SoundClaims b) where
    may-stand : (r : ℕ) → r < length (board_map b)
        → (is_in_range (area_at (board_map b) r) ≡ true) × (names_below r (area_at (board_map b) r) ≡ true)
        × (area_rank (rank_at (take r (board_map b))) (area_at (board_map b) r) ≤ MAX_RANK)
    may-stand =
        each-region b
        (λ r area. (is_in_range area ≡ true) × (names_below r area ≡ true) × (area_rank (rank_at (take r (board_map b))) area ≤ MAX_RANK))
        (λ o r e most. (
          object-range claims o e,
          object-under b h shape o r e most,
          (let less = object-area b h shape (rank_at (take r (board_map b))) (shallow-at b h shape r) o e in omega (arith, less)),
        ))
        (refl, refl, omega arith) (
          refl,
          low-under b h shape (low_number b) refl,
          (let less = low-area b h shape (rank_at (take (low_number b) (board_map b))) (shallow-at b h shape (low_number b)) in omega (arith, less)),
        ) (
          refl,
          root-under b h shape (root_number b) refl,
          (let less = root-area b h shape (rank_at (take (root_number b) (board_map b))) (shallow-at b h shape (root_number b)) in omega (arith, less)),
        )

pub map_lem : MapLaw
map_lem b h shape claims room r less =
    let its = may-stand b h shape claims r less in
    let whole : length (take r (board_map b)) ≡ r = length-take-le r (board_map b) (omega arith) in
    let all : length (board_map b) ≡ length (mapped b) + 3 =
    length-append (map (region_of b) (mapped b)) (boot_leaf ∷ low_alias b ∷ root_region b ∷ [])
    ∙ ap (λ (n : ℕ). n + 3) (length-map (mapped b) (region_of b)) in (
      (its.0, subst (λ (n : ℕ). names_below n (area_at (board_map b) r) ≡ true) (sym whole) its.1),
      its.2,
      omega (arith, whole, all, few b h shape room),
    )
