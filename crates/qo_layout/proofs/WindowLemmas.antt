-- The law: a device in the slots of the root bus shows at the address of its slots.
use Rattle.std.proofs.Common.{◌≡◌, refl, ap, subst, ◌∙◌, ℕ, zero, suc, ◌+◌, ◌-◌, ◌*◌, ◌/◌, ◌^◌, ◌<◌, ◌≤◌, Bool, true, false, ◌||◌, eqb, ltb, List, [], ◌∷◌, length, pos, negsuc, option_and_then, Option, Some, None, inl, inr, arith}
use Rattle.std.specs.Prelude.{◌⊎◌}
use Rattle.std.specs.List.{flat_map, range_with_len}
use Rattle.std.specs.Option.{option_map_or}
use Rattle.std.proofs.lemmas.Bool.{ltb-true, ltb-false}
use Rattle.std.proofs.Math.ListN.{length-append}
use Rattle.std.proofs.lemmas.Nat.{mul-le}
use Rattle.std.proofs.Math.Pow.{pow_mono}
use Rattle.qo_values.specs.Placing.{window_start}
use Rattle.qo_values.specs.declared.births.TheConstants.{MEMORY_BUS_BIRTH, ROOT_BUS_BIRTH}
use Rattle.qo_model.specs.Board.{Board}
use Rattle.qo_model.specs.Depth.{among}
use Rattle.qo_model.specs.Devices.{first_bus, found_at, kid_at}
use Rattle.qo_model.specs.Reset.{post}
use Rattle.qo_sound_devices.specs.SoundDevices.{SoundDevices}
use Rattle.qo_sound.proofs.TestLemmas.{decide}
use Rattle.qo_memmap.specs.Regions.{Target, Seen, Area, area_at, child_shows, children_show, shows_at, shows_within}
use Rattle.qo_memmap.specs.declared.region.Place.{Place}
use Rattle.qo_layout.specs.Layout.{WindowLaw, board_map, boot_number, device_places, low_number, mapped, number_of, placed, root_number, root_region, slot_places, slot_size, slots_of_bus, window_at}
use Rattle.qo_layout.specs.declared.addresses.TheConstants.{ROOT_SIZE, SLOTS_AT}
use Rattle.qo_layout.proofs.LengthLemmas.{long}
use Rattle.qo_layout.proofs.MapLemmas.{root-is}
use Rattle.qo_layout.proofs.RegionLemmas.{IsBusAt, IsKidAt, boot-at, bus-is, bus-region, kid-is, kid-region, low-at, memory-region, root-at, root-bus, shallow}
use Rattle.qo_layout.proofs.ShowLemmas.{child-before, child-behind, child-within, container-within, leaf-within, only-one}

-- Sizes.

-- a slot is two windows of eight slots each of the next depth
halves : (depth : ℕ) → depth ≤ 7 → slot_size depth ≡ 2 * (8 * slot_size (suc depth))
halves depth low =
    let more : 44 - 4 * depth ≡ suc (suc (suc (suc (44 - 4 * suc depth)))) = omega arith in
    ap (λ (n : ℕ). 2 ^ n) more ∙ four (44 - 4 * suc depth)
  where
    four : (n : ℕ) → 2 ^ suc (suc (suc (suc n))) ≡ 2 * (8 * 2 ^ n)
    four n = omega arith

half : (n m : ℕ) → n ≡ 2 * m → n / 2 ≡ m
half n m e = omega arith

-- no slot is smaller than a device
pub fits : (depth : ℕ) → depth ≤ 8 → 4096 ≤ slot_size depth
fits depth low = let at_least : 12 ≤ 44 - 4 * depth = omega arith in pow_mono at_least

-- one slot ends before a later one begins
ends-before : (i j size : ℕ) → i < j → i * size + size ≤ j * size
ends-before i j size less =
    let whole : (i + 1) * size ≤ j * size = mul-le (i + 1) size j size (omega arith) (omega arith) in
    let split : (i + 1) * size ≡ i * size + size = omega arith in
    omega arith

in-range : (first n i : ℕ) → first ≤ i → i < first + n → among (range_with_len first n) i ≡ true
in-range first zero i from below = absurd (omega arith)
in-range first (suc n) i from below = go (eqb i first) refl (in-range (first + 1) n i)
  where
    go : (t : Bool) → eqb i first ≡ t → (first + 1 ≤ i → i < first + 1 + n → among (range_with_len (first + 1) n) i ≡ true)
        → eqb i first || among (range_with_len (first + 1) n) i ≡ true
    go true e rest = rw e refl
    go false e rest = rw e (rest (grind (arith, from, e)) (omega arith))

in-slots : (i : ℕ) → i < 8 → among slots_of_bus i ≡ true
in-slots i low = in-range 0 8 i (omega arith) low

-- what lies in one slot lies before or behind each other one
aside : (i j size a : ℕ) → eqb i j ≡ false → j * size ≤ a → a < j * size + size → (a < i * size) ⊎ (i * size + size ≤ a)
aside i j size a apart from below = decide (ltb i j) earlier later
  where
    earlier : ltb i j ≡ true → (a < i * size) ⊎ (i * size + size ≤ a)
    earlier e = inr (let ends : i * size + size ≤ j * size = ends-before i j size (ltb-true i j e) in omega arith)

    later : ltb i j ≡ false → (a < i * size) ⊎ (i * size + size ≤ a)
    later e =
        let behind : j ≤ i = ltb-false i j e in
        let less : j < i = grind (arith, behind, apart) in
        inl (let ends : j * size + size ≤ i * size = ends-before j i size less in omega arith)

-- The address of slots.

window-from : (depth base : ℕ) (slots : List ℕ) → window_at depth base slots ≡ base + window_at depth 0 slots
window-from depth base [] = omega arith
window-from depth base (slot ∷ []) = omega arith
window-from depth base (slot ∷ next ∷ slots) =
    let here = window-from (suc depth) (base + slot * slot_size depth + slot_size depth / 2) (next ∷ slots) in
    let there = window-from (suc depth) (0 + slot * slot_size depth + slot_size depth / 2) (next ∷ slots) in
    omega (arith, here, there)

-- Slots.

module _ (b : Board) (h : SoundDevices b) where
  -- what a device and its bus show
  module _ (n q depth i : ℕ) (w : IsBusAt b h q depth) where
    size : ℕ
    size = slot_size depth

    -- one that has a bus is no deeper than so, and its slot has room for both
    roomy : (d m : ℕ) → IsKidAt b h q i d → first_bus b d ≡ Some m → (slot_size depth / 2 ≡ 8 * slot_size (suc depth)) × (4096 ≤ slot_size depth / 2)
    roomy d m its e =
        let deep : suc depth ≤ 8 = shallow b h m (suc depth) (bus-is b h q depth i d m w its e) in
        let twice : slot_size depth ≡ 2 * (8 * slot_size (suc depth)) = halves depth (omega arith) in
        let same : slot_size depth / 2 ≡ 8 * slot_size (suc depth) = half (slot_size depth) (8 * slot_size (suc depth)) twice in
        (same, let least : 4096 ≤ slot_size (suc depth) = fits (suc depth) deep in omega (arith, same, least))

    kid-size : (d : ℕ) → IsKidAt b h q i d → (area_at (board_map b) (number_of b d)).size ≡ 4096
    kid-size d its = ap (λ (area : Area). area.size) (kid-region b h q depth i d w its)

    bus-size : (d m : ℕ) → IsKidAt b h q i d → first_bus b d ≡ Some m → (area_at (board_map b) (number_of b m)).size ≡ 8 * slot_size (suc depth)
    bus-size d m its e = ap (λ (area : Area). area.size) (bus-region b h m (suc depth) (bus-is b h q depth i d m w its e))

    -- nothing shows before the slot, and nothing behind it
    none-in : (a : ℕ) → (a < i * slot_size depth) ⊎ (i * slot_size depth + slot_size depth ≤ a)
        → children_show (shows_within n (board_map b)) (slot_places b q (slot_size depth) i) a ≡ None
    none-in a out = by_kid (kid_at b q i) refl
      where
        Nothing : List Place → Type 0
        Nothing places = children_show (shows_within n (board_map b)) places a ≡ None

        outside : (p : Place) → i * slot_size depth ≤ p.at → p.at + (area_at (board_map b) p.region).size ≤ i * slot_size depth + slot_size depth
            → (a < i * slot_size depth) ⊎ (i * slot_size depth + slot_size depth ≤ a) → child_shows (shows_within n (board_map b)) p a ≡ None
        outside p from below (inl before) = child-before (shows_within n (board_map b)) p a (omega arith)
        outside p from below (inr behind) = child-behind n (board_map b) p a (omega arith)

        by_bus : (d : ℕ) → IsKidAt b h q i d → (o : Option ℕ) → first_bus b d ≡ o
            → Nothing (placed b d (i * slot_size depth) ∷ option_map_or (λ m. placed b m (i * slot_size depth + slot_size depth / 2) ∷ []) o [])
        by_bus d its None e =
            outside (placed b d (i * slot_size depth)) (omega arith) (omega (arith, kid-size d its, fits depth (shallow b h q depth w))) out
        by_bus d its (Some m) e =
            let room = roomy d m its e in
            let leaf = outside (placed b d (i * slot_size depth)) (omega arith) (omega (arith, kid-size d its, fits depth (shallow b h q depth w))) out in
            let window =
            outside (placed b m (i * slot_size depth + slot_size depth / 2)) (omega arith) (omega (arith, bus-size d m its e, room.0)) out in
            rw (leaf, window) refl

        by_kid : (o : Option ℕ) → kid_at b q i ≡ o → Nothing (option_map_or (device_places b (i * slot_size depth) (slot_size depth)) o [])
        by_kid None e = refl
        by_kid (Some d) e = by_bus d (kid-is b h q depth i d w e) (first_bus b d) refl

    -- at its beginning the device shows
    last-in : (d x : ℕ) → kid_at b q i ≡ Some d → x < 4096
        → children_show (shows_within (suc n) (board_map b)) (slot_places b q (slot_size depth) i) (i * slot_size depth + x)
        ≡ Some (record { priority = pos 0; target = record { leaf = d; offset = x } })
    last-in d x at low =
        ap (λ (o : Option ℕ). Shown (option_map_or (device_places b (i * slot_size depth) (slot_size depth)) o [])) at ∙ by_bus (first_bus b d) refl
      where
        Shown : List Place → Option Seen
        Shown places = children_show (shows_within (suc n) (board_map b)) places (i * slot_size depth + x)

        its : IsKidAt b h q i d
        its = kid-is b h q depth i d w at

        leaf : child_shows (shows_within (suc n) (board_map b)) (placed b d (i * slot_size depth)) (i * slot_size depth + x)
            ≡ Some (record { priority = pos 0; target = record { leaf = d; offset = x } })
        leaf =
            child-within (shows_within (suc n) (board_map b)) (placed b d (i * slot_size depth)) x (record { leaf = d; offset = x })
            (leaf-within n (board_map b) (number_of b d) d 4096 x (kid-region b h q depth i d w its) low)

        by_bus : (o : Option ℕ) → first_bus b d ≡ o
            → Shown (placed b d (i * slot_size depth) ∷ option_map_or (λ m. placed b m (i * slot_size depth + slot_size depth / 2) ∷ []) o [])
            ≡ Some (record { priority = pos 0; target = record { leaf = d; offset = x } })
        by_bus None e = rw leaf refl
        by_bus (Some m) e =
            let window =
            child-before (shows_within (suc n) (board_map b)) (placed b m (i * slot_size depth + slot_size depth / 2)) (i * slot_size depth + x)
            (omega (arith, (roomy d m its e).1, low)) in
            rw (leaf, window) refl

    -- in its second half the bus of a bridge shows
    through-in : (d m x : ℕ) (t : Target) → kid_at b q i ≡ Some d → first_bus b d ≡ Some m → shows_within n (board_map b) (number_of b m) x ≡ Some t
        → children_show (shows_within n (board_map b)) (slot_places b q (slot_size depth) i) (i * slot_size depth + slot_size depth / 2 + x)
        ≡ Some (record { priority = pos 0; target = t })
    through-in d m x t at first shown =
        ap (λ (o : Option ℕ). Shown (option_map_or (device_places b (i * slot_size depth) (slot_size depth)) o [])) at
        ∙ ap (λ (o : Option ℕ). Shown (placed b d (i * slot_size depth) ∷ option_map_or (λ k. placed b k (i * slot_size depth + slot_size depth / 2) ∷ []) o []))
        first
        ∙ rw (leaf, window) refl
      where
        Shown : List Place → Option Seen
        Shown places = children_show (shows_within n (board_map b)) places (i * slot_size depth + slot_size depth / 2 + x)

        its : IsKidAt b h q i d
        its = kid-is b h q depth i d w at

        leaf : child_shows (shows_within n (board_map b)) (placed b d (i * slot_size depth)) (i * slot_size depth + slot_size depth / 2 + x) ≡ None
        leaf =
            child-behind n (board_map b) (placed b d (i * slot_size depth)) (i * slot_size depth + slot_size depth / 2 + x)
            (omega (arith, kid-size d its, (roomy d m its first).1))

        window : child_shows (shows_within n (board_map b)) (placed b m (i * slot_size depth + slot_size depth / 2))
            (i * slot_size depth + slot_size depth / 2 + x) ≡ Some (record { priority = pos 0; target = t })
        window = child-within (shows_within n (board_map b)) (placed b m (i * slot_size depth + slot_size depth / 2)) x t shown

  -- The way down.

  -- an offset in a device, at the address of its slots in the region of a bus
  record Shows (n q depth x d : ℕ) (slots : List ℕ) : Type 0 where
    inside : window_at depth 0 slots + x < 8 * slot_size depth
    shown : shows_within (suc n) (board_map b) (number_of b q) (window_at depth 0 slots + x) ≡ Some (record { leaf = d; offset = x })

  -- in one slot, what shows in the region of the bus
  in-bus : (n q depth i x : ℕ) (t : Target) → IsBusAt b h q depth → i < 8 → x < slot_size depth
      → children_show (shows_within n (board_map b)) (slot_places b q (slot_size depth) i) (i * slot_size depth + x)
      ≡ Some (record { priority = pos 0; target = t })
      → (i * slot_size depth + x < 8 * slot_size depth)
      × (shows_within (suc n) (board_map b) (number_of b q) (i * slot_size depth + x) ≡ Some t)
  in-bus n q depth i x t w low within shown =
      let ends : i * slot_size depth + slot_size depth ≤ 8 * slot_size depth = ends-before i 8 (slot_size depth) low in
      let inside : i * slot_size depth + x < 8 * slot_size depth = omega arith in (
        inside,
        container-within n (board_map b) (number_of b q) (8 * slot_size depth) (i * slot_size depth + x)
            (flat_map (slot_places b q (slot_size depth)) slots_of_bus) (record { priority = pos 0; target = t }) (bus-region b h q depth w) inside
            (only-one (shows_within n (board_map b)) (slot_places b q (slot_size depth)) (i * slot_size depth + x) i (record { priority = pos 0; target = t }) shown
            (λ j apart. none-in n q depth j w (i * slot_size depth + x) (aside j i (slot_size depth) (i * slot_size depth + x) apart (omega arith) (omega arith)))
            slots_of_bus (in-slots i low)),
      )

  found-shows : (slots : List ℕ) (n q depth x d : ℕ) → IsBusAt b h q depth → found_at b q slots ≡ Some d → x < 4096 → length slots ≤ n
      → Shows n q depth x d slots
  found-shows [] n q depth x d w e low room = absurd (let none : None ≡ Some d = e in cc)
  found-shows (slot ∷ []) zero q depth x d w e low room = absurd (omega arith)
  found-shows (slot ∷ []) (suc n) q depth x d w e low room =
      let its : IsKidAt b h q slot d = kid-is b h q depth slot d w e in
      let at_least : 4096 ≤ slot_size depth = fits depth (shallow b h q depth w) in
      let found =
      in-bus (suc n) q depth slot x (record { leaf = d; offset = x }) w its.low (omega (arith, low, at_least)) (last-in n q depth slot w d x e low) in
      let is : slot * slot_size depth + x ≡ window_at depth 0 (slot ∷ []) + x = omega arith in
      record {
        inside = subst (λ (a : ℕ). a < 8 * slot_size depth) is found.0;
        shown = subst (λ (a : ℕ). shows_within (suc (suc n)) (board_map b) (number_of b q) a ≡ Some (record { leaf = d; offset = x })) is found.1;
      }
  found-shows (slot ∷ next ∷ slots) zero q depth x d w e low room = absurd (omega arith)
  found-shows (slot ∷ next ∷ slots) (suc n) q depth x d w e low room = by_kid (kid_at b q slot) refl e (found-shows (next ∷ slots) n)
    where
      Rest : Type 0
      Rest = (m deeper y c : ℕ) → IsBusAt b h m deeper → found_at b m (next ∷ slots) ≡ Some c → y < 4096 → length (next ∷ slots) ≤ n
          → Shows n m deeper y c (next ∷ slots)

      by_bus : (p : ℕ) → kid_at b q slot ≡ Some p → (o : Option ℕ) → first_bus b p ≡ o → option_and_then (λ m. found_at b m (next ∷ slots)) o ≡ Some d
          → Rest → Shows (suc n) q depth x d (slot ∷ next ∷ slots)
      by_bus p at None f found rest = absurd (let none : None ≡ Some d = found in cc)
      by_bus p at (Some m) f found rest =
          let its : IsKidAt b h q slot p = kid-is b h q depth slot p w at in
          let bus : IsBusAt b h m (suc depth) = bus-is b h q depth slot p m w its f in
          let deeper : Shows n m (suc depth) x d (next ∷ slots) = rest m (suc depth) x d bus found low (omega arith) in
          let twice : slot_size depth ≡ 2 * (8 * slot_size (suc depth)) =
          (let deep : suc depth ≤ 8 = shallow b h m (suc depth) bus in halves depth (omega arith)) in
          let same : slot_size depth / 2 ≡ 8 * slot_size (suc depth) = half (slot_size depth) (8 * slot_size (suc depth)) twice in
          let offset : ℕ = window_at (suc depth) 0 (next ∷ slots) + x in
          let is : slot * slot_size depth + (slot_size depth / 2 + offset) ≡ window_at depth 0 (slot ∷ next ∷ slots) + x =
          omega (arith, window-from (suc depth) (0 + slot * slot_size depth + slot_size depth / 2) (next ∷ slots)) in
          let split : slot * slot_size depth + slot_size depth / 2 + offset ≡ slot * slot_size depth + (slot_size depth / 2 + offset) = omega arith in
          let there =
          in-bus (suc n) q depth slot (slot_size depth / 2 + offset) (record { leaf = d; offset = x }) w its.low (omega (arith, deeper.inside, same, twice))
          (subst
          (λ (a : ℕ). children_show (shows_within (suc n) (board_map b)) (slot_places b q (slot_size depth) slot) a
          ≡ Some (record { priority = pos 0; target = record { leaf = d; offset = x } }))
          split (through-in (suc n) q depth slot w p m offset (record { leaf = d; offset = x }) at f deeper.shown)) in
          record {
            inside = subst (λ (a : ℕ). a < 8 * slot_size depth) is there.0;
            shown =
                subst (λ (a : ℕ). shows_within (suc (suc n)) (board_map b) (number_of b q) a ≡ Some (record { leaf = d; offset = x })) is there.1;
          }

      by_kid : (o : Option ℕ) → kid_at b q slot ≡ o → option_and_then (λ p. option_and_then (λ m. found_at b m (next ∷ slots)) (first_bus b p)) o ≡ Some d
          → Rest → Shows (suc n) q depth x d (slot ∷ next ∷ slots)
      by_kid None f found rest = absurd (let none : None ≡ Some d = found in cc)
      by_kid (Some p) f found rest = by_bus p f (first_bus b p) refl found rest

  -- The root.

  -- beside the slots of the root bus nothing else shows at their addresses
  in-root : (y : ℕ) (t : Target) → y < 8 * slot_size 0 → shows_within (root_number b) (board_map b) (number_of b ROOT_BUS_BIRTH) y ≡ Some t
      → shows_at (board_map b) (root_number b) (SLOTS_AT + y) ≡ Some t
  in-root y t low shown =
      container-within (root_number b) (board_map b) (root_number b) ROOT_SIZE (SLOTS_AT + y) (root_region b).children
      (record { priority = pos 0; target = t }) (root-at b) (omega arith) (rw (boot, memory, slots, below) refl)
    where
      at_boot : Place
      at_boot = record { region = boot_number b; at = 0; priority = pos 0 }

      at_low : Place
      at_low = record { region = low_number b; at = 0; priority = negsuc 0 }

      boot : child_shows (shows_within (root_number b) (board_map b)) (record { region = boot_number b; at = 0; priority = pos 0 }) (SLOTS_AT + y) ≡ None
      boot = child-behind (root_number b) (board_map b) at_boot (SLOTS_AT + y) (omega (arith, ap (λ (area : Area). area.size) (boot-at b)))

      memory : child_shows (shows_within (root_number b) (board_map b)) (placed b MEMORY_BUS_BIRTH window_start) (SLOTS_AT + y) ≡ None
      memory =
          child-behind (root_number b) (board_map b) (placed b MEMORY_BUS_BIRTH window_start) (SLOTS_AT + y)
          (omega (arith, ap (λ (area : Area). area.size) (memory-region b h)))

      slots : child_shows (shows_within (root_number b) (board_map b)) (placed b ROOT_BUS_BIRTH SLOTS_AT) (SLOTS_AT + y)
          ≡ Some (record { priority = pos 0; target = t })
      slots = child-within (shows_within (root_number b) (board_map b)) (placed b ROOT_BUS_BIRTH SLOTS_AT) y t shown

      below : child_shows (shows_within (root_number b) (board_map b)) (record { region = low_number b; at = 0; priority = negsuc 0 }) (SLOTS_AT + y) ≡ None
      below = child-behind (root_number b) (board_map b) at_low (SLOTS_AT + y) (omega (arith, ap (λ (area : Area). area.size) (low-at b)))

  at-root : (slots : List ℕ) (d x : ℕ) → IsBusAt b h ROOT_BUS_BIRTH 0 → found_at b ROOT_BUS_BIRTH slots ≡ Some d → x < 4096
      → shows_at (board_map b) (root_number b) (window_at 0 SLOTS_AT slots + x) ≡ Some (record { leaf = d; offset = x })
  at-root slots d x w e low =
      subst (λ (a : ℕ). shows_at (board_map b) (root_number b) a ≡ Some (record { leaf = d; offset = x })) is
      (in-root (window_at 0 0 slots + x) (record { leaf = d; offset = x }) its.inside
      (subst
      (λ (n : ℕ). shows_within n (board_map b) (number_of b ROOT_BUS_BIRTH) (window_at 0 0 slots + x) ≡ Some (record { leaf = d; offset = x })) turns its.shown))
    where
      enough : length slots ≤ length (mapped b) + 1
      enough = omega (arith, long b h slots ROOT_BUS_BIRTH 0 d w e, length-append (post b ROOT_BUS_BIRTH) (post b MEMORY_BUS_BIRTH))

      its : Shows (length (mapped b) + 1) ROOT_BUS_BIRTH 0 x d slots
      its = found-shows slots (length (mapped b) + 1) ROOT_BUS_BIRTH 0 x d w e low enough

      turns : suc (length (mapped b) + 1) ≡ root_number b
      turns = omega arith

      is : SLOTS_AT + (window_at 0 0 slots + x) ≡ window_at 0 SLOTS_AT slots + x
      is = omega (arith, window-from 0 SLOTS_AT slots)

pub window_lem : WindowLaw
window_lem b h shape slots d r e low = at-root b h slots d (4 * r) (root-bus b h (root-is b shape)) e (omega (arith, low))
