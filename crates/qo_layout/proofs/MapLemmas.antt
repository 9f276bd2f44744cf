-- The law: each region of a board names regions of lower numbers.
use Rattle.std.proofs.Common.{◌≡◌, refl, ap, subst, sym, ◌∙◌, ℕ, zero, suc, ◌+◌, ◌-◌, ◌*◌, ◌/◌, ◌<◌, ◌≤◌, Bool, true, false, not, ◌==◌, cond, eqb, ltb, List, [], ◌∷◌, ◌++◌, get_or, length, map, Option, Some, None, codes, arith}
use Rattle.std.specs.List.{flat_map, list_all, position_or_len}
use Rattle.std.specs.Option.{option_map_or}
use Rattle.std.proofs.Math.ListN.{length-append}
use Rattle.std.proofs.lemmas.Bool.{eqb-true, lt-ltb, ltb-true, ltb-false}
use Rattle.std.proofs.lemmas.List.{length-map}
use Rattle.qo_values.specs.Placing.{window_start}
use Rattle.qo_values.specs.declared.births.TheConstants.{MEMORY_BUS_BIRTH, ROOT_BUS_BIRTH}
use Rattle.qo_values.specs.declared.kinds.TypeId.{TypeId}
use Rattle.qo_values.specs.declared.kinds.TypeId.TheVariants.{MemBus, SlotBus}
use Rattle.qo_model.specs.Board.{Board, kind_of}
use Rattle.qo_model.specs.Depth.{among, leads}
use Rattle.qo_model.specs.Devices.{depth_of, first_bus, kid_at}
use Rattle.qo_model.specs.Opening.{opening_board}
use Rattle.qo_model.specs.Paths.{is_of}
use Rattle.qo_model.specs.Reset.{below}
use Rattle.qo_model.specs.Types.{is_a, types}
use Rattle.qo_sound.proofs.TestLemmas.{decide}
use Rattle.qo_sound_devices.specs.SoundDevices.{SoundDevices}
use Rattle.qo_sound_shapes.specs.SoundShape.{SoundShape}
use Rattle.qo_memmap.specs.Laws.{NamesLower}
use Rattle.qo_memmap.specs.Regions.{Area, area_at, names_below}
use Rattle.qo_memmap.specs.declared.region.Kind.TheVariants.{Container}
use Rattle.qo_memmap.specs.declared.region.Place.{Place}
use Rattle.qo_layout.specs.Layout.{board_map, boot_leaf, boot_number, device_places, low_alias, low_number, mapped, memory_places, number_of, placed, range_of, region_of, root_number, root_region, slot_places, slot_size, slots_of_bus}
use Rattle.qo_layout.proofs.OrderLemmas.{lower}
use Rattle.qo_layout.proofs.RegionLemmas.{IsKidAt, boot-at, low-at, root-at, bus-below, kid-below, kid-on, mapped-below, mapped-in, member-at, memory-mapped, root-mapped}

-- The buses of the machine.

slot-bus : is_a SlotBus (codes "bus") ≡ true
unfolding types
slot-bus = refl

memory-bus : is_a MemBus (codes "bus") ≡ true
unfolding types
memory-bus = refl

pub root-kind : (b : Board) → SoundShape b → kind_of b ROOT_BUS_BIRTH ≡ Some SlotBus
unfolding opening_board
root-kind b shape = shape.opening.1.1.1.1.1.0

pub memory-kind : (b : Board) → SoundShape b → kind_of b MEMORY_BUS_BIRTH ≡ Some MemBus
unfolding opening_board
memory-kind b shape = shape.opening.1.1.1.1.1.1.0

pub root-is : (b : Board) → SoundShape b → is_of b (codes "bus") ROOT_BUS_BIRTH ≡ true
root-is b shape = ap (λ (o : Option TypeId). option_map_or (λ (t : TypeId). is_a t (codes "bus")) o false) (root-kind b shape) ∙ slot-bus

pub memory-is : (b : Board) → SoundShape b → is_of b (codes "bus") MEMORY_BUS_BIRTH ≡ true
memory-is b shape = ap (λ (o : Option TypeId). option_map_or (λ (t : TypeId). is_a t (codes "bus")) o false) (memory-kind b shape) ∙ memory-bus

-- What regions name.

-- a member's place is in the list
place-in : (o : ℕ) (xs : List ℕ) → among xs o ≡ true → position_or_len (eqb o) xs < length xs
place-in o [] e = absurd (let clash : false ≡ true = e in cc)
place-in o (x ∷ xs) e = go (eqb o x) refl (place-in o xs)
  where
    go : (t : Bool) → eqb o x ≡ t → (among xs o ≡ true → position_or_len (eqb o) xs < length xs)
        → cond (not (eqb o x)) (1 + position_or_len (eqb o) xs) 0 < length (x ∷ xs)
    go true p rest = rw p (omega arith)
    go false p rest = rw p (omega (arith, rest (rw p at e)))

-- a fact of the members of two lists, and of lists by slot
all-append : (p : Place → Bool) (xs ys : List Place) → list_all p xs ≡ true → list_all p ys ≡ true → list_all p (xs ++ ys) ≡ true
all-append p [] ys e f = f
all-append p (x ∷ xs) ys e f = decide (p x) (λ q. rw q (all-append p xs ys (rw q at e) f)) (λ q. absurd (let clash : false ≡ true = rw q at e in cc))

pub all-slots : (p : Place → Bool) (places : ℕ → List Place) (slots : List ℕ) → ((i : ℕ) → list_all p (places i) ≡ true)
    → list_all p (flat_map places slots) ≡ true
all-slots p places [] each = refl
all-slots p places (i ∷ slots) each = all-append p (places i) (flat_map places slots) (each i) (all-slots p places slots each)

module _ (b : Board) (h : SoundDevices b) (shape : SoundShape b) where
  lower-than : (o m : ℕ) → among (mapped b) o ≡ true → leads (below b) o m ≡ true → number_of b m < number_of b o
  lower-than o m e l = lower b h (root-is b shape) (memory-is b shape) o m e l

  kid-lower : (q i d : ℕ) → among (mapped b) q ≡ true → IsKidAt b h q i d → number_of b d < number_of b q
  kid-lower q i d e its = lower-than q d e (kid-below b h q i d its)

  bus-lower : (q i d m : ℕ) → among (mapped b) q ≡ true → IsKidAt b h q i d → first_bus b d ≡ Some m → number_of b m < number_of b q
  bus-lower q i d m e its first =
      let there : among (mapped b) d ≡ true = mapped-below b h q d e (kid-below b h q i d its) in
      let deeper : number_of b m < number_of b d = lower-than d m there (bus-below b h q i d m its first) in
      omega (arith, deeper, kid-lower q i d e its)

  slot-under : (q size r i : ℕ) → is_of b (codes "bus") q ≡ true → among (mapped b) q ≡ true → number_of b q ≤ r
      → list_all (λ (p : Place). ltb p.region r) (slot_places b q size i) ≡ true
  slot-under q size r i is e most = by_kid (kid_at b q i) refl
    where
      by_bus : (d : ℕ) → IsKidAt b h q i d → (o : Option ℕ) → first_bus b d ≡ o
          → list_all (λ (p : Place). ltb p.region r) (placed b d (i * size) ∷ option_map_or (λ m. placed b m (i * size + size / 2) ∷ []) o []) ≡ true
      by_bus d its None f = rw (lt-ltb (number_of b d) r (omega (arith, kid-lower q i d e its, most))) refl
      by_bus d its (Some m) f =
          rw
          (lt-ltb (number_of b d) r (omega (arith, kid-lower q i d e its, most)), lt-ltb (number_of b m) r (omega (arith, bus-lower q i d m e its f, most)))
          refl

      by_kid : (o : Option ℕ) → kid_at b q i ≡ o
          → list_all (λ (p : Place). ltb p.region r) (option_map_or (device_places b (i * size) size) o []) ≡ true
      by_kid None f = refl
      by_kid (Some d) f = by_bus d (kid-on b h q i d is f) (first_bus b d) refl

  memory-under : (r i : ℕ) → number_of b MEMORY_BUS_BIRTH ≤ r → list_all (λ (p : Place). ltb p.region r) (memory_places b i) ≡ true
  memory-under r i most = by_kid (kid_at b MEMORY_BUS_BIRTH i) refl
    where
      by_kid : (o : Option ℕ) → kid_at b MEMORY_BUS_BIRTH i ≡ o
          → list_all (λ (p : Place). ltb p.region r) (option_map_or (λ d. placed b d ((range_of b d).address - window_start) ∷ []) o []) ≡ true
      by_kid None f = refl
      by_kid (Some d) f =
          let its : IsKidAt b h MEMORY_BUS_BIRTH i d = kid-on b h MEMORY_BUS_BIRTH i d (memory-is b shape) f in
          rw (lt-ltb (number_of b d) r (omega (arith, kid-lower MEMORY_BUS_BIRTH i d (memory-mapped b h) its, most))) refl

  pub object-under : (o r : ℕ) → among (mapped b) o ≡ true → number_of b o ≤ r → names_below r (region_of b o) ≡ true
  object-under o r e most = by_memory (o == MEMORY_BUS_BIRTH) refl (is_of b (codes "bus") o) refl
    where
      by_memory : (t : Bool) → (o == MEMORY_BUS_BIRTH) ≡ t → (u : Bool) → is_of b (codes "bus") o ≡ u → names_below r (region_of b o) ≡ true
      by_memory true p u q =
          let same : o ≡ MEMORY_BUS_BIRTH = eqb-true o MEMORY_BUS_BIRTH p in
          rw p (all-slots (λ (x : Place). ltb x.region r) (memory_places b) slots_of_bus (λ i. memory-under r i (subst (λ (x : ℕ). number_of b x ≤ r) same most)))
      by_memory false p true q =
          rw (p, q)
          (all-slots (λ (x : Place). ltb x.region r) (slot_places b o (slot_size (depth_of b o))) slots_of_bus
          (λ i. slot-under o (slot_size (depth_of b o)) r i q e most))
      by_memory false p false q = rw (p, q) refl

  place-low : (o : ℕ) → among (mapped b) o ≡ true → number_of b o < length (mapped b)
  place-low o e = place-in o (mapped b) e

  pub low-under : (n : ℕ) → n ≡ low_number b → names_below n (low_alias b) ≡ true
  low-under n is = rw (lt-ltb (number_of b MEMORY_BUS_BIRTH) n (omega (arith, place-low MEMORY_BUS_BIRTH (memory-mapped b h), is))) refl

  pub root-under : (n : ℕ) → n ≡ root_number b → names_below n (root_region b) ≡ true
  root-under n is =
      rw (
        lt-ltb (boot_number b) n (omega (arith, is)),
        lt-ltb (number_of b MEMORY_BUS_BIRTH) n (omega (arith, place-low MEMORY_BUS_BIRTH (memory-mapped b h), is)),
        lt-ltb (number_of b ROOT_BUS_BIRTH) n (omega (arith, place-low ROOT_BUS_BIRTH (root-mapped b h), is)),
        lt-ltb (low_number b) n (omega (arith, is)),
      )
      refl

-- a fact of the region of each object, and of the regions of none, is one of each region by its number
module _ (b : Board) (P : ℕ → Area → Type 0) (object : (o r : ℕ) → among (mapped b) o ≡ true → number_of b o ≤ r → P r (region_of b o))
    (boot : P (boot_number b) boot_leaf) (low : P (low_number b) (low_alias b)) (root : P (root_number b) (root_region b)) where
  pub each-region : (r : ℕ) → r < length (board_map b) → P r (area_at (board_map b) r)
  each-region r less = decide (ltb r (length (mapped b))) (λ e. first (ltb-true r (length (mapped b)) e)) (λ e. behind (ltb-false r (length (mapped b)) e))
    where
      first : r < length (mapped b) → P r (area_at (board_map b) r)
      first here =
          let member = member-at r (mapped b) here in
          subst (P r)
          (sym
          (mapped-in (region_of b) (boot_leaf ∷ low_alias b ∷ root_region b ∷ []) (record { size = 0; kind = Container; children = [] }) r (mapped b) here))
          (object (get_or (mapped b) r 0) r member.0 member.1)

      whole : length (board_map b) ≡ length (mapped b) + 3
      whole =
          length-append (map (region_of b) (mapped b)) (boot_leaf ∷ low_alias b ∷ root_region b ∷ [])
          ∙ ap (λ (n : ℕ). n + 3) (length-map (mapped b) (region_of b))

      at : (j : ℕ) → j < 3 → P (length (mapped b) + j) (area_at (board_map b) (length (mapped b) + j))
      at zero below_three =
          let none : length (mapped b) + 0 ≡ length (mapped b) = omega arith in
          subst (λ (n : ℕ). P n (area_at (board_map b) n)) (sym none) (subst (P (boot_number b)) (sym (boot-at b)) boot)
      at (suc zero) below_three = subst (P (low_number b)) (sym (low-at b)) low
      at (suc (suc zero)) below_three = subst (P (root_number b)) (sym (root-at b)) root
      at (suc (suc (suc j))) below_three = absurd (omega arith)

      behind : length (mapped b) ≤ r → P r (area_at (board_map b) r)
      behind past =
          let same : length (mapped b) + (r - length (mapped b)) ≡ r = omega arith in
          subst (λ (n : ℕ). P n (area_at (board_map b) n)) same (at (r - length (mapped b)) (omega (arith, whole)))

pub lower_lem : (b : Board) → SoundDevices b → SoundShape b → NamesLower (board_map b)
lower_lem b h shape =
    each-region b (λ n area. names_below n area ≡ true) (object-under b h shape) refl (low-under b h shape (low_number b) refl)
    (root-under b h shape (root_number b) refl)
