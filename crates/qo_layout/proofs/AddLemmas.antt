-- Regions are added one after another, and make the map of the board.
use Rattle.std.proofs.Common.{◌≡◌, refl, ap, sym, ◌∙◌, append-nil, append_assoc, subst, true, false, ℕ, zero, suc, ◌+◌, ◌<◌, ◌≤◌, List, [], ◌∷◌, ◌++◌, get_or, length, map, take, Err, Result, arith}
use Rattle.std.specs.Prelude.{IfErr}
use Rattle.std.proofs.Math.ListN.{length-append}
use Rattle.std.proofs.lemmas.List.{length-map, take_all}
use Rattle.qo_slots.specs.declared.keys.Key.{Key}
use Rattle.qo_values.specs.declared.limits.TheConstants.{LIVE_OBJECTS_MAX}
use Rattle.qo_model.specs.Board.{Board, Record}
use Rattle.qo_object.specs.Content.{Content}
use Rattle.qo_heap.specs.Board.{Shows, record_of}
use Rattle.qo_heap.specs.Objects.{Objects}
use Rattle.qo_sound_devices.specs.SoundDevices.{SoundDevices}
use Rattle.qo_sound_claims.specs.SoundClaims.{SoundClaims}
use Rattle.qo_sound_shapes.specs.SoundShape.{SoundShape}
use Rattle.qo_memmap.specs.declared.map.TheConstants.{MAX_REGIONS}
use Rattle.qo_memmap.specs.Answers.{Added}
use Rattle.qo_memmap.specs.Regions.{Area, area_at}
use Rattle.qo_memmap.specs.declared.errors.MapError.{MapError}
use Rattle.qo_memmap.specs.declared.errors.MapError.TheVariants.{BadRange, BadRef, TooDeep, Full, Memory}
use Rattle.qo_memmap.specs.declared.region.Kind.TheVariants.{Container}
use Rattle.qo_layout.specs.Layout.{IsMap, MayAdd, board_map, boot_leaf, boot_number, low_alias, low_number, mapped, region_of, root_number, root_region}
use Rattle.qo_layout.specs.Numbering.{births_of}
use Rattle.qo_layout.proofs.AddedLemmas.{few as few-mapped, map_lem}
use Rattle.qo_layout.proofs.RegionLemmas.{last-at, mapped-in}

-- one object more
taken-next : (f : ℕ → Area) (objects : List Key) (i : ℕ) (d : Key) → i < length objects
    → map f (births_of (take (i + 1) objects)) ≡ map f (births_of (take i objects)) ++ f (get_or objects i d).birth ∷ []
taken-next f [] i d low = absurd (omega arith)
taken-next f (o ∷ objects) zero d low = refl
taken-next f (o ∷ objects) (suc i) d low =
    let next : suc i + 1 ≡ suc (i + 1) = omega arith in
    ap (λ (n : ℕ). map f (births_of (take n (o ∷ objects)))) next ∙ ap (λ (areas : List Area). f o.birth ∷ areas) (taken-next f objects i d (omega arith))

pub added-next : (f : ℕ → Area) (objects : List Key) (i : ℕ) (d : Key) (old new : List Area) → i < length objects
    → old ≡ map f (births_of (take i objects)) → new ≡ old ++ f (get_or objects i d).birth ∷ [] → new ≡ map f (births_of (take (i + 1) objects))
added-next f objects i d old new low before more =
    more ∙ ap (λ (areas : List Area). areas ++ f (get_or objects i d).birth ∷ []) before ∙ sym (taken-next f objects i d low)

-- all objects, and what is of no object
module _ (b : Board) (objects : List Key) (i : ℕ) (first : List Area) (all : length objects ≤ i) (listed : births_of objects ≡ mapped b)
    (before : first ≡ map (region_of b) (births_of (take i objects))) where
  whole : first ≡ map (region_of b) (mapped b)
  whole =
      before ∙ ap (λ (os : List Key). map (region_of b) (births_of os)) (take_all i objects all)
      ∙ ap (λ (ns : List ℕ). map (region_of b) ns) listed

  pub boot-is : length first ≡ boot_number b
  boot-is = ap (λ (areas : List Area). length areas) whole ∙ length-map (mapped b) (region_of b)

  pub low-is : (with_boot : List Area) → with_boot ≡ first ++ boot_leaf ∷ [] → length with_boot ≡ low_number b
  low-is with_boot e =
      let more : length with_boot ≡ length first + 1 = ap (λ (areas : List Area). length areas) e ∙ length-append first (boot_leaf ∷ []) in
      omega (arith, more, boot-is)

  pub root-number_is : (with_boot with_low : List Area) → with_boot ≡ first ++ boot_leaf ∷ [] → with_low ≡ with_boot ++ low_alias b ∷ []
      → length with_low ≡ root_number b
  root-number_is with_boot with_low boot low =
      let more : length with_low ≡ length with_boot + 1 = ap (λ (areas : List Area). length areas) low ∙ length-append with_boot (low_alias b ∷ []) in
      omega (arith, more, low-is with_boot boot)

  pub map-is : (with_boot with_low with_root : List Area) → with_boot ≡ first ++ boot_leaf ∷ [] → with_low ≡ with_boot ++ low_alias b ∷ []
      → with_root ≡ with_low ++ root_region b ∷ [] → with_root ≡ board_map b
  map-is with_boot with_low with_root boot low root =
      root ∙ ap (λ (areas : List Area). areas ++ root_region b ∷ []) (low ∙ ap (λ (areas : List Area). areas ++ low_alias b ∷ []) boot)
      ∙ append_assoc (first ++ boot_leaf ∷ []) (low_alias b ∷ []) (root_region b ∷ [])
      ∙ append_assoc first (boot_leaf ∷ []) (low_alias b ∷ root_region b ∷ [])
      ∙ ap (λ (areas : List Area). areas ++ boot_leaf ∷ low_alias b ∷ root_region b ∷ []) whole

-- What may be added.

-- where a region may be added no error but want of memory comes
pub added_memory : (old new : List Area) (area : Area) (e : MapError) → Added old new area (Err e) → MayAdd old area → e ≡ Memory
added_memory old new area BadRange a may = absurd (let clash : false ≡ true = sym a.0 ∙ may.0.0 in cc)
added_memory old new area BadRef a may = absurd (let clash : false ≡ true = sym a.1 ∙ may.0.1 in cc)
added_memory old new area TooDeep a may = absurd (let deep = a.1 in let most = may.1 in omega arith)
added_memory old new area Full a may = absurd (let full = a.2 in let room = may.2 in omega arith)
added_memory old new area Memory a may = refl

births-take : (objects : List Key) (i : ℕ) → births_of (take i objects) ≡ take i (births_of objects)
births-take [] zero = refl
births-take [] (suc i) = refl
births-take (o ∷ objects) zero = refl
births-take (o ∷ objects) (suc i) = ap (λ (ns : List ℕ). o.birth ∷ ns) (births-take objects i)

birth-at : (objects : List Key) (i : ℕ) (d : Key) → i < length objects → get_or (births_of objects) i 0 ≡ (get_or objects i d).birth
birth-at [] i d low = absurd (omega arith)
birth-at (o ∷ objects) zero d low = refl
birth-at (o ∷ objects) (suc i) d low = birth-at objects i d (omega arith)

births-length : (objects : List Key) → length (births_of objects) ≡ length objects
births-length objects = length-map objects (λ (o : Key). o.birth)

take-mapped : (f : ℕ → Area) (rest : List Area) (i : ℕ) (xs : List ℕ) → i ≤ length xs → take i (map f xs ++ rest) ≡ map f (take i xs)
take-mapped f rest zero xs low = refl
take-mapped f rest (suc i) [] low = absurd (omega arith)
take-mapped f rest (suc i) (x ∷ xs) low = ap (λ (areas : List Area). f x ∷ areas) (take-mapped f rest i xs (omega arith))

take-behind : (f : ℕ → Area) (rest : List Area) (j : ℕ) (xs : List ℕ) → take (length xs + j) (map f xs ++ rest) ≡ map f xs ++ take j rest
take-behind f rest j [] = let same : 0 + j ≡ j = omega arith in ap (λ (n : ℕ). take n rest) same
take-behind f rest j (x ∷ xs) =
    let more : length (x ∷ xs) + j ≡ suc (length xs + j) = omega arith in
    ap (λ (n : ℕ). take n (map f (x ∷ xs) ++ rest)) more ∙ ap (λ (areas : List Area). f x ∷ areas) (take-behind f rest j xs)

map-length : (b : Board) → length (board_map b) ≡ length (mapped b) + 3
map-length b =
    length-append (map (region_of b) (mapped b)) (boot_leaf ∷ low_alias b ∷ root_region b ∷ [])
    ∙ ap (λ (n : ℕ). n + 3) (length-map (mapped b) (region_of b))

module _ (b : Board) (may : IsMap b) (objects : List Key) (listed : births_of objects ≡ mapped b) where
  same-length : length objects ≡ length (mapped b)
  same-length = sym (births-length objects) ∙ ap (λ (ns : List ℕ). length ns) listed

  pub may-object : (i : ℕ) (d : Key) (old : List Area) → i < length objects → old ≡ map (region_of b) (births_of (take i objects))
      → MayAdd old (region_of b (get_or objects i d).birth)
  may-object i d old low before =
      subst (λ (areas : List Area). MayAdd areas (region_of b (get_or objects i d).birth)) (sym first)
      (subst (λ (area : Area). MayAdd (take i (board_map b)) area) this (may i (omega (arith, low, same-length, map-length b))))
    where
      within : i < length (mapped b)
      within = omega (arith, low, same-length)

      first : old ≡ take i (board_map b)
      first =
          before ∙ ap (λ (ns : List ℕ). map (region_of b) ns) (births-take objects i ∙ ap (λ (ns : List ℕ). take i ns) listed)
          ∙ sym (take-mapped (region_of b) (boot_leaf ∷ low_alias b ∷ root_region b ∷ []) i (mapped b) (omega (arith, low, same-length)))

      this : area_at (board_map b) i ≡ region_of b (get_or objects i d).birth
      this =
          mapped-in (region_of b) (boot_leaf ∷ low_alias b ∷ root_region b ∷ []) (record { size = 0; kind = Container; children = [] }) i (mapped b) within
          ∙ ap (λ (ns : List ℕ). region_of b (get_or ns i 0)) (sym listed) ∙ ap (region_of b) (birth-at objects i d low)

  module _ (i : ℕ) (first : List Area) (all : length objects ≤ i) (before : first ≡ map (region_of b) (births_of (take i objects))) where
    whole-map : first ≡ map (region_of b) (mapped b)
    whole-map =
        before ∙ ap (λ (os : List Key). map (region_of b) (births_of os)) (take_all i objects all)
        ∙ ap (λ (ns : List ℕ). map (region_of b) ns) listed

    may-at : (j : ℕ) (old : List Area) (area : Area) → j < 3 → old ≡ first ++ take j (boot_leaf ∷ low_alias b ∷ root_region b ∷ [])
        → area_at (board_map b) (length (mapped b) + j) ≡ area → MayAdd old area
    may-at j old area low is at =
        subst (λ (areas : List Area). MayAdd areas area) (sym taken)
        (subst (λ (x : Area). MayAdd (take (length (mapped b) + j) (board_map b)) x) at (may (length (mapped b) + j) (omega (arith, low, map-length b))))
      where
        taken : old ≡ take (length (mapped b) + j) (board_map b)
        taken =
            is ∙ ap (λ (areas : List Area). areas ++ take j (boot_leaf ∷ low_alias b ∷ root_region b ∷ [])) whole-map
            ∙ sym (take-behind (region_of b) (boot_leaf ∷ low_alias b ∷ root_region b ∷ []) j (mapped b))

    pub may-boot : MayAdd first boot_leaf
    may-boot = may-at 0 first boot_leaf (omega arith) (sym (append-nil first)) (last-at b 0)

    pub may-low : (with_boot : List Area) → with_boot ≡ first ++ boot_leaf ∷ [] → MayAdd with_boot (low_alias b)
    may-low with_boot is = may-at 1 with_boot (low_alias b) (omega arith) is (last-at b 1)

    pub may-root : (with_boot with_low : List Area) → with_boot ≡ first ++ boot_leaf ∷ [] → with_low ≡ with_boot ++ low_alias b ∷ []
        → MayAdd with_low (root_region b)
    may-root with_boot with_low boot low =
        may-at 2 with_low (root_region b) (omega arith)
        (low ∙ ap (λ (areas : List Area). areas ++ low_alias b ∷ []) boot ∙ append_assoc first (boot_leaf ∷ []) (low_alias b ∷ [])) (last-at b 2)

-- The board of a heap.

shows-few : (b : Board) (v : Objects) → Shows b v → length v.rows ≤ LIVE_OBJECTS_MAX → length b.records ≤ LIVE_OBJECTS_MAX
shows-few b v s few =
    let same : length b.records ≡ length v.rows =
    ap (λ (rs : List Record). length rs) s.records ∙ length-map v.rows (λ (row : Key × Content). record_of row) in
    omega (arith, same, few)

pub shows-map : (b : Board) (v : Objects) → Shows b v → length v.rows ≤ LIVE_OBJECTS_MAX → SoundDevices b → SoundShape b → SoundClaims b → IsMap b
shows-map b v s few h shape fit = map_lem b h shape fit (shows-few b v s few)

-- there are not as many objects as a map may have regions
pub not-full : (b : Board) (v : Objects) → Shows b v → length v.rows ≤ LIVE_OBJECTS_MAX → SoundDevices b → SoundShape b → (objects : List Key)
    → births_of objects ≡ mapped b → MAX_REGIONS ≤ length objects → ⊥
not-full b v s few h shape objects listed full =
    absurd
    (let most : length (mapped b) ≤ LIVE_OBJECTS_MAX = few-mapped b h shape (shows-few b v s few) in
    let same : length objects ≡ length (mapped b) = sym (births-length objects) ∙ ap (λ (ns : List ℕ). length ns) listed in
    omega (arith, most, same, full))

-- an answer that is this error
pub err-memory : {T : Type 0} (r : Result T MapError) (e : MapError) → r ≡ Err e → e ≡ Memory → IfErr r (λ x. x ≡ Memory)
err-memory r e is memory = subst (λ x. IfErr x (λ y. y ≡ Memory)) (sym is) memory
