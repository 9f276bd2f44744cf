-- The view of a board is of its objects alone, and of the ranges of DIMMs.
use Rattle.std.proofs.Common.{◌≡◌, refl, ap, ap₂, subst, sym, ◌∙◌, ℕ, suc, ◌+◌, ◌-◌, ◌*◌, ◌/◌, Bool, true, false, ◌&&◌, if◌then◌else◌, List, [], ◌∷◌, ◌++◌, map, filter_map, length, find, Option, Some, None, option_map, option_and_then, codes, pos, negsuc, IfSome}
use Rattle.std.specs.Prelude.{◌==◌, is_some, nat_eq, not}
use Rattle.std.specs.List.{cons_option, flat_map, position_or_len}
use Rattle.std.specs.Option.{option_map_or}
use Rattle.std.specs.Str.{bytes_eq}
use Rattle.std.proofs.Math.Path.{fun_ext}
use Rattle.qo_values.specs.Placing.{window_size, window_start}
use Rattle.qo_values.specs.Registers.{DimmRegisters}
use Rattle.qo_values.specs.declared.births.TheConstants.{MEMORY_BUS_BIRTH, ROOT_BUS_BIRTH}
use Rattle.qo_values.specs.declared.kinds.TypeId.{TypeId}
use Rattle.qo_values.specs.declared.limits.TheConstants.{BUS_SLOTS}
use Rattle.qo_model.specs.Board.{Board, Record, Slot, alias, child, plain, strong, weak, kind_of, record_of, slots_at}
use Rattle.qo_model.specs.Depth.{by_depth}
use Rattle.qo_model.specs.Devices.{bridge_of, bus_above, bus_in, bus_of, buses_of, clock_name, depth_of, first_bus, kid_at, kid_name, kids_of, strong_at, strong_in}
use Rattle.qo_model.specs.Paths.{births, is_child, is_of, parent_of, place_in}
use Rattle.qo_model.specs.Reset.{below, post}
use Rattle.qo_model.specs.SoundGraph.{without_value, without_values}
use Rattle.qo_model.specs.Types.{is_a}
use Rattle.qo_model.proofs.StepLemmas.{found_at}
use Rattle.qo_sound_shapes.specs.SoundShape.{unvalued}
use Rattle.qo_memmap.specs.FlatViews.{flat_from}
use Rattle.qo_memmap.specs.Regions.{Area, Target, shows_at}
use Rattle.qo_memmap.specs.Spans.{IsFlat}
use Rattle.qo_memmap.specs.declared.region.Kind.TheVariants.{Container, Leaf, Alias}
use Rattle.qo_memmap.specs.declared.region.Place.{Place}
use Rattle.qo_layout.specs.Kept.{IsViewOf, Kept}
use Rattle.qo_layout.specs.Layout.{board_map, boot_leaf, bus_of_slots, device_leaf, device_places, flat_view, is_memory, mapped, memory_places, memory_window, placed, range_of, region_of, root_number, slot_places, slot_size, slots_of_bus}
use Rattle.qo_layout.specs.SameViews.{SameObjects, SameViewLaw}
use Rattle.qo_layout.specs.declared.addresses.TheConstants.{DEVICE_SIZE, LOW_SIZE, ROOT_SIZE, SLOTS_AT}

-- a board without plain values and registers
abbrev pub framed : Board → Board
framed b = record b { records = map without_values b.records }

found-framed : (n : ℕ) (rs : List Record) → found_at n (map without_values rs) ≡ option_map without_values (found_at n rs)
found-framed n [] = refl
found-framed n (r ∷ rs) = go (r.birth == n) refl (found-framed n rs)
  where
    go : (t : Bool) → (r.birth == n) ≡ t → found_at n (map without_values rs) ≡ option_map without_values (found_at n rs)
        → found_at n (map without_values (r ∷ rs)) ≡ option_map without_values (found_at n (r ∷ rs))
    go true p rest = rw p refl
    go false p rest = rw p rest

pub births-framed : (rs : List Record) → map (λ (r : Record). r.birth) (map without_values rs) ≡ map (λ (r : Record). r.birth) rs
births-framed [] = refl
births-framed (r ∷ rs) = ap (λ (ns : List ℕ). r.birth ∷ ns) (births-framed rs)

pub kind-framed : (b : Board) (n : ℕ) → kind_of (framed b) n ≡ kind_of b n
kind-framed b n = ap (option_map (λ (r : Record). r.kind)) (found-framed n b.records) ∙ go (record_of b n)
  where
    go : (o : Option Record) → option_map (λ (r : Record). r.kind) (option_map without_values o) ≡ option_map (λ (r : Record). r.kind) o
    go None = refl
    go (Some r) = refl

pub slots-framed : (b : Board) (n : ℕ) → slots_at (framed b) n ≡ unvalued (slots_at b n)
slots-framed b n = ap (λ (o : Option Record). option_map_or (λ (r : Record). r.slots) o []) (found-framed n b.records) ∙ go (record_of b n)
  where
    go : (o : Option Record)
        → option_map_or (λ (r : Record). r.slots) (option_map without_values o) [] ≡ unvalued (option_map_or (λ (r : Record). r.slots) o [])
    go None = refl
    go (Some r) = refl

pub of-framed : (b : Board) (wanted : List ℕ) (n : ℕ) → is_of (framed b) wanted n ≡ is_of b wanted n
of-framed b wanted n = ap (λ (o : Option TypeId). option_map_or (λ (t : TypeId). is_a t wanted) o false) (kind-framed b n)

strong-framed : (s : Slot) → strong_in (without_value s) ≡ strong_in s
strong-framed (plain v) = refl
strong-framed (child m) = refl
strong-framed (strong t target) = refl
strong-framed (weak t target) = refl
strong-framed (alias m name) = refl

-- the kids of a bus, and the target of a link by its name

kids-in : (xs : List (List ℕ × Slot)) → filter_map (λ (s : List ℕ × Slot). strong_in s.1) (unvalued xs) ≡ filter_map (λ (s : List ℕ × Slot). strong_in s.1) xs
kids-in [] = refl
kids-in (s ∷ xs) = ap₂ cons_option (strong-framed s.1) (kids-in xs)

pub kids-framed : (b : Board) (n : ℕ) → kids_of (framed b) n ≡ kids_of b n
kids-framed b n = ap (λ (xs : List (List ℕ × Slot)). filter_map (λ (s : List ℕ × Slot). strong_in s.1) xs) (slots-framed b n) ∙ kids-in (slots_at b n)

abbrev pub strong_named : List ℕ → List (List ℕ × Slot) → Option ℕ
strong_named name xs = option_and_then strong_in (option_map (λ (s : List ℕ × Slot). s.1) (find (λ (s : List ℕ × Slot). bytes_eq s.0 name) xs))

pub named-framed : (name : List ℕ) (xs : List (List ℕ × Slot)) → strong_named name (unvalued xs) ≡ strong_named name xs
named-framed name [] = refl
named-framed name (s ∷ xs) = go (bytes_eq s.0 name) refl (named-framed name xs)
  where
    go : (t : Bool) → bytes_eq s.0 name ≡ t → strong_named name (unvalued xs) ≡ strong_named name xs
        → strong_named name (unvalued (s ∷ xs)) ≡ strong_named name (s ∷ xs)
    go true p rest = rw p (strong-framed s.1)
    go false p rest = rw p rest

strong_at-framed : (b : Board) (n : ℕ) (name : List ℕ) → strong_at (framed b) n name ≡ strong_at b n name
strong_at-framed b n name = ap (strong_named name) (slots-framed b n) ∙ named-framed name (slots_at b n)

-- the buses of a device

bus-framed : (b : Board) (name : List ℕ) (s : Slot) → bus_in (framed b) (name, without_value s) ≡ bus_in b (name, s)
bus-framed b name (plain v) = refl
bus-framed b name (child m) = ap (λ (t : Bool). if t && not (bytes_eq name clock_name) then Some m else None) (of-framed b (codes "bus") m)
bus-framed b name (strong t target) = refl
bus-framed b name (weak t target) = refl
bus-framed b name (alias m property) = refl

buses-in : (b : Board) (xs : List (List ℕ × Slot)) → filter_map (bus_in (framed b)) (unvalued xs) ≡ filter_map (bus_in b) xs
buses-in b [] = refl
buses-in b (s ∷ xs) = ap₂ cons_option (bus-framed b s.0 s.1) (buses-in b xs)

pub buses-framed : (b : Board) (n : ℕ) → buses_of (framed b) n ≡ buses_of b n
buses-framed b n = ap (filter_map (bus_in (framed b))) (slots-framed b n) ∙ buses-in b (slots_at b n)

-- the parent of an object

child-framed : (n : ℕ) (s : Slot) → is_child n (without_value s) ≡ is_child n s
child-framed n (plain v) = refl
child-framed n (child m) = refl
child-framed n (strong t target) = refl
child-framed n (weak t target) = refl
child-framed n (alias m name) = refl

abbrev child_named : ℕ → ℕ → List (List ℕ × Slot) → Option (ℕ × List ℕ)
child_named n owner xs = option_map (λ (s : List ℕ × Slot). (owner, s.0)) (find (λ (s : List ℕ × Slot). is_child n s.1) xs)

place-in : (n owner : ℕ) (xs : List (List ℕ × Slot)) → child_named n owner (unvalued xs) ≡ child_named n owner xs
place-in n owner [] = refl
place-in n owner (s ∷ xs) = go (is_child n s.1) refl (place-in n owner xs)
  where
    go : (t : Bool) → is_child n s.1 ≡ t → child_named n owner (unvalued xs) ≡ child_named n owner xs
        → child_named n owner (unvalued (s ∷ xs)) ≡ child_named n owner (s ∷ xs)
    go true p rest = let q : is_child n (without_value s.1) ≡ true = child-framed n s.1 ∙ p in rw (p, q) refl
    go false p rest = let q : is_child n (without_value s.1) ≡ false = child-framed n s.1 ∙ p in rw (p, q) rest

abbrev place_among : ℕ → List Record → Option (ℕ × List ℕ)
place_among n rs = option_and_then (place_in n) (find (λ (r : Record). is_some (place_in n r)) rs)

place-framed : (n : ℕ) (rs : List Record) → place_among n (map without_values rs) ≡ place_among n rs
place-framed n [] = refl
place-framed n (r ∷ rs) = go (place_in n r) refl (place-framed n rs)
  where
    same : place_in n (without_values r) ≡ place_in n r
    same = place-in n r.birth r.slots

    go : (o : Option (ℕ × List ℕ)) → place_in n r ≡ o → place_among n (map without_values rs) ≡ place_among n rs
        → place_among n (map without_values (r ∷ rs)) ≡ place_among n (r ∷ rs)
    go None p rest = let q : place_in n (without_values r) ≡ None = same ∙ p in rw (p, q) rest
    go (Some place) p rest = let q : place_in n (without_values r) ≡ Some place = same ∙ p in rw (p, q) same

parent-framed : (b : Board) (n : ℕ) → parent_of (framed b) n ≡ parent_of b n
parent-framed b n = ap (option_map (λ (p : ℕ × List ℕ). p.0)) (place-framed n b.records)

-- What is read of boards with the same objects.

module _ (b c : Board) (same : SameObjects b c) where
  births-same : births b ≡ births c
  births-same = sym (births-framed b.records) ∙ ap (map (λ (r : Record). r.birth)) same.objects ∙ births-framed c.records

  is-same : (wanted : List ℕ) (n : ℕ) → is_of b wanted n ≡ is_of c wanted n
  is-same wanted n =
      sym (of-framed b wanted n) ∙ ap (λ (rs : List Record). is_of (record b { records = rs }) wanted n) same.objects ∙ of-framed c wanted n

  parent-same : (n : ℕ) → parent_of b n ≡ parent_of c n
  parent-same n = sym (parent-framed b n) ∙ ap (λ (rs : List Record). parent_of (record b { records = rs }) n) same.objects ∙ parent-framed c n

  strong-same : (n : ℕ) (name : List ℕ) → strong_at b n name ≡ strong_at c n name
  strong-same n name =
      sym (strong_at-framed b n name) ∙ ap (λ (rs : List Record). strong_at (record b { records = rs }) n name) same.objects ∙ strong_at-framed c n name

  kid-same : (bus slot : ℕ) → kid_at b bus slot ≡ kid_at c bus slot
  kid-same bus slot = strong-same bus (kid_name slot)

  bus_of-same : (n : ℕ) → bus_of b n ≡ bus_of c n
  bus_of-same n = strong-same n (codes "parent_bus")

  buses-same : (n : ℕ) → buses_of b n ≡ buses_of c n
  buses-same n = sym (buses-framed b n) ∙ ap (λ (rs : List Record). buses_of (record b { records = rs }) n) same.objects ∙ buses-framed c n

  first-same : (n : ℕ) → first_bus b n ≡ first_bus c n
  first-same n = ap (λ (ms : List ℕ). elim ms [ [] ↦ None | m ∷ _ ↦ Some m ]) (buses-same n)

  kids-same : (n : ℕ) → kids_of b n ≡ kids_of c n
  kids-same n = sym (kids-framed b n) ∙ ap (λ (rs : List Record). kids_of (record b { records = rs }) n) same.objects ∙ kids-framed c n

  below-same : (o : ℕ) → below b o ≡ below c o
  below-same o =
      ap (λ (is : Bool). if is then kids_of b o else buses_of b o) (is-same (codes "bus") o)
      ∙ ap₂ (λ (kids buses : List ℕ). if is_of c (codes "bus") o then kids else buses) (kids-same o) (buses-same o)

  size-same : length (births b) ≡ length (births c)
  size-same = ap (λ (ns : List ℕ). length ns) births-same

  post-same : (o : ℕ) → post b o ≡ post c o
  unfolding post
  post-same o =
      ap₂ (λ (next : ℕ → List ℕ) (d : ℕ). by_depth (λ (f : ℕ → List ℕ) (n : ℕ). flat_map f (next n) ++ n ∷ []) (λ _. []) (suc d) o) (fun_ext below-same) size-same

  mapped-same : mapped b ≡ mapped c
  mapped-same = ap₂ (λ (roots memory : List ℕ). roots ++ memory) (post-same ROOT_BUS_BIRTH) (post-same MEMORY_BUS_BIRTH)

  bridge-same : (bus : ℕ) → bridge_of b bus ≡ bridge_of c bus
  bridge-same bus =
      ap₂ (λ (f : ℕ → Bool) (o : Option ℕ). option_and_then (λ (p : ℕ). if f p then Some p else None) o) (fun_ext (is-same (codes "device"))) (parent-same bus)

  above-same : (bus : ℕ) → bus_above b bus ≡ bus_above c bus
  above-same bus = ap₂ (λ (f : ℕ → Option ℕ) (o : Option ℕ). option_and_then f o) (fun_ext bus_of-same) (bridge-same bus)

  depth-same : (bus : ℕ) → depth_of b bus ≡ depth_of c bus
  unfolding depth_of
  depth-same bus =
      ap₂
      (λ (above : ℕ → Option ℕ) (d : ℕ).
      by_depth (λ (f : ℕ → ℕ) (bus : ℕ). elim (above bus) [ None ↦ 0 | Some next ↦ suc (f next) ]) (λ _. 0) (suc d) bus) (fun_ext above-same) size-same

  -- Regions.

  device-same : (at size d : ℕ) → device_places b at size d ≡ device_places c at size d
  device-same at size d =
      ap₂
      (λ (all : List ℕ) (first : Option ℕ).
      record { region = position_or_len (nat_eq d) all; at = at; priority = pos 0 }
      ∷ option_map_or (λ (m : ℕ). record { region = position_or_len (nat_eq m) all; at = at + size / 2; priority = pos 0 } ∷ []) first []) mapped-same
      (first-same d)

  slot-same : (bus size slot : ℕ) → slot_places b bus size slot ≡ slot_places c bus size slot
  slot-same bus size slot =
      ap₂ (λ (f : ℕ → List Place) (kid : Option ℕ). option_map_or f kid []) (fun_ext (device-same (slot * size) size)) (kid-same bus slot)

  bus-same : (bus size : ℕ) → bus_of_slots b bus size ≡ bus_of_slots c bus size
  bus-same bus size =
      ap (λ (f : ℕ → List Place). record { size = BUS_SLOTS * size; kind = Container; children = flat_map f slots_of_bus }) (fun_ext (slot-same bus size))

  dimm-same : (slot : ℕ) → memory_places b slot ≡ memory_places c slot
  dimm-same slot =
      ap₂
      (λ (all : List ℕ) (range : ℕ → DimmRegisters).
      option_map_or (λ (d : ℕ). record { region = position_or_len (nat_eq d) all; at = (range d).address - window_start; priority = pos 0 } ∷ [])
      (kid_at b MEMORY_BUS_BIRTH slot) []) mapped-same (fun_ext same.ranges)
      ∙ ap (λ (kid : Option ℕ). option_map_or (λ (d : ℕ). placed c d ((range_of c d).address - window_start) ∷ []) kid []) (kid-same MEMORY_BUS_BIRTH slot)

  memory-same : memory_window b ≡ memory_window c
  memory-same =
      ap (λ (f : ℕ → List Place). record { size = window_size; kind = Container; children = flat_map f slots_of_bus }) (fun_ext dimm-same)

  is_memory-same : (d : ℕ) → is_memory b d ≡ is_memory c d
  is_memory-same d =
      ap₂ (λ (bus : Option ℕ) (is : Bool). option_map_or (λ (q : ℕ). q == MEMORY_BUS_BIRTH) bus false && is) (bus_of-same d) (is-same (codes "mem-dimm") d)

  leaf-same : (d : ℕ) → device_leaf b d ≡ device_leaf c d
  leaf-same d =
      ap₂ (λ (is : Bool) (range : DimmRegisters). record { size = if is then range.size else DEVICE_SIZE; kind = Leaf d; children = [] }) (is_memory-same d)
      (same.ranges d)

  of_bus-same : (o : ℕ) → bus_of_slots b o (slot_size (depth_of b o)) ≡ bus_of_slots c o (slot_size (depth_of c o))
  of_bus-same o = ap (λ (d : ℕ). bus_of_slots b o (slot_size d)) (depth-same o) ∙ bus-same o (slot_size (depth_of c o))

  region-same : (o : ℕ) → region_of b o ≡ region_of c o
  region-same o =
      ap₂ (λ (is : Bool) (window : Area). if o == MEMORY_BUS_BIRTH then window else if is then bus_of_slots b o (slot_size (depth_of b o)) else device_leaf b o)
      (is-same (codes "bus") o) memory-same
      ∙ ap₂ (λ (bus leaf : Area). if o == MEMORY_BUS_BIRTH then memory_window c else if is_of c (codes "bus") o then bus else leaf) (of_bus-same o) (leaf-same o)

  map-same : board_map b ≡ board_map c
  map-same =
      ap₂
      (λ (f : ℕ → Area) (all : List ℕ).
      map f all
      ++ boot_leaf ∷ record { size = LOW_SIZE; kind = Alias (position_or_len (nat_eq MEMORY_BUS_BIRTH) all) 0; children = [] }
      ∷ record {
        size = ROOT_SIZE;
        kind = Container;
        children =
            record { region = length all; at = 0; priority = pos 0 }
            ∷ record { region = position_or_len (nat_eq MEMORY_BUS_BIRTH) all; at = window_start; priority = pos 0 }
            ∷ record { region = position_or_len (nat_eq ROOT_BUS_BIRTH) all; at = SLOTS_AT; priority = pos 0 }
            ∷ record { region = length all + 1; at = 0; priority = negsuc 0 } ∷ [];
      } ∷ []) (fun_ext region-same) mapped-same

  shows-same : shows_at (board_map b) (root_number b) ≡ shows_at (board_map c) (root_number c)
  shows-same = ap₂ (λ (areas : List Area) (r : ℕ). shows_at areas r) map-same (ap (λ (all : List ℕ). length all + 2) mapped-same)

  same-view : flat_view b ≡ flat_view c
  same-view = ap (λ (shows : ℕ → Option Target). flat_from shows 0 ROOT_SIZE) shows-same

  same-kept : (kept : Kept) → IsViewOf b kept → IsViewOf c kept
  same-kept kept is = subst (λ (shows : ℕ → Option Target). IfSome kept (IsFlat shows)) shows-same is

pub same-beside : (b c : Board) → b.records ≡ c.records → SameObjects b c
same-beside b c same = record {
  objects = ap (map without_values) same;
  ranges = λ o. ap (λ (records : List Record). range_of (record b { records = records }) o) same;
}

pub same_view_lem : SameViewLaw
same_view_lem = record { view = same-view; kept = same-kept; beside = same-beside }
