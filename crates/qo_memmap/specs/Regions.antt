-- Memory regions, after QEMU's memory API (docs/devel/memory.rst: "Visibility", "Overlapping regions and priority").
use Rattle.std.specs.Prelude.{ℕ, zero, suc, ◌+◌, ◌-◌, Bool, true, not, ◌&&◌, ◌==◌, nat_lt, nat_le, if◌then◌else◌, ℤ, List, [], ◌∷◌, Option, Some, None, max, slice_index_or}
use Rattle.std.specs.Int.Signed.{le_z}
use Rattle.std.specs.List.{list_all}
use Rattle.std.specs.Option.{option_map}
use Rattle.qo_memmap.specs.declared.region.Kind.{Kind}
use Rattle.qo_memmap.specs.declared.region.Kind.TheVariants.{Container, Leaf, Alias}
use Rattle.qo_memmap.specs.declared.region.Place.{Place}
use Rattle.qo_memmap.specs.declared.region.Region.{Region}
use Rattle.qo_memmap.specs.declared.region.TheConstants.{ADDRESS_LIMIT}

-- a region: its size, what it shows where no child does, and its children in the order of their list
pub record Area : Type 0 where
  pub size : ℕ
  pub kind : Kind
  pub children : List Place

abbrev pub area_of : Region → Area
area_of r = record { size = r.size; kind = r.kind; children = r.children.items }

-- a leaf, and an offset in it
pub record Target : Type 0 where
  pub leaf : ℕ
  pub offset : ℕ

-- what a child shows, with its priority
pub record Seen : Type 0 where
  pub priority : ℤ
  pub target : Target

-- what two children show together, the first standing before the other in the list: where both show something, the one
-- of the greater priority, and the later one where their priorities are equal
abbrev pub over : Option Seen → Option Seen → Option Seen
over first None = first
over None (Some later) = Some later
over (Some first) (Some later) = if le_z first.priority later.priority then Some later else Some first

-- what a child shows at an address of its parent
abbrev pub child_shows : (ℕ → ℕ → Option Target) → Place → ℕ → Option Seen
child_shows shows place a =
    if nat_lt a place.at then None else option_map (λ t. record { priority = place.priority; target = t }) (shows place.region (a - place.at))

-- what children show together
abbrev pub children_show : (ℕ → ℕ → Option Target) → List Place → ℕ → Option Seen
children_show shows [] a = None
children_show shows (place ∷ places) a = over (child_shows shows place a) (children_show shows places a)

-- what a leaf shows
abbrev pub leaf_shows : ℕ → ℕ → Option Target
leaf_shows leaf a = Some (record { leaf = leaf; offset = a })

-- what a region shows by itself
abbrev pub kind_shows : (ℕ → ℕ → Option Target) → Kind → ℕ → Option Target
kind_shows shows Container a = None
kind_shows shows (Leaf leaf) a = leaf_shows leaf a
kind_shows shows (Alias region offset) a = shows region (a + offset)

-- what children show, and where they show nothing what the region shows by itself
abbrev pub or_itself : Option Seen → Option Target → Option Target
or_itself None itself = itself
or_itself (Some seen) itself = Some seen.target

-- what a region shows at an address, by what those show that it names
abbrev pub area_shows : (ℕ → ℕ → Option Target) → Area → ℕ → Option Target
area_shows shows area a =
    if nat_lt a area.size then or_itself (children_show shows area.children a) (kind_shows shows area.kind a) else None

-- the region of a number; there is nothing in one that is not there
abbrev pub area_at : List Area → ℕ → Area
area_at areas r = slice_index_or areas r (record { size = 0; kind = Container; children = [] })

-- the same through so many regions, one in the other
unfoldable pub shows_within : ℕ → List Area → ℕ → ℕ → Option Target
shows_within zero areas r a = None
shows_within (suc regions) areas r a = area_shows (shows_within regions areas) (area_at areas r) a

-- what a region shows at an address: each region names lower ones, so no more than its number and one stand one in the other
abbrev pub shows_at : List Area → ℕ → ℕ → Option Target
shows_at areas r a = shows_within (suc r) areas r a

-- the regions that it names are below a number
abbrev pub kind_below : ℕ → Kind → Bool
kind_below n (Alias region offset) = nat_lt region n
kind_below n _ = true

abbrev pub names_below : ℕ → Area → Bool
names_below n area = kind_below n area.kind && list_all (λ (p : Place). nat_lt p.region n) area.children

-- one more than the greatest rank of the regions that it names, and 0 where it names none
abbrev pub kind_rank : (ℕ → ℕ) → Kind → ℕ
kind_rank rank (Alias region offset) = rank region + 1
kind_rank rank _ = 0

abbrev pub children_rank : (ℕ → ℕ) → List Place → ℕ
children_rank rank [] = 0
children_rank rank (place ∷ places) = max (rank place.region + 1) (children_rank rank places)

abbrev pub area_rank : (ℕ → ℕ) → Area → ℕ
area_rank rank area = max (kind_rank rank area.kind) (children_rank rank area.children)

unfoldable pub rank_within : ℕ → List Area → ℕ → ℕ
rank_within zero areas r = 0
rank_within (suc regions) areas r = area_rank (rank_within regions areas) (area_at areas r)

-- the rank of a region: how deep regions stand in it
abbrev pub rank_at : List Area → ℕ → ℕ
rank_at areas r = rank_within (suc r) areas r

-- whether its size, the places of its children and the offset of an alias are in range
abbrev pub kind_in_range : Kind → Bool
kind_in_range (Alias region offset) = nat_le offset ADDRESS_LIMIT
kind_in_range _ = true

abbrev pub is_in_range : Area → Bool
is_in_range area =
    not (area.size == 0) && nat_le area.size ADDRESS_LIMIT && kind_in_range area.kind && list_all (λ (p : Place). nat_le p.at ADDRESS_LIMIT) area.children
