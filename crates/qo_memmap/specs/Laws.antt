-- For laws alone. What the words on regions mean together.
use Rattle.std.specs.Prelude.{◌≡◌, ℕ, ◌<◌, ◌≤◌, ◌⊎◌, true, pos, List, length, Option, None, Some, slice_index_or}
use Rattle.std.specs.Int.Signed.{◌<ℤ◌}
use Rattle.qo_memmap.specs.declared.region.Place.{Place}
use Rattle.qo_memmap.specs.Regions.{Target, Seen, Area, area_at, area_shows, child_shows, children_show, names_below, shows_at}

-- each region names lower ones
abbrev pub NamesLower : List Area → Type 0
NamesLower areas = (r : ℕ) → r < length areas → names_below r (area_at areas r) ≡ true

-- what a region shows is what its kind and its children make of what those show that it names
abbrev pub LawRegions : Type 0
LawRegions = (areas : List Area) → NamesLower areas → (r a : ℕ) → r < length areas → shows_at areas r a ≡ area_shows (shows_at areas) (area_at areas r) a

-- a child by its place in the list
abbrev pub place_at : List Place → ℕ → Place
place_at places i = slice_index_or places i (record { region = 0; at = 0; priority = pos 0 })

-- of all children that show something, this one shows: each other is of a lower priority, or of the same and stands before it
pub record IsTopmost (shows : ℕ → ℕ → Option Target) (places : List Place) (a : ℕ) (seen : Seen) : Type 0 where
  pub index : ℕ
  pub there : index < length places
  pub shown : child_shows shows (place_at places index) a ≡ Some seen
  pub above : (i : ℕ) (other : Seen) → i < length places → child_shows shows (place_at places i) a ≡ Some other
      → (other.priority <ℤ seen.priority) ⊎ ((other.priority ≡ seen.priority) × (i ≤ index))

-- no child shows anything, or the topmost of those that do shows
abbrev pub ShowTopmost : (ℕ → ℕ → Option Target) → List Place → ℕ → Option Seen → Type 0
ShowTopmost shows places a None = (i : ℕ) → i < length places → child_shows shows (place_at places i) a ≡ None
ShowTopmost shows places a (Some seen) = IsTopmost shows places a seen

-- children show together what the first of them shows, by falling priority, and the later ones first among equals, that shows something
abbrev pub LawTopmost : Type 0
LawTopmost = (shows : ℕ → ℕ → Option Target) (places : List Place) (a : ℕ) → ShowTopmost shows places a (children_show shows places a)
