-- When the lists of a board that name devices are sound: the removals that are pending, and what the guest is told.
use Rattle.std.specs.Prelude.{◌≡◌, ℕ, ◌≤◌, true, nat_eq, List, length, map}
use Rattle.std.specs.List.{AllByRecursion, IsDistinct}
use Rattle.qo_values.specs.declared.limits.TheConstants.{NOTICES_MAX}
use Rattle.qo_model.specs.Board.{Board, Notice, Removal}
use Rattle.qo_model.specs.Devices.{is_realized}
use Rattle.qo_sound_devices.specs.SoundPlaces.{stands}

-- a device stands in a container, and is realized
abbrev pub IsOn : Board → ℕ → Type 0
IsOn b d = (stands b d ≡ true) × (is_realized b d ≡ true)

-- the devices of some removals
abbrev pub births_of : List Removal → List ℕ
births_of rs = map (λ (r : Removal). r.birth) rs

-- the lists are sound
pub record SoundLists (b : Board) : Type 0 where
  -- whose removal is pending is realized and stands in its place, and none is pending twice
  pub pending : AllByRecursion (λ (r : Removal). IsOn b r.birth) b.pending
  pub once : IsDistinct nat_eq (births_of b.pending)
  -- and no time of asking is ahead of the virtual time
  pub asked : AllByRecursion (λ (r : Removal). r.asked ≤ b.now) b.pending
  -- of whom the guest has a notice too, and there are not too many notices
  pub notices : AllByRecursion (λ (x : Notice). IsOn b x.birth) b.notices
  pub few : length b.notices ≤ NOTICES_MAX
