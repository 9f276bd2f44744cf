-- What adding a region answers.
use Rattle.std.specs.Prelude.{◌≡◌, ◌<◌, ◌≤◌, ℕ, true, false, List, [], ◌∷◌, ◌++◌, length}
use Rattle.std.specs.declared.result.Result.{Result}
use Rattle.std.specs.declared.result.Result.TheVariants.{Ok, Err}
use Rattle.qo_memmap.specs.declared.map.TheConstants.{MAX_RANK, MAX_REGIONS}
use Rattle.qo_memmap.specs.declared.errors.MapError.{MapError}
use Rattle.qo_memmap.specs.declared.errors.MapError.TheVariants.{BadRange, BadRef, TooDeep, Full, Memory}
use Rattle.qo_memmap.specs.Regions.{Area, is_in_range, names_below, area_rank, rank_at}

-- the rank that a region would have
abbrev pub new_rank : List Area → Area → ℕ
new_rank areas area = area_rank (rank_at areas) area

-- its numbers are in range, and what it names is there
abbrev pub IsNamed : List Area → Area → Type 0
IsNamed areas area = (is_in_range area ≡ true) × (names_below (length areas) area ≡ true)

-- the region's number, and it is the last; or nothing has changed, exactly where a number is out of range, else where it
-- names a region that is not there, else where its rank would be too great, else where there are as many regions as there
-- may be, or memory ran out
abbrev pub Added : List Area → List Area → Area → Result ℕ MapError → Type 0
Added old new area (Ok r) = IsNamed old area × (new_rank old area ≤ MAX_RANK) × (length old < MAX_REGIONS) × (r ≡ length old) × (new ≡ old ++ area ∷ [])
Added old new area (Err BadRange) = (is_in_range area ≡ false) × (new ≡ old)
Added old new area (Err BadRef) = (is_in_range area ≡ true) × (names_below (length old) area ≡ false) × (new ≡ old)
Added old new area (Err TooDeep) = IsNamed old area × (MAX_RANK < new_rank old area) × (new ≡ old)
Added old new area (Err Full) = IsNamed old area × (new_rank old area ≤ MAX_RANK) × (MAX_REGIONS ≤ length old) × (new ≡ old)
Added old new area (Err Memory) = IsNamed old area × (new_rank old area ≤ MAX_RANK) × (length old < MAX_REGIONS) × (new ≡ old)
