-- For proofs alone. How what the code finds in a stream stands to the definition of the cut.
use Rattle.std.specs.Prelude.{◌≡◌, ℕ, ◌≤◌, List, [], ◌∷◌, length, reverse, None, ⊤}
use Rattle.qo_values.specs.declared.limits.TheConstants.{MESSAGE_MAX}
use Rattle.qo_framing.specs.Cut.{Cut, Framing, Part, between, inside, skipping, stops, goes_on}
use Rattle.qo_framing.specs.Fronts.{end_after}
use Rattle.qo_framing.specs.Scanning.{IsAfter}
use Rattle.qo_framing.specs.declared.items.Item.{Item}
use Rattle.qo_framing.specs.declared.scanner.Scanner.{Scanner}
use Rattle.qo_framing.specs.declared.parts.Gap.{Gap}
use Rattle.qo_framing.specs.declared.parts.Gap.TheVariants.{Between, Skipping}
use Rattle.qo_framing.specs.declared.parts.Stop.{Stop}
use Rattle.qo_framing.specs.declared.parts.Stop.TheVariants.{In, Inside}
use Rattle.qo_framing.specs.declared.parts.Part.{Part as CodePart}
use Rattle.qo_framing.specs.declared.parts.Part.TheVariants.{Stops, GoesOn}

-- the state that is meant
abbrev pub state_of : Gap → Framing
state_of Between = between
state_of Skipping = skipping

abbrev pub state_at : Stop → Framing
state_at (In gap) = state_of gap
state_at (Inside bytes scanner) = inside bytes.now

-- the part that is meant
abbrev pub part_view : CodePart → Part
part_view (Stops stop) = stops (state_at stop)
part_view (GoesOn item gap rest) = goes_on item (state_of gap) rest.now

-- bytes are an object that has not ended, and the scanner stands after them
pub record IsUnfinished (bytes : List ℕ) (s : Scanner) : Type 0 where
  pub begins : List ℕ
  pub brace : bytes ≡ 123 ∷ begins
  pub unended : end_after [] bytes ≡ None
  pub scanned : IsAfter (reverse bytes) s
  pub size : length bytes ≤ MESSAGE_MAX

-- where a stream stops inside an object, its scanner is known
abbrev pub ScansStop : Stop → Type 0
ScansStop (In gap) = ⊤
ScansStop (Inside bytes scanner) = IsUnfinished bytes.now scanner

abbrev pub ScansPart : CodePart → Type 0
ScansPart (Stops stop) = ScansStop stop
ScansPart (GoesOn item gap rest) = ⊤

-- a cut with these items to a stop
abbrev pub cut_to : List Item → Stop → Cut
cut_to items stop = record { items = items; state = state_at stop }
