-- Three-phase reset: holds and phases (docs/devel/reset.rst, "Triggering reset", "Multi-phase mechanism", "Handling reset in a resettable object").
use Rattle.std.specs.Prelude.{ℕ, Bool, ◌==◌, nat_lt, if◌then◌else◌, List, [], ◌∷◌, ◌++◌, filter, count_by, codes}
use Rattle.std.specs.List.{flat_map, list_any}
use Rattle.qo_values.specs.declared.kinds.Act.{Act}
use Rattle.qo_values.specs.declared.kinds.Act.TheVariants.{Enter, Hold, Exit}
use Rattle.qo_values.specs.declared.kinds.ResetKind.{ResetKind}
use Rattle.qo_values.specs.Kinds.{entering}
use Rattle.qo_values.specs.declared.limits.TheConstants.{HOLD_COUNT_MAX}
use Rattle.qo_model.specs.Board.{Board}
use Rattle.qo_model.specs.Clocks.{acted}
use Rattle.qo_model.specs.Depth.{among, by_objects}
use Rattle.qo_model.specs.Devices.{buses_of, kids_of}
use Rattle.qo_model.specs.Paths.{births, is_of}
use Rattle.qo_model.specs.Release.{without_first}

-- the reset children of an object: the kids of a bus in order of plugging, the buses of the machine and of a device in slot order
abbrev pub below : Board → ℕ → List ℕ
below b o = if is_of b (codes "bus") o then kids_of b o else buses_of b o

abbrev pub post_turn : Board → (ℕ → List ℕ) → ℕ → List ℕ
post_turn b f o = flat_map f (below b o) ++ o ∷ []

-- an object after all that is below it
unfoldable pub post : Board → ℕ → List ℕ
post b o = by_objects (post_turn b) (λ _. []) (births b) o

-- how many holds there are on it and above it
abbrev pub count : Board → ℕ → ℕ
count b o = count_by (λ r. among (post b r) o) b.holds

abbrev pub is_not_in_reset : Board → ℕ → Bool
is_not_in_reset b o = count b o == 0

-- whether a hold on an object would be one too many for it or for one below it
abbrev pub exceeds_depth : Board → ℕ → Bool
exceeds_depth b r = list_any (λ o. nat_lt HOLD_COUNT_MAX (count b o)) (post b r)

-- a phase, on objects in order; the bodies of phases do not read the period
abbrev pub phased : Act → List ℕ → Board → Board
phased act [] b = b
phased act (o ∷ os) b = phased act os (acted act o 0 b)

-- a hold, for a reset of a type: those that were out enter and then hold; the type belongs to the enter phase alone
unfoldable pub after_hold : Board → ℕ → ResetKind → Board
after_hold b r kind =
    let c = phased Hold (filter (is_not_in_reset b) (post b r)) (phased (entering kind) (filter (is_not_in_reset b) (post b r)) b) in
    record c { holds = b.holds ++ r ∷ [] }

-- a hold less: those that are out now exit
unfoldable pub released : Board → ℕ → Board
released b r =
    let c = record b { holds = without_first r b.holds } in
    phased Exit (filter (is_not_in_reset c) (post c r)) c

unfoldable pub pulse : Board → ℕ → ResetKind → Board
pulse b r kind = released (after_hold b r kind) r

-- what is plugged goes through the phases, and stays held where it is below a hold
unfoldable pub plugged : Board → ℕ → Board
plugged b d = phased Exit (filter (is_not_in_reset b) (post b d)) (phased Hold (post b d) (phased Enter (post b d) b))
