-- For a law alone. Two boards that agree in what a group of facts speaks of agree in that group.
use Rattle.std.specs.Prelude.{◌≡◌, ℕ, List, length, map}
use Rattle.qo_values.specs.Registers.{Registers, bare}
use Rattle.qo_model.specs.declared.notes.Note.{Note}
use Rattle.qo_model.specs.Board.{Board, Notice, Record, Removal}
use Rattle.qo_model.specs.SoundGraph.{graph_of}
use Rattle.qo_sound.specs.TreeKept.{SoundTree}
use Rattle.qo_sound_devices.specs.SoundLists.{SoundLists}
use Rattle.qo_sound_devices.specs.SoundPlaces.{SoundPlaces}
use Rattle.qo_sound_clocks.specs.SoundClocks.{SoundClocks}
use Rattle.qo_sound_clocks.specs.SoundNumbers.{SoundNumbers}
use Rattle.qo_sound_clocks.specs.SoundTimes.{SoundTimes}
use Rattle.qo_sound_phases.specs.SoundPhases.{SoundPhases}
use Rattle.qo_sound_bounds.specs.SoundBounds.{SoundBounds}
use Rattle.qo_sound_bounds.specs.SoundHolds.{SoundHolds}
use Rattle.qo_sound_bounds.specs.SoundSegments.{SoundSegments}
use Rattle.qo_sound_bounds.specs.SoundSources.{SoundSources}
use Rattle.qo_sound_claims.specs.SoundClaims.{SoundClaims}
use Rattle.qo_sound_claims.specs.SoundRings.{SoundRings, ring_ids}
use Rattle.qo_sound_shapes.specs.SoundOwners.{SoundOwners}
use Rattle.qo_sound_shapes.specs.SoundShape.{SoundShape}

-- an object without its registers
abbrev pub without_registers : Record → Record
without_registers r = record r { registers = bare }

-- the objects without their registers, and their registers alone
abbrev pub forms : Board → List Record
forms b = map without_registers b.records

abbrev pub bodies : Board → List Registers
bodies b = map (λ (r : Record). r.registers) b.records

-- what each group speaks of

-- the tree: births so far, pins, and the objects without their plain values and registers; of aliases, the objects without their registers
abbrev pub of_tree : Board → Board × List Record
of_tree b = (graph_of b, forms b)

-- where devices stand: the objects without their registers, and the accepted adds of devices without an id
abbrev pub of_places : Board → List Record × ℕ
of_places b = (forms b, b.anonymous)

-- the lists that name devices: the objects without their registers, the pending removals, the notices, and the virtual time
abbrev pub of_lists : Board → List Record × (List Removal × (List Notice × ℕ))
of_lists b = (forms b, (b.pending, (b.notices, b.now)))

-- clocks, their numbers, what they go by, and owners: the objects without their registers
abbrev pub of_clocks : Board → List Record
of_clocks b = forms b

-- holds, and with them the phases of objects by their notes
abbrev pub of_holds : Board → List Record × List ℕ
of_holds b = (forms b, b.holds)

abbrev pub of_phases : Board → (List Record × List ℕ) × (ℕ × List Note)
of_phases b = (of_holds b, (b.born, b.notes))

-- the moments of timers: registers and the virtual time; their segments: registers alone
abbrev pub of_times : Board → List Registers × ℕ
of_times b = (bodies b, b.now)

-- what devices claim: the objects, and the ids of rings
abbrev pub of_claims : Board → List Record × List (List ℕ)
of_claims b = (b.records, ring_ids b.rings)

-- the limits: how many objects there are, and the virtual time
abbrev pub of_bounds : Board → ℕ × ℕ
of_bounds b = (length b.records, b.now)

-- they speak of nothing else
pub record FramesLaw : Type 0 where
  pub tree : (b c : Board) → of_tree b ≡ of_tree c → SoundTree b → SoundTree c
  pub places : (b c : Board) → of_places b ≡ of_places c → SoundPlaces b → SoundPlaces c
  pub lists : (b c : Board) → of_lists b ≡ of_lists c → SoundLists b → SoundLists c
  pub clocks : (b c : Board) → of_clocks b ≡ of_clocks c → SoundClocks b → SoundClocks c
  pub numbers : (b c : Board) → of_clocks b ≡ of_clocks c → SoundNumbers b → SoundNumbers c
  pub sources : (b c : Board) → of_clocks b ≡ of_clocks c → SoundSources b → SoundSources c
  pub owners : (b c : Board) → of_clocks b ≡ of_clocks c → SoundOwners b → SoundOwners c
  pub holds : (b c : Board) → of_holds b ≡ of_holds c → SoundHolds b → SoundHolds c
  pub phases : (b c : Board) → of_phases b ≡ of_phases c → SoundPhases b → SoundPhases c
  pub times : (b c : Board) → of_times b ≡ of_times c → SoundTimes b → SoundTimes c
  pub segments : (b c : Board) → bodies b ≡ bodies c → SoundSegments b → SoundSegments c
  pub shape : (b c : Board) → b.records ≡ c.records → SoundShape b → SoundShape c
  pub claims : (b c : Board) → of_claims b ≡ of_claims c → SoundClaims b → SoundClaims c
  pub rings : (b c : Board) → b.rings ≡ c.rings → SoundRings b → SoundRings c
  pub bounds : (b c : Board) → of_bounds b ≡ of_bounds c → SoundBounds b → SoundBounds c
