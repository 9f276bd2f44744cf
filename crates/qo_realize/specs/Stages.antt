-- For proofs alone. A board on which a device is being added in stages, and what the calls of the stages answer and leave.
use Rattle.std.specs.Prelude.{◌≡◌, ℕ, ◌<◌, ◌≤◌, IfSome, Result, Ok, Err, ⊤}
use Rattle.qo_values.specs.declared.codes.Code.TheVariants.{E44}
use Rattle.qo_model.specs.Board.{Board}
use Rattle.qo_model.specs.Plug.{Wanted, plug, plug_attempt}
use Rattle.qo_heap.specs.Objects.{Objects}
use Rattle.qo_properties.specs.Claims.{KeepsBook}
use Rattle.qo_properties.specs.KeptClaims.{KeptOrNew}
use Rattle.qo_clocks.specs.Kept.{PeriodsKept}
use Rattle.qo_plug.specs.KeptClaims.{KeptSoFar}
use Rattle.qo_plug.specs.KeptPeriods.{FedSoFar}
use Rattle.qo_plug.specs.Stages.{IsBegun, IsSettled}
use Rattle.qo_plug.specs.declared.adding.Added.{Added}
use Rattle.qo_plug.specs.declared.beginning.NewDevice.{NewDevice}
use Rattle.qo_plug.specs.declared.placing.AttachedDevice.{AttachedDevice}
use Rattle.qo_plug.specs.declared.refusals.AddRefusal.{AddRefusal}
use Rattle.qo_plug.specs.declared.refusals.AddRefusal.TheVariants.{Refused, Memory}
use Rattle.qo_reset.specs.Counts.{CountsKept}
use Rattle.qo_realize.specs.Answers.{Plugs}
use Rattle.qo_realize.specs.BoardClaims.{KeepsClaims}
use Rattle.qo_realize.specs.SoundBoard.{SoundBoard}
use Rattle.qo_realize.specs.Parts.{Parts, counts}
use Rattle.qo_realize.specs.Representation.{Stands}
use Rattle.qo_realize.specs.declared.stages.NotAdded.{NotAdded}

-- what is seen of it: the board's parts, the device, and how many without an id will have been added
pub record DraftParts : Type 0 where
  pub parts : Parts
  pub next : ℕ
  pub begun : NewDevice

pub record PluggedParts : Type 0 where
  pub parts : Parts
  pub next : ℕ
  pub placed : AttachedDevice

-- this sound board stood before, and since then nothing has changed but its objects, and the book of claims was kept
pub record Since (b : Board) (a : Wanted) (p : Parts) (next : ℕ) : Type 0 where
  pub before : Objects
  pub stood : Stands b (record p { objects = before })
  pub book : KeepsBook before p.objects
  pub good : SoundBoard b
  pub counted : next ≡ counts b.anonymous a.id
  pub claims : KeepsClaims before
  pub counts_kept : CountsKept p.holds before
  pub periods_kept : PeriodsKept before

-- on a board a device was begun as it was asked for, or placed: nothing of the stages so far refuses it
pub record IsDrafted (b : Board) (a : Wanted) (d : DraftParts) : Type 0 where
  pub since : Since b a d.parts d.next
  pub begun : IsBegun b a d.begun d.parts.objects
  pub kept : KeptOrNew since.before d.parts.objects
  pub passed : IfSome (plug b a).refusal (λ refusal. 4 < refusal.0)

pub record IsPlugged (b : Board) (a : Wanted) (p : PluggedParts) : Type 0 where
  pub since : Since b a p.parts p.next
  pub settled : IsSettled b a p.placed p.parts.objects
  pub kept : KeptSoFar p.placed.device.birth p.placed.plugging since.before p.parts.objects
  pub fed : FedSoFar p.placed.device.birth p.placed.plugging since.before p.parts.objects
  pub passed : IfSome (plug b a).refusal (λ refusal. 7 < refusal.0)

abbrev pub DraftOfGood : DraftParts → Type 0
DraftOfGood d = (b : Board) × (a : Wanted) × IsDrafted b a d

abbrev pub PluggedOnGood : PluggedParts → Type 0
PluggedOnGood p = (b : Board) × (a : Wanted) × IsPlugged b a p

-- a refusal is of one of these stages
abbrev pub IsWithin : ℕ → ℕ → AddRefusal → Type 0
IsWithin first last (Refused stage code) = (first ≤ stage) × (stage ≤ last)
IsWithin first last Memory = ⊤

-- the device was begun, or placed; or `device_add` is refused at one of the stages of the call, and leaves what it leaves
abbrev pub Begins : Board → Wanted → Result DraftParts NotAdded → Type 0
Begins b a (Ok d) = IsDrafted b a d
Begins b a (Err e) = IsWithin 1 4 e.refusal × Plugs b a (Err e.refusal) e.board

abbrev pub Places : Board → Wanted → Result PluggedParts NotAdded → Type 0
Places b a (Ok p) = IsPlugged b a p
Places b a (Err e) = IsWithin 5 7 e.refusal × Plugs b a (Err e.refusal) e.board

-- the device was added; or `device_add` is refused as the notices are full
abbrev pub Finishes : Board → Wanted → Result (Parts × Added) NotAdded → Type 0
Finishes b a (Ok done) = Plugs b a (Ok done.1) done.0
Finishes b a (Err e) = (e.refusal ≡ Refused 8 E44) × Plugs b a (Err e.refusal) e.board

-- the board after a draft that was abandoned: nothing is left but births and notes
abbrev pub given_up : Board → DraftParts → Board
given_up b d = plug_attempt b d.begun.target.kind d.begun.target.bus.birth 4
