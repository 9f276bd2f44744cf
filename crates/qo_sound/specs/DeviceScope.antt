-- For a law alone. What adding and detaching a device, and a reset, leave of a board beside its objects.
use Rattle.std.specs.Prelude.{◌≡◌, ℕ, suc, ◌+◌, Bool, true, List, [], ◌∷◌, ◌++◌, Option, Some, None}
use Rattle.qo_values.specs.declared.codes.Code.{Code}
use Rattle.qo_values.specs.declared.kinds.TypeId.{TypeId}
use Rattle.qo_model.specs.Board.{Board, DeviceEvent}
use Rattle.qo_model.specs.Plug.{Resources, Wanted, cut_attempt, plug, with_plugged}
use Rattle.qo_model.specs.Reset.{after_hold, pulse, released}
use Rattle.qo_model.specs.ChangeScope.{Stays}
use Rattle.qo_model.specs.Unplug.{detach}
use Rattle.qo_values.specs.declared.kinds.ResetKind.{ResetKind}

-- what an add leaves, taken or refused
pub record AddLeaves (b c : Board) : Type 0 where
  pub now : c.now ≡ b.now
  pub running : c.running ≡ b.running
  pub holds : c.holds ≡ b.holds
  pub pending : c.pending ≡ b.pending
  pub rings : c.rings ≡ b.rings
  pub events : c.events ≡ b.events

-- what an attempt leaves that came to nothing: the number of accepted adds and the notices too
pub record AttemptLeaves (b c : Board) : Type 0 where
  pub stays : Stays b c
  pub events : c.events ≡ b.events

-- what a device leaves that is detached, with all that is below it; its events come after those of before
pub record DetachLeaves (b c : Board) : Type 0 where
  pub anonymous : c.anonymous ≡ b.anonymous
  pub now : c.now ≡ b.now
  pub running : c.running ≡ b.running
  pub rings : c.rings ≡ b.rings
  pub events_gain : (more : List DeviceEvent) × (c.events ≡ b.events ++ more)

-- what a hold of a reset leaves, and what a hold less does
pub record ResetLeaves (b c : Board) : Type 0 where
  pub anonymous : c.anonymous ≡ b.anonymous
  pub now : c.now ≡ b.now
  pub running : c.running ≡ b.running
  pub pending : c.pending ≡ b.pending
  pub notices : c.notices ≡ b.notices
  pub rings : c.rings ≡ b.rings
  pub events : c.events ≡ b.events

-- the accepted adds of devices without an id, after one more add
abbrev pub anonymous_after : Board → Option (List ℕ) → ℕ
anonymous_after b None = suc b.anonymous
anonymous_after b (Some id) = b.anonymous

-- on every board
pub record DevicesStayLaw : Type 0 where
  -- adding a device, taken or refused at any stage; where it is refused, or cut, it came to nothing
  pub plugged : (b : Board) (a : Wanted) → AddLeaves b (plug b a).board
  pub refused : (b : Board) (a : Wanted) (refusal : ℕ × Code) → (plug b a).refusal ≡ Some refusal → AttemptLeaves b (plug b a).board
  pub cut : (b : Board) (t : TypeId) (i : ℕ) (joined : Bool) → AttemptLeaves b (cut_attempt b t i joined)
  -- a device that is added: the guest is told, and without an id it counts
  pub added : (b : Board) (t : TypeId) (a : Wanted) (resources : Resources) → AddLeaves b (with_plugged b t a resources)
  pub counted : (b : Board) (t : TypeId) (a : Wanted) (resources : Resources) → (with_plugged b t a resources).anonymous ≡ anonymous_after b a.id
  pub told : (b : Board) (t : TypeId) (a : Wanted) (resources : Resources)
      → (with_plugged b t a resources).notices ≡ b.notices ++ record { plug = true; birth = b.born + 1 } ∷ []
  -- a device that is detached
  pub detached : (b : Board) (d : ℕ) → DetachLeaves b (detach b d)
  -- a hold, a hold less, and both
  pub held_so : (b : Board) (n : ℕ) (kind : ResetKind) → ResetLeaves b (after_hold b n kind)
  pub released_so : (b : Board) (n : ℕ) → ResetLeaves b (released b n)
  pub pulsed : (b : Board) (n : ℕ) (kind : ResetKind) → ResetLeaves b (pulse b n kind)
