-- For proofs alone. How the opening board comes to be: object by object, in the order of births (docs/devel/qom.rst, "The QEMU Object Model"; the eight objects
-- are the profile's).
use Rattle.std.specs.Prelude.{◌≡◌, ℕ, ◌+◌, true, List, [], codes, Some}
use Rattle.qo_values.specs.declared.kinds.TypeId.{TypeId}
use Rattle.qo_values.specs.declared.kinds.TypeId.TheVariants.{Container, Machine, Clock, SlotBus, MemBus}
use Rattle.qo_values.specs.declared.properties.Val.TheVariants.{Uint}
use Rattle.qo_slots.specs.declared.keys.Key.{Key}
use Rattle.qo_heap.specs.Rows.{IsLive}
use Rattle.qo_object.specs.Content.{Content, as_made, set_at}
use Rattle.qo_model.specs.Board.{Board, child}
use Rattle.qo_model.specs.Changes.{make, set, add, with_fresh_slots}
use Rattle.qo_values.specs.declared.limits.TheConstants.{SYSTEM_PERIOD}
use Rattle.qo_model.specs.Release.{without_pin}
use Rattle.qo_heap.specs.Objects.{Objects, content_of}
use Rattle.qo_properties.specs.Claims.{KeepsBook}
use Rattle.qo_clocks.specs.Kept.{with_periods}
use Rattle.qo_properties.specs.KeptClaims.{NoneKept}
use Rattle.qo_properties.specs.KeptPeriods.{OwnKept}
use Rattle.qo_properties.specs.NewSlots.{new_slots}

-- an object of a type more, with its plain properties and its links
abbrev pub with_new : TypeId → Board → Board
with_new kind b = with_fresh_slots (b.born + 1) kind (make kind b)

-- an object of a type more, as a child of n, which alone holds it
abbrev pub with_new_child : ℕ → List ℕ → TypeId → Board → Board
with_new_child n name kind b = without_pin (add n name (child (b.born + 1)) (with_new kind b)) (b.born + 1)

-- a board without objects
abbrev pub no_objects : Board
no_objects =
    record {
      records = [];
      born = 0;
      anonymous = 0;
      now = 0;
      running = true;
      holds = [];
      pending = [];
      notices = [];
      rings = [];
      pins = [];
      notes = [];
      events = [];
    }

-- a clock more, which ticks with the system's period
abbrev pub with_clock : ℕ → Board → Board
with_clock n b = set (b.born + 1) 1 (Uint SYSTEM_PERIOD) (with_new_child n (codes "sysclk") Clock b)

-- the machine more, with its children
abbrev pub with_containers : ℕ → Board → Board
with_containers n b = with_new_child n (codes "peripheral-anon") Container (with_new_child n (codes "peripheral") Container b)

abbrev pub with_buses : ℕ → Board → Board
with_buses n b = with_new_child n (codes "mem.0") MemBus (with_new_child n (codes "root.0") SlotBus b)

abbrev pub with_machine : ℕ → Board → Board
with_machine root b = with_buses (b.born + 1) (with_clock (b.born + 1) (with_containers (b.born + 1) (with_new_child root (codes "machine") Machine b)))

-- all that begins
abbrev pub with_all : Board → Board
with_all b = with_new_child (b.born + 1) (codes "objects") Container (with_machine (b.born + 1) (with_new Container b))

-- whoever was there is there under the same name
abbrev pub KeepsNames : Objects → Objects → Type 0
KeepsNames old new = (key : Key) → IsLive old.rows key → IsLive new.rows key

-- an object was made: it has the next birth, and its slots are those of a new one
pub record IsMade (old new : Objects) (kind : TypeId) (pins : ℕ) (o : Key) : Type 0 where
  pub birth : o.birth ≡ old.born + 1
  pub born : new.born ≡ old.born + 1
  pub live : IsLive new.rows o
  pub content : content_of new o.birth ≡ Some (as_made kind (new_slots kind) pins)
  pub names : KeepsNames old new
  pub book : KeepsBook old new
  pub bare : NoneKept old → NoneKept new
  pub periods : OwnKept old → OwnKept new

-- a new clock ticks with the system's period, and this is kept of it
abbrev pub ticking : Content → Content
ticking c = with_periods SYSTEM_PERIOD SYSTEM_PERIOD (set_at (Uint SYSTEM_PERIOD) 1 c)
