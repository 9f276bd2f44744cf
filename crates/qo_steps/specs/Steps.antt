-- For a law alone. The elementary steps of a board, each with what is known where it is taken, and runs of them (docs/devel/qom.rst, "The QEMU Object Model";
-- include/hw/qdev-core.h, "Realization"; docs/devel/clocks.rst; docs/devel/reset.rst).
use Rattle.std.specs.Prelude.{◌≡◌, ◌⊎◌, nat_eq, ℕ, suc, ◌+◌, ◌<◌, ◌≤◌, Bool, true, false, not, ◌||◌, ◌==◌, List, [], ◌∷◌, ◌++◌, filter, length, slice_get, Contains, Option, Some, None}
use Rattle.std.specs.Bool.{⊤}
use Rattle.std.specs.List.{AllByRecursion, list_any}
use Rattle.qo_values.specs.Kinds.{type_name}
use Rattle.qo_values.specs.declared.kinds.Act.{Act}
use Rattle.qo_values.specs.declared.kinds.Act.TheVariants.{Init, Pre, Update}
use Rattle.qo_values.specs.declared.kinds.TypeId.{TypeId}
use Rattle.qo_values.specs.declared.limits.TheConstants.{LIVE_OBJECTS_MAX, NOTICES_MAX}
use Rattle.qo_values.specs.declared.properties.Val.{Val}
use Rattle.qo_values.specs.declared.ranges.Range.{Range}
use Rattle.qo_model.specs.Board.{Board, DeviceEvent, Notice, Record, Slot, strong, weak, is_live, slot_at, slots_at}
use Rattle.qo_model.specs.Changes.{add, cut, fresh, point, set, with_changed}
use Rattle.qo_model.specs.Clocks.{acted}
use Rattle.qo_model.specs.Hotplug.{is_early, with_asked}
use Rattle.qo_model.specs.Objects.{Given}
use Rattle.qo_model.specs.Paths.{attached, is_of}
use Rattle.qo_model.specs.Plug.{fitted, with_body_of, with_given, with_new, with_path}
use Rattle.qo_model.specs.References.{refs}
use Rattle.qo_model.specs.Release.{drop_slot, edit, finish, pin, without_first, without_pin}
use Rattle.qo_model.specs.Unplug.{unheld, unnoticed, unseen, without_removal}
use Rattle.qo_model.specs.declared.notes.Note.{Note}

-- a step, which mostly names the object that it changes
pub data Step : Type 0 where
  -- an object is made, of a type and with some slots, and its initializers are noted; it ends; so many were made and have ended, which left these notes
  made : TypeId → List (List ℕ × Slot) → Step
  ends : ℕ → Step
  attempted : ℕ → List Note → Step
  -- an object has a slot more. Its slot at a place has another value; its link there points at another target; it does where this is of its type and the link
  -- was empty; its weak link there is emptied. A new object has the values that were given. A slot is let go, and a slot is removed
  adds : ℕ → List ℕ → Slot → Step
  sets : ℕ → ℕ → Val → Step
  points : ℕ → ℕ → ℕ → Step
  links : ℕ → ℕ → ℕ → Step
  unsees : ℕ → ℕ → Step
  gives : ℕ → Board → List Given → Step
  empties : ℕ → ℕ → Step
  cuts : ℕ → ℕ → Step
  -- an object acts; it is called back as the period of a clock changes, before and after; a device has its id and its range; its path is kept for its end
  acts : Act → ℕ → ℕ → Step
  calls : ℕ → ℕ → ℕ → Step
  bodies : ℕ → Option (List ℕ) → Option Range → Step
  keeps_path : ℕ → Option (List ℕ) → Step
  -- an object has a pin more, and one less
  pins : ℕ → Step
  unpins : ℕ → Step
  -- there is a hold more on an object, one less, and none any more
  holds : ℕ → Step
  releases : ℕ → Step
  clears : ℕ → Step
  -- the removal of a device is asked for, and the guest refuses it; neither removals nor notices name a device any more; the guest has a notice of a new one
  asks : ℕ → Step
  declines : ℕ → Step
  forgets : ℕ → Step
  announces : ℕ → Step
  -- there is an accepted add more without an id, and there are events more
  counts : Step
  tells : List DeviceEvent → Step

-- a new object of a type, with some slots
abbrev pub new_with : Board → TypeId → List (List ℕ × Slot) → Record
new_with c k slots = record (fresh (c.born + 1) k) { slots = slots }

-- a hold more on n, and one less
abbrev pub with_hold : ℕ → Board → Board
with_hold n c = record c { holds = c.holds ++ n ∷ [] }

abbrev pub with_release : ℕ → Board → Board
with_release n c = record c { holds = without_first n c.holds }

-- the guest refuses the removal of d; it has a notice of a new device n
abbrev pub declined : ℕ → Board → Board
declined d c =
    record c { pending = without_removal d c.pending; notices = filter (λ (x : Notice). x.plug || not (x.birth == d)) c.notices }

abbrev pub announced : ℕ → Board → Board
announced n c = record c { notices = c.notices ++ record { plug = true; birth = n } ∷ [] }

-- the board after a step
abbrev pub applied : Step → Board → Board
applied (made k slots) c = with_new (new_with c k slots) c
applied (ends n) c = finish c n
applied (attempted count more) c = record c { born = c.born + count; notes = c.notes ++ more }
applied (adds n name slot) c = add n name slot c
applied (sets n i v) c = set n i v c
applied (points n i m) c = point n i m c
applied (links n i m) c = edit n (with_changed (fitted c m) i) c
applied (unsees n i) c = edit n (with_changed unseen i) c
applied (gives n b props) c = edit n (with_given b props) c
applied (empties n i) c = drop_slot c n i
applied (cuts n i) c = cut n i c
applied (acts act n period) c = acted act n period c
applied (calls n old new) c = acted Update n new (acted Pre n old c)
applied (bodies n id range) c = edit n (with_body_of id range) c
applied (keeps_path n path) c = edit n (with_path path) c
applied (pins n) c = pin c n
applied (unpins n) c = without_pin c n
applied (holds n) c = with_hold n c
applied (releases n) c = with_release n c
applied (clears n) c = unheld n c
applied (asks d) c = with_asked c d
applied (declines d) c = declined d c
applied (forgets d) c = unnoticed d c
applied (announces n) c = announced n c
applied counts c = record c { anonymous = suc c.anonymous }
applied (tells more) c = record c { events = c.events ++ more }

-- an object is there
abbrev pub IsThere : Board → ℕ → Type 0
IsThere c n = is_live c n ≡ true

-- there is room for an object more
abbrev pub HasRoom : Board → Type 0
HasRoom c = length c.records < LIVE_OBJECTS_MAX

-- a note is on one of the objects of so many births that come next
abbrev pub IsOfNext : Board → ℕ → Note → Type 0
IsOfNext c count x = (c.born < x.birth) × (x.birth ≤ c.born + count)

-- n has a slot at a place, by itself and with its name
abbrev pub HasSlot : Board → ℕ → ℕ → Type 0
HasSlot c n i = (s : Slot) × (slot_at c n i ≡ Some s)

abbrev pub HasNamed : Board → ℕ → ℕ → Type 0
HasNamed c n i = (s : List ℕ × Slot) × (slice_get (slots_at c n) i ≡ Some s)

-- at the place stands a link without a target, and m is of its type; at the place stands a strong link without a target
pub record TakesTarget (c : Board) (n i m : ℕ) : Type 0 where
  pub type : TypeId
  pub empty : (slot_at c n i ≡ Some (strong type None)) ⊎ (slot_at c n i ≡ Some (weak type None))
  pub fits : is_of c (type_name type) m ≡ true

abbrev pub HasEmpty : Board → ℕ → ℕ → Type 0
HasEmpty c n i = (t : TypeId) × (slot_at c n i ≡ Some (strong t None))

-- there is room for a notice more
abbrev pub HasNoticeRoom : Board → Type 0
HasNoticeRoom c = length c.notices < NOTICES_MAX

-- the removal of a device may be asked for: it is attached, was not asked for a short while ago, and there is room for the notice
pub record MayAsk (c : Board) (d : ℕ) : Type 0 where
  pub home : attached c d ≡ true
  pub free : is_early c d ≡ false
  pub room : HasNoticeRoom c

-- an act that is neither the beginning of an object nor part of a call back
abbrev pub is_calm : Act → Bool
is_calm (Init k) = false
is_calm Pre = false
is_calm Update = false
is_calm act = true

-- what is known where a step is taken, in a run that makes objects of these types alone, and in which `On` says who may act and be held. Of any other step
-- nothing is said
abbrev pub Takes : List TypeId → (Board → ℕ → Type 0) → Step → Board → Type 0
Takes types On (made k slots) c = Contains types k × HasRoom c
Takes types On (ends n) c = refs c n ≡ 0
Takes types On (attempted count more) c = AllByRecursion (IsOfNext c count) more
Takes types On (sets n i v) c = HasNamed c n i
Takes types On (points n i m) c = TakesTarget c n i m
Takes types On (links n i m) c = HasNamed c n i
Takes types On (unsees n i) c = HasNamed c n i
Takes types On (empties n i) c = HasSlot c n i
Takes types On (cuts n i) c = HasEmpty c n i
Takes types On (acts act n period) c = (is_calm act ≡ true) × On c n
Takes types On (calls n old new) c = On c n
Takes types On (unpins n) c = list_any (nat_eq n) c.pins ≡ true
Takes types On (holds n) c = On c n
Takes types On (releases n) c = On c n
Takes types On (clears n) c = On c n
Takes types On (asks d) c = MayAsk c d
Takes types On (forgets d) c = On c d
Takes types On (announces n) c = On c n × HasNoticeRoom c
Takes types On _ c = ⊤

-- a board becomes of b by steps
pub data Run (types : List TypeId) (On : Board → ℕ → Type 0) (b : Board) : Board → Type 0 where
  none : Run types On b b
  then : {c : Board} → Run types On b c → (s : Step) → Takes types On s c → Run types On b (applied s c)
