-- For proofs alone. What contracts see of the removals that are pending and of the notices that wait for the guest, as the fields of the board of these names.
use Rattle.std.specs.Prelude.{ℕ, Bool, false, not, ◌==◌, ◌||◌, ◌&&◌, ◌+◌, nat_le, nat_lt, if◌then◌else◌, List, [], ◌∷◌, ◌++◌, filter, length, drop, slice_get, Option, Some, None}
use Rattle.qo_values.specs.declared.limits.TheConstants.{ASK_AGAIN_AFTER, NOTICES_MAX}
use Rattle.qo_model.specs.Board.{Notice, Removal, is_of_device}
use Rattle.std.specs.List.{list_any}
use Rattle.qo_model.specs.Hotplug.{with_removal}
use Rattle.qo_model.specs.Unplug.{without_removal}
use Rattle.qo_hotplug.specs.declared.errors.AskError.{AskError}
use Rattle.qo_hotplug.specs.declared.errors.AskError.TheVariants.{Pending, NoticesFull}

-- the devices whose removal is asked for, in order of asking, and the notices in order
pub record Asked : Type 0 where
  pub pending : List Removal
  pub notices : List Notice

abbrev pub nothing_asked : Asked
nothing_asked = record { pending = []; notices = [] }

-- a notice more
abbrev pub notified : Bool → ℕ → Asked → Asked
notified plug n h = record h { notices = h.notices ++ record { plug = plug; birth = n } ∷ [] }

-- a removal is asked for, and the guest is told so
abbrev pub asked : ℕ → ℕ → Asked → Asked
asked n now h = record { pending = with_removal n now h.pending; notices = h.notices ++ record { plug = false; birth = n } ∷ [] }

-- whether the removal of a device is pending
abbrev pub is_among : ℕ → Asked → Bool
is_among n h = list_any (is_of_device n) h.pending

-- why a removal is not asked for, if it is not
abbrev pub ask_refusal : ℕ → ℕ → Asked → Option AskError
ask_refusal n now h =
    if list_any (λ (r : Removal). is_of_device n r && nat_lt now (r.asked + ASK_AGAIN_AFTER)) h.pending then Some Pending
    else (if nat_le NOTICES_MAX (length h.notices) then Some NoticesFull else None)

-- the guest refuses a removal: it is neither pending nor told any more
abbrev pub refused : ℕ → Asked → Asked
refused n h = record { pending = without_removal n h.pending; notices = filter (λ (x : Notice). x.plug || not (x.birth == n)) h.notices }

-- a device is gone: nothing of it is pending or told
abbrev pub gone : ℕ → Asked → Asked
gone n h = record { pending = without_removal n h.pending; notices = filter (λ (x : Notice). not (x.birth == n)) h.notices }

-- the first notice, and what is left after it
abbrev pub first_notice : Asked → Option Notice
first_notice h = slice_get h.notices 0

abbrev pub after_first : Asked → Asked
after_first h = record h { notices = drop 1 h.notices }
