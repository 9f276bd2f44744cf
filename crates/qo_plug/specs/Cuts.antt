-- What an attempt at adding a device leaves that was cut for want of memory.
use Rattle.std.specs.Prelude.{ℕ, Bool, nat_le, ◌&&◌, if◌then◌else◌, Some, None}
use Rattle.std.specs.Option.{option_map_or}
use Rattle.qo_values.specs.declared.kinds.TypeId.{TypeId}
use Rattle.qo_model.specs.Board.{Board}
use Rattle.qo_model.specs.Plug.{Wanted, barred_early, cut_attempt, objects_in, type_barred}
use Rattle.qo_model.specs.Types.{TypeInfo, type_named}

-- of a type, where so many objects are some of those of a device
abbrev pub cut_of : Board → TypeId → ℕ → Bool → Board
cut_of b t i joined = if nat_le 1 i && nat_le i (objects_in t) then cut_attempt b t i joined else b

-- where nothing bars an attempt
abbrev pub cut_open : Board → Wanted → TypeInfo → ℕ → Bool → Board
cut_open b a row i joined = elim (barred_early b row.id a) [ None ↦ cut_of b row.id i joined | Some bar ↦ b ]

-- the board after an attempt that was cut when it had made so many objects, the last of them joined or not; the board itself where something bars it
unfoldable pub cut_as : Board → Wanted → ℕ → Bool → Board
cut_as b a i joined =
    elim (type_barred a.driver) [
      | Some code ↦ b
      | None ↦ option_map_or (λ (row : TypeInfo). cut_open b a row i joined) (type_named a.driver) b
    ]
