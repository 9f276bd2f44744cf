-- For proofs alone. What a table ends as, where a `&mut` to one of its values is returned.
use Rattle.std.specs.Borrow.{Lends, Fml, RattleType, MutBor}
use Rattle.qo_slots.specs.declared.keys.Key.{Key}
use Rattle.qo_slots.specs.Table.{Table, with_value}
use Rattle.qo_slots.specs.contracts.table.Arena.{the_row}

-- once the borrow r ends, the key has the last value written through r
abbrev pub lends_value : (T : RattleType) → MutBor (Table T.Denot) → Key → MutBor T.Denot → Fml
lends_value T s key r = Lends (the_row T) T s r (with_value s.now key)
