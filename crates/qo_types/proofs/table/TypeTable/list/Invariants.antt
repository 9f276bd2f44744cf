-- The types so far that are to be listed.
use Rattle.std.proofs.Common.{◌≡◌, take, filter, not, ◌&&◌, ◌||◌}
use Rattle.qo_model.specs.Types.{is_a}
use Rattle.qo_types.specs.Rows.{is_abstract, type_ids}
use Rattle.qo_types.proofs.table.TypeTable.list.Given as goal

abbrev pub invariant-loop-t : goal.invariant-loop-t
invariant-loop-t l =
    l.ids.items ≡ filter (λ t. is_a t l.implements && (l.with_abstract || not (is_abstract t))) (take l.t-index type_ids)
