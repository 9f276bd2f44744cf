-- Acts at the heap's time leave no timer with a later moment.
use Rattle.std.proofs.Common.{ℕ, Bool, true, false, cond, eqb, List, [], ◌∷◌}
use Rattle.qo_values.specs.declared.kinds.Act.{Act}
use Rattle.qo_kinds.specs.Bodies.{IsTimely}
use Rattle.qo_kinds.proofs.BodyLemmas.{acted-timely}
use Rattle.qo_slots.specs.declared.keys.Key.{Key}
use Rattle.qo_object.specs.Content.{Content, acted_at}
use Rattle.qo_heap.specs.Rows.{edit}
use Rattle.qo_model.specs.declared.notes.Note.{Note}
use Rattle.qo_heap.specs.Objects.{Objects, with_edit, with_note}
use Rattle.qo_heap.specs.Moments.{AllTimely, Timely}

edit-timely : (n : ℕ) (act : Act) (now p : ℕ) (rows : List (Key × Content)) → AllTimely now rows → AllTimely now (edit n (acted_at act now p) rows)
edit-timely n act now p [] all = tt
edit-timely n act now p (row ∷ rows) all = (go (eqb row.0.birth n), edit-timely n act now p rows all.1)
  where
    go : (t : Bool) → IsTimely now (cond t (row.0, acted_at act now p row.1) row).1.body
    go true = acted-timely act now p row.1.body all.0
    go false = all.0

pub acts-timely : (v : Objects) (note : Note) (n : ℕ) (act : Act) (p : ℕ) → Timely v → Timely (with_note note (with_edit n (acted_at act v.time p) v))
acts-timely v note n act p all = edit-timely n act v.time p v.rows all
