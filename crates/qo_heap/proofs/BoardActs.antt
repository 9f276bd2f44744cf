-- An act on the heap is that on the boards that it shows.
use Rattle.std.proofs.Common.{refl, ap, sym, ◌∙◌, ℕ}
use Rattle.qo_values.specs.Registers.{body_act}
use Rattle.qo_values.specs.declared.kinds.Act.{Act}
use Rattle.qo_kinds.specs.Bodies.{registers_of}
use Rattle.qo_kinds.proofs.BodyLemmas.{registers-acted}
use Rattle.qo_model.specs.declared.notes.Deed.TheVariants.{Did}
use Rattle.qo_model.specs.Board.{Board}
use Rattle.qo_model.specs.Clocks.{acted, with_act_on}
use Rattle.qo_object.specs.Content.{acted_at}
use Rattle.qo_object.specs.BoardObject.{shown}
use Rattle.qo_heap.specs.Board.{Shows}
use Rattle.qo_heap.specs.Objects.{Objects, with_edit, with_note}
use Rattle.qo_heap.proofs.BoardEdits.{shows-edit, shows-note}

-- an act is the board's
pub shows-acted : (b : Board) (v : Objects) → Shows b v → (act : Act) (n p : ℕ)
    → Shows (acted act n p b) (with_note (record { birth = n; deed = Did act }) (with_edit n (acted_at act v.time p) v))
unfolding acted
shows-acted b v s act n p =
    shows-note _ (with_edit n (acted_at act v.time p) v)
    (shows-edit n (acted_at act v.time p) b v s (with_act_on act b.now p)
    (λ m c. ap (λ (r : _). record (shown m c) { registers = r })
    (registers-acted act v.time p c.body ∙ ap (λ (t : ℕ). body_act act t p (registers_of c.body)) (sym s.now)))
    (λ c. refl))
    (record { birth = n; deed = Did act })
