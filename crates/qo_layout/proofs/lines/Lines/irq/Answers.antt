-- The bits of the slots are those of the board.
use Rattle.std.proofs.Common.{◌∙◌, ap, sym, subst, ℕ, List, Option}
use Rattle.std.specs.List.{range_with_len, sum_by}
use Rattle.qo_layout.specs.Lines.{slot_bit}
use Rattle.qo_layout.specs.Rows.{LinesAre, Wired, slot_level}
use Rattle.qo_layout.proofs.SlotLemmas.{irq-is}
use Rattle.qo_layout.proofs.lines.Lines.irq.Goals as goal

pub returns : goal.returns
returns c = λ b h are.
    let l : Wired = record { wires = c.self.inside.net; rows = c.self.inside.rows.items; slots = c.self.inside.slots.items } in
    let its : LinesAre b l = subst (LinesAre b) (sym c.self.view_is) are in
    c.slot_bits.ensures
    ∙ ap (λ (slots : List (Option ℕ)). sum_by (slot_bit (slot_level c.self.inside.net slots)) (range_with_len 0 8)) c.deref.ensures.value
    ∙ irq-is b h l its
