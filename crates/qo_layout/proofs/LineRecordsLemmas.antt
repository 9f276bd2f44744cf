-- The lines of a board are of its records and its time alone.
use Rattle.std.proofs.Common.{◌≡◌, ap, subst, ◌∙◌, ℕ, Bool, List, IfSome}
use Rattle.qo_irq.specs.Wires.{input, wire_at}
use Rattle.qo_model.specs.Board.{Board, Record}
use Rattle.qo_model.specs.Clocks.{period}
use Rattle.qo_model.specs.Devices.{depth_of}
use Rattle.qo_model.specs.Reset.{post}
use Rattle.qo_layout.specs.Lines.{irq_of, line}
use Rattle.qo_layout.specs.Rows.{AreShaped, LinesAre, Wired, input_of, row_at}
use Rattle.qo_layout.proofs.SameLemmas.{same_lem}

input-same : (b c : Board) → b.records ≡ c.records → b.now ≡ c.now → (o : ℕ) → input_of b o ≡ input_of c o
unfolding period
input-same b c same time o =
    ap (λ (records : List Record). input_of (record b { records = records }) o) same ∙ ap (λ (now : ℕ). input_of (record c { now = now }) o) time

pub shaped-same : (b c : Board) (l : Wired) → b.records ≡ c.records → AreShaped b l → AreShaped c l
shaped-same b c l same are = same_lem.made b c (same_lem.beside b c same) l are

pub lines-same : (b c : Board) (l : Wired) → b.records ≡ c.records → b.now ≡ c.now → LinesAre b l → LinesAre c l
lines-same b c l same time are = record {
  shaped = shaped-same b c l same are.shaped;
  set = λ i within.
      subst (λ (high : Bool). IfSome (row_at l.rows i).input (λ x. wire_at l.wires x ≡ input high)) (input-same b c same time (row_at l.rows i).object)
      (are.set i within);
}

pub irq-same : (b c : Board) → b.records ≡ c.records → b.now ≡ c.now → irq_of b ≡ irq_of c
unfolding post depth_of period line
irq-same b c same time =
    ap (λ (records : List Record). irq_of (record b { records = records })) same ∙ ap (λ (now : ℕ). irq_of (record c { now = now })) time
