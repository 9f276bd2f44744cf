-- Boards with the same devices have the same lines.
use Rattle.std.proofs.Common.{◌≡◌, ap, subst, ◌∙◌, ℕ, List, Option}
use Rattle.qo_values.specs.declared.births.TheConstants.{ROOT_BUS_BIRTH}
use Rattle.qo_irq.specs.Wires.{Wire}
use Rattle.qo_layout.specs.Layout.{mapped}
use Rattle.qo_model.specs.Board.{Board, Record}
use Rattle.qo_model.specs.Devices.{kid_at}
use Rattle.qo_model.specs.Reset.{below, post}
use Rattle.qo_layout.specs.LineLaws.{SameDevices, SameLinesLaw}
use Rattle.qo_layout.specs.Registers.{registers_at}
use Rattle.qo_layout.specs.Rows.{AreLines, AreShaped, IsDriven, IsJoin, IsSlotLine, Wired, row_at, kept_line, wiring}
use Rattle.qo_layout.specs.declared.wiring.Row.{Row}
use Rattle.qo_layout.specs.declared.wiring.Wiring.{Wiring}
use Rattle.qo_layout.specs.declared.wiring.Wiring.TheVariants.{Own, Masked, Joined}

module _ (b c : Board) (same : SameDevices b c) (rows : List Row) (wires : List Wire) where
  join-same : (o line : ℕ) → IsJoin b rows wires o line → IsJoin c rows wires o line
  join-same o line j =
      record { lines = j.lines; wire = j.wire; below_it = subst (λ (os : List ℕ). AreLines rows os j.lines) (same.below_it o) j.below_it }

  driven-same : (w : Wiring) (row : Row) → IsDriven w b rows wires row → IsDriven w c rows wires row
  driven-same Own row d = d
  driven-same Masked row d =
      record { join = d.join; mask = d.mask; wire = d.wire; input_is = d.input_is; joins = join-same row.object d.join d.joins }
  driven-same Joined row d = (d.0, join-same row.object row.line d.1)

made-same : (b c : Board) → SameDevices b c → (l : Wired) → AreShaped b l → AreShaped c l
made-same b c same l are = record {
  objects = are.objects ∙ same.objects;
  rows = are.rows;
  wired = λ i within.
      subst (λ (w : Wiring). IsDriven w c l.rows l.wires (row_at l.rows i)) (same.bodies (row_at l.rows i).object)
      (driven-same b c same l.rows l.wires (wiring (registers_at b (row_at l.rows i).object)) (row_at l.rows i) (are.wired i within));
  slots = λ n below. subst (λ (d : Option ℕ). IsSlotLine l.rows d (kept_line l.slots n)) (same.slots n) (are.slots n below);
}

beside-same : (b c : Board) → b.records ≡ c.records → SameDevices b c
unfolding post
beside-same b c same = record {
  objects = ap (λ (records : List Record). mapped (record b { records = records })) same;
  below_it = λ o. ap (λ (records : List Record). below (record b { records = records }) o) same;
  slots = λ n. ap (λ (records : List Record). kid_at (record b { records = records }) ROOT_BUS_BIRTH n) same;
  bodies = λ o. ap (λ (records : List Record). wiring (registers_at (record b { records = records }) o)) same;
}

pub same_lem : SameLinesLaw
same_lem = record { made = made-same; beside = beside-same }
