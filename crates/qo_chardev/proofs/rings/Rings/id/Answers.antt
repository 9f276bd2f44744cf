use Rattle.std.proofs.Common.{◌≡◌, ◌∙◌, None, Some, position, sym, ap, option_map}
use Rattle.qo_model.specs.Board.{Ring}
use Rattle.qo_chardev.specs.Rings.{is_ring}
use Rattle.qo_chardev.proofs.RingsLemmas.{named-at}
use Rattle.qo_chardev.proofs.rings.Rings.id.Goals as goal
use Rattle.qo_values.proofs.ListLemmas.{position-none}

pub returns-in_err-at : goal.returns-in_err-at
returns-in_err-at c =
    let none : position (is_ring c.args.id.now) c.args.self.now ≡ None = sym c.place.ensures ∙ c.in_err-at.was in
    rw (c.from_residual.ensures) (sym (ap (option_map (λ (r : Ring). r.id)) (position-none (is_ring c.args.id.now) c.args.self.now none)))

pub returns : goal.returns
returns c =
    let found : position (is_ring c.args.id.now) c.self.inside.list.items ≡ Some c.in_ok-at.at = rw c.self.view_is (sym c.place.ensures ∙ c.in_ok-at.was) in
    rw (c.id.ensures, ← c.self.view_is)
    (sym (ap (option_map (λ (r : Ring). r.id)) (named-at (is_ring c.args.id.now) c.self.inside.list.items c.in_ok-at.at c.index.result.now found
    c.index.ensures)))
