-- The header is passed.
use Rattle.std.proofs.Common.{◌∙◌, ap, drop}
use Rattle.qo_record.proofs.ReplayLemmas.{header_bad, header_inputs, header_went}
use Rattle.qo_record.specs.Replays.{Progress}
use Rattle.qo_record.proofs.readers.Reader.pass_header.Goals as goal

pub returns-clause-inputs : goal.returns-clause-inputs
returns-clause-inputs c =
    let is = c.let_go.ensures ∙ ap (λ (p : Progress). drop 7 p.buffered) c.self.view_is in
    let named = ap (λ (p : Progress). p.names) c.self.view_is in
    λ left. header_inputs c.args.version c.args.self.now _ _ left c.requires.fresh c.requires.there is named

pub returns-clause-bad : goal.returns-clause-bad
returns-clause-bad c =
    let is = c.let_go.ensures ∙ ap (λ (p : Progress). drop 7 p.buffered) c.self.view_is in
    let named = ap (λ (p : Progress). p.names) c.self.view_is in
    λ left. header_bad c.args.version c.args.self.now _ _ left c.requires.fresh c.requires.there is named

pub returns-clause-went : goal.returns-clause-went
returns-clause-went c =
    let is = c.let_go.ensures ∙ ap (λ (p : Progress). drop 7 p.buffered) c.self.view_is in
    let named = ap (λ (p : Progress). p.names) c.self.view_is in
    λ left. header_went c.args.version c.args.self.now _ _ left c.requires.fresh c.requires.there is named
