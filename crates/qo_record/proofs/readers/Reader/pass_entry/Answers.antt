-- The first entry is passed.
use Rattle.std.proofs.Common.{List, ◌≡◌, ◌+◌, ◌∷◌, ◌∙◌, ap, sym, subst, option_map, drop}
use Rattle.qo_causes.specs.Names.{Given, Names}
use Rattle.qo_record.proofs.ReplayLemmas.{first_bad, first_inputs, first_some, first_went, passed, passed_is}
use Rattle.qo_record.specs.Replays.{Progress, Went, bad_ahead, inputs_ahead, capped_offset}
use Rattle.qo_record.specs.Spelling.{names_after}
use Rattle.qo_record.specs.Windows.{recorded}
use Rattle.qo_record.proofs.readers.Reader.pass_entry.Goals as goal

-- the names that are left
has_named : (c : goal.After-rename) → c.rename.new.names ≡ names_after c.args.self.now.names (recorded c.args.first)
has_named c = c.rename.ensures ∙ ap (λ (p : Progress). names_after p.names (recorded c.args.first)) c.self.view_is

-- the reader that is left has passed it
has_passed : (c : goal.After-rename)
    → record { buffered = c.let_go.new.self; version = c.self.inside.version; place = c.saturating_add-self-inside.result; names = c.rename.new.names }
    ≡ passed c.args.version c.args.self.now c.args.first
has_passed c =
    let p = c.args.self.now in
    let f = c.args.first in
    let on = ap (λ (q : Progress). q.version) c.self.view_is ∙ c.requires.version in
    let kept = c.let_go.ensures ∙ ap (λ (q : Progress). drop f.size q.buffered) c.self.view_is in
    let moved = c.saturating_add-self-inside.ensures ∙ ap (λ (q : Progress). capped_offset (q.place + f.size)) c.self.view_is in
    passed_is c.args.version p f _ _ _ _ on kept moved (has_named c)

pub returns-clause-some : goal.returns-clause-some
returns-clause-some c = first_some c.args.version c.args.self.now c.args.first c.requires.first

pub returns-clause-inputs : goal.returns-clause-inputs
returns-clause-inputs c = λ left.
    first_inputs c.args.version c.args.self.now c.args.first left c.requires.version c.requires.first
    ∙ ap (λ (names : Names). option_map (λ (l : List Given). record { input = c.args.first.input; names = names } ∷ l)
    (inputs_ahead (passed c.args.version c.args.self.now c.args.first) left)) (sym (has_named c))
    ∙ ap (λ (q : Progress). option_map (λ (l : List Given). record { input = c.args.first.input; names = c.rename.new.names } ∷ l) (inputs_ahead q left))
    (sym (has_passed c))

pub returns-clause-bad : goal.returns-clause-bad
returns-clause-bad c = λ left.
    ap (λ (q : Progress). bad_ahead q left) (has_passed c) ∙ first_bad c.args.version c.args.self.now c.args.first left c.requires.version c.requires.first

pub returns-clause-went : goal.returns-clause-went
returns-clause-went c = λ left.
    subst (λ (q : Progress). Went c.args.self.now q left left) (sym (has_passed c))
    (first_went c.args.version c.args.self.now c.args.first left c.requires.version c.requires.first)
