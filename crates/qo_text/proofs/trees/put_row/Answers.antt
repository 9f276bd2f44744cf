-- The line is that of the row.
use Rattle.std.proofs.Common.{◌*◌, ◌++◌, ◌∷◌, [], ℕ, List, ap, ◌∙◌, replicate, string_bytes}
use Rattle.qo_text.proofs.trees.put_row.Goals as goal

pub returns : goal.returns
returns g c = λ b s.
    c.in_ok-put_names.ensures
    ∙ ap (λ (kind : List ℕ). string_bytes c.args.text.now ++ (replicate (2 * c.args.depth) 32 ++ 47 ∷ (c.args.name.now ++ 32 ∷ 40 ∷ (kind ++ 41 ∷ 10 ∷ []))))
    (c.kind_name-kind.ensures b s)
