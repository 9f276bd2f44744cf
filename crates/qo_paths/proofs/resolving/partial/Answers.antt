-- The ends are found from place to place.
use Rattle.std.proofs.Common.{◌≡◌, ◌+◌, ◌==◌, ◌∷◌, ℕ, List, Option, None, Some, slice_get, ap, sym, ◌∙◌}
use Rattle.std.specs.Option.{option_and_then, option_copied}
use Rattle.std.specs.List.{cons_option, slice_split}
use Rattle.qo_slots.specs.declared.keys.Key.{Key}
use Rattle.qo_object.specs.Content.{Content}
use Rattle.qo_object.specs.BoardObject.{birth_of}
use Rattle.qo_model.specs.Board.{Board}
use Rattle.qo_paths.specs.Answers.{end_along, end_from}
use Rattle.qo_paths.specs.Parts.{named_from, parts_after}
use Rattle.qo_paths.proofs.EndLemmas.{ends-all, ends_after, given-drop, none-before, told-several}
use Rattle.qo_paths.proofs.PartLemmas.{components_first}
use Rattle.qo_paths.proofs.resolving.partial.Goals as goal

-- the ends from a place on begin with the one from there, if there is one; the path is given by its first part and what follows it
ends-next : (b : Board) (path wanted first : List ℕ) (rest : Option (List ℕ)) → slice_split (λ c. c == 47) path ≡ first ∷ parts_after rest
    → (rows : List (Key × Content)) (place : ℕ) (o : Option ℕ)
    → o ≡ option_and_then (λ (row : Key × Content). end_along b (named_from first rest) wanted row.0.birth) (slice_get rows place)
    → ends_after b path wanted rows place ≡ cons_option o (ends_after b path wanted rows (place + 1))
ends-next b path wanted first rest cut rows place o e =
    let whole : o ≡ option_and_then (λ (row : Key × Content). end_from b path wanted row.0.birth) (slice_get rows place) =
    e ∙ ap (λ (parts : List (List ℕ)). option_and_then (λ (row : Key × Content). end_along b parts wanted row.0.birth) (slice_get rows place))
    (sym (components_first path first rest cut)) in
    given-drop (λ (row : Key × Content). end_from b path wanted row.0.birth) rows place
    ∙ ap (λ (x : Option ℕ). cons_option x (ends_after b path wanted rows (place + 1))) (sym whole)

pub loop-place-init : goal.loop-place-init
loop-place-init g c = (λ b s. ends-all b c.args.heap.now s c.args.path.now c.args.wanted.now c.requires, tt)

pub loop-place-preserved-in_default : goal.loop-place-preserved-in_default
loop-place-preserved-in_default g c = (
  λ b s.
      c.loop-place.invariant.0 b s ∙ ap (cons_option (birth_of c.loop-place.found))
      (ends-next b c.args.path.now c.args.wanted.now c.first_part.result.0.now (option_copied c.first_part.result.1) c.first_part.ensures.parts c.args.heap.now.rows c.loop-place.place None (c.in_default.ensures.end b s)),
  c.loop-place.invariant.1,
)

pub returns-then-is_some-clause-place : goal.returns-then-is_some-clause-place
returns-then-is_some-clause-place g c = λ b s.
    told-several b c.args.path.now c.args.wanted.now c.loop-place.found c.in-Some.end.birth
    (ends_after b c.args.path.now c.args.wanted.now c.args.heap.now.rows (c.loop-place.place + 1)) (sym c.is_some.ensures ∙ c.if-is_some.true)
    (c.loop-place.invariant.0 b s ∙ ap (cons_option (birth_of c.loop-place.found))
    (ends-next b c.args.path.now c.args.wanted.now c.first_part.result.0.now (option_copied c.first_part.result.1) c.first_part.ensures.parts c.args.heap.now.rows c.loop-place.place (Some c.in-Some.end.birth) (c.in-Some.ensures.end b s)))

pub loop-place-preserved : goal.loop-place-preserved
loop-place-preserved g c = (
  λ b s.
      c.loop-place.invariant.0 b s
      ∙ none-before c.loop-place.found (ends_after b c.args.path.now c.args.wanted.now c.args.heap.now.rows c.loop-place.place)
      (sym c.is_some.ensures ∙ c.if-is_some.false)
      ∙ ends-next b c.args.path.now c.args.wanted.now c.first_part.result.0.now (option_copied c.first_part.result.1) c.first_part.ensures.parts c.args.heap.now.rows c.loop-place.place (Some c.in-Some.end.birth) (c.in-Some.ensures.end b s),
  c.in-Some.ensures.live,
)
