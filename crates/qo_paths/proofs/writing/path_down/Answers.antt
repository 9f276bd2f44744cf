-- Each turn writes a name more.
use Rattle.std.proofs.Common.{◌≡◌, ◌-◌, ◌<◌, ◌≤◌, ℕ, List, [], ◌∷◌, ◌++◌, length, string_bytes, ap, ◌∙◌, get_or, arith}
use Rattle.qo_paths.proofs.PartLemmas.{path_up-get}
use Rattle.qo_paths.proofs.writing.path_down.Goals as goal

pub loop-left-preserved : goal.loop-left-preserved
loop-left-preserved c =
    let some : 0 < c.loop-left.left = c.loop-left-test.true in
    let few : c.loop-left.left ≤ length c.args.names.now = c.loop-left.invariant.1 in
    let slash : string_bytes c.push.new.self ≡ string_bytes c.loop-left.path ++ 47 ∷ [] =
    c.in_ok-push.ensures.bytes ∙ ap (λ (bytes : List ℕ). string_bytes c.loop-left.path ++ bytes) (c.in_ok-push.ensures.ascii (omega arith)) in (
      c.in_ok-push_str.ensures.bytes
          ∙ ap (λ (bytes : List ℕ). bytes ++ (get_or c.args.names.now (c.loop-left.left - 1) (record { ref_ptr = (0, 0); now = [] })).now)
          (slash ∙ ap (λ (bytes : List ℕ). bytes ++ 47 ∷ []) c.loop-left.invariant.0)
          ∙ path_up-get c.args.names.now c.loop-left.left (record { ref_ptr = (0, 0); now = [] }) some few,
      omega arith,
    )
