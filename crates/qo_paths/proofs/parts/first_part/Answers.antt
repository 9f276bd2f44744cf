-- The parts of a path begin with what stands before its first `/`.
use Rattle.std.proofs.Common.{◌≡◌, ◌<◌, ℕ, ◌==◌, eqb, length, Some, None, arith}
use Rattle.std.specs.List.{position_or_len}
use Rattle.std.proofs.lemmas.List.Splits.{slice_split_first, slice_split_none}
use Rattle.std.proofs.lemmas.List.Sums.{fails_before_first}
use Rattle.std.proofs.lemmas.Str.Pattern.{split_once_first}
use Rattle.qo_paths.proofs.parts.first_part.Goals as goal

pub returns-in-Some-clause-parts : goal.returns-in-Some-clause-parts
returns-in-Some-clause-parts c =
    let first = split_once_first 47 c.args.path.now (Some (c.in-Some.part, c.in-Some.rest)) c.in-Some.ensures.cases (omega arith) in
    rw (first.1, first.2) (slice_split_first (λ (x : ℕ). x == 47) c.args.path.now 0 first.0)

pub returns-in-None-clause-parts : goal.returns-in-None-clause-parts
returns-in-None-clause-parts c =
    let none : position_or_len (λ (x : ℕ). eqb x 47) c.args.path.now ≡ length c.args.path.now =
    split_once_first 47 c.args.path.now None c.in-None.ensures.cases (omega arith) in
    slice_split_none (λ (x : ℕ). x == 47) c.args.path.now (λ k d below. let low : k < length c.args.path.now = below in
    fails_before_first (λ (x : ℕ). x == 47) c.args.path.now k d (rw none low))
