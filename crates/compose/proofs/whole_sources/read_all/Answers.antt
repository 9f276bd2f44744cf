-- A piece more, or the end.
use Rattle.std.proofs.Common.{◌≡◌, ◌++◌, ◌∙◌, List, ℕ, None, Some, length, ap, sym, refl, arith, rules}
use Rattle.std.specs.Io.KnownBytes.{prepend_known}
use Rattle.compose.specs.declared.whole_sources.Stop.TheVariants.{End, Fault, Limit, Memory}
use Rattle.compose.proofs.WholeLemmas.{gave-first, gave-more, goes-on, stops-else}
use Rattle.compose.proofs.whole_sources.read_all.Goals as goal

pub loop-source-init : goal.loop-source-init
loop-source-init g c = record { gave = gave-first (g.S.Source.left c.args.source.now) c.args.bytes.now.items c.requires; quiet = refl }

pub loop-source-preserved : goal.loop-source-preserved
loop-source-preserved g c =
    let none : c.take_piece.result ≡ None = search rules in
    let took = c.take_piece.ensures.took in
    let items : c.take_piece.new.bytes.items ≡ c.loop-source.bytes.items ++ took.0 = took.2 (goes-on c.take_piece.result Memory none) in
    record {
      gave =
          gave-more _ _ (g.S.Source.left c.take_piece.new.source) c.loop-source.bytes.items took.0 c.loop-source.invariant.gave took.1
          ∙ ap (λ (l : List ℕ). prepend_known l (g.S.Source.left c.take_piece.new.source)) (sym items);
      quiet = c.take_piece.ensures.quiet (goes-on c.take_piece.result Fault none) ∙ c.loop-source.invariant.quiet;
    }

pub returns-in-Some : goal.returns-in-Some
returns-in-Some g c =
    let took = c.take_piece.ensures.took in
    record {
      took = (
        c.loop-source.bytes.items ++ took.0,
        gave-more _ _ (g.S.Source.left c.take_piece.new.source) c.loop-source.bytes.items took.0 c.loop-source.invariant.gave took.1,
        λ other. sym (took.2 (stops-else c.take_piece.result c.in-Some.stop Memory c.in-Some.is other)),
      );
      few = λ is. omega (arith, ap (λ (l : List ℕ). length l) (c.take_piece.ensures.same (c.in-Some.is ∙ ap Some is)), c.loop-source-test.true);
      ended = λ is. c.take_piece.ensures.ended (c.in-Some.is ∙ ap Some is);
      many = λ is. absurd (c.take_piece.ensures.unlimited (c.in-Some.is ∙ ap Some is));
      cause = λ is. rw c.loop-source.invariant.quiet at (c.take_piece.ensures.cause (c.in-Some.is ∙ ap Some is));
      quiet = λ other. c.take_piece.ensures.quiet (stops-else c.take_piece.result c.in-Some.stop Fault c.in-Some.is other) ∙ c.loop-source.invariant.quiet;
    }

pub returns : goal.returns
returns g c =
    record {
      took = (c.loop-source.bytes.items, c.loop-source.invariant.gave, λ other. refl);
      few = λ is. absurd (let clash : Limit ≡ End = is in cc);
      ended = λ is. absurd (let clash : Limit ≡ End = is in cc);
      many = λ is. omega (arith, c.loop-source-test.false);
      cause = λ is. absurd (let clash : Limit ≡ Fault = is in cc);
      quiet = λ other. c.loop-source.invariant.quiet;
    }
