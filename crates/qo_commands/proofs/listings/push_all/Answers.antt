-- Each slot is listed in its turn.
use Rattle.std.proofs.Common.{ℕ, List, sym, subst}
use Rattle.qo_model.specs.Listing.{listing}
use Rattle.qo_values.specs.TypeTexts.{text_of}
use Rattle.qo_replies.specs.Properties.{HasWritten}
use Rattle.qo_commands.proofs.ListingLemmas.{front-all, front-more}
use Rattle.qo_commands.proofs.listings.push_all.Goals as goal

pub loop-name-preserved : goal.loop-name-preserved
loop-name-preserved g c = λ b s begun.
    let all = listing b c.args.o.birth in
    let at = c.loop-name.at in
    subst (λ (rows : List (List ℕ × List ℕ)). HasWritten rows c.push.new.self)
    (sym (front-more all at (c.in-Some.name.now, text_of c.in-Some.ty) (c.in-Some.ensures.listed b s)))
    (c.in_ok-push.ensures _ (c.loop-name.invariant b s begun))

pub returns : goal.returns
returns g c = λ b s begun.
    subst (λ (rows : List (List ℕ × List ℕ)). HasWritten rows c.loop-name.list)
    (front-all (listing b c.args.o.birth) c.loop-name.at (c.in_default.ensures.listed b s)) (c.loop-name.invariant b s begun)
