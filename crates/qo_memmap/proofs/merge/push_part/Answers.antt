use Rattle.std.proofs.Common.{arith}
use Rattle.qo_memmap.proofs.MergeLemmas.{part-are, part-shows, none-shown, are-higher}
use Rattle.qo_memmap.proofs.merge.push_part.Goals as goal

pub returns-in_default-clause-are : goal.returns-in_default-clause-are
returns-in_default-clause-are c = are-higher c.args.at c.args.until c.args.merged.now.items (omega arith) c.requires.are

pub returns-in_default-clause-shown : goal.returns-in_default-clause-shown
returns-in_default-clause-shown c = rw c.in_default.is (λ a. none-shown c.args.merged.now.items c.args.at c.args.until a c.requires.are)

pub returns-clause-are : goal.returns-clause-are
returns-clause-are c =
    rw c.in_ok-push.ensures.items
    (part-are c.args.merged.now.items c.in-Some.layer c.args.at c.args.until c.requires.are c.requires.some (rw c.in-Some.is at c.requires.held))

pub returns-clause-shown : goal.returns-clause-shown
returns-clause-shown c =
    rw (c.in_ok-push.ensures.items, c.in-Some.is)
    (λ a. part-shows c.args.merged.now.items c.in-Some.layer c.args.at c.args.until a c.requires.are c.requires.some (rw c.in-Some.is at c.requires.held))
