-- What was listed so far is a front of the object's slots.
use Rattle.std.proofs.Common.{[], ◌-◌, length, take}
use Rattle.qo_heap.specs.Objects.{slots_of}
use Rattle.qo_model.specs.Board.{Board as Tree}
use Rattle.qo_model.specs.Listing.{listing}
use Rattle.qo_realize.specs.Representation.{Stands}
use Rattle.qo_replies.specs.Properties.{HasWritten}
use Rattle.qo_commands.proofs.listings.push_all.Given as goal

abbrev pub invariant-loop-name : goal.invariant-loop-name
invariant-loop-name g l = (b : Tree) → Stands b l.board → HasWritten [] l.fn.list → HasWritten (take l.at (listing b l.o.birth)) l.list

abbrev pub decreases-loop-name : goal.decreases-loop-name
decreases-loop-name g l = length (slots_of l.board.objects l.o.birth) - l.at
