-- The links are let go, where the object is there and detached.
use Rattle.std.proofs.Common.{sym}
use Rattle.qo_heap.proofs.BoardReads.{shows-live_key}
use Rattle.qo_life.proofs.TreeLemmas.{goes-shows}
use Rattle.qo_properties.specs.Changes.{severed}
use Rattle.qo_properties.proofs.AnswerLemmas.{sever-absent, sever-attached, sever-done}
use Rattle.qo_properties.proofs.PinLemmas.{goes-pins, pins-room, severed-keeps}
use Rattle.qo_properties.proofs.KeptLemmas.{goes-kept}
use Rattle.qo_properties.proofs.writing.severing.sever.Goals as goal

pub returns-in_default-clause-change : goal.returns-in_default-clause-change
returns-in_default-clause-change g c = λ b s. sever-absent b c.args.heap.now s c.args.birth c.in_default.ensures.none

pub returns-then-is_attached-clause-change : goal.returns-then-is_attached-clause-change
returns-then-is_attached-clause-change g c = λ b s.
    let live = shows-live_key b c.args.heap.now s c.in-Some.o c.in-Some.ensures.live in
    sever-attached b c.args.heap.now s c.args.birth c.in-Some.o.birth c.in-Some.ensures.born live (sym (c.if-is_attached.ensures b s))

pub sever_links-requires-clause-room : goal.sever_links-requires-clause-room
sever_links-requires-clause-room g c = pins-room c.args.heap.now c.requires.pinned c.in-Some.o.birth

pub returns-clause-change : goal.returns-clause-change
returns-clause-change g c = λ b s.
    let live = shows-live_key b c.args.heap.now s c.in-Some.o c.in-Some.ensures.live in
    sever-done b c.sever_links.new.heap c.args.birth c.in-Some.o.birth c.in-Some.ensures.born live (sym (c.if-is_attached.ensures b s))
    (goes-shows (λ d. severed d c.in-Some.o.birth) c.args.heap.now c.sever_links.new.heap c.sever_links.ensures b s)

pub returns-clause-pinned : goal.returns-clause-pinned
returns-clause-pinned g c =
    goes-pins (λ b. severed b c.in-Some.o.birth) c.args.heap.now c.sever_links.new.heap c.sever_links.ensures c.requires.pinned
    (severed-keeps c.in-Some.o.birth)

pub returns-clause-book : goal.returns-clause-book
returns-clause-book g c = c.sever_links.ensures.book

pub returns-clause-kept : goal.returns-clause-kept
returns-clause-kept g c = goes-kept c.args.heap.now c.sever_links.new.heap c.sever_links.ensures
