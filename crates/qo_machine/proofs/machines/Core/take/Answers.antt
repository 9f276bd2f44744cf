-- The items of the bytes are served. Rooms that are kept are no part of the state.
use Rattle.std.proofs.Common.{refl, arith, [], ◌∙◌, ap}
use Rattle.qo_causes.specs.declared.inputs.What.TheVariants.{Bytes}
use Rattle.qo_machine.specs.Machine.{Seen}
use Rattle.qo_machine.proofs.MemoryLemmas.{breaks_before, breaks_in, err_more}
use Rattle.qo_machine.proofs.HeardLemmas.{hears-none}
use Rattle.qo_machine.proofs.ListeningLemmas.{bytes-unheard, items_heard}
use Rattle.qo_machine.proofs.MachineLemmas.{beyond, served_items}
use Rattle.qo_heap.proofs.HeapLemmas.{on-err}
use Rattle.qo_machine.proofs.machines.Core.take.Goals as goal

pub returns-clause-answered : goal.returns-clause-answered
returns-clause-answered g c =
    let items = rw c.item_room-room.ensures at c.in_ok-items.ensures.items in
    let state = rw c.item_room-room.ensures at c.in_ok-items.ensures.state in
    let board = c.feed.ensures.board ∙ ap (λ (m : Seen). m.board) c.item_room-room.ensures in
    rw c.keep_items.ensures
    (served_items c.serve_items-outs.result c.args.at c.args.session c.args.self.now c.feed.new.self c.serve_items-outs.new.machine c.args.bytes.now
    c.deref.result.now _ _
    (omega arith) (λ b. c.deref.ensures.value ∙ items b) state board c.serve_items-outs.ensures.served)

pub returns-then-session-ge-SESSIONS-clause-answered : goal.returns-then-session-ge-SESSIONS-clause-answered
returns-then-session-ge-SESSIONS-clause-answered g c = λ s here.
    ([], s, here, beyond c.args.at c.args.session c.args.bytes.now s _ (omega arith) c.none.ensures, hears-none s.board s.board refl _)

pub returns-in_err-items-clause-breaks : goal.returns-in_err-items-clause-breaks
returns-in_err-items-clause-breaks g c = λ s here.
    on-err c.from_residual.result
    (breaks_before s (record { at = c.args.at; what = Bytes c.args.session c.args.bytes.now }) c.args.self.now c.feed.new.self
    (c.feed.ensures.board ∙ ap (λ (m : Seen). m.board) c.item_room-room.ensures) here)

pub returns-clause-breaks : goal.returns-clause-breaks
returns-clause-breaks g c = λ s here.
    let items = rw c.item_room-room.ensures at c.in_ok-items.ensures.items in
    let state = rw c.item_room-room.ensures at c.in_ok-items.ensures.state in
    let board = c.feed.ensures.board ∙ ap (λ (m : Seen). m.board) c.item_room-room.ensures in
    rw c.keep_items.ensures
    (err_more c.serve_items-outs.result
    (λ left.
    breaks_in c.args.at c.args.session c.args.self.now c.feed.new.self c.serve_items-outs.new.machine c.args.bytes.now c.deref.result.now (omega arith)
    (λ b. c.deref.ensures.value ∙ items b) state board left s here) c.serve_items-outs.ensures.left)

-- what listeners heard

pub returns-in_err-items-clause-heard : goal.returns-in_err-items-clause-heard
returns-in_err-items-clause-heard g c = λ s here.
    on-err c.from_residual.result (bytes-unheard s c.args.at c.args.session c.args.bytes.now _)

pub returns-clause-heard : goal.returns-clause-heard
returns-clause-heard g c =
    let items = rw c.item_room-room.ensures at c.in_ok-items.ensures.items in
    let state = rw c.item_room-room.ensures at c.in_ok-items.ensures.state in
    let board = c.feed.ensures.board ∙ ap (λ (m : Seen). m.board) c.item_room-room.ensures in
    items_heard c.serve_items-outs.result c.args.at c.args.session c.args.self.now c.feed.new.self c.args.bytes.now c.deref.result.now _ _ (omega arith)
    (λ b. c.deref.ensures.value ∙ items b) state board c.serve_items-outs.ensures.heard
