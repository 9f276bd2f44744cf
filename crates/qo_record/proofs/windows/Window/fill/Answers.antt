-- The bytes that were taken stand after those that were held.
use Rattle.std.proofs.Common.{List, ℕ, ◌+◌, ◌∙◌, ap, arith, take}
use Rattle.std.proofs.lemmas.List.{with_items_is}
use Rattle.qo_record.proofs.WindowLemmas.{taken_ahead}
use Rattle.qo_record.specs.Replays.{ahead_of}
use Rattle.qo_record.specs.Windows.{between}
use Rattle.qo_record.proofs.windows.Window.fill.Goals as goal

pub returns-clause-ahead : goal.returns-clause-ahead
returns-clause-ahead g c =
    let room = c.make_room-at in
    let items = with_items_is room.new.buffer c.take_after.new.buffer (omega (
      arith,
      c.take_after.ensures.size,
      c.deref_mut.ensures.len,
      room.new.buffer.ok.0,
    )) in
    ap (λ (l : List ℕ). ahead_of (between l room.result.0 (room.result.1 + c.in_ok-count.count)) (g.S.Source.left c.take_after.new.source)) items
    ∙ taken_ahead room.new.buffer.items c.take_after.new.buffer _ room.result.0 room.result.1 c.in_ok-count.count _ _ room.ensures.order (omega (
      arith,
      room.ensures.within,
      room.ensures.size,
    )) (c.take_after.ensures.front ∙ ap (take room.result.1) c.deref_mut.ensures.value) (room.ensures.same
    ∙ c.self.view_is) c.in_ok-count.ensures.bytes.0
