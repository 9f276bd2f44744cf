-- A slot more.
use Rattle.std.proofs.Common.{◌≤◌, ◌∙◌, length, map, sym, append-nil, arith}
use Rattle.serde_json.specs.View.{view}
use Rattle.qo_model.specs.Board.{slots_at}
use Rattle.qo_sound_devices.specs.SoundPlaces.{child_entry}
use Rattle.qo_describe.specs.Told.{entry_told}
use Rattle.qo_describe.proofs.EntryLemmas.{all-slots}
use Rattle.qo_describe.proofs.WalkLemmas.{walk-all, walk-more}
use Rattle.qo_describe.proofs.parts.push_slots.Goals as goal

pub loop-at-init : goal.loop-at-init
loop-at-init g c = λ b s. sym (append-nil (map view c.args.values.now.items))

pub loop-at-preserved : goal.loop-at-preserved
loop-at-preserved g c = λ b s.
    walk-more (entry_told c.args.part b) child_entry c.loop-at.at (slots_at b c.args.container.birth) (map view c.args.values.now.items)
    (map view c.loop-at.values.items) (map view c.push_slot.new.values.items) (c.loop-at.invariant b s) (c.in_ok-push_slot.ensures b s)

pub returns : goal.returns
returns g c = λ b s.
    let many = all-slots b c.args.heap.now s c.args.container.birth c.slot_count-count.result c.slot_count-count.ensures.count in
    let last : length (slots_at b c.args.container.birth) ≤ c.loop-at.at = omega (arith, many, c.loop-at-test.false) in
    walk-all (entry_told c.args.part b) child_entry c.loop-at.at (slots_at b c.args.container.birth) (map view c.args.values.now.items)
    (map view c.loop-at.values.items) last (c.loop-at.invariant b s)
