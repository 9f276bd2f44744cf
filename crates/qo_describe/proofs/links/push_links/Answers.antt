-- A slot more.
use Rattle.std.proofs.Common.{◌≤◌, ◌++◌, ◌∙◌, List, ap, length, map, sym, append-nil, arith}
use Rattle.serde_json.specs.Data.{Data}
use Rattle.serde_json.specs.View.{view}
use Rattle.qo_model.specs.Board.{slots_at}
use Rattle.qo_save.specs.Described.{link_item}
use Rattle.qo_describe.specs.Told.{link_told}
use Rattle.qo_describe.proofs.EntryLemmas.{all-slots}
use Rattle.qo_describe.proofs.ItemLemmas.{links-told}
use Rattle.qo_describe.proofs.WalkLemmas.{walk-all, walk-more}
use Rattle.qo_describe.proofs.links.push_links.Goals as goal

pub loop-at-init : goal.loop-at-init
loop-at-init g c = λ b s. sym (append-nil (map view c.args.values.now.items))

pub loop-at-preserved : goal.loop-at-preserved
loop-at-preserved g c = λ b s.
    walk-more link_told (link_item b c.args.o.birth) c.loop-at.at (slots_at b c.args.o.birth) (map view c.args.values.now.items)
    (map view c.loop-at.values.items) (map view c.push_link_at.new.values.items) (c.loop-at.invariant b s) (c.in_ok-push_link_at.ensures b s)

pub returns : goal.returns
returns g c = λ b s name.
    let many = all-slots b c.args.heap.now s c.args.o.birth c.slot_count-count.result c.slot_count-count.ensures.count in
    let last : length (slots_at b c.args.o.birth) ≤ c.loop-at.at = omega (arith, many, c.loop-at-test.false) in
    walk-all link_told (link_item b c.args.o.birth) c.loop-at.at (slots_at b c.args.o.birth) (map view c.args.values.now.items)
    (map view c.loop-at.values.items) last (c.loop-at.invariant b s)
    ∙ ap (λ (l : List Data). map view c.args.values.now.items ++ l) (links-told b name c.args.o.birth)
