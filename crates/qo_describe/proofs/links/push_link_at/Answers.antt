-- The link in the slot, or none.
use Rattle.std.proofs.Common.{map}
use Rattle.std.specs.Prelude.{option_and_then, slice_get}
use Rattle.serde_json.specs.View.{view}
use Rattle.qo_model.specs.Board.{slots_at}
use Rattle.qo_save.specs.Described.{link_item, link_to}
use Rattle.qo_describe.specs.Told.{link_told}
use Rattle.qo_describe.proofs.ItemLemmas.{link-none, link-some}
use Rattle.qo_describe.proofs.ValueLemmas.{pushed}
use Rattle.qo_describe.proofs.WalkLemmas.{put-none, put-some}
use Rattle.qo_describe.proofs.links.push_link_at.Goals as goal

pub returns-in_default : goal.returns-in_default
returns-in_default g c = λ b s.
    put-none link_told (option_and_then (link_item b c.args.o.birth) (slice_get (slots_at b c.args.o.birth) c.args.at)) (map view c.args.values.now.items)
    (link-none b c.args.o.birth (slice_get (slots_at b c.args.o.birth) c.args.at) (c.in_default.ensures.link b s))

pub returns : goal.returns
returns g c = λ b s.
    put-some link_told (link_to b c.args.o.birth c.in-Some.name.now c.in-Some.target.birth)
    (option_and_then (link_item b c.args.o.birth) (slice_get (slots_at b c.args.o.birth) c.args.at)) (map view c.args.values.now.items)
    (map view c.push.new.self.items) (pushed c.args.values.now.items c.push.new.self.items _ _ c.in_ok-push.ensures.items (c.in_ok-link_value.ensures b s))
    (link-some b c.args.o.birth (c.in-Some.name.now, c.in-Some.target.birth) (slice_get (slots_at b c.args.o.birth) c.args.at) (c.in-Some.ensures.link b s))
