-- The object in the slot, or none.
use Rattle.std.proofs.Common.{map}
use Rattle.std.specs.Prelude.{option_and_then, slice_get}
use Rattle.serde_json.specs.View.{view}
use Rattle.qo_model.specs.Board.{slots_at}
use Rattle.qo_sound_devices.specs.SoundPlaces.{child_entry}
use Rattle.qo_describe.specs.Told.{entry_told}
use Rattle.qo_describe.proofs.WalkLemmas.{put-none, put-some, then-ok}
use Rattle.qo_describe.proofs.parts.push_slot.Goals as goal

pub returns-in-Some : goal.returns-in-Some
returns-in-Some g c =
    then-ok c.push_entry.result c.push_entry.ensures (λ told. λ b s.
    put-some (entry_told c.args.part b) (c.in-Some.name.now, c.in-Some.o.birth)
    (option_and_then child_entry (slice_get (slots_at b c.args.container.birth) c.args.at))
    (map view c.args.values.now.items) (map view c.push_entry.new.values.items) (told b s) (c.in-Some.ensures.child b s))

pub returns-in-None : goal.returns-in-None
returns-in-None g c = λ b s.
    put-none (entry_told c.args.part b) (option_and_then child_entry (slice_get (slots_at b c.args.container.birth) c.args.at))
    (map view c.args.values.now.items) (c.in-None.ensures.child b s)
