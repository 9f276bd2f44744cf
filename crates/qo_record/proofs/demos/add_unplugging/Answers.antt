-- The command is the one that unplugs the device.
use Rattle.std.proofs.Common.{◌∙◌}
use Rattle.qo_record.specs.Demo.{unplugging}
use Rattle.qo_record.proofs.DemoLemmas.{same_text}
use Rattle.qo_record.proofs.demos.add_unplugging.Goals as goal

pub returns : goal.returns
returns c =
    same_text c.add_bytes.result c.add_bytes.new.stream.items c.args.stream.now.items c.args.second _ (unplugging c.args.number)
    (c.deref.ensures.value ∙ c.in_ok-text.ensures) c.add_bytes.ensures
