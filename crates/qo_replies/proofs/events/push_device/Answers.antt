use Rattle.std.specs.Prelude.{string_bytes}
use Rattle.json.specs.Print.{quoted}
use Rattle.qo_replies.specs.Events.{device_name, ending}
use Rattle.qo_replies.specs.Json.{ascii}
use Rattle.qo_replies.specs.Replies.{line_end}
use Rattle.qo_replies.proofs.EventLemmas.{after_data, device-line, device-text, ended}
use Rattle.qo_replies.proofs.events.push_device.Goals as goal

pub returns : goal.returns
returns c =
    rw (
      device-line c.args.deleted _ c.args.path.now c.args.at,
      device-text _ c.args.path.now (device_name c.args.deleted) c.args.at c.in_ok-push_before_path.ensures.spelled c.in_ok-push_quoted.ensures.spelled
          (rw c.device_name.ensures.value at c.in_ok-push_ending.ensures.spelled),
      c.in_ok-push_ending.ensures.bytes,
      c.device_name.ensures.value,
      c.in_ok-push_str.ensures.bytes,
      c.in_ok-push_quoted.ensures.bytes,
      c.in_ok-push_before_path.ensures.bytes,
    )
    (ended (string_bytes c.args.text.now) _ (ascii (quoted c.args.path.now)) after_data (ending (device_name c.args.deleted) c.args.at) line_end)
