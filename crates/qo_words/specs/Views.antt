-- For proofs alone. What the code's orders are, and its forms.
use Rattle.std.specs.Prelude.{Option, Some, string_bytes}
use Rattle.qo_words.specs.Words as words
use Rattle.qo_words.specs.Words.{demo_of, serve_of}
use Rattle.qo_words.specs.declared.words.Form.{Form}
use Rattle.qo_words.specs.declared.words.Form.TheVariants as form
use Rattle.qo_words.specs.declared.words.Order.{Order}
use Rattle.qo_words.specs.declared.words.Order.TheVariants.{Replay, Rebuild, Serve, Demo, Types, Watch}

abbrev pub order_of : Order → words.Order
order_of Replay = words.replay
order_of Rebuild = words.rebuild
order_of (Serve path connections) = words.serve (string_bytes path) connections
order_of (Demo seed steps) = words.demo seed steps
order_of Types = words.types
order_of Watch = words.watch

abbrev pub form_order : Form → Option words.Order
form_order form.Replay = Some words.replay
form_order form.Rebuild = Some words.rebuild
form_order (form.Serve path connections) = serve_of path.now connections.now
form_order (form.Demo seed steps) = demo_of seed.now steps.now
form_order form.Types = Some words.types
form_order form.Watch = Some words.watch
