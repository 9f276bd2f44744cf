-- The device is there, or none is.
use Rattle.std.proofs.Common.{◌≡◌, refl, sym, ap, ◌∙◌, true, false, None, Some}
use Rattle.std.specs.Prelude.{is_some, option_map}
use Rattle.std.specs.String.{string_bytes}
use Rattle.qo_heap.proofs.BoardReads.{shows-live, shows-live_key}
use Rattle.qo_model.specs.Board.{is_live}
use Rattle.qo_model.specs.Paths.{canonical}
use Rattle.qo_commands.proofs.memmap.shown_name.Goals as goal

pub returns-in_default : goal.returns-in_default
returns-in_default g c = λ b stands.
    let none = c.in_default.ensures.none in
    let gone : is_live b c.args.leaf ≡ false =
    shows-live b c.args.board.now.objects stands.shows c.args.leaf ∙ ap is_some (rw c.heap.ensures at none)
    in
    rw gone c.from_str.ensures.ok

pub returns-in-Some-2 : goal.returns-in-Some-2
returns-in-Some-2 g c = λ b stands.
    let live : is_live b c.in-Some.device.birth ≡ true =
    shows-live_key b c.args.board.now.objects stands.shows c.in-Some.device (rw c.heap.ensures at c.in-Some.ensures.live)
    in
    let here : is_live b c.args.leaf ≡ true = rw c.in-Some.ensures.born at live in
    let path : option_map string_bytes c.in_ok-path.field-0 ≡ canonical b c.in-Some.device.birth =
    c.in_ok-path.ensures b (rw c.heap-2.ensures stands.shows)
    in
    let named : canonical b c.args.leaf ≡ Some (string_bytes c.in-Some-2.path) =
    rw c.in-Some.ensures.born at (sym path ∙ ap (option_map string_bytes) c.in-Some-2.is)
    in
    rw (here, named) refl

pub returns-in-None : goal.returns-in-None
returns-in-None g c = λ b stands.
    let live : is_live b c.in-Some.device.birth ≡ true =
    shows-live_key b c.args.board.now.objects stands.shows c.in-Some.device (rw c.heap.ensures at c.in-Some.ensures.live)
    in
    let here : is_live b c.args.leaf ≡ true = rw c.in-Some.ensures.born at live in
    let path : option_map string_bytes c.in_ok-path.field-0 ≡ canonical b c.in-Some.device.birth =
    c.in_ok-path.ensures b (rw c.heap-2.ensures stands.shows)
    in
    let named : canonical b c.args.leaf ≡ None =
    rw c.in-Some.ensures.born at (sym path ∙ ap (option_map string_bytes) c.in-None.is)
    in
    rw (here, named, c.new.ensures.bytes) refl
