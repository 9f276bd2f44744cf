-- What is found by name has its own text, and an object that is not there has no slot.
use Rattle.std.proofs.Common.{◌≡◌, ℕ, [], Some, None, ap, sym, ◌∙◌, Option}
use Rattle.std.specs.Option.{option_map_or}
use Rattle.std.specs.Str.{bytes_eq}
use Rattle.qo_object.specs.Slots.{Named}
use Rattle.qo_object.specs.BoardObject.{shown_slot}
use Rattle.qo_model.specs.Board as board
use Rattle.qo_model.specs.Listing.{own_text}
use Rattle.qo_heap.proofs.HeapLemmas.{target-live}
use Rattle.qo_properties.proofs.ReadLemmas.{named-gone, named-is}
use Rattle.qo_properties.proofs.reading.listing.passed_text.Goals as goal

pub returns-in_default : goal.returns-in_default
returns-in_default g c = λ b s.
    sym (ap (λ (o : Option board.Slot). option_map_or (own_text b c.args.birth c.args.of.now) o [])
    (named-gone b c.args.heap.now s c.args.birth c.args.of.now c.in_default.ensures.none))

pub returns-in_default-slot : goal.returns-in_default-slot
returns-in_default-slot g c = λ b s.
    let none : board.slot_named b c.args.birth c.args.of.now ≡ None =
    ap (λ (n : ℕ). board.slot_named b n c.args.of.now) (sym c.in-Some.ensures.born)
    ∙ named-is b c.args.heap.now s c.in-Some.o.birth c.args.of.now None c.in_default-slot.ensures.slot in
    sym (ap (λ (o : Option board.Slot). option_map_or (own_text b c.args.birth c.args.of.now) o []) none)

pub own_text-requires-clause-target : goal.own_text-requires-clause-target
own_text-requires-clause-target g c =
    target-live c.args.heap.now c.reveal_invariant.ensures c.in-Some.o.birth (λ (t : Named). bytes_eq c.args.of.now t.0)
    (c.in-Some-slot.slot.name.now, c.in-Some-slot.slot.what.now) c.in-Some-slot.ensures.slot

pub returns : goal.returns
returns g c = λ b s.
    let there : board.slot_named b c.args.birth c.args.of.now ≡ Some (shown_slot c.in-Some-slot.slot.what.now) =
    ap (λ (n : ℕ). board.slot_named b n c.args.of.now) (sym c.in-Some.ensures.born)
    ∙ named-is b c.args.heap.now s c.in-Some.o.birth c.args.of.now (Some (c.in-Some-slot.slot.name.now, c.in-Some-slot.slot.what.now))
    c.in-Some-slot.ensures.slot in
    let text : own_text b c.in-Some.o.birth c.args.of.now (shown_slot c.in-Some-slot.slot.what.now)
    ≡ option_map_or (own_text b c.args.birth c.args.of.now) (board.slot_named b c.args.birth c.args.of.now) [] =
    ap (λ (n : ℕ). own_text b n c.args.of.now (shown_slot c.in-Some-slot.slot.what.now)) c.in-Some.ensures.born
    ∙ sym (ap (λ (o : Option board.Slot). option_map_or (own_text b c.args.birth c.args.of.now) o []) there) in
    c.own_text.ensures b s ∙ text
