-- A child stands in a slot, or in none.
use Rattle.std.proofs.Common.{◌≡◌, ◌≤◌, ◌∙◌, ℕ, true, false, is_some, length, refl, sym, ap, arith, rules}
use Rattle.std.proofs.lemmas.List.{take_all}
use Rattle.std.specs.Prelude.{filter_map}
use Rattle.qo_model.specs.Board.{slots_at}
use Rattle.qo_sound_devices.specs.SoundPlaces.{child_entry}
use Rattle.qo_describe.proofs.EntryLemmas.{all-slots}
use Rattle.qo_describe.proofs.ItemLemmas.{child-there, no-children, none-more}
use Rattle.qo_describe.proofs.ValueLemmas.{is-there, not-there}
use Rattle.qo_describe.proofs.entries.has_children.Goals as goal

pub loop-at-init : goal.loop-at-init
loop-at-init g c = λ b s. refl

pub returns-then-is_some : goal.returns-then-is_some
returns-then-is_some g c = λ b s.
    child-there b c.args.o.birth c.loop-at.at _ (is-there (λ e. (e.0.now, e.1.birth)) c.entry_at.result ∙ sym c.is_some.ensures ∙ c.if-is_some.true)
    (c.entry_at.ensures.child b s)

pub loop-at-preserved : goal.loop-at-preserved
loop-at-preserved g c = λ b s.
    none-more c.loop-at.at (slots_at b c.args.o.birth) (c.loop-at.invariant b s)
    (not-there (λ e. (e.0.now, e.1.birth)) c.entry_at.result _ (sym c.is_some.ensures ∙ c.if-is_some.false) (c.entry_at.ensures.child b s))

pub returns : goal.returns
returns g c = λ b s.
    let many = all-slots b c.args.heap.now s c.args.o.birth c.slot_count-count.result c.slot_count-count.ensures.count in
    let last : length (slots_at b c.args.o.birth) ≤ c.loop-at.at = omega (arith, many, c.loop-at-test.false) in
    no-children b c.args.o.birth (ap (filter_map child_entry) (sym (take_all c.loop-at.at (slots_at b c.args.o.birth) last)) ∙ c.loop-at.invariant b s)
