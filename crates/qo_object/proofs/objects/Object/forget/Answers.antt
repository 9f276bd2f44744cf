use Rattle.std.proofs.Common.{◌≡◌, ◌∙◌, refl, sym, ap, arith, false, length, rules}
use Rattle.qo_object.specs.Slots.{forgotten_in, changed_at, each_changed}
use Rattle.qo_object.proofs.SlotLemmas.{first_changed, first-none, first-more, first-all, length-first, none-forgotten}
use Rattle.qo_object.proofs.objects.Object.forget.Goals as goal

pub loop-at-init : goal.loop-at-init
loop-at-init c = record {
  kind = refl;
  slots = sym (first-none (forgotten_in c.args.birth) c.self.inside.slots);
  pins = refl;
  body = refl;
  device_id = refl;
  kept_path = refl;
  side = refl;
  work = refl;
}

pub invariant_of-self : goal.invariant_of-self
invariant_of-self c = (
  rw (c.loop-at.invariant.slots, length-first (forgotten_in c.args.birth) c.loop-at.at c.self.inside.slots) c.self.invariant.0,
  rw c.loop-at.invariant.pins c.self.invariant.1,
)

pub loop-at-preserved : goal.loop-at-preserved
loop-at-preserved c = record {
  kind = c.loop-at.invariant.kind;
  slots = c.forget.ensures ∙ ap (changed_at (forgotten_in c.args.birth) c.loop-at.at) c.loop-at.invariant.slots
      ∙ first-more (forgotten_in c.args.birth) c.loop-at.at c.self.inside.slots;
  pins = c.loop-at.invariant.pins;
  body = c.loop-at.invariant.body;
  device_id = c.loop-at.invariant.device_id;
  kept_path = c.loop-at.invariant.kept_path;
  side = c.loop-at.invariant.side;
  work = c.loop-at.invariant.work;
}

pub returns : goal.returns
returns c =
    let change = forgotten_in c.args.birth in
    let end : c.loop-at.at ≡ length c.self.inside.slots = omega (arith, c.loop-at-test.false, c.loop-at.auto.at-end, c.len-at-end.ensures) in
    let slots : c.loop-at.self-inside.slots ≡ each_changed change c.self.inside.slots =
    c.loop-at.invariant.slots ∙ ap (λ n. first_changed change n c.self.inside.slots) end ∙ first-all change c.self.inside.slots in
    rw (← c.self.view_is) (λ j. record {
      kind = c.loop-at.invariant.kind j;
      slots = slots j;
      pins = c.loop-at.invariant.pins j;
      body = c.loop-at.invariant.body j;
      device_id = c.loop-at.invariant.device_id j;
      kept_path = c.loop-at.invariant.kept_path j;
      side = c.loop-at.invariant.side j;
      work = c.loop-at.invariant.work j;
    })

pub returns-then-not-names_weakly : goal.returns-then-not-names_weakly
returns-then-not-names_weakly c =
    let o = c.self.inside in
    let none : c.names_weakly.result ≡ false = search rules in
    let same : o.slots ≡ each_changed (forgotten_in c.args.birth) o.slots = sym (none-forgotten c.args.birth o.slots (sym c.names_weakly.ensures ∙ none)) in
    rw (← c.self.view_is) (λ j. record { kind = o.kind; slots = same j; pins = o.pins; body = o.body; device_id = o.id; kept_path = o.path; side = o.side; work = o.work })
