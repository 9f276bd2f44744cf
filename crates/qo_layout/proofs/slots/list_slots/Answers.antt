-- A slot more.
use Rattle.std.proofs.Common.{rules, ◌≡◌, ◌++◌, ◌∷◌, [], refl, sym, ap, ◌∙◌, subst, ℕ, List, length, false, not, Option, Some, None, is_some, arith}
use Rattle.std.proofs.Math.ListN.{length-append}
use Rattle.qo_values.specs.declared.births.TheConstants.{ROOT_BUS_BIRTH}
use Rattle.qo_model.specs.Devices.{kids_of}
use Rattle.qo_model.specs.Unplug.{first_of}
use Rattle.qo_object.specs.BoardObject.{birth_of}
use Rattle.qo_layout.specs.Rows.{AreSlots, HasRow}
use Rattle.qo_layout.proofs.SlotLemmas.{slots-free, slots-gone, slots-next, there-next}
use Rattle.qo_layout.proofs.slots.list_slots.Goals as goal

-- none, by its test
no-option : {T : Type 0} (o : Option T) → is_some o ≡ false → o ≡ None
no-option None is = refl
no-option (Some x) is = cc

pub returns-in_default-clause-slots : goal.returns-in_default-clause-slots
returns-in_default-clause-slots g c = λ b s.
    subst (λ (slots : List (Option ℕ)). AreSlots b c.args.rows.now 8 slots) (sym c.clear.ensures.items)
    (slots-gone b c.args.heap.now s c.args.rows.now c.in_default.ensures.none)

pub returns-then-is_none-clause-slots : goal.returns-then-is_none-clause-slots
returns-then-is_none-clause-slots g c = λ b s.
    let none : c.first_kid.result ≡ None = no-option c.first_kid.result (c.is_none.ensures ∙ ap not c.if-is_none.true) in
    let first : None ≡ first_of (kids_of b ROOT_BUS_BIRTH) =
    subst (λ (n : ℕ). None ≡ first_of (kids_of b n)) c.in-Some.ensures.born (sym (ap birth_of none) ∙ c.first_kid.ensures.kid b s) in
    subst (λ (slots : List (Option ℕ)). AreSlots b c.args.rows.now 8 slots) (sym c.clear.ensures.items) (slots-free b c.args.rows.now first)

pub loop-slot-preserved : goal.loop-slot-preserved
loop-slot-preserved g c =
    let before = c.loop-slot.invariant in
    let old = c.loop-slot.slots.items in
    let items : c.push.new.self.items ≡ c.loop-slot.slots.items ++ c.in_ok-line.line ∷ [] = search rules in (
      rw items (omega (arith, length-append old (c.in_ok-line.line ∷ []), before.0)),
      λ b s.
          slots-next b c.args.rows.now c.loop-slot.slot old c.push.new.self.items c.in_ok-line.line before.0 (before.1 b s) (c.in_ok-line.ensures.line b s)
          items,
      λ n. rw items (there-next (λ x. (d : ℕ) × HasRow c.args.rows.now d x) old c.in_ok-line.line before.2 c.in_ok-line.ensures.there n),
    )
