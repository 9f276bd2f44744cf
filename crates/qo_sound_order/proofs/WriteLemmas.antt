-- `qom-set` keeps objects in order: no property of a bus is one that it writes.
use Rattle.std.proofs.Common.{◌≡◌, refl, sym, ◌∙◌, rules, ℕ, Bool, true, false, List, codes}
use Rattle.qo_model.proofs.Common.{⊤, AllByRecursion, TypeId, Val, Board, kind_of, after_write, drop_slot, may_set, with_dropped, write, is_a, slots_of, types}
use Rattle.qo_model.specs.declared.properties.Property.{Property}
use Rattle.qo_values.proofs.EachLemmas.{each}
use Rattle.qo_values.proofs.ListLemmas.{found-has}
use Rattle.qo_model.proofs.FinalNotesLemmas.{edit-kind}
use Rattle.qo_steps.proofs.CommandStepsLemmas.{IsWritten, write-by}
use Rattle.qo_sound_order.proofs.ObjectLemmas.{fact-drop, fact-ends, fact-set}
use Rattle.qo_sound_order.proofs.OrderedLemmas.{InOrder, Ordered, order-point, ordered-keeps}

abbrev IsUnset : Property → Type 0
IsUnset p = may_set p.access ≡ false

bus-unset : (t : TypeId) → is_a t (codes "bus") ≡ true → AllByRecursion IsUnset (slots_of t)
unfolding types
bus-unset = each (λ (t : TypeId). is_a t (codes "bus") ≡ true → AllByRecursion IsUnset (slots_of t)) (search rules)

written-apart : (b : Board) (n : ℕ) (name : List ℕ) (p : Property) (is : IsWritten b n name p) → is_a is.type (codes "bus") ≡ false
written-apart b n name p is = go (is_a is.type (codes "bus")) refl
  where
    go : (u : Bool) → is_a is.type (codes "bus") ≡ u → is_a is.type (codes "bus") ≡ false
    go false e = e
    go true e =
        let none : may_set p.access ≡ false = found-has IsUnset _ (slots_of is.type) p (bus-unset is.type e) is.row in
        absurd (let clash : true ≡ false = sym is.may ∙ none in cc)

kind-dropped : (b : Board) (n i x : ℕ) → kind_of (drop_slot b n i) x ≡ kind_of b x
unfolding drop_slot
kind-dropped b n i x = edit-kind n (with_dropped i) (λ r. refl) (λ r. refl) b x

pub order-wrote : (b : Board) (n : ℕ) (name : List ℕ) (v : Val) → InOrder b → InOrder (after_write b (write b n name v))
order-wrote b n name v h =
    write-by InOrder b n name v
    (record {
      value = λ i p is old at type first role fits. fact-set (λ v. ⊤) Ordered ordered-keeps n i v b tt h;
      drops = λ i p is t s link at. fact-drop (λ v. ⊤) Ordered ordered-keeps n i b h;
      points = λ i p is t s left link leaves at path m told dropped.
          order-point n i m is.type (drop_slot b n i) (kind-dropped b n i n ∙ is.kind) (written-apart b n name p is) dropped;
      ends = fact-ends (λ v. ⊤) Ordered ordered-keeps;
    }) h
