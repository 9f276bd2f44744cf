-- What is read of a clock on the heap is what the boards that it shows have.
use Rattle.std.proofs.Common.{◌≡◌, refl, ap, sym, subst, ◌∙◌, ℕ, true, false, List, find, Option, Some, None, option_map, unwrap_or, IfSome, codes}
use Rattle.std.specs.Prelude.{option_and_then}
use Rattle.std.specs.Str.{bytes_eq}
use Rattle.qo_values.specs.declared.properties.Val.TheVariants as val
use Rattle.qo_slots.specs.declared.keys.Key.{Key}
use Rattle.qo_heap.specs.Rows.{IsLive}
use Rattle.qo_model.specs.Board as board
use Rattle.qo_model.specs.Clocks.{div_of, mul_of, own_period, source_of, weak_in}
use Rattle.qo_model.specs.Devices.{child_named, clock_of, number_at, number_in, plain_in}
use Rattle.qo_object.specs.declared.slots.Slot.{Slot}
use Rattle.qo_object.specs.declared.slots.Slot.TheVariants.{Plain, Child, Link, Alias}
use Rattle.qo_object.specs.BoardObject.{birth_of, shown_slot}
use Rattle.qo_object.specs.Slots.{Named, target_of}
use Rattle.qo_heap.specs.Board.{Shows}
use Rattle.qo_heap.specs.Objects.{IsHeap, Objects, slots_of}
use Rattle.qo_heap.proofs.HeapLemmas.{target-live}
use Rattle.qo_heap.proofs.BoardReads.{shows-slot_named}
use Rattle.qo_clocks.specs.Reads.{child_in, clock_on, div_on, mul_on, number_in_slot, number_on, own_on, slot_on, source_on, weak_target}

-- what a slot that is found names is there

slot-has : (v : Objects) → IsHeap v → (n : ℕ) (name : List ℕ) (key : Key) → option_and_then target_of (slot_on v n name) ≡ Some key → IsLive v.rows key
slot-has v good n name key e = go (find (λ (s : Named). bytes_eq name s.0) (slots_of v n)) refl e
  where
    go : (o : Option Named) → find (λ (s : Named). bytes_eq name s.0) (slots_of v n) ≡ o
        → option_and_then target_of (option_map (λ (s : Named). s.1) o) ≡ Some key → IsLive v.rows key
    go None p q = cc
    go (Some t) p q =
        subst (λ (o : Option Key). IfSome o (IsLive v.rows)) q (target-live v good n (λ (s : Named). bytes_eq name s.0) t (sym p))

weak-names : (o : Option Slot) (key : Key) → option_and_then weak_target o ≡ Some key → option_and_then target_of o ≡ Some key
weak-names None key e = cc
weak-names (Some (Plain v)) key e = cc
weak-names (Some (Child k)) key e = cc
weak-names (Some (Link ty true target)) key e = cc
weak-names (Some (Link ty false target)) key e = e
weak-names (Some (Alias k name)) key e = cc

child-names : (o : Option Slot) (key : Key) → option_and_then child_in o ≡ Some key → option_and_then target_of o ≡ Some key
child-names None key e = cc
child-names (Some (Plain v)) key e = cc
child-names (Some (Child k)) key e = e
child-names (Some (Link ty strong target)) key e = cc
child-names (Some (Alias k name)) key e = cc

pub source-live : (v : Objects) → IsHeap v → (n : ℕ) → IfSome (source_on v n) (IsLive v.rows)
source-live v good n = go (source_on v n) refl
  where
    go : (o : Option Key) → source_on v n ≡ o → IfSome o (IsLive v.rows)
    go None e = tt
    go (Some key) e = slot-has v good n (codes "source") key (weak-names (slot_on v n (codes "source")) key e)

pub clock-live : (v : Objects) → IsHeap v → (n : ℕ) → IfSome (clock_on v n) (IsLive v.rows)
clock-live v good n = go (clock_on v n) refl
  where
    go : (o : Option Key) → clock_on v n ≡ o → IfSome o (IsLive v.rows)
    go None e = tt
    go (Some key) e = slot-has v good n (codes "clk") key (child-names (slot_on v n (codes "clk")) key e)

-- the numbers, the source, the clock

number-shown : (o : Option Slot) → option_and_then number_in (option_and_then plain_in (option_map shown_slot o)) ≡ option_and_then number_in_slot o
number-shown None = refl
number-shown (Some (Plain (val.Bool b))) = refl
number-shown (Some (Plain (val.Int i))) = refl
number-shown (Some (Plain (val.Uint n))) = refl
number-shown (Some (Plain (val.Text t))) = refl
number-shown (Some (Plain val.Nothing)) = refl
number-shown (Some (Child k)) = refl
number-shown (Some (Link ty true target)) = refl
number-shown (Some (Link ty false target)) = refl
number-shown (Some (Alias k name)) = refl

source-shown : (o : Option Slot) → option_and_then weak_in (option_map shown_slot o) ≡ birth_of (option_and_then weak_target o)
source-shown None = refl
source-shown (Some (Plain v)) = refl
source-shown (Some (Child k)) = refl
source-shown (Some (Link ty true target)) = refl
source-shown (Some (Link ty false target)) = refl
source-shown (Some (Alias k name)) = refl

child-shown : (o : Option Slot) → option_and_then child_named (option_map shown_slot o) ≡ birth_of (option_and_then child_in o)
child-shown None = refl
child-shown (Some (Plain v)) = refl
child-shown (Some (Child k)) = refl
child-shown (Some (Link ty true target)) = refl
child-shown (Some (Link ty false target)) = refl
child-shown (Some (Alias k name)) = refl

module _ (b : board.Board) (v : Objects) (s : Shows b v) where
  shows-number : (n : ℕ) (name : List ℕ) → number_at b n name ≡ number_on v n name
  shows-number n name =
      ap (λ (o : Option board.Slot). option_and_then number_in (option_and_then plain_in o)) (shows-slot_named b v s n name) ∙ number-shown (slot_on v n name)

  pub shows-own : (n : ℕ) → own_period b n ≡ own_on v n
  shows-own n = ap (λ (o : Option ℕ). unwrap_or o 0) (shows-number n (codes "period"))

  pub shows-mul : (n : ℕ) → mul_of b n ≡ mul_on v n
  shows-mul n = ap (λ (o : Option ℕ). unwrap_or o 1) (shows-number n (codes "mul"))

  pub shows-div : (n : ℕ) → div_of b n ≡ div_on v n
  shows-div n = ap (λ (o : Option ℕ). unwrap_or o 1) (shows-number n (codes "div"))

  pub shows-source : (n : ℕ) → source_of b n ≡ birth_of (source_on v n)
  shows-source n = ap (option_and_then weak_in) (shows-slot_named b v s n (codes "source")) ∙ source-shown (slot_on v n (codes "source"))

  pub shows-clock : (n : ℕ) → clock_of b n ≡ birth_of (clock_on v n)
  shows-clock n = ap (option_and_then child_named) (shows-slot_named b v s n (codes "clk")) ∙ child-shown (slot_on v n (codes "clk"))
