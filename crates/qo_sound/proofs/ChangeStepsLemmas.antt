-- What each small step of the commands on objects keeps, the commands keep.
use Rattle.std.proofs.Common.{◌≡◌, refl, ℕ, List, length, Option, Some, None}
use Rattle.qo_model.proofs.Common.{OBJECTS_BIRTH, Val, Board, Slot, slot_at, slots_at, point, pointed, set, with_changed, with_val, after_write, object_del, sever, severed_from, pointed_at, relinked, write, drop_slot, pin, with_dropped}
use Rattle.qo_model.specs.Board.{referent}
use Rattle.qo_model.proofs.ComesToLemmas.{deletion-comes, sever-comes, severed-comes}
use Rattle.qo_model.proofs.WrittenLemmas.{write-comes}
use Rattle.qo_sound.proofs.AdditionStepsLemmas.{KeepsEdits}
use Rattle.qo_sound.proofs.DetachmentStepsLemmas.{KeepsEnds, KeepsPins, step-let_go, step-pin, step-unpin}

module _ (P : Board → Type 0) (edits : KeepsEdits P) (pins : KeepsPins P) (ends : KeepsEnds P) where
  -- `object-del`
  pub step-object_del : (b : Board) (id : List ℕ) → P b → P (object_del b id).board
  step-object_del b id h = deletion-comes P b id h (λ i e. step-let_go P edits pins ends OBJECTS_BIRTH i b h)

  -- `qom-set`
  step-val : (b : Board) (n i : ℕ) (v : Val) → P b → P (set n i v b)
  unfolding set
  step-val b n i v h = edits n (with_changed (with_val v) i) (λ r. refl) b h

  step-pointed : (b : Board) (n i : ℕ) (target : Option ℕ) → P b → P (pointed_at target n i b)
  unfolding point
  step-pointed b n i None h = h
  step-pointed b n i (Some m) h = edits n (with_changed (pointed m) i) (λ r. refl) b h

  step-drop : (b : Board) (n i : ℕ) → P b → P (drop_slot b n i)
  unfolding drop_slot
  step-drop b n i h = edits n (with_dropped i) (λ r. refl) b h

  step-relinked : (b : Board) (n i : ℕ) (target : Option ℕ) → P b → P (relinked b n i target)
  step-relinked b n i target h = go (slot_at b n i) refl
    where
      go : (s : Option Slot) → slot_at b n i ≡ s → P (relinked b n i target)
      go None p = rw (relinked, p) h
      go (Some s) p =
          rw (relinked, p) (ends (referent s) (pointed_at target n i (drop_slot b n i)) (step-pointed (drop_slot b n i) n i target (step-drop b n i h)))

  pub step-write : (b : Board) (n : ℕ) (name : List ℕ) (v : Val) → P b → P (after_write b (write b n name v))
  step-write b n name v h = write-comes P b h n name v (λ i t p kind e may. record {
    value = λ old at type first is fits. step-val b n i v h;
    link = λ u s left link leaves at to holds is path target told. step-relinked b n i target h;
  })

  -- `x-sever`
  step-severed : (places i n : ℕ) (b : Board) → P b → P (severed_from places i n b)
  step-severed places i n b h = severed-comes P n (λ c j t target e k. step-let_go P edits pins ends n j c k) places i b h

  pub step-sever : (b : Board) (n : ℕ) → P b → P (sever b n).board
  step-sever b n h =
      sever-comes P b n h (λ there away.
      step-unpin P edits pins ends n (severed_from (length (slots_at b n)) 0 n (pin b n))
      (step-severed (length (slots_at b n)) 0 n (pin b n) (step-pin P edits pins ends n b h)))
