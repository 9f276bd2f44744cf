-- For proofs alone. The places give back the slots that they hold.
use Rattle.std.specs.Prelude.{◌≡◌, ℕ, ◌-◌, ◌≤◌, List, ◌++◌, length, take, replicate}
use Rattle.std.proofs.Common.{sym, ap, arith}
use Rattle.std.proofs.lemmas.List.{length-take-le}
use Rattle.qo_guest.specs.declared.addresses.SlotPath.TheInside.{Inside}
use Rattle.qo_guest.specs.declared.addresses.TheConstants.{STEPS_MAX}

-- the first `count` places hold slots, and the rest 0
pub record IsPadded (slots : List ℕ) (count : ℕ) : Type 0 where
  pub some : 1 ≤ count
  pub few : count ≤ STEPS_MAX
  pub whole : length slots ≡ STEPS_MAX
  pub rest : slots ≡ take count slots ++ replicate (STEPS_MAX - count) 0

-- the places that hold these slots
abbrev pub padded_steps : List ℕ → List ℕ
padded_steps steps = steps ++ replicate (STEPS_MAX - length steps) 0

-- the places are those that the slots in them give
pub padded_again : (s : Inside) → IsPadded s.slots s.count → record { slots = padded_steps (take s.count s.slots); count = length (take s.count s.slots) } ≡ s
padded_again s h =
    let counted : length (take s.count s.slots) ≡ s.count = length-take-le s.count s.slots (omega arith) in
    let made : List ℕ → Inside = λ xs. record { slots = xs; count = s.count } in
    rw counted (ap made (sym h.rest))
