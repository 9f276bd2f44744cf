-- Bodies, by their devices: the body of a new object, and what acts leave of one.
use Rattle.std.proofs.Common.{◌≡◌, refl, sym, subst, ℕ, ◌≤◌, Bool, true, false, cond, arith, rules}
use Rattle.qo_values.specs.Registers.{body_act, Registers, TimerRegisters, fresh_registers}
use Rattle.qo_values.specs.Timer.{after_begin}
use Rattle.qo_values.specs.declared.kinds.Act.{Act}
use Rattle.qo_values.specs.declared.kinds.TypeId.{TypeId}
use Rattle.qo_values.proofs.EachLemmas.{AllBodies, each, each_act, each_body}
use Rattle.qo_values.proofs.TimerLemmas.{end-timely}
use Rattle.qo_kinds.specs.Bodies.{IsInTime, IsTimely, acted, body_of, device_in, kept_of, none_kept, registers_in, registers_of}
use Rattle.qo_kinds.specs.declared.bodies.Body.{Body}

-- registers are those of their device
pub same-registers : (r : Registers) → registers_in (device_in r) ≡ r
same-registers = each_body (λ (r : Registers). registers_in (device_in r) ≡ r) (search rules)

-- a new body

pub fresh-registers : (t : TypeId) → registers_of (body_of t) ≡ fresh_registers t
fresh-registers t = same-registers (fresh_registers t)

pub fresh-bare : (t : TypeId) → kept_of (body_of t) ≡ none_kept
fresh-bare t = refl

-- no moment of it is ahead
fresh-timely-registers : (t : TypeId) (now : ℕ) → IsInTime now (fresh_registers t)
fresh-timely-registers t now = each (λ (u : TypeId). IsInTime now (fresh_registers u)) (search rules) t

pub fresh-timely : (t : TypeId) (now : ℕ) → IsTimely now (body_of t)
fresh-timely t now = subst (IsInTime now) (sym (fresh-registers t)) (fresh-timely-registers t now)

-- an act of a body is that of its registers
pub registers-acted : (act : Act) (now p : ℕ) (b : Body) → registers_of (acted act now p b) ≡ body_act act now p (registers_of b)
registers-acted act now p b = same-registers (body_act act now p (registers_of b))

-- and leaves no timer with a later moment: a segment that ends, or begins, does so at the time

begun-timely : (t : TimerRegisters) (now : ℕ) → t.last ≤ now → (cond t.enabled (after_begin t now) t).last ≤ now
begun-timely t now le = go t.enabled
  where
    go : (on : Bool) → (cond on (after_begin t now) t).last ≤ now
    go true = omega arith
    go false = le

abbrev StaysTimely : Act → Registers → Type 0
StaysTimely act r = (now p : ℕ) → IsInTime now r → IsInTime now (body_act act now p r)

abbrev StayTimely : Act → Type 0
StayTimely act = AllBodies (StaysTimely act)

act-timely : (act : Act) (now p : ℕ) (r : Registers) → IsInTime now r → IsInTime now (body_act act now p r)
act-timely act now p r = each_body (StaysTimely act) (each_act StayTimely (search (rules, end-timely, begun-timely)) act) r now p

pub acted-timely : (act : Act) (now p : ℕ) (b : Body) → IsTimely now b → IsTimely now (acted act now p b)
acted-timely act now p b le = subst (IsInTime now) (sym (registers-acted act now p b)) (act-timely act now p (registers_of b) le)
