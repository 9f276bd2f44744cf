-- A statement on every type, body, write or act, from what it says of each. Where it computes, a search finds each of them. These are the lists of cases that a
-- new type, body or act is added to.
use Rattle.std.proofs.Common.{◌≡◌, refl, ap, subst, ℕ, Bool, true, false, eqb, List, [], ◌∷◌, Option, Some, None, option_map}
use Rattle.std.specs.List.{AllByRecursion}
use Rattle.std.proofs.lemmas.Option.{same_Some}
use Rattle.qo_values.specs.Dimm.{dimm_read}
use Rattle.qo_values.specs.Registers.{BridgeRegisters, DimmRegisters, Effect, Registers, TimerRegisters, UartRegisters, bare, body_write, bridge, bridge_write, dimm, effect_of, nothing, timer, uart}
use Rattle.qo_values.specs.Timer.{timer_write}
use Rattle.qo_values.specs.Uart.{uart_write}
use Rattle.qo_values.specs.declared.kinds.Act.{Act}
use Rattle.qo_values.specs.declared.kinds.Act.TheVariants.{Init, Realize, Unrealize, Enter, Wake, Hold, Exit, Pre, Update}
use Rattle.qo_values.specs.declared.kinds.TypeId.{TypeId}
use Rattle.qo_values.specs.declared.kinds.TypeId.TheVariants.{Object, Container, Machine, Device, SlotDevice, SlotUart, SlotTimer, SlotBridge, MemDimm, Bus, SlotBus, MemBus, Clock, MemoryBackend, MemoryBackendRam, Tag}

-- types
abbrev all_types : List TypeId
all_types =
    Object ∷ Container ∷ Machine ∷ Device ∷ SlotDevice ∷ SlotUart ∷ SlotTimer ∷ SlotBridge ∷ MemDimm ∷ Bus ∷ SlotBus ∷ MemBus ∷ Clock ∷ MemoryBackend
    ∷ MemoryBackendRam ∷ Tag ∷ []

pub each : (P : TypeId → Type 0) → AllByRecursion P all_types → (t : TypeId) → P t
each P h Object = h.0
each P h Container = h.1.0
each P h Machine = h.1.1.0
each P h Device = h.1.1.1.0
each P h SlotDevice = h.1.1.1.1.0
each P h SlotUart = h.1.1.1.1.1.0
each P h SlotTimer = h.1.1.1.1.1.1.0
each P h SlotBridge = h.1.1.1.1.1.1.1.0
each P h MemDimm = h.1.1.1.1.1.1.1.1.0
each P h Bus = h.1.1.1.1.1.1.1.1.1.0
each P h SlotBus = h.1.1.1.1.1.1.1.1.1.1.0
each P h MemBus = h.1.1.1.1.1.1.1.1.1.1.1.0
each P h Clock = h.1.1.1.1.1.1.1.1.1.1.1.1.0
each P h MemoryBackend = h.1.1.1.1.1.1.1.1.1.1.1.1.1.0
each P h MemoryBackendRam = h.1.1.1.1.1.1.1.1.1.1.1.1.1.1.0
each P h Tag = h.1.1.1.1.1.1.1.1.1.1.1.1.1.1.1.0

-- bodies
abbrev pub AllBodies : (Registers → Type 0) → Type 0
AllBodies P =
    ((u : UartRegisters) → P (uart u)) × ((t : TimerRegisters) → P (timer t)) × ((d : DimmRegisters) → P (dimm d))
    × ((b : BridgeRegisters) → P (bridge b)) × P bare

pub each_body : (P : Registers → Type 0) → AllBodies P → (r : Registers) → P r
each_body P h (uart u) = h.0 u
each_body P h (timer t) = h.1 t
each_body P h (dimm d) = h.2 d
each_body P h (bridge b) = h.3 b
each_body P h bare = h.4

-- a guest's writes: what a body and the one that a write makes of it are

abbrev pub AllWrites : (Registers → Registers → Type 0) → ℕ → ℕ → ℕ → ℕ → Type 0
AllWrites P reg value now period =
    ((u v : UartRegisters) → P (uart u) (uart v))
    × ((t v : TimerRegisters) → timer_write t reg value now period ≡ Some v → P (timer t) (timer v)) × ((d : DimmRegisters) → P (dimm d) (dimm d))
    × ((b v : BridgeRegisters) → P (bridge b) (bridge v))

-- what is so of each body that a write may give is so of the one that it gave
mapped : {A : Type 0} (P : Registers → Type 0) (f : A → Registers × Effect) → ((x : A) → P (f x).0) → (o : Option A) (s : Registers) (effect : Effect)
    → option_map f o ≡ Some (s, effect) → P s
mapped P f all None s effect e = cc
mapped P f all (Some x) s effect e = subst P (ap (λ (p : Registers × Effect). p.0) (same_Some (f x) (s, effect) e)) (all x)

pub each_write : (P : Registers → Registers → Type 0) (reg value : ℕ) (ring : Bool) (now period : ℕ) → AllWrites P reg value now period
    → (r s : Registers) (effect : Effect) → body_write r reg value ring now period ≡ Some (s, effect) → P r s
each_write P reg value ring now period h (uart u) s effect e =
    mapped (P (uart u)) (λ (p : UartRegisters × Option ℕ). (uart p.0, effect_of p.1)) (λ p. h.0 u p.0) (uart_write u reg value ring) s effect e
each_write P reg value ring now period h (timer t) s effect e = go (timer_write t reg value now period) refl
  where
    go : (o : Option TimerRegisters) → timer_write t reg value now period ≡ o → P (timer t) s
    go None p = absurd (let clash : None ≡ Some (s, effect) = rw p at e in cc)
    go (Some x) p =
        let is : timer x ≡ s = ap (λ (q : Registers × Effect). q.0) (same_Some (timer x, nothing) (s, effect) (rw p at e)) in
        subst (P (timer t)) is (h.1 t x p)
each_write P reg value ring now period h (dimm d) s effect e = mapped (P (dimm d)) (λ (n : ℕ). (dimm d, nothing)) (λ n. h.2 d) (dimm_read d reg) s effect e
each_write P reg value ring now period h (bridge g) s effect e = go (eqb reg 0) refl (eqb reg 1) refl
  where
    is : (x : BridgeRegisters) (f : Effect) → ◌≡◌ {A = Option (Registers × Effect)} (Some (bridge x, f)) (Some (s, effect)) → P (bridge g) s
    is x f q = subst (P (bridge g)) (ap (λ (p : Registers × Effect). p.0) (same_Some (bridge x, f) (s, effect) q)) (h.3 g x)

    go : (u : Bool) → eqb reg 0 ≡ u → (v : Bool) → eqb reg 1 ≡ v → P (bridge g) s
    go true p v q = is _ _ (rw (bridge_write, p) at e)
    go false p true q = is _ _ (rw (bridge_write, p, q) at e)
    go false p false q = absurd (let clash : None ≡ Some (s, effect) = rw (bridge_write, p, q) at e in cc)
each_write P reg value ring now period h bare s effect e = cc

-- acts
abbrev pub AllActs : (Act → Type 0) → Type 0
AllActs P = ((t : TypeId) → P (Init t)) × P Realize × P Unrealize × P Enter × P Wake × P Hold × P Exit × P Pre × P Update

pub each_act : (P : Act → Type 0) → AllActs P → (a : Act) → P a
each_act P h (Init t) = h.0 t
each_act P h Realize = h.1
each_act P h Unrealize = h.2
each_act P h Enter = h.3
each_act P h Wake = h.4
each_act P h Hold = h.5
each_act P h Exit = h.6
each_act P h Pre = h.7
each_act P h Update = h.8
