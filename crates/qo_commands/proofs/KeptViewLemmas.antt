-- What is kept of a view, beside the board that it is of.
use Rattle.std.proofs.Common.{◌≡◌, refl, ap, sym, subst, ◌∙◌, ℕ, ◌%◌, ◌==◌, ◌&&◌, not, Bool, true, false, cond, List, Option, Some, None, Result, Ok, Err, IfOk, IfSome, OnErr, is_some, option_map}
use Rattle.std.specs.Option.{option_map_or}
use Rattle.qo_values.specs.Dimm.{dimm_read}
use Rattle.qo_values.specs.Registers.{Effect, Registers, bare, body_write, bridge, dimm, effect_of, timer, uart}
use Rattle.qo_values.specs.Registers as effect
use Rattle.qo_values.specs.Timer.{timer_write}
use Rattle.qo_values.specs.Uart.{uart_write}
use Rattle.qo_values.specs.declared.kinds.ResetKind.TheVariants.{Cold}
use Rattle.qo_guest.specs.declared.answers.GuestAnswer.TheVariants.{NoPending, NoRegister}
use Rattle.qo_guest.specs.declared.lines.GuestAct.{GuestAct}
use Rattle.qo_guest.specs.declared.lines.GuestAct.TheVariants.{Ack, Nack, Poll, Read, Write, Peek, Poke, Irq, Reset, Shutdown}
use Rattle.qo_layout.specs.Rows.{Wired}
use Rattle.qo_layout.specs.Kept.{IsViewOf, Kept}
use Rattle.qo_layout.specs.Layout.{dimm_in}
use Rattle.qo_layout.specs.SameViews.{SameObjects}
use Rattle.qo_layout.proofs.SameObjectLemmas.{same-edited, same-pulsed, same-then}
use Rattle.qo_layout.proofs.SameViewLemmas.{same_view_lem}
use Rattle.qo_model.specs.Board.{Board, Record, is_pending}
use Rattle.qo_model.specs.Clocks.{device_period}
use Rattle.qo_model.specs.Devices.{first_bus}
use Rattle.qo_model.specs.Hotplug.{refused}
use Rattle.qo_model.specs.Reset.{pulse}
use Rattle.qo_buses.specs.Addresses.{addressed}
use Rattle.qo_buses.specs.Rings.{claimed_ring}
use Rattle.qo_realize.specs.Guest.{polled}
use Rattle.qo_realize.specs.Parts.{Parts}
use Rattle.qo_realize.specs.Registers.{after_effect, guest_written, pushed, registers_at, registers_written}
use Rattle.qo_realize.specs.Representation.{Stands}
use Rattle.qo_sound_clocks.specs.RegisterWrites.{registers_set, with_registers}
use Rattle.qo_layout.specs.Layout.{register_at}
use Rattle.qo_layout.specs.declared.views.RegisterPlace.{RegisterPlace}
use Rattle.qo_commands.specs.Hearing.{Came, acted, answered, fine, has_registers, if_written, nacked, peeked, poked, read_by, written_by}
use Rattle.qo_commands.specs.Interrupts.{HasLines}
use Rattle.qo_commands.specs.KeptViews.{HasView, leaves_objects}
use Rattle.qo_commands.specs.declared.hearing.Heard.{Heard}
use Rattle.qo_commands.proofs.InterruptLemmas.{by-lines}

-- nothing is right beside any board
pub view_none : (p : Parts) (kept : Kept) → kept ≡ None → HasView p kept
unfolding HasView
view_none p kept none = λ b stands. subst (IsViewOf b) (sym none) tt

-- a board with the same objects stands at two parts
pub view-same : (p q : Parts) (kept : Kept) (b c : Board) → Stands b p → Stands c q → SameObjects b c → HasView p kept → HasView q kept
unfolding HasView
view-same p q kept b c first next same h =
    λ d stands.
    same_view_lem.kept c d (same_view_lem.beside c d (next.shows.records ∙ sym stands.shows.records)) kept
    (same_view_lem.kept b c same kept (h b first))

-- the view of a board that stands at some parts
pub view-of : (p : Parts) (kept : Kept) → HasView p kept → (b : Board) → Stands b p → IsViewOf b kept
unfolding HasView
view-of p kept h = h

pub view-made : (p : Parts) (kept : Kept) (b : Board) → Stands b p → IsViewOf b kept → HasView p kept
unfolding HasView
view-made p kept b first is =
    λ c stands. same_view_lem.kept b c (same_view_lem.beside b c (first.shows.records ∙ sym stands.shows.records)) kept is

-- A write leaves all objects where they are.

mapped-some : {A B : Type 0} (P : B → Type 0) (f : A → B) → ((x : A) → P (f x)) → (o : Option A) → IfSome (option_map f o) P
mapped-some P f all None = tt
mapped-some P f all (Some x) = all x

range-written : (r : Registers) (reg value : ℕ) (ring : Bool) (now period : ℕ)
    → IfSome (body_write r reg value ring now period) (λ w. dimm_in w.0 ≡ dimm_in r)
range-written (uart u) reg value ring now period =
    mapped-some (λ w. dimm_in w.0 ≡ dimm_in (uart u)) (λ p. (uart p.0, effect_of p.1)) (λ p. refl) (uart_write u reg value ring)
range-written (timer t) reg value ring now period =
    mapped-some (λ w. dimm_in w.0 ≡ dimm_in (timer t)) (λ x. (timer x, effect.nothing)) (λ x. refl) (timer_write t reg value now period)
range-written (dimm d) reg value ring now period =
    mapped-some (λ w. dimm_in w.0 ≡ dimm_in (dimm d)) (λ n. (dimm d, effect.nothing)) (λ n. refl) (dimm_read d reg)
range-written (bridge b) reg value ring now period = go (reg == 0) (reg == 1)
  where
    go : (zero one : Bool)
        → IfSome {T = Registers × Effect}
        (cond zero (Some (bridge (record b { raised = value % 2 == 1 }), cond ((value % 2 == 1) && not b.raised) effect.pulse effect.nothing))
        (cond one (Some (bridge b, effect.nothing)) None)) (λ w. dimm_in w.0 ≡ dimm_in (bridge b))
    go true one = refl
    go false true = refl
    go false false = tt
range-written bare reg value ring now period = tt

same-set : (b : Board) (d : ℕ) (registers : Registers) → dimm_in registers ≡ dimm_in (registers_at b d) → SameObjects b (registers_set b d registers)
same-set b d registers range =
    same-edited d (with_registers registers) (λ r. refl) b
    (λ r there. range ∙ ap (λ (o : Option Record). dimm_in (option_map_or (λ (x : Record). x.registers) o bare)) there)

same-effect : (d : ℕ) (e : Effect) (b : Board) → SameObjects b (after_effect d e b)
same-effect d effect.nothing b = same_view_lem.beside b b refl
same-effect d effect.pulse b = go (first_bus b d)
  where
    go : (o : Option ℕ) → SameObjects b (option_map_or (λ m. pulse b m Cold) o b)
    go None = same_view_lem.beside b b refl
    go (Some m) = same-pulsed b m Cold
same-effect d (effect.byte n) b = go (claimed_ring b d)
  where
    go : (o : Option (List ℕ)) → SameObjects b (option_map_or (pushed n b) o b)
    go None = same_view_lem.beside b b refl
    go (Some id) = same_view_lem.beside b (pushed n b id) refl

pub same-guest_written : (b : Board) (d reg value : ℕ) → IfSome (guest_written b d reg value) (SameObjects b)
same-guest_written b d reg value =
    go (registers_written b d reg value) (range-written (registers_at b d) reg value (is_some (claimed_ring b d)) b.now (device_period b d))
  where
    go : (o : Option (Registers × Effect)) → IfSome o (λ w. dimm_in w.0 ≡ dimm_in (registers_at b d))
        → IfSome (option_map (λ (w : Registers × Effect). after_effect d w.1 (registers_set b d w.0)) o) (SameObjects b)
    go None range = tt
    go (Some w) range =
        same-then b (registers_set b d w.0) (after_effect d w.1 (registers_set b d w.0)) (same-set b d w.0 range) (same-effect d w.1 (registers_set b d w.0))

-- So does each act of the guest but two.

same-read : (b : Board) (reg : ℕ) (o : Option ℕ) → SameObjects b (read_by b reg o).board
same-read b reg None = same_view_lem.beside b b refl
same-read b reg (Some d) = same_view_lem.beside b b refl

same-written : (b : Board) (reg value : ℕ) (o : Option ℕ) → SameObjects b (written_by b reg value o).board
same-written b reg value None = same_view_lem.beside b b refl
same-written b reg value (Some d) = go (guest_written b d reg value) (same-guest_written b d reg value)
  where
    go : (o : Option Board) → IfSome o (SameObjects b) → SameObjects b (if_written b o).board
    go None same = same_view_lem.beside b b refl
    go (Some after) same = same

same-nacked : (b : Board) (o : Option ℕ) → SameObjects b (nacked b o).board
same-nacked b None = same_view_lem.beside b b refl
same-nacked b (Some d) = go (is_pending b d)
  where
    go : (pending : Bool) → SameObjects b (cond pending (fine (refused b d)) (answered b NoPending)).board
    go true = same_view_lem.beside b (refused b d) refl
    go false = same_view_lem.beside b b refl

same-peeked : (b : Board) (o : Option RegisterPlace) → SameObjects b (peeked b o).board
same-peeked b None = same_view_lem.beside b b refl
same-peeked b (Some place) = go (has_registers b place.device)
  where
    go : (has : Bool) → SameObjects b (cond has (read_by b place.register (Some place.device)) (answered b NoRegister)).board
    go true = same_view_lem.beside b b refl
    go false = same_view_lem.beside b b refl

same-poked : (b : Board) (value : ℕ) (o : Option RegisterPlace) → SameObjects b (poked b value o).board
same-poked b value None = same_view_lem.beside b b refl
same-poked b value (Some place) = go (has_registers b place.device)
  where
    go : (has : Bool) → SameObjects b (cond has (written_by b place.register value (Some place.device)) (answered b NoRegister)).board
    go true = same-written b place.register value (Some place.device)
    go false = same_view_lem.beside b b refl

same-acted : (b : Board) (act : GuestAct) → leaves_objects act ≡ true → SameObjects b (acted b act).board
same-acted b (Ack at) leaves = cc
same-acted b (Nack at) leaves = same-nacked b (addressed b at)
same-acted b Poll leaves = same_view_lem.beside b (polled b) refl
same-acted b (Read at reg) leaves = same-read b reg (addressed b at)
same-acted b (Write at reg value) leaves = same-written b reg value (addressed b at)
same-acted b (Peek at) leaves = same-peeked b (register_at b at)
same-acted b (Poke at value) leaves = same-poked b value (register_at b at)
same-acted b Irq leaves = same_view_lem.beside b b refl
same-acted b Reset leaves = cc
same-acted b Shutdown leaves = same_view_lem.beside b b refl

-- what is kept after an act is of the board after it
pub view-acted : {E : Type 0} (p q : Parts) (l : Wired) (act : GuestAct) (r : Result Heard E) (kept : Kept) → HasLines p l
    → ((b : Board) → Stands b p → IfOk r (λ h. Came (acted b act) h q)) → OnErr r (q ≡ p) → HasView p kept
    → HasView q (cond (leaves_objects act) kept None)
view-acted p q l act r kept lines came err has = go (leaves_objects act) refl r came err
  where
    go : {E : Type 0} (leaves : Bool) → leaves_objects act ≡ leaves → (r : Result Heard E) → ((b : Board) → Stands b p → IfOk r (λ h. Came (acted b act) h q))
        → OnErr r (q ≡ p) → HasView q (cond leaves kept None)
    go false is r came err = view_none q None refl
    go true is (Ok h) came err =
        by-lines (λ w. HasView q kept) p l lines
        (λ b stands sound are. view-same p q kept b (acted b act).board stands (came b stands).0 (same-acted b act is) has)
    go true is (Err e) came err = subst (λ (x : Parts). HasView x kept) (sym err) has
