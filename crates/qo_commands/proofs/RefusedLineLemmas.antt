-- The law: a refused line of the guest changes nothing.
use Rattle.std.proofs.Common.{◌≡◌, refl, sym, ◌∙◌, ℕ, Bool, true, false, if◌then◌else◌, List, Option, None, Some}
use Rattle.std.proofs.lemmas.Bool.{true≢false}
use Rattle.qo_buses.specs.Addresses.{addressed}
use Rattle.qo_guest.specs.Lines.{guest_line}
use Rattle.qo_guest.specs.declared.addresses.Addr.{Addr}
use Rattle.qo_guest.specs.declared.answers.GuestAnswer.TheVariants.{NoPending, NoRegister, NoStopped}
use Rattle.qo_guest.specs.declared.lines.GuestAct.{GuestAct}
use Rattle.qo_guest.specs.declared.lines.GuestAct.TheVariants.{Ack, Irq, Nack, Peek, Poke, Poll, Read, Reset, Shutdown, Write}
use Rattle.qo_layout.specs.Layout.{register_at}
use Rattle.qo_layout.specs.declared.views.RegisterPlace.{RegisterPlace}
use Rattle.qo_model.specs.Board.{Board, Notice, is_pending}
use Rattle.qo_model.specs.Hotplug.{completed, refused}
use Rattle.qo_realize.specs.Guest.{first_notice}
use Rattle.qo_realize.specs.Registers.{guest_read, guest_written}
use Rattle.qo_commands.specs.Hearing.{Outcome, acked, acted, answered, fine, heard, heard_act, if_pending, has_registers, if_written, nacked, notice_answer, peeked, poked, read_by, value_answer, written_by}
use Rattle.qo_commands.specs.LineRefusals.{RefusedLinesLaw, is_refusal}

-- where it refuses it is its answer alone
abbrev Alone : Board → Outcome → Type 0
Alone b d = is_refusal d.answer ≡ true → d ≡ answered b d.answer

pending-alone : (b c : Board) (d : ℕ) → Alone b (if_pending b d c)
pending-alone b c d = by (is_pending b d)
  where
    by : (t : Bool) → Alone b (if t then fine c else answered b NoPending)
    by true = λ e. absurd (true≢false (sym e))
    by false = λ e. refl

acked-alone : (b : Board) (o : Option ℕ) → Alone b (acked b o)
acked-alone b None = λ e. refl
acked-alone b (Some d) = pending-alone b (completed b d) d

nacked-alone : (b : Board) (o : Option ℕ) → Alone b (nacked b o)
nacked-alone b None = λ e. refl
nacked-alone b (Some d) = pending-alone b (refused b d) d

told-no_refusal : (b : Board) (o : Option Notice) → is_refusal (notice_answer b o) ≡ false
told-no_refusal b None = refl
told-no_refusal b (Some notice) = by notice.plug
  where
    by : (t : Bool) → is_refusal (notice_answer b (Some (record { plug = t; birth = notice.birth }))) ≡ false
    by true = refl
    by false = refl

read-alone : (b : Board) (reg : ℕ) (o : Option ℕ) → Alone b (read_by b reg o)
read-alone b reg None = λ e. refl
read-alone b reg (Some d) = λ e. refl

written-alone : (b : Board) (o : Option Board) → Alone b (if_written b o)
written-alone b None = λ e. refl
written-alone b (Some c) = λ e. absurd (true≢false (sym e))

write-alone : (b : Board) (reg value : ℕ) (o : Option ℕ) → Alone b (written_by b reg value o)
write-alone b reg value None = λ e. refl
write-alone b reg value (Some d) = written-alone b (guest_written b d reg value)

where_registers-alone : (b : Board) (has : Bool) (d : Outcome) → Alone b d → Alone b (if has then d else answered b NoRegister)
where_registers-alone b true d alone = alone
where_registers-alone b false d alone = λ e. refl

peek-alone : (b : Board) (o : Option RegisterPlace) → Alone b (peeked b o)
peek-alone b None = λ e. refl
peek-alone b (Some place) =
    where_registers-alone b (has_registers b place.device) (read_by b place.register (Some place.device)) (read-alone b place.register (Some place.device))

poke-alone : (b : Board) (value : ℕ) (o : Option RegisterPlace) → Alone b (poked b value o)
poke-alone b value None = λ e. refl
poke-alone b value (Some place) =
    where_registers-alone b (has_registers b place.device) (written_by b place.register value (Some place.device))
    (write-alone b place.register value (Some place.device))

acted-alone : (b : Board) (act : GuestAct) → Alone b (acted b act)
acted-alone b (Ack at) = acked-alone b (addressed b at)
acted-alone b (Nack at) = nacked-alone b (addressed b at)
acted-alone b Poll = λ e. absurd (true≢false (sym e ∙ told-no_refusal b (first_notice b)))
acted-alone b (Read at reg) = read-alone b reg (addressed b at)
acted-alone b (Write at reg value) = write-alone b reg value (addressed b at)
acted-alone b (Peek at) = peek-alone b (register_at b at)
acted-alone b (Poke at value) = poke-alone b value (register_at b at)
acted-alone b Irq = λ e. refl
acted-alone b Reset = λ e. absurd (true≢false (sym e))
acted-alone b Shutdown = λ e. absurd (true≢false (sym e))

pub refused_lines_lem : RefusedLinesLaw
unfolding heard
refused_lines_lem b line = by (guest_line line)
  where
    runs : (act : GuestAct) (t : Bool) → Alone b (if t then acted b act else answered b NoStopped)
    runs act true = acted-alone b act
    runs act false = λ e. refl

    by : (o : Option GuestAct) → Alone b (heard_act b o)
    by None = λ e. refl
    by (Some act) = runs act b.running
