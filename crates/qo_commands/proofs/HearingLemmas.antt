-- What a line comes to, by what it is.
use Rattle.std.proofs.Common.{◌≡◌, refl, ap, sym, subst, ◌∙◌, ℕ, true, false, List, Option, None, Some, Result, Ok, Err, IfOk}
use Rattle.std.specs.Result.{result_ok}
use Rattle.qo_guest.specs.Lines.{guest_line}
use Rattle.qo_guest.specs.declared.answers.GuestAnswer.{GuestAnswer}
use Rattle.qo_guest.specs.declared.answers.GuestAnswer.TheVariants.{NoLine, NoStopped}
use Rattle.qo_guest.specs.declared.lines.GuestAct.{GuestAct}
use Rattle.qo_model.specs.Board.{Board, Notice}
use Rattle.qo_realize.specs.Guest.{polled}
use Rattle.qo_realize.specs.Parts.{Parts}
use Rattle.qo_realize.specs.Representation.{Stands}
use Rattle.qo_commands.specs.Hearing.{Came, Outcome, acted, answered, heard, heard_act, outcome_of, notice_answer}
use Rattle.qo_commands.specs.declared.hearing.Heard.{Heard}
use Rattle.qo_commands.specs.declared.touched.Touched.TheVariants.{Nothing}

pub heard-none : (b : Board) (line : List ℕ) → guest_line line ≡ None → heard b line ≡ answered b NoLine
unfolding heard
heard-none b line none = ap (heard_act b) none

pub heard-stopped : (b : Board) (line : List ℕ) (act : GuestAct) → guest_line line ≡ Some act → b.running ≡ false → heard b line ≡ answered b NoStopped
unfolding heard
heard-stopped b line act is stopped = ap (heard_act b) is ∙ rw stopped refl

pub heard-acted : (b : Board) (line : List ℕ) (act : GuestAct) → guest_line line ≡ Some act → b.running ≡ true → heard b line ≡ acted b act
unfolding heard
heard-acted b line act is runs = ap (heard_act b) is ∙ rw runs refl

-- none, where it is not read
pub none-of : {T E : Type 0} (r : Result T E) → ((x : T) → r ≡ Ok x → ⊥) → result_ok r ≡ None
none-of (Ok x) not = absurd (not x refl)
none-of (Err e) not = refl

-- an answer that leaves the board
pub came-answered : (b : Board) (d : Outcome) (answer : GuestAnswer) (h : Heard) (p : Parts) → d ≡ answered b answer
    → h ≡ record { answer = answer; event = None; ends = false; touched = Nothing } → Stands b p → Came d h p
came-answered b d answer h p is told stands = subst (λ (x : Outcome). Came x h p) (sym is) (stands, ap (outcome_of b) told)

pub came-as : (d e : Outcome) (h : Heard) (p : Parts) → d ≡ e → Came e h p → Came d h p
came-as d e h p is came = subst (λ (x : Outcome). Came x h p) (sym is) came

-- the notices are no matter to where a device stands
pub told-polled : (b : Board) (o : Option Notice) → notice_answer (polled b) o ≡ notice_answer b o
told-polled b None = refl
told-polled b (Some notice) = refl

pub if_came : {E : Type 0} (r : Result Heard E) (d e : Outcome) (p : Parts) → d ≡ e → IfOk r (λ h. Came e h p) → IfOk r (λ h. Came d h p)
if_came (Ok h) d e p is came = came-as d e h p is came
if_came (Err x) d e p is came = tt
