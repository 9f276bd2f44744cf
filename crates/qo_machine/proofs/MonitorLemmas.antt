-- Lines of the monitor: what they come to, and what is left where memory ran out for them.
use Rattle.std.proofs.Common.{◌≡◌, ℕ, Bool, List, Option, None, Some, Result, Ok, Err, sym, subst, inl, inr}
use Rattle.std.specs.Prelude.{IfOk, OnErr}
use Rattle.qo_model.specs.Board.{Board}
use Rattle.qo_realize.specs.Parts.{Parts}
use Rattle.qo_realize.specs.Representation.{Stands}
use Rattle.qo_requests.specs.declared.calls.Call.TheVariants as call
use Rattle.qo_requests.specs.declared.calls.Change.{Change}
use Rattle.qo_text.specs.Lines.{line_of}
use Rattle.qo_text.specs.declared.lines.Line.{Line}
use Rattle.qo_text.specs.declared.lines.Line.TheVariants.{Do}
use Rattle.qo_commands.specs.Changes.{Left, attempted, line_cut}
use Rattle.qo_commands.specs.Commands.{Done, monitored}
use Rattle.qo_machine.specs.Serving.{Came, CameAs}
use Rattle.qo_machine.specs.declared.machines.Reply.{Reply}

came-line : (b : Board) (text : List ℕ) (line : Option Line) (id : Option (List ℕ)) (r : Reply) (v : Parts) → line ≡ line_of text
    → CameAs (monitored b line) id r v → Came b (call.Monitor text) id r v
came-line b text line id r v is came =
    let so : CameAs (monitored b (line_of text)) id r v = subst (λ (l : Option Line). CameAs (monitored b l) id r v) is came in
    record { stands = so.stands; events = so.events; ends = so.ends; replied = so.replied }

-- a line that was answered
pub came-answered : {E : Type 0} (b : Board) (text : List ℕ) (line : Option Line) (id : Option (List ℕ)) (answer : Result Reply E) (v : Parts) → line ≡ line_of text
    → IfOk answer (λ r. CameAs (monitored b line) id r v) → IfOk answer (λ r. Came b (call.Monitor text) id r v)
came-answered b text line id (Ok r) v is came = came-line b text line id r v is came
came-answered b text line id (Err e) v is came = tt

-- and one for whose command memory ran out
pub left-line : {T E : Type 0} (b : Board) (text : List ℕ) (change : Change) (answer : Result T E) (v : Parts) → Some (Do change) ≡ line_of text
    → OnErr answer (Left b (call.Change change) v) → OnErr answer (Left b (call.Monitor text) v)
left-line b text change (Ok r) v is left = tt
left-line b text change (Err e) v is (inl stands) = inl stands
left-line b text change (Err e) v is (inr (i, joined, stands)) =
    inr (i, joined, subst (λ (l : Option Line). Stands (line_cut b l i joined) v) is stands)

-- and one that was answered with what was said to be what it comes to
pub came-told : {E : Type 0} (b : Board) (text : List ℕ) (line : Option Line) (d : Done) (id : Option (List ℕ)) (answer : Result Reply E) (v : Parts)
    → line ≡ line_of text → d ≡ monitored b line → IfOk answer (λ r. CameAs d id r v) → IfOk answer (λ r. Came b (call.Monitor text) id r v)
came-told b text line d id answer v is same came =
    came-answered b text line id answer v is (subst (λ (x : Done). IfOk answer (λ r. CameAs x id r v)) same came)
