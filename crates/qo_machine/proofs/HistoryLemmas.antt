-- Over every run births are given once, the time goes on, and what was noted stays.
use Rattle.std.proofs.Common.{◌≡◌, refl, ap, sym, ◌∙◌, append_assoc, append-nil, ℕ, ◌≤◌, List, ◌++◌, is_some, arith, []}
use Rattle.std.specs.Bool.{⊤}
use Rattle.qo_causes.specs.declared.inputs.Moment.{Moment}
use Rattle.qo_framing.specs.declared.items.Item.{Item}
use Rattle.qo_model.specs.Board.{Board, kind_of}
use Rattle.qo_model.specs.declared.notes.Note.{Note}
use Rattle.qo_model.proofs.FinalNotesLemmas.{edit-kind, kind-live}
use Rattle.qo_sound_clocks.specs.RegisterWrites.{registers_set, with_registers}
use Rattle.qo_steps.specs.Changes.{Changes}
use Rattle.qo_steps.specs.Gains.{Gains}
use Rattle.qo_steps.proofs.GainsLemmas.{gains_lem}
use Rattle.qo_steps.proofs.StepsLawLemmas.{changes-imply}
use Rattle.qo_machine.proofs.PreservationLemmas.{KeepsCommands, item_board, line_board}
use Rattle.qo_machine.proofs.RelationLemmas.{RelatesBeside, related_commands, related_in_runs}
use Rattle.qo_machine.specs.Later.{IsLater, LaterInRuns}
use Rattle.qo_machine.specs.Machine.{Choice, State, item_step, line_step}

pub later-then : (b c d : Board) → IsLater b c → IsLater c d → IsLater b d
later-then b c d h k =
    record {
      born = let one : b.born ≤ c.born = h.born in let two : c.born ≤ d.born = k.born in omega (arith, one, two);
      now = let one : b.now ≤ c.now = h.now in let two : c.now ≤ d.now = k.now in omega (arith, one, two);
      notes = (h.notes.0 ++ k.notes.0, k.notes.1 ∙ ap (λ (xs : List Note). xs ++ k.notes.0) h.notes.1 ∙ append_assoc b.notes h.notes.0 k.notes.0);
      old = λ n young there.
          let same : kind_of d n ≡ kind_of c n = k.old n (let low : b.born ≤ c.born = h.born in omega (arith, young, low)) there in
          same ∙ h.old n young (sym (kind-live c n) ∙ ap is_some (sym same) ∙ kind-live d n ∙ there);
    }

-- what gains by a change is later
gained-later : (b c : Board) → Gains b c → IsLater b c
gained-later b c g = record { born = g.born; now = let same : c.now ≡ b.now = g.now in omega (arith, same); notes = g.notes; old = g.old }

-- a board at a moment that is not before, with the births, notes and objects of another
beside-later : (b c : Board) → c.born ≡ b.born → b.now ≤ c.now → c.notes ≡ b.notes → ((n : ℕ) → kind_of c n ≡ kind_of b n) → IsLater b c
beside-later b c born now notes kinds =
    record {
      born = omega (arith, born);
      now = now;
      notes = ([], notes ∙ sym (append-nil b.notes));
      old = λ n young there. kinds n;
    }

beside : RelatesBeside IsLater
beside =
    record {
      registers = λ b d r. beside-later b (registers_set b d r) refl (omega arith) refl (edit-kind d (with_registers r) (λ x. refl) (λ x. refl) b);
      rings = λ b rings. beside-later b _ refl (omega arith) refl (λ n. refl);
      polled = λ b. beside-later b _ refl (omega arith) refl (λ n. refl);
      told = λ b. beside-later b _ refl (omega arith) refl (λ n. refl);
      timed = λ b now on. beside-later b _ refl on refl (λ n. refl);
      switched = λ b on. beside-later b _ refl (omega arith) refl (λ n. refl);
    }

pub later_same : (b : Board) → IsLater b b
later_same b = beside-later b b refl (omega arith) refl (λ n. refl)

changed-later : Changes (λ types. IsLater)
changed-later = changes-imply (λ b. ⊤) (λ b n. ⊤) (λ types. Gains) (λ types. IsLater) (λ types b c g. gained-later b c g) gains_lem

pub later_commands : (b : Board) → KeepsCommands (IsLater b)
later_commands b = related_commands IsLater later_same later-then changed-later beside b

-- so is the board after an item, a line, and some of them in turn
pub item_later : (choice : Choice) (at : Moment) (n : ℕ) (s : State) (item : Item) → IsLater s.board (item_step choice at n s item).state.board
item_later choice at n s item = item_board (IsLater s.board) (later_commands s.board) choice at n s item (later_same s.board)

pub line_later : (choice : Choice) (at : Moment) (s : State) (line : List ℕ) → IsLater s.board (line_step choice at s line).state.board
line_later choice at s line = line_board (IsLater s.board) (later_commands s.board) choice at s line (later_same s.board)

pub later_in_runs : LaterInRuns
later_in_runs = related_in_runs IsLater later_same later-then changed-later beside
