-- What listeners hear from board to board.
use Rattle.std.proofs.Common.{◌≡◌, refl, sym, ap, subst, ◌∙◌, ℕ, ◌+◌, ◌-◌, ◌^◌, ◌<◌, List, [], ◌++◌, length, append-nil, append_assoc, length-append, arith}
use Rattle.qo_model.specs.Board.{Board}
use Rattle.qo_model.specs.Notes.{total_of}
use Rattle.qo_model.specs.Opening.{opening_board}
use Rattle.qo_model.specs.declared.notes.Note.{Note}
use Rattle.qo_listen.specs.Ears.{AllHeard, Ear}
use Rattle.qo_telling.specs.Telling.{HeardFronts, IsCounted, IsNew}
use Rattle.qo_telling.proofs.EarsLemmas.{all-none, all-then, fronts-all, fronts-more, fronts-none, fronts-then}
use Rattle.qo_machine.specs.Later.{IsLater}
use Rattle.qo_machine.specs.Listening.{Follows, HeardAll, HeardSo, Hears, HearsFront}
use Rattle.qo_machine.specs.Machine.{opening}

-- the total counts what was noted before, where it counts all
counted-before : (c d : Board) (more : List Note) → d.notes ≡ c.notes ++ more → IsCounted d → IsCounted c
counted-before c d more is counted =
    let long : length d.notes ≡ length c.notes + length more = ap (λ (l : List Note). length l) is ∙ length-append c.notes more in
    let low : length d.notes < 2 ^ 64 - 1 = counted in
    omega (arith, long, low)

-- nothing was noted, and nothing heard
pub hears-none : (b c : Board) → c.notes ≡ b.notes → (x : List Ear) → Hears b c x x
hears-none b c same x = ([], same ∙ sym (append-nil b.notes), λ counted. all-none x)

-- from board to board
pub hears-then : (b c d : Board) (x y z : List Ear) → Hears b c x y → Hears c d y z → Hears b d x z
hears-then b c d x y z h k = (
  h.0 ++ k.0,
  k.1 ∙ ap (λ (l : List Note). l ++ k.0) h.1 ∙ append_assoc b.notes h.0 k.0,
  λ counted. all-then h.0 k.0 x y z (h.2 (counted-before c d k.0 k.1 counted)) (k.2 counted),
)

-- the same of fronts: all, and a front of more; a front, and nothing more
pub front-then : (b c d : Board) (x y z : List Ear) → Hears b c x y → HearsFront c d y z → HearsFront b d x z
front-then b c d x y z h k = (
  h.0 ++ k.0,
  k.1 ∙ ap (λ (l : List Note). l ++ k.0) h.1 ∙ append_assoc b.notes h.0 k.0,
  λ counted. fronts-then h.0 k.0 x y z (h.2 (counted-before c d k.0 k.1 counted)) (k.2 counted),
)

pub front-later : (b c d : Board) (x y : List Ear) → HearsFront b c x y → IsLater c d → HearsFront b d x y
front-later b c d x y h later = (
  h.0 ++ later.notes.0,
  later.notes.1 ∙ ap (λ (l : List Note). l ++ later.notes.0) h.1 ∙ append_assoc b.notes h.0 later.notes.0,
  λ counted. fronts-more h.0 later.notes.0 x y (h.2 (counted-before c d later.notes.0 later.notes.1 counted)),
)

-- what was noted was not told
pub unheard : (b c : Board) → IsLater b c → (x : List Ear) → HearsFront b c x x
unheard b c later x = (later.notes.0, later.notes.1, λ counted. fronts-none later.notes.0 x)

-- all is a front
pub hears-front : (b c : Board) (x y : List Ear) → Hears b c x y → HearsFront b c x y
hears-front b c x y h = (
  h.0,
  h.1,
  λ counted. subst (λ (l : List Note). HeardFronts l x y) (append-nil h.0) (fronts-all h.0 [] x y (h.2 counted)),
)

-- what was noted is new after the total before
pub new-notes : (b c : Board) (from : ℕ) → from ≡ total_of b.notes → (f : Follows b c) → IsCounted c → IsNew c from f.0
new-notes b c from total f counted =
    record { notes = (b.notes, f.1, begins); kept = f.2; counted = counted }
  where
    begins : length b.notes ≡ from
    begins = let low : length b.notes < 2 ^ 64 - 1 = counted-before b c f.0 f.1 counted in omega (arith, low, total)

-- all notes of a run, which begins with none
pub heard-all : (b : Board) (x y : List Ear) → Hears opening.board b x y → HeardAll b x y
unfolding opening_board
heard-all b x y h = λ counted. subst (λ (l : List Note). AllHeard l x y) (sym h.1) (h.2 counted)

pub heard-so : (b : Board) (x y : List Ear) → HearsFront opening.board b x y → HeardSo b x y
unfolding opening_board
heard-so b x y h = λ counted. subst (λ (l : List Note). HeardFronts l x y) (sym h.1) (h.2 counted)

-- before it began
pub heard-none-so : (x : List Ear) → HeardSo opening.board x x
heard-none-so x = heard-so opening.board x x (hears-front opening.board opening.board x x (hears-none opening.board opening.board refl x))
