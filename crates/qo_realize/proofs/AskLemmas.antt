-- What is asked for of a removal, as the board defines it.
use Rattle.std.proofs.Common.{◌≡◌, refl, ap₂, sym, subst, ◌∙◌, ℕ, Bool, true, false, if◌then◌else◌, List, length, Option, Some, None}
use Rattle.std.specs.Prelude.{nat_le}
use Rattle.qo_values.specs.declared.codes.Code.TheVariants.{E34, E44}
use Rattle.qo_values.specs.declared.limits.TheConstants.{NOTICES_MAX}
use Rattle.qo_hotplug.specs.Hotplug as hotplug
use Rattle.qo_hotplug.specs.Hotplug.{Asked, ask_refusal}
use Rattle.qo_hotplug.specs.declared.errors.AskError.{AskError}
use Rattle.qo_hotplug.specs.declared.errors.AskError.TheVariants.{Pending, NoticesFull}
use Rattle.qo_model.specs.Board.{Board, Notice, Removal}
use Rattle.qo_model.specs.Hotplug.{asked_of, is_early}
use Rattle.qo_model.specs.Hotplug as model
use Rattle.qo_model.specs.Objects.{Changed}
use Rattle.qo_model.specs.Plug.{notice_barred}
use Rattle.qo_model.specs.Paths.{attached}
use Rattle.qo_realize.specs.Removals.{IsAsked, with_asked}

abbrev asked_with : List Removal → List Notice → Asked
asked_with pending notices = record { pending = pending; notices = notices }

abbrev of_board : Board → Asked
of_board b = asked_with b.pending b.notices

is-of_board : (b : Board) (h : Asked) → IsAsked b h → of_board b ≡ h
is-of_board b h a = ap₂ asked_with a.pending a.notices

-- what comes of it, by why it is refused
abbrev comes : Board → ℕ → Option AskError → Changed
comes b d None = record { refusal = None; board = model.with_asked b d }
comes b d (Some Pending) = record { refusal = Some E34; board = b }
comes b d (Some NoticesFull) = record { refusal = Some E44; board = b }

-- why it is refused, by whether it is too early, and whether the notices are full
abbrev refusal_by : Bool → Bool → Option AskError
refusal_by true full = Some Pending
refusal_by false true = Some NoticesFull
refusal_by false false = None

refused-by : (early full : Bool) → (if early then Some Pending else (if full then Some NoticesFull else None)) ≡ refusal_by early full
refused-by true full = refl
refused-by false true = refl
refused-by false false = refl

asked-by : (b : Board) (d : ℕ) → attached b d ≡ true → (early : Bool) → is_early b d ≡ early → (full : Bool)
    → nat_le NOTICES_MAX (length b.notices) ≡ full → asked_of b d ≡ comes b d (refusal_by early full)
asked-by b d home true e full f = rw (asked_of, home, e) refl
asked-by b d home false e true f = rw (asked_of, notice_barred, home, e, f) refl
asked-by b d home false e false f = rw (asked_of, notice_barred, home, e, f) refl

asked-comes : (b : Board) (d : ℕ) → attached b d ≡ true → asked_of b d ≡ comes b d (ask_refusal d b.now (of_board b))
asked-comes b d home =
    let early : Bool = is_early b d in
    let full : Bool = nat_le NOTICES_MAX (length b.notices) in
    subst (λ (o : Option AskError). asked_of b d ≡ comes b d o) (sym (refused-by early full)) (asked-by b d home early refl full refl)

comes-by : (b : Board) (h : Asked) (d now : ℕ) → IsAsked b h → b.now ≡ now → attached b d ≡ true → (why : Option AskError) → ask_refusal d now h ≡ why
    → asked_of b d ≡ comes b d why
comes-by b h d now a at home why is =
    asked-comes b d home
    ∙ subst (λ (o : Option AskError). comes b d (ask_refusal d b.now (of_board b)) ≡ comes b d o) is
    (ap₂ (λ (n : ℕ) (x : Asked). comes b d (ask_refusal d n x)) at (is-of_board b h a))

-- it is asked for
pub asks_ok : (b : Board) (h k : Asked) (d now : ℕ) → IsAsked b h → b.now ≡ now → attached b d ≡ true → ask_refusal d now h ≡ None → k ≡ hotplug.asked d now h
    → asked_of b d ≡ record { refusal = None; board = with_asked b k }
asks_ok b h k d now a at home free is =
    comes-by b h d now a at home None free
    ∙ subst (λ (x : Asked). comes b d None ≡ record { refusal = None; board = with_asked b x })
    (ap₂ (λ (n : ℕ) (x : Asked). hotplug.asked d n x) at (is-of_board b h a) ∙ sym is) refl

-- it was asked for a short while ago
pub asks_early : (b : Board) (h : Asked) (d now : ℕ) → IsAsked b h → b.now ≡ now → attached b d ≡ true → ask_refusal d now h ≡ Some Pending
    → asked_of b d ≡ record { refusal = Some E34; board = b }
asks_early b h d now a at home is = comes-by b h d now a at home (Some Pending) is

-- the notices are full
pub asks_full : (b : Board) (h : Asked) (d now : ℕ) → IsAsked b h → b.now ≡ now → attached b d ≡ true → ask_refusal d now h ≡ Some NoticesFull
    → asked_of b d ≡ record { refusal = Some E44; board = b }
asks_full b h d now a at home is = comes-by b h d now a at home (Some NoticesFull) is
