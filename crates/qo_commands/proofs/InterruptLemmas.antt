-- The interrupt lines that stand beside a board, and what the guest reads of them.
use Rattle.std.proofs.Common.{◌≡◌, refl, ap, sym, subst, ◌∙◌, ℕ, Result, Ok, Err, IfOk, OnErr, inl, inr}
use Rattle.qo_guest.specs.declared.answers.GuestAnswer.TheVariants.{Value}
use Rattle.qo_heap.specs.Board.{Shows}
use Rattle.qo_layout.specs.Rows.{AreShaped, LinesAre, Wired}
use Rattle.qo_layout.proofs.LineRecordsLemmas.{irq-same, lines-same, shaped-same}
use Rattle.qo_model.specs.Board.{Board}
use Rattle.qo_clocks.specs.Kept.{Clocked, PeriodsKept}
use Rattle.qo_realize.proofs.PeriodLemmas.{clocked-sound}
use Rattle.qo_realize.specs.Parts.{Parts}
use Rattle.qo_realize.specs.Representation.{Stands, StandsForGood}
use Rattle.qo_realize.specs.SoundBoard.{SoundBoard}
use Rattle.qo_realize.proofs.GoodBoardLemmas.{good-of}
use Rattle.qo_sound_devices.specs.SoundDevices.{SoundDevices}
use Rattle.qo_sound_shapes.specs.SoundShape.{SoundShape}
use Rattle.qo_requests.specs.declared.calls.Call.{Call}
use Rattle.qo_requests.specs.declared.calls.Call.TheVariants as call
use Rattle.qo_requests.specs.declared.calls.Change.{Change}
use Rattle.qo_commands.specs.Changes.{Changes, Left, attempted}
use Rattle.qo_commands.specs.Commands.{made}
use Rattle.qo_commands.specs.Hearing.{Outcome, answered, irq_by, outcome_of}
use Rattle.qo_commands.specs.declared.commands.Done.{Done}
use Rattle.qo_commands.proofs.RefusedCommandLemmas.{refused_commands_lem}
use Rattle.qo_commands.proofs.TouchedLemmas.{as-it-was}
use Rattle.qo_commands.specs.Interrupts.{HasLines}
use Rattle.qo_commands.specs.Touched.{HasShape, IsLeft, Touches}
use Rattle.qo_commands.specs.declared.hearing.Heard.{Heard}
use Rattle.qo_commands.specs.declared.touched.Touched.{Touched}
use Rattle.qo_commands.specs.declared.touched.Touched.TheVariants.{Nothing, Registers, Devices}

-- two boards that stand at the same parts have the same records and the same time
same-records : (b c : Board) (p : Parts) → Stands b p → Stands c p → b.records ≡ c.records
same-records b c p s t = s.shows.records ∙ sym t.shows.records

same-time : (b c : Board) (p : Parts) → Stands b p → Stands c p → b.now ≡ c.now
same-time b c p s t = s.shows.now ∙ sym t.shows.now

-- so they are the lines of each board that stands there
pub lines-of : (p : Parts) (l : Wired) → HasLines p l → (b : Board) → Stands b p → LinesAre b l
unfolding HasLines
lines-of p l h b s = lines-same h.board b l (same-records h.board b p h.stands s) (same-time h.board b p h.stands s) h.lines

-- where a sound board stands there whose lines they are
pub has-lines : (p : Parts) (l : Wired) (b : Board) → Stands b p → SoundBoard b → LinesAre b l → HasLines p l
unfolding HasLines
has-lines p l b stands sound lines = record { board = b; stands = stands; sound = sound; lines = lines }

-- and what is so of each that has them is so of them
pub by-lines : (P : Wired → Type 0) (p : Parts) (l : Wired) → HasLines p l → ((b : Board) → Stands b p → SoundBoard b → LinesAre b l → P l) → P l
unfolding HasLines
by-lines P p l h f = f h.board h.stands h.sound h.lines

-- what is read of the lines of one board is read of those of each that stands there
pub irq-heard : (p : Parts) (l : Wired) → HasLines p l → (r : Heard) → ((b : Board) → SoundDevices b → LinesAre b l → outcome_of b r ≡ irq_by b) → (b : Board)
    → Stands b p → outcome_of b r ≡ irq_by b
unfolding HasLines
irq-heard p l h r is b s =
    ap (λ (o : Outcome). record o { board = b }) (is h.board h.sound.run.devices h.lines)
    ∙ ap (λ (n : ℕ). answered b (Value n)) (irq-same h.board b (same-records h.board b p h.stands s) (same-time h.board b p h.stands s))

-- lines that are made of the heap of a board are its lines
pub lines-made : (p : Parts) (l : Wired) → StandsForGood p → PeriodsKept p.objects → ((b : Board) → Shows b p.objects → SoundShape b → Clocked b p.objects → LinesAre b l)
    → HasLines p l
lines-made p l (b, stands, good) kept made =
    has-lines p l b stands good (made b stands.shows good.shape (clocked-sound b p.objects good.run.clocks kept))

-- What is left of them.

has-shape : (p : Parts) (l : Wired) (b : Board) → Stands b p → SoundBoard b → AreShaped b l → HasShape p l
unfolding HasShape
has-shape p l b stands sound shaped = record { board = b; stands = stands; sound = sound; shaped = shaped }

-- what is so of each board that they are made for is so of them
pub by-shape : (P : Wired → Type 0) (p : Parts) (l : Wired) → HasShape p l → ((b : Board) → Stands b p → SoundBoard b → AreShaped b l → P l) → P l
unfolding HasShape
by-shape P p l h f = f h.board h.stands h.sound h.shaped

left-of : (t : Touched) (b c : Board) (q : Parts) (l : Wired) → SoundBoard b → LinesAre b l → Touches t b c → Stands c q → SoundBoard c → IsLeft t q l
left-of Nothing b c q l sound are touches stands after = has-lines q l c stands after (lines-same b c l touches.0 touches.1 are)
left-of Registers b c q l sound are touches stands after = has-shape q l c stands after (touches sound after l are.shaped)
left-of Devices b c q l sound are touches stands after = tt

-- a board that came of one whose lines they are, where this was touched
pub record CameOf (t : Touched) (b : Board) (q : Parts) : Type 0 where
  pub board : Board
  pub touches : Touches t b board
  pub stands : Stands board q

pub left-after : (t : Touched) (p q : Parts) (l : Wired) → HasLines p l → StandsForGood q → ((b : Board) → SoundBoard b → Stands b p → CameOf t b q)
    → IsLeft t q l
left-after t p q l h good came =
    by-lines (IsLeft t q) p l h
    (λ b stands sound are.
    let c = came b sound stands in
    left-of t b c.board q l sound are c.touches c.stands (good-of q good c.board c.stands))

-- a change was made, or memory ran out for it

pub left-changed : {E : Type 0} (r : Result Done E) (change : Change) (p q : Parts) (l : Wired) → HasLines p l → StandsForGood q
    → ((b : Board) → Stands b p → Changes b change r q) → ((b : Board) → Stands b p → IfOk r (λ d. Touches d.touched b (made b change).board))
    → IfOk r (λ d. IsLeft d.touched q l)
left-changed (Ok d) change p q l h good came touches =
    left-after d.touched p q l h good
    (λ b sound stands. record { board = (made b change).board; touches = touches b stands; stands = (came b stands).0 })
left-changed (Err e) change p q l h good came touches = tt

came-left : (b : Board) (command : Call) (q : Parts) → Left b command q → CameOf Nothing b q
came-left b command q (inl stands) = record { board = b; touches = (refl, refl); stands = stands }
came-left b command q (inr (i, joined, stands)) =
    record {
      board = attempted b command i joined;
      touches = as-it-was b (attempted b command i joined) (refused_commands_lem.cut b command i joined);
      stands = stands;
    }

pub same-changed : {E : Type 0} (r : Result Done E) (change : Change) (p q : Parts) (l : Wired) → HasLines p l → StandsForGood q
    → ((b : Board) → Stands b p → Changes b change r q) → OnErr r (HasLines q l)
same-changed (Ok d) change p q l h good came = tt
same-changed (Err e) change p q l h good came =
    left-after Nothing p q l h good (λ b sound stands. came-left b (call.Change change) q (came b stands))

pub left-lines : (t : Touched) (p : Parts) (l : Wired) → t ≡ Nothing → IsLeft t p l → HasLines p l
left-lines t p l is h = subst (λ (x : Touched). IsLeft x p l) is h

pub left-shape : (t : Touched) (p : Parts) (l : Wired) → t ≡ Registers → IsLeft t p l → HasShape p l
left-shape t p l is h = subst (λ (x : Touched). IsLeft x p l) is h

-- registers are read again
pub lines-read : (p : Parts) (l k : Wired) → HasShape p l → PeriodsKept p.objects → ((b : Board) → Shows b p.objects → Clocked b p.objects → AreShaped b l → LinesAre b k)
    → HasLines p k
lines-read p l k h kept read =
    by-shape (λ w. HasLines p k) p l h (λ b stands sound shaped. has-lines p k b stands sound (read b stands.shows (clocked-sound b p.objects sound.run.clocks kept) shaped))

-- the same lines beside other parts, where each sound board that stood there stands there but for what lines do not hang on
pub left-beside : (t : Touched) (p q : Parts) (l : Wired) (f : Board → Board)
    → ((b : Board) → (b.records ≡ (f b).records) × (b.now ≡ (f b).now)) → ((b : Board) → SoundBoard b → SoundBoard (f b))
    → ((b : Board) → Stands b p → Stands (f b) q) → IsLeft t p l → IsLeft t q l
left-beside Nothing p q l f same sound goes h =
    by-lines (HasLines q) p l h
    (λ b stands good are. has-lines q l (f b) (goes b stands) (sound b good) (lines-same b (f b) l (same b).0 (same b).1 are))
left-beside Registers p q l f same sound goes h =
    by-shape (HasShape q) p l h
    (λ b stands good shaped. has-shape q l (f b) (goes b stands) (sound b good) (shaped-same b (f b) l (same b).0 shaped))
left-beside Devices p q l f same sound goes h = tt
