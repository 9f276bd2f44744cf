-- What lines of the guest and commands touch.
use Rattle.std.proofs.Common.{◌≡◌, refl, ap, sym, subst, ◌∙◌, ℕ, Bool, true, false, not, if◌then◌else◌, List, [], ◌∷◌, Option, None, Some, is_some, Result, Ok, Err, IfOk}
use Rattle.std.specs.Prelude.{unwrap_or}
use Rattle.qo_values.specs.declared.codes.Code.{Code}
use Rattle.qo_values.specs.declared.codes.Code.TheVariants.{E33, E36}
use Rattle.qo_values.specs.declared.forms.Form.{Form}
use Rattle.qo_values.specs.declared.forms.Form.TheVariants.{Utf8}
use Rattle.qo_values.specs.declared.kinds.ResetKind.{ResetKind}
use Rattle.qo_values.specs.declared.kinds.ResetKind.TheVariants.{Cold}
use Rattle.qo_values.specs.Rings.{ring_oldest}
use Rattle.qo_values.specs.declared.properties.Val.{Val}
use Rattle.qo_chardev.specs.Rings.{bytes_in, given_bytes, new_ring, ring_named, without_ring}
use Rattle.qo_chardev.specs.Texts.{encoded as text_told}
use Rattle.qo_chardev.specs.declared.rings.TheConstants.{RING_SIZE_DEFAULT}
use Rattle.qo_guest.specs.declared.answers.GuestAnswer.{GuestAnswer}
use Rattle.qo_guest.specs.declared.answers.GuestAnswer.TheVariants.{Fine}
use Rattle.qo_layout.specs.declared.views.RegisterPlace.{RegisterPlace}
use Rattle.qo_model.specs.Access.{write_at}
use Rattle.qo_model.specs.Board.{Board, Removal, Ring, is_pending}
use Rattle.qo_model.specs.FinalNotesRuns.{added as object_added, deleted, severed}
use Rattle.qo_model.specs.Hotplug.{asked, asked_of, device_at, is_early, refused, woken}
use Rattle.qo_model.specs.Objects.{Changed, Given, object_add, sever}
use Rattle.qo_model.specs.Paths.{attached}
use Rattle.qo_model.specs.Plug.{notice_barred}
use Rattle.qo_realize.specs.Chardevs.{Reading, by_code, chardev_added, chardev_barred, chardev_removed, removal_barred, ring_read, ring_written, ringbuf_read, ringbuf_written, taken_as, with_rings, written_as}
use Rattle.qo_realize.specs.Parts.{Parts}
use Rattle.qo_realize.specs.Refusals.{AsItWas}
use Rattle.qo_realize.specs.Resets.{held_at, released_at}
use Rattle.qo_realize.specs.Time.{advanced}
use Rattle.qo_realize.specs.Users.{is_used, object_removed}
use Rattle.qo_requests.specs.declared.calls.Addition.TheVariants.{ObjectAdd}
use Rattle.qo_requests.specs.declared.calls.Alteration.{Alteration}
use Rattle.qo_requests.specs.declared.calls.Alteration.TheVariants.{ChardevAdd, ChardevRemove, Cont, DeviceDel, ObjectDel, QomSet, RingbufRead, RingbufWrite, Stop, SystemReset, XGuest, XResetHold, XResetRelease, XSever, XStep, XWakeup}
use Rattle.qo_requests.specs.declared.calls.Call.TheVariants as call
use Rattle.qo_requests.specs.declared.calls.Change.{Change}
use Rattle.qo_requests.specs.declared.calls.Change.TheVariants.{Add, Alter}
use Rattle.qo_commands.specs.Changes.{Alters, Came, Changes}
use Rattle.qo_commands.specs.Commands.{Done, added, altered, changed, made, ring_told, timed, wrote}
use Rattle.qo_commands.specs.Hearing.{Outcome, answered, has_registers, heard, nacked, peeked, read_by}
use Rattle.qo_commands.specs.Touched.{KeepsLines, Touches, touched_by_reset, unless_refused}
use Rattle.qo_commands.specs.Views.{data_of}
use Rattle.qo_commands.specs.declared.commands.Done as outcome
use Rattle.qo_commands.specs.declared.commands.ReplyBody.{ReplyBody}
use Rattle.qo_commands.specs.declared.hearing.Heard.{Heard}
use Rattle.qo_commands.specs.declared.touched.Touched.{Touched}
use Rattle.qo_commands.specs.declared.touched.Touched.TheVariants.{Nothing, Registers}
use Rattle.qo_commands.proofs.ChangedLinesLemmas.{changed-lines, write-lines}
use Rattle.qo_commands.proofs.DeviceFrameLemmas.{framed-lines}
use Rattle.qo_commands.proofs.FrameLemmas.{advanced-frame, held-frame, released-frame, reset-touches, woken-frame}
use Rattle.qo_commands.proofs.RefusedCommandLemmas.{refused_commands_lem}

-- Lines of the guest.

-- what came to one definition touched the same under another name
pub touches-as : (b : Board) (t : Touched) (d e : Outcome) → d ≡ e → Touches t b e.board → Touches t b d.board
touches-as b t d e is touches = subst (λ (x : Outcome). Touches t b x.board) (sym is) touches

pub touches-none : (b : Board) (t : Touched) (d e : Outcome) → t ≡ Nothing → d ≡ e → Touches Nothing b e.board → Touches t b d.board
touches-none b t d e none is touches = subst (λ (x : Touched). Touches x b d.board) (sym none) (touches-as b Nothing d e is touches)

pub if_touches : {E : Type 0} (r : Result Heard E) (b : Board) (d e : Outcome) → d ≡ e → IfOk r (λ h. Touches h.touched b e.board)
    → IfOk r (λ h. Touches h.touched b d.board)
if_touches (Ok h) b d e is touches = touches-as b h.touched d e is touches
if_touches (Err x) b d e is touches = tt

pub if_none : {E : Type 0} (r : Result Heard E) (b : Board) (d e : Outcome) → d ≡ e → IfOk r (λ h. h.touched ≡ Nothing) → Touches Nothing b e.board
    → IfOk r (λ h. Touches h.touched b d.board)
if_none (Ok h) b d e is none touches = touches-none b h.touched d e none is touches
if_none (Err x) b d e is none touches = tt

-- an answer leaves the board
pub touches-answered : (b : Board) (d : Outcome) (answer : GuestAnswer) (h : Heard) → d ≡ answered b answer
    → h ≡ record { answer = answer; event = None; ends = false; touched = Nothing } → Touches h.touched b d.board
touches-answered b d answer h is told = touches-none b h.touched d (answered b answer) (ap (λ (x : Heard). x.touched) told) is (refl, refl)

-- it is done
pub touches-fine : (b c : Board) (t : Touched) (h : Heard) → h ≡ record { answer = Fine; event = None; ends = false; touched = t } → Touches t b c
    → Touches h.touched b c
touches-fine b c t h told touches = subst (λ (x : Touched). Touches x b c) (sym (ap (λ (y : Heard). y.touched) told)) touches

-- either of two outcomes
either-touches : (b : Board) (t : Touched) (has : Bool) (d e : Outcome) → Touches t b d.board → Touches t b e.board
    → Touches t b (if has then d else e).board
either-touches b t true d e p q = p
either-touches b t false d e p q = q

pub nacked-touches : (b : Board) (o : Option ℕ) → Touches Nothing b (nacked b o).board
nacked-touches b None = (refl, refl)
nacked-touches b (Some d) = either-touches b Nothing (is_pending b d) _ _ (refl, refl) (refl, refl)

pub read-touches : (b : Board) (reg : ℕ) (o : Option ℕ) → Touches Nothing b (read_by b reg o).board
read-touches b reg None = (refl, refl)
read-touches b reg (Some d) = (refl, refl)

pub peeked-touches : (b : Board) (o : Option RegisterPlace) → Touches Nothing b (peeked b o).board
peeked-touches b None = (refl, refl)
peeked-touches b (Some place) =
    either-touches b Nothing (has_registers b place.device) _ _ (read-touches b place.register (Some place.device)) (refl, refl)

-- Commands.

-- either of two changes
or-touches : (b : Board) (t : Touched) (has : Bool) (c d : Changed) → Touches t b c.board → Touches t b d.board → Touches t b (if has then c else d).board
or-touches b t true c d p q = p
or-touches b t false c d p q = q

asked-touches : (b : Board) (id : List ℕ) → Touches Nothing b (asked b id).board
asked-touches b id = go (device_at b id)
  where
    go : (o : Option ℕ) → Touches Nothing b (elim o as (λ o. Changed) [ None ↦ record { refusal = Some E33; board = b } | Some d ↦ asked_of b d ]).board
    go None = (refl, refl)
    go (Some d) =
        or-touches b Nothing (not (attached b d)) _ _ (refl, refl)
        (or-touches b Nothing (is_early b d) _ _ (refl, refl)
        (or-touches b Nothing (is_some (notice_barred b)) _ _ (refl, refl) (refl, refl)))

-- rings alone are others
coded-touches : (b : Board) (rings : List Ring) (o : Option Code) → Touches Nothing b (by_code b (with_rings rings b) o).board
coded-touches b rings None = (refl, refl)
coded-touches b rings (Some code) = (refl, refl)

read-ring-touches : (b : Board) (id : List ℕ) (most : ℕ) (form : Form) → Touches Nothing b (ring_read b id most form).board
read-ring-touches b id most form = go (ring_named id b.rings)
  where
    text : (o : Option (List ℕ)) → Touches Nothing b (taken_as b id most o).board
    text None = (refl, refl)
    text (Some bytes) = (refl, refl)

    go : (o : Option Ring)
        → Touches Nothing b (elim o as (λ o. Reading) [
          | None ↦ record { text = Err E36; board = b }
          | Some r ↦ taken_as b id most (text_told form (ring_oldest (bytes_in r) most))
        ]).board
    go None = (refl, refl)
    go (Some r) = text (text_told form (ring_oldest (bytes_in r) most))

write-ring-touches : (b : Board) (id text : List ℕ) (form : Form) → Touches Nothing b (ring_written b id text form).board
write-ring-touches b id text form = go (ring_named id b.rings)
  where
    given : (o : Option (List ℕ)) → Touches Nothing b (written_as b id o).board
    given None = (refl, refl)
    given (Some bytes) = (refl, refl)

    go : (o : Option Ring)
        → Touches Nothing b (elim o as (λ o. Changed) [
          | None ↦ record { refusal = Some E36; board = b }
          | Some r ↦ written_as b id (given_bytes form text)
        ]).board
    go None = (refl, refl)
    go (Some r) = given (given_bytes form text)

-- the board of a change, as a command comes to it

changed-board : (c : Changed) → (changed c).board ≡ c.board
changed-board c = go c.refusal
  where
    go : (o : Option Code) → (changed (record { refusal = o; board = c.board })).board ≡ c.board
    go None = refl
    go (Some code) = refl

timed-board : (c : Changed) → (timed c).board ≡ c.board
timed-board c = go c.refusal
  where
    go : (o : Option Code) → (timed (record { refusal = o; board = c.board })).board ≡ c.board
    go None = refl
    go (Some code) = refl

told-board : (reading : Reading) → (ring_told reading).board ≡ reading.board
told-board reading = go reading.text
  where
    go : (r : Result (List ℕ) Code) → (ring_told (record { text = r; board = reading.board })).board ≡ reading.board
    go (Ok text) = refl
    go (Err code) = refl

touches-board : (t : Touched) (b c d : Board) → c ≡ d → Touches t b d → Touches t b c
touches-board t b c d same touches = subst (Touches t b) (sym same) touches

changed-touches : (t : Touched) (b : Board) (c : Changed) → Touches t b c.board → Touches t b (changed c).board
changed-touches t b c touches = touches-board t b (changed c).board c.board (changed-board c) touches

same-lines : (b : Board) → KeepsLines b b
same-lines b sound after l are = are

pub added-touches : (b : Board) (driver id : List ℕ) (props : List Given) → Touches Registers b (made b (Add (ObjectAdd driver id props))).board
unfolding added
added-touches b driver id props = changed-touches Registers b (object_add b driver id props) (changed-lines b (object_added driver id props))

pub set-touches : (b : Board) (path property : List ℕ) (value : Val) → Touches Registers b (altered b (QomSet path property value)).board
unfolding altered
set-touches b path property value = go (write_at b path property value) refl
  where
    go : (r : Result Board Code) → write_at b path property value ≡ r → Touches Registers b (wrote b r).board
    go (Ok c) is = write-lines b c path property value is
    go (Err code) is = same-lines b

pub removed-touches : (b : Board) (id : List ℕ) → Touches Registers b (altered b (ObjectDel id)).board
unfolding altered
removed-touches b id =
    changed-touches Registers b (object_removed b id) (or-touches b Registers (is_used b id) _ _ (same-lines b) (changed-lines b (deleted id)))

pub severed-touches : (b : Board) (n : ℕ) → Touches Registers b (altered b (XSever n)).board
unfolding altered
severed-touches b n = changed-touches Registers b (sever b n) (changed-lines b (severed n))

pub unplugged-touches : (b : Board) (id : List ℕ) → Touches Nothing b (altered b (DeviceDel id)).board
unfolding altered
unplugged-touches b id = changed-touches Nothing b (asked b id) (asked-touches b id)

pub ring-added-touches : (b : Board) (id kind : List ℕ) (size : Option ℕ) → Touches Nothing b (altered b (ChardevAdd id kind size)).board
unfolding altered
ring-added-touches b id kind size =
    changed-touches Nothing b (chardev_added b id kind size) (coded-touches b _ (chardev_barred b id kind (unwrap_or size RING_SIZE_DEFAULT)))

pub ring-removed-touches : (b : Board) (id : List ℕ) → Touches Nothing b (altered b (ChardevRemove id)).board
unfolding altered
ring-removed-touches b id = changed-touches Nothing b (chardev_removed b id) (coded-touches b _ (removal_barred b id))

pub ring-read-touches : (b : Board) (id : List ℕ) (most : ℕ) (form : Option Form) → Touches Nothing b (altered b (RingbufRead id most form)).board
unfolding altered
ring-read-touches b id most form =
    touches-board Nothing b (ring_told (ringbuf_read b id most form)).board (ringbuf_read b id most form).board (told-board (ringbuf_read b id most form))
    (read-ring-touches b id most (unwrap_or form Utf8))

pub ring-written-touches : (b : Board) (id text : List ℕ) (form : Option Form) → Touches Nothing b (altered b (RingbufWrite id text form)).board
unfolding altered
ring-written-touches b id text form = changed-touches Nothing b (ringbuf_written b id text form) (write-ring-touches b id text (unwrap_or form Utf8))

pub stopped-touches : (b : Board) → Touches Nothing b (altered b Stop).board
unfolding altered
stopped-touches b = (refl, refl)

pub continued-touches : (b : Board) → Touches Nothing b (altered b Cont).board
unfolding altered
continued-touches b = (refl, refl)

pub stepped-touches : (b : Board) (ns : ℕ) → Touches Registers b (altered b (XStep ns)).board
unfolding altered
stepped-touches b ns =
    touches-board Registers b (timed (advanced b ns)).board (advanced b ns).board (timed-board (advanced b ns))
    (framed-lines b (advanced b ns).board (advanced-frame b ns))

pub held-touches : (b : Board) (path : List ℕ) (kind : Option ResetKind) → Touches Registers b (altered b (XResetHold path kind)).board
unfolding altered
held-touches b path kind =
    let done : Changed = held_at b path (unwrap_or kind Cold) in
    changed-touches Registers b done (framed-lines b done.board (held-frame b path (unwrap_or kind Cold)))

pub released-touches : (b : Board) (path : List ℕ) → Touches Registers b (altered b (XResetRelease path)).board
unfolding altered
released-touches b path =
    changed-touches Registers b (released_at b path) (framed-lines b (released_at b path).board (released-frame b path))

pub woken-touches : (b : Board) → Touches Registers b (altered b XWakeup).board
unfolding altered
woken-touches b = changed-touches Registers b (record { refusal = None; board = woken b }) (framed-lines b (woken b) (woken-frame b))

pub reset-touched : (b : Board) (pending : List Removal) → b.pending ≡ pending → Touches (touched_by_reset pending) b (altered b SystemReset).board
unfolding altered
reset-touched b pending same = reset-touches b pending same

-- what refused a command touched nothing

pub as-it-was : (b c : Board) → AsItWas b c → Touches Nothing b c
as-it-was b c was = (sym (ap (λ (x : Board). x.records) was.same), sym (ap (λ (x : Board). x.now) was.same))

refused-touches : (b : Board) (change : Change) (code : Code) → (made b change).result ≡ Err code → Touches Nothing b (made b change).board
refused-touches b change code e = as-it-was b (made b change).board (refused_commands_lem.refused b (call.Change change) code e).board

-- a change touched this unless it was refused
pub done-touches : (b : Board) (change : Change) (d : outcome.Done) (p : Parts) (t : Touched) → Came (made b change) d p
    → d.touched ≡ unless_refused t d.result → Touches t b (made b change).board → Touches d.touched b (made b change).board
done-touches b change d p t came said touches = go d.result refl
  where
    go : (r : Result ReplyBody Code) → d.result ≡ r → Touches d.touched b (made b change).board
    go (Ok body) e = subst (λ (x : Touched). Touches x b (made b change).board) (sym (said ∙ ap (unless_refused t) e)) touches
    go (Err code) e =
        subst (λ (x : Touched). Touches x b (made b change).board) (sym (said ∙ ap (unless_refused t) e))
        (refused-touches b change code (sym (ap (λ (x : Done). x.result) came.1) ∙ ap (data_of (made b change).board) e))

-- and the same of one that may want memory
pub if_made-touches : {E : Type 0} (b : Board) (change : Change) (r : Result outcome.Done E) (p : Parts) (t : Touched) → Changes b change r p
    → IfOk r (λ d. d.touched ≡ unless_refused t d.result) → Touches t b (made b change).board → IfOk r (λ d. Touches d.touched b (made b change).board)
if_made-touches b change (Ok d) p t came said touches = done-touches b change d p t came said touches
if_made-touches b change (Err e) p t came said touches = tt

pub if_altered-touches : {E : Type 0} (b : Board) (a : Alteration) (r : Result outcome.Done E) (p : Parts) (t : Touched) → Alters b (altered b a) r p
    → IfOk r (λ d. d.touched ≡ unless_refused t d.result) → Touches t b (altered b a).board → IfOk r (λ d. Touches d.touched b (altered b a).board)
if_altered-touches b a (Ok d) p t came said touches = done-touches b (Alter a) d p t came said touches
if_altered-touches b a (Err e) p t came said touches = tt

-- what is refused says that it touched nothing
pub refused-said : (t : Touched) (d : outcome.Done) (code : Code) → d.result ≡ Err code → d.touched ≡ Nothing → d.touched ≡ unless_refused t d.result
refused-said t d code refused none = none ∙ sym (ap (unless_refused t) refused)

-- one that says what it touched, refused or not
pub said-touches : (b : Board) (a : Alteration) (t said : Touched) → said ≡ t → Touches t b (altered b a).board → Touches said b (altered b a).board
said-touches b a t said same touches = subst (λ (x : Touched). Touches x b (altered b a).board) (sym same) touches

-- a line of the guest by command
pub guest-touches : (b : Board) (line : List ℕ) (h : Heard) (d : outcome.Done) → d.touched ≡ h.touched → Touches h.touched b (heard b line).board
    → Touches d.touched b (altered b (XGuest line)).board
unfolding altered
guest-touches b line h d same touches = subst (λ (t : Touched). Touches t b (heard b line).board) (sym same) touches
