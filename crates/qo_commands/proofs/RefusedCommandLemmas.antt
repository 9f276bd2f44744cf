-- The law: a command that is refused leaves the board as it was.
use Rattle.std.proofs.Common.{◌≡◌, refl, ap, sym, subst, ◌∙◌, ℕ, ◌+◌, nat_lt, ◌==◌, Bool, true, false, not, if◌then◌else◌, List, [], map, codes, Option, None, Some, is_some, unwrap_or, Result, Ok, Err}
use Rattle.std.specs.List.{list_any}
use Rattle.serde_json.specs.Data.{Data, array, string}
use Rattle.serde_json.specs.View.{items_of}
use Rattle.qo_values.specs.declared.codes.Code.{Code}
use Rattle.qo_values.specs.declared.codes.Code.TheVariants.{E15, E20, E22, E32, E33, E34, E35, E36, E37, E48, E49, E50, E53, E54}
use Rattle.qo_values.specs.declared.forms.Form.{Form}
use Rattle.qo_values.specs.declared.forms.Form.TheVariants.{Utf8}
use Rattle.qo_values.specs.declared.kinds.ResetKind.{ResetKind}
use Rattle.qo_values.specs.declared.kinds.ResetKind.TheVariants.{Cold}
use Rattle.qo_values.specs.declared.births.TheConstants.{OBJECTS_BIRTH}
use Rattle.qo_values.specs.declared.limits.TheConstants.{TIME_MAX}
use Rattle.qo_chardev.specs.Texts.{encoded as text_told}
use Rattle.qo_values.specs.Rings.{ring_oldest}
use Rattle.qo_guest.specs.declared.answers.GuestAnswer.{GuestAnswer}
use Rattle.qo_guest.specs.declared.answers.GuestAnswer.TheVariants.{Fine, NoAddress, NoDevice, NoLine, NoMemory, NoNotice, NoPending, NoRegister, NoStopped, Plug, Unplug, Value}
use Rattle.qo_commands.specs.Hearing.{Outcome, answered as line_answered, heard}
use Rattle.qo_commands.specs.LineRefusals.{is_refusal}
use Rattle.qo_commands.proofs.RefusedLineLemmas.{refused_lines_lem}
use Rattle.qo_model.specs.Access.{listing_at, read, write_at}
use Rattle.qo_model.specs.Board.{Board, Ring, is_live, slots_at}
use Rattle.qo_model.specs.Depth.{among}
use Rattle.qo_model.specs.Hotplug.{asked, asked_of, device_at, is_early}
use Rattle.qo_model.specs.Objects.{Changed, attempted_as, index_from, is_object_named, object_add, object_del, sever}
use Rattle.qo_model.specs.Paths.{Resolution, attached, found, missing, resolve, several}
use Rattle.qo_model.specs.Plug.{Plugged, claims_ring, has_ring, notice_barred, plug}
use Rattle.qo_model.specs.Release.{let_go}
use Rattle.qo_model.specs.Reset.{exceeds_depth}
use Rattle.qo_model.specs.Types.{TypeInfo, is_a, type_named}
use Rattle.qo_plug.specs.Admission.{wanted}
use Rattle.qo_realize.specs.Chardevs.{Reading, by_code, chardev_added, chardev_barred, chardev_removed, removal_barred, ring_read, ring_written, ringbuf_read, ringbuf_written, taken_as, written_as}
use Rattle.qo_realize.specs.Refusals.{AsItWas}
use Rattle.qo_realize.specs.Resets.{at_path, held_at, held_of, released_at, released_of, resettable_at}
use Rattle.qo_realize.specs.Time.{advanced, at_time}
use Rattle.qo_realize.specs.Users.{is_used, object_removed}
use Rattle.qo_realize.proofs.RefusedDeviceLemmas.{refused_devices_lem, nothing-left}
use Rattle.qo_requests.specs.declared.calls.Addition.{Addition}
use Rattle.qo_requests.specs.declared.calls.Addition.TheVariants.{DeviceAdd, ObjectAdd}
use Rattle.qo_requests.specs.declared.calls.Alteration.{Alteration}
use Rattle.qo_requests.specs.declared.calls.Alteration.TheVariants.{ChardevAdd, ChardevRemove, Cont, DeviceDel, ObjectDel, QomSet, RingbufRead, RingbufWrite, Stop, SystemReset, XGuest, XResetHold, XResetRelease, XSever, XStep, XWakeup}
use Rattle.qo_requests.specs.declared.calls.Call.{Call}
use Rattle.qo_requests.specs.declared.calls.Call.TheVariants as call
use Rattle.qo_requests.specs.declared.calls.Change.{Change}
use Rattle.qo_requests.specs.declared.calls.Change.TheVariants.{Add, Alter}
use Rattle.qo_requests.specs.declared.calls.Query.{Query}
use Rattle.qo_requests.specs.declared.calls.Query.TheVariants.{DeviceListProperties, QomGet, QomList, QomListTypes, QueryCommands, QueryStatus, QueryVersion, Quit, XDescribe, XMemmap, XQueryDetached, XQueryNotes}
use Rattle.qo_text.specs.Lines.{line_of}
use Rattle.qo_text.specs.declared.lines.Line.{Line}
use Rattle.qo_text.specs.declared.lines.Line.TheVariants.{Bus, Do, Tree}
use Rattle.qo_chardev.specs.Rings.{bytes_in, given_bytes, ring_named}
use Rattle.qo_commands.specs.Changes.{attempted}
use Rattle.qo_replies.specs.Properties.{property_data}
use Rattle.qo_commands.specs.Commands.{Done, added, adding_properties, altered, answer_told, answered, changed, device_properties, guest_reply, line_answer, made, monitored, performed, plugged, queried, refusal_line, refused_with, returned, ring_told, timed, wrote}
use Rattle.qo_commands.specs.Refusals.{LeftAlone, RefusedCommandsLaw, makes_objects}
use Rattle.qo_commands.proofs.AttemptLemmas.{attempted-by}

-- where it is refused nothing is left of it
abbrev Leaves : Board → Done → Type 0
Leaves b d = (code : Code) → d.result ≡ Err code → d ≡ refused_with b code

returned-leaves : (b c : Board) (value : Data) → Leaves b (returned c value)
returned-leaves b c value code e = absurd (let clash : Ok value ≡ Err code = e in cc)

refused-leaves : (b : Board) (why : Code) → Leaves b (refused_with b why)
refused-leaves b why code e = let same : Err why ≡ Err code = e in cc

-- what only asks leaves the board, whatever comes of it
asked-leaves : {T : Type 0} (b : Board) (f : T → Data) (r : Result T Code) → Leaves b (record (answered b f r) { board = b })
asked-leaves b f (Ok x) = returned-leaves b b (f x)
asked-leaves b f (Err why) = refused-leaves b why

wrote-leaves : (b : Board) (r : Result Board Code) → Leaves b (wrote b r)
wrote-leaves b (Ok c) = returned-leaves b c _
wrote-leaves b (Err why) = refused-leaves b why

-- a change that leaves the board where it is refused
abbrev Stays : Board → Changed → Type 0
Stays b c = (code : Code) → c.refusal ≡ Some code → c.board ≡ b

by-stays : (b c : Board) (o : Option Code) → ((code : Code) → o ≡ Some code → c ≡ b) → Leaves b (changed (record { refusal = o; board = c }))
by-stays b c None stays = returned-leaves b c _
by-stays b c (Some why) stays = λ code e. let same : Err why ≡ Err code = e in let is = stays why refl in cc

changed-leaves : (b : Board) (c : Changed) → Stays b c → Leaves b (changed c)
changed-leaves b c stays = by-stays b c.board c.refusal stays

timed-stays : (b c : Board) (o : Option Code) → ((code : Code) → o ≡ Some code → c ≡ b) → Leaves b (timed (record { refusal = o; board = c }))
timed-stays b c None stays = returned-leaves b c _
timed-stays b c (Some why) stays = λ code e. let same : Err why ≡ Err code = e in let is = stays why refl in cc

here-stays : (b : Board) (o : Option Code) → Stays b (record { refusal = o; board = b })
here-stays b o code e = refl

there-stays : (b c : Board) → Stays b (record { refusal = None; board = c })
there-stays b c code e = absurd (let clash : None ≡ Some code = e in cc)

or-stays : (b : Board) (t : Bool) (c d : Changed) → Stays b c → Stays b d → Stays b (if t then c else d)
or-stays b true c d p q = p
or-stays b false c d p q = q

by_code-stays : (b c : Board) (o : Option Code) → Stays b (by_code b c o)
by_code-stays b c None = there-stays b c
by_code-stays b c (Some why) = here-stays b (Some why)

deleted-stays : (b : Board) (id : List ℕ) → Stays b (object_del b id)
deleted-stays b id = by (index_from (is_object_named id) 0 (slots_at b OBJECTS_BIRTH))
  where
    by : (o : Option ℕ)
        → Stays b (elim o as (λ o. Changed) [
          | None ↦ record { refusal = Some E15; board = b }
          | Some i ↦ record { refusal = None; board = let_go b OBJECTS_BIRTH i }
        ])
    by None = here-stays b (Some E15)
    by (Some i) = there-stays b _

severed-stays : (b : Board) (n : ℕ) → Stays b (sever b n)
severed-stays b n =
    or-stays b (not (is_live b n)) _ _ (here-stays b (Some E33)) (or-stays b (attached b n) _ _ (here-stays b (Some E50)) (there-stays b _))

asked_of-stays : (b : Board) (d : ℕ) → Stays b (asked_of b d)
asked_of-stays b d =
    or-stays b (not (attached b d)) _ _ (here-stays b (Some E35))
    (or-stays b (is_early b d) _ _ (here-stays b (Some E34))
    (or-stays b (is_some (notice_barred b)) _ _ (here-stays b (notice_barred b)) (there-stays b _)))

asked-stays : (b : Board) (id : List ℕ) → Stays b (asked b id)
asked-stays b id = by (device_at b id)
  where
    by : (o : Option ℕ) → Stays b (elim o as (λ o. Changed) [ None ↦ record { refusal = Some E33; board = b } | Some d ↦ asked_of b d ])
    by None = here-stays b (Some E33)
    by (Some d) = asked_of-stays b d

written-stays : (b : Board) (id text : List ℕ) (form : Form) → Stays b (ring_written b id text form)
written-stays b id text form = by (ring_named id b.rings)
  where
    given : (o : Option (List ℕ)) → Stays b (written_as b id o)
    given None = here-stays b _
    given (Some bytes) = there-stays b _

    by : (o : Option Ring)
        → Stays b (elim o as (λ o. Changed) [ None ↦ record { refusal = Some E36; board = b } | Some r ↦ written_as b id (given_bytes form text) ])
    by None = here-stays b (Some E36)
    by (Some r) = given (given_bytes form text)

at_path-stays : (b : Board) (change : ℕ → Changed) (r : Result ℕ Code) → ((n : ℕ) → Stays b (change n)) → Stays b (at_path b change r)
at_path-stays b change (Ok n) stays = stays n
at_path-stays b change (Err why) stays = here-stays b (Some why)

held-stays : (b : Board) (kind : ResetKind) (n : ℕ) → Stays b (held_of b n kind)
held-stays b kind n =
    or-stays b (not (attached b n)) _ _ (here-stays b (Some E15)) (or-stays b (exceeds_depth b n) _ _ (here-stays b (Some E48)) (there-stays b _))

released-stays : (b : Board) (n : ℕ) → Stays b (released_of b n)
released-stays b n = or-stays b (among b.holds n) _ _ (there-stays b _) (here-stays b (Some E49))

advanced-stays : (b : Board) (ns : ℕ) → Stays b (advanced b ns)
advanced-stays b ns =
    or-stays b (not b.running) _ _ (there-stays b b) (or-stays b (nat_lt TIME_MAX (b.now + ns)) _ _ (here-stays b (Some E53)) (there-stays b _))

-- a ring that is read
read-leaves : (b : Board) (id : List ℕ) (most : ℕ) (form : Form) → Leaves b (ring_told (ring_read b id most form))
read-leaves b id most form = by (ring_named id b.rings)
  where
    text : (o : Option (List ℕ)) → Leaves b (ring_told (taken_as b id most o))
    text None = refused-leaves b _
    text (Some bytes) = returned-leaves b _ _

    by : (o : Option Ring)
        → Leaves b (ring_told (elim o as (λ o. Reading) [
          | None ↦ record { text = Err E36; board = b }
          | Some r ↦ taken_as b id most (text_told form (ring_oldest (bytes_in r) most))
        ]))
    by None = refused-leaves b E36
    by (Some r) = text (text_told form (ring_oldest (bytes_in r) most))

-- a line of the guest: it is refused where it is none
line-leaves : (b : Board) (d : Outcome) → (is_refusal d.answer ≡ true → d ≡ line_answered b d.answer) → Leaves b (guest_reply d)
line-leaves b d alone code e = go d.answer refl e
  where
    go : (a : GuestAnswer) → d.answer ≡ a → answer_told a ≡ Err code → guest_reply d ≡ refused_with b code
    go NoLine is p =
        let same : Err E54 ≡ Err code = p in
        ap guest_reply (alone (ap is_refusal is) ∙ ap (line_answered b) is) ∙ (let why : E54 ≡ code = cc in ap (refused_with b) why)
    go Fine is p = absurd (let clash : Ok _ ≡ Err code = p in cc)
    go (Plug at) is p = absurd (let clash : Ok _ ≡ Err code = p in cc)
    go (Unplug at) is p = absurd (let clash : Ok _ ≡ Err code = p in cc)
    go NoNotice is p = absurd (let clash : Ok _ ≡ Err code = p in cc)
    go (Value v) is p = absurd (let clash : Ok _ ≡ Err code = p in cc)
    go NoStopped is p = absurd (let clash : Ok _ ≡ Err code = p in cc)
    go NoAddress is p = absurd (let clash : Ok _ ≡ Err code = p in cc)
    go NoDevice is p = absurd (let clash : Ok _ ≡ Err code = p in cc)
    go NoPending is p = absurd (let clash : Ok _ ≡ Err code = p in cc)
    go NoRegister is p = absurd (let clash : Ok _ ≡ Err code = p in cc)
    go NoMemory is p = absurd (let clash : Ok _ ≡ Err code = p in cc)

altered-leaves : (b : Board) (a : Alteration) → Leaves b (altered b a)
unfolding altered
altered-leaves b (QomSet path property value) = wrote-leaves b (write_at b path property value)
altered-leaves b (ObjectDel id) =
    changed-leaves b (object_removed b id) (or-stays b (is_used b id) _ _ (here-stays b (Some E32)) (deleted-stays b id))
altered-leaves b (XSever birth) = changed-leaves b (sever b birth) (severed-stays b birth)
altered-leaves b (DeviceDel id) = changed-leaves b (asked b id) (asked-stays b id)
altered-leaves b (ChardevAdd id kind size) = changed-leaves b (chardev_added b id kind size) (by_code-stays b _ (chardev_barred b id kind _))
altered-leaves b (ChardevRemove id) = changed-leaves b (chardev_removed b id) (by_code-stays b _ (removal_barred b id))
altered-leaves b (RingbufRead device size form) = read-leaves b device size (unwrap_or form Utf8)
altered-leaves b (RingbufWrite device payload form) =
    changed-leaves b (ringbuf_written b device payload form) (written-stays b device payload (unwrap_or form Utf8))
altered-leaves b (XGuest line) = line-leaves b (heard b line) (refused_lines_lem b line)
altered-leaves b Stop = λ code e. absurd (let clash : Ok _ ≡ Err code = e in cc)
altered-leaves b Cont = λ code e. absurd (let clash : Ok _ ≡ Err code = e in cc)
altered-leaves b (XStep ns) = timed-stays b (advanced b ns).board (advanced b ns).refusal (advanced-stays b ns)
altered-leaves b SystemReset = λ code e. absurd (let clash : Ok _ ≡ Err code = e in cc)
altered-leaves b (XResetHold path kind) =
    changed-leaves b (held_at b path (unwrap_or kind Cold))
    (at_path-stays b (λ n. held_of b n (unwrap_or kind Cold)) (resettable_at b path) (held-stays b (unwrap_or kind Cold)))
altered-leaves b (XResetRelease path) =
    changed-leaves b (released_at b path) (at_path-stays b (released_of b) (resettable_at b path) (released-stays b))
altered-leaves b XWakeup = λ code e. absurd (let clash : Ok _ ≡ Err code = e in cc)

either-leaves : (b : Board) (t : Bool) (value : Data) (why : Code) → Leaves b (record (if t then returned b value else refused_with b why) { board = b })
either-leaves b true value why = returned-leaves b b value
either-leaves b false value why = refused-leaves b why

device-leaves : (b : Board) (o : Option TypeInfo) → Leaves b (record (device_properties b o) { board = b })
device-leaves b None = refused-leaves b E20
device-leaves b (Some row) =
    either-leaves b (is_a row.id (codes "device")) (array (items_of (map property_data (adding_properties row.id)))) E22

queried-leaves : (b : Board) (q : Query) → Leaves b (record (queried b q) { board = b })
unfolding queried
queried-leaves b (QomList path) = asked-leaves b _ (listing_at b path)
queried-leaves b (QomGet path property) = asked-leaves b _ (read b path property)
queried-leaves b (DeviceListProperties typename) = device-leaves b (type_named typename)
queried-leaves b (QomListTypes implements with_abstract) = returned-leaves b b _
queried-leaves b (XQueryNotes from) = returned-leaves b b _
queried-leaves b XQueryDetached = returned-leaves b b _
queried-leaves b XDescribe = returned-leaves b b _
queried-leaves b XMemmap = returned-leaves b b _
queried-leaves b QueryVersion = returned-leaves b b _
queried-leaves b QueryCommands = returned-leaves b b _
queried-leaves b QueryStatus = returned-leaves b b _
queried-leaves b Quit = λ code e. absurd (let clash : Ok _ ≡ Err code = e in cc)

-- one that makes objects

left-by : (b : Board) (c : Call) (code : Code) → performed b c ≡ refused_with b code → LeftAlone b c code
left-by b c code is =
    record {
      board = subst (λ (d : Done). AsItWas b d.board) (sym is) (nothing-left b);
      events = ap (λ (d : Done). d.events) is;
      ends = ap (λ (d : Done). d.ends) is;
    }

-- what an addition that is refused comes to
record IsGivenUp (b : Board) (d : Done) : Type 0 where
  board : AsItWas b d.board
  events : d.events ≡ []
  ends : d.ends ≡ false

object-left : (b : Board) (c : Changed) (code : Code) → ((why : Code) → c.refusal ≡ Some why → AsItWas b c.board) → (changed c).result ≡ Err code
    → IsGivenUp b (changed c)
object-left b c code left = by c.refusal left
  where
    by : (o : Option Code) → ((why : Code) → o ≡ Some why → AsItWas b c.board) → (changed (record { refusal = o; board = c.board })).result ≡ Err code
        → IsGivenUp b (changed (record { refusal = o; board = c.board }))
    by None left e = absurd (let clash : Ok _ ≡ Err code = e in cc)
    by (Some why) left e = record { board = left why refl; events = refl; ends = refl }

device-left : (b : Board) (add : Plugged) (code : Code) → ((why : ℕ × Code) → add.refusal ≡ Some why → AsItWas b add.board)
    → (plugged add).result ≡ Err code → IsGivenUp b (plugged add)
device-left b add code left = by add.refusal left
  where
    by : (o : Option (ℕ × Code)) → ((why : ℕ × Code) → o ≡ Some why → AsItWas b add.board)
        → (plugged (record { refusal = o; board = add.board })).result ≡ Err code → IsGivenUp b (plugged (record { refusal = o; board = add.board }))
    by None left e = absurd (let clash : Ok _ ≡ Err code = e in cc)
    by (Some why) left e = record { board = left why refl; events = refl; ends = refl }

added-left : (b : Board) (a : Addition) (code : Code) → (added b a).result ≡ Err code → IsGivenUp b (added b a)
unfolding added
added-left b (ObjectAdd driver id props) code e =
    object-left b (object_add b driver id props) code (λ why is. refused_devices_lem.object b driver id props why is) e
added-left b (DeviceAdd driver id bus props) code e =
    device-left b (plug b (wanted driver id bus props)) code (λ why is. refused_devices_lem.device b (wanted driver id bus props) why is) e

-- a line of the monitor returns a text, whatever it is
never : (b : Board) (line : Option Line) (code : Code) → (monitored b line).result ≡ Err code → ⊥
never b None code e = let clash : Ok _ ≡ Err code = e in cc
never b (Some Tree) code e = let clash : Ok _ ≡ Err code = e in cc
never b (Some Bus) code e = let clash : Ok _ ≡ Err code = e in cc
never b (Some (Do change)) code e = let clash : Ok _ ≡ Err code = e in cc

refused-left : (b : Board) (c : Call) (code : Code) → (performed b c).result ≡ Err code → LeftAlone b c code
refused-left b (call.Query query) code e = left-by b (call.Query query) code (queried-leaves b query code e)
refused-left b (call.Change (Alter alteration)) code e = left-by b (call.Change (Alter alteration)) code (altered-leaves b alteration code e)
refused-left b (call.Change (Add addition)) code e =
    let up = added-left b addition code e in record { board = up.board; events = up.events; ends = up.ends }
refused-left b (call.Monitor text) code e = absurd (never b (line_of text) code e)

nothing-of : (b : Board) (c : Call) (code : Code) → (performed b c).result ≡ Err code → makes_objects c ≡ false → performed b c ≡ refused_with b code
nothing-of b (call.Query query) code e adds = queried-leaves b query code e
nothing-of b (call.Change (Alter alteration)) code e adds = altered-leaves b alteration code e
nothing-of b (call.Change (Add addition)) code e adds = absurd (let clash : true ≡ false = adds in cc)
nothing-of b (call.Monitor text) code e adds = absurd (never b (line_of text) code e)

-- of a line of the monitor all but what it returns is as of its command
line-left : (b : Board) (text : List ℕ) (change : Change) (code : Code) → line_of text ≡ Some (Do change) → (made b change).result ≡ Err code
    → LeftAlone b (call.Monitor text) code × ((performed b (call.Monitor text)).result ≡ Ok (string (refusal_line code)))
line-left b text change code is e =
    let left = refused-left b (call.Change change) code e in
    let same : performed b (call.Monitor text) ≡ monitored b (Some (Do change)) = ap (monitored b) is in (
      record {
        board = subst (λ (d : Done). AsItWas b d.board) (sym same) left.board;
        events = ap (λ (d : Done). d.events) same ∙ left.events;
        ends = ap (λ (d : Done). d.ends) same ∙ left.ends;
      },
      ap (λ (d : Done). d.result) same ∙ ap (λ (r : Result Data Code). Ok (string (line_answer r))) e,
    )

cut-left : (b : Board) (c : Call) (i : ℕ) (joined : Bool) → AsItWas b (attempted b c i joined)
cut-left b c i joined =
    attempted-by (λ (d : Board). AsItWas b d) b c i joined (nothing-left b) (λ driver id props. one driver id (i == 1))
    (λ driver id bus props. refused_devices_lem.cut b (wanted driver id bus props) i joined)
  where
    one : (driver id : List ℕ) (t : Bool) → AsItWas b (if t then attempted_as b driver id else b)
    one driver id true = refused_devices_lem.attempt b driver id
    one driver id false = nothing-left b

pub refused_commands_lem : RefusedCommandsLaw
refused_commands_lem = record { refused = refused-left; nothing = nothing-of; line = line-left; cut = cut-left }
