-- What the board's calls leave is what the commands define.
use Rattle.std.proofs.Common.{◌≡◌, refl, ap, sym, subst, ◌∙◌, ℕ, Bool, if◌then◌else◌, List, [], ◌∷◌, false, Some, None, Option, Result, Ok, Err, OnErr, inl, inr}
use Rattle.serde_json.specs.Data.{Data, string}
use Rattle.qo_values.specs.declared.codes.Code.{Code}
use Rattle.qo_model.specs.Board.{Board}
use Rattle.qo_model.specs.Objects.{Changed, Given, object_add}
use Rattle.qo_commands.specs.Hearing.{Outcome, outcome_of}
use Rattle.qo_commands.specs.Hearing as hearing
use Rattle.qo_commands.specs.declared.hearing.Heard.{Heard}
use Rattle.qo_model.specs.Hotplug.{reset_whole}
use Rattle.qo_model.specs.Plug.{Wanted, plug}
use Rattle.qo_plug.specs.Admission.{wanted}
use Rattle.qo_plug.specs.declared.adding.Added as device
use Rattle.qo_plug.specs.declared.refusals.AddRefusal.{AddRefusal}
use Rattle.qo_plug.specs.declared.refusals.AddRefusal.TheVariants.{Refused as Barred}
use Rattle.qo_properties.specs.declared.refusals.Refusal.{Refusal}
use Rattle.qo_properties.specs.declared.refusals.Refusal.TheVariants.{Refused, Memory}
use Rattle.qo_realize.specs.Answers.{Adds, IsAnswered, Plugs, Writes}
use Rattle.qo_realize.specs.Answers as board
use Rattle.qo_realize.specs.Chardevs.{Reading, ReadsRing}
use Rattle.qo_realize.specs.Parts.{Parts}
use Rattle.qo_realize.specs.Representation.{Stands}
use Rattle.qo_realize.specs.Time.{Advances, switches, with_running}
use Rattle.qo_replies.specs.declared.events.Event.{Event}
use Rattle.qo_requests.specs.declared.calls.Addition.TheVariants.{DeviceAdd, ObjectAdd}
use Rattle.qo_requests.specs.declared.calls.Change.TheVariants.{Add}
use Rattle.qo_commands.specs.Changes.{Alters, Came, Changes, ComesTo, by_answer}
use Rattle.qo_commands.specs.Views.{done_of}
use Rattle.qo_commands.specs.declared.commands.Done as outcome
use Rattle.qo_commands.specs.Commands.{Done, added, answered, changed, empty, guest_reply, plugged, refused_with, reset_by, returned, ring_told, switched, time_data, timed, wrote}

-- what came to one definition came to the same under another name
pub came-as : (is was : Done) (d : outcome.Done) (p : Parts) → is ≡ was → Came was d p → Came is d p
came-as is was d p same came = subst (λ (x : Done). Came x d p) (sym same) came

-- something was returned, or a code refused it, and this board stands
came-value : (c : Board) (value : Data) (d : outcome.Done) (p : Parts) → Stands c p → ((x : Board) → done_of x d ≡ returned x value)
    → Came (returned c value) d p
came-value c value d p now so = (now, so c)

came-err : (c : Board) (code : Code) (d : outcome.Done) (p : Parts) → Stands c p → ((x : Board) → done_of x d ≡ refused_with x code)
    → Came (refused_with c code) d p
came-err c code d p now so = (now, so c)

-- a change was made
pub changed-ok : (change : Changed) (d : outcome.Done) (p : Parts) → change.refusal ≡ None → Stands change.board p
    → ((x : Board) → done_of x d ≡ returned x empty) → Came (changed change) d p
changed-ok change d p none now so =
    came-as (changed change) (returned change.board empty) d p (rw (changed, none) refl) (came-value change.board empty d p now so)

changed-err : (change : Changed) (code : Code) (d : outcome.Done) (p : Parts) → change.refusal ≡ Some code → Stands change.board p
    → ((x : Board) → done_of x d ≡ refused_with x code) → Came (changed change) d p
changed-err change code d p some now so =
    came-as (changed change) (refused_with change.board code) d p (rw (changed, some) refl) (came-err change.board code d p now so)

-- a change that takes no memory was made, or refused
pub answered-came : (change : Changed) (answer : Result Unit Code) (d : outcome.Done) (p : Parts) → IsAnswered change answer p
    → ((x : Board) → done_of x d ≡ by_answer x answer) → Came (changed change) d p
answered-came change (Ok u) d p h so = changed-ok change d p h.refusal h.board so
answered-came change (Err code) d p h so = changed-err change code d p h.refusal h.board so

-- so was one that may want memory
pub made-alters : {E : Type 0} (b : Board) (p : Parts) (change : Changed) (answer : Result Unit Refusal) (result : Result outcome.Done E)
    → board.Changes change b answer p → ComesTo answer result → Alters b (changed change) result p
made-alters b p change (Ok u) (Ok d) (none, now) so = changed-ok change d p none now so
made-alters b p change (Ok u) (Err e) h so = absurd so
made-alters b p change (Err (Refused code)) (Ok d) (same, now) so =
    changed-err change code d p (ap (λ (c : Changed). c.refusal) same) (subst (λ (c : Changed). Stands c.board p) (sym same) now) so
made-alters b p change (Err (Refused code)) (Err e) h so = absurd so
made-alters b p change (Err Memory) (Ok d) h so = absurd so
made-alters b p change (Err Memory) (Err e) now so = now

-- a property was written, or not
pub set-alters : {E : Type 0} (b : Board) (p q : Parts) (written : Result Board Code) (answer : Result Unit Refusal) (result : Result outcome.Done E)
    → Stands b p → Writes q answer written → OnErr answer (q ≡ p) → ComesTo answer result → Alters b (wrote b written) result q
set-alters b p q written (Ok u) (Ok d) s (c, is, now) same so =
    came-as (wrote b written) (returned c empty) d q (ap (wrote b) is) (came-value c empty d q now so)
set-alters b p q written (Ok u) (Err e) s is same so = absurd so
set-alters b p q written (Err (Refused code)) (Ok d) s is same so =
    came-as (wrote b written) (refused_with b code) d q (ap (wrote b) is)
    (came-err b code d q (subst (λ (x : Parts). Stands b x) (sym same) s) so)
set-alters b p q written (Err (Refused code)) (Err e) s is same so = absurd so
set-alters b p q written (Err Memory) (Ok d) s is same so = absurd so
set-alters b p q written (Err Memory) (Err e) s is same so = subst (λ (x : Parts). Stands b x) (sym same) s

-- an object was added, or not; for want of memory the board is as it was, or an attempt was given up
pub add-changes : {E : Type 0} (b : Board) (p : Parts) (driver id : List ℕ) (props : List Given) (answer : Result Unit Refusal) (result : Result outcome.Done E)
    → Adds b driver id props answer p → ComesTo answer result → Changes b (Add (ObjectAdd driver id props)) result p
unfolding added
add-changes b p driver id props (Ok u) (Ok d) (none, now) so = changed-ok (object_add b driver id props) d p none now so
add-changes b p driver id props (Ok u) (Err e) h so = absurd so
add-changes b p driver id props (Err (Refused code)) (Ok d) (some, now) so = changed-err (object_add b driver id props) code d p some now so
add-changes b p driver id props (Err (Refused code)) (Err e) h so = absurd so
add-changes b p driver id props (Err Memory) (Ok d) h so = absurd so
add-changes b p driver id props (Err Memory) (Err e) (inl now) so = inl now
add-changes b p driver id props (Err Memory) (Err e) (inr now) so = inr (1, false, now)

-- a device was added, or not
pub plug-ok : (b : Board) (p : Parts) (driver : List ℕ) (id bus : Option (List ℕ)) (props : List Given) (device : device.Added) (d : outcome.Done)
    → Plugs b (wanted driver id bus props) (Ok device) p → ((x : Board) → done_of x d ≡ returned x empty)
    → Came (added b (DeviceAdd driver id bus props)) d p
unfolding added
plug-ok b p driver id bus props device d (none, now, kept) so =
    let add = plug b (wanted driver id bus props) in
    came-as (plugged add) (returned add.board empty) d p (rw (plugged, none) refl) (came-value add.board empty d p now so)

pub plug-err : (b : Board) (p : Parts) (driver : List ℕ) (id bus : Option (List ℕ)) (props : List Given) (stage : ℕ) (code : Code) (d : outcome.Done)
    → Plugs b (wanted driver id bus props) (Err (Barred stage code)) p → ((x : Board) → done_of x d ≡ refused_with x code)
    → Came (added b (DeviceAdd driver id bus props)) d p
unfolding added
plug-err b p driver id bus props stage code d (some, now) so =
    let add = plug b (wanted driver id bus props) in
    came-as (plugged add) (refused_with add.board code) d p (rw (plugged, some) refl) (came-err add.board code d p now so)

-- as the words are given
pub plugs-as : (b : Board) (driver : List ℕ) (id bus as_id as_bus : Option (List ℕ)) (props : List Given) (r : Result device.Added AddRefusal) (p : Parts)
    → as_id ≡ id → as_bus ≡ bus → Plugs b (wanted driver as_id as_bus props) r p → Plugs b (wanted driver id bus props) r p
plugs-as b driver id bus as_id as_bus props r p same_id same_bus h =
    subst (λ (x : Option (List ℕ)). Plugs b (wanted driver x bus props) r p) same_id
    (subst (λ (x : Option (List ℕ)). Plugs b (wanted driver as_id x props) r p) same_bus h)

-- refused, as the refusal is
pub refused-as : (b : Board) (w : Wanted) (refusal : AddRefusal) (stage : ℕ) (code : Code) (p : Parts) → refusal ≡ Barred stage code
    → Plugs b w (Err refusal) p → Plugs b w (Err (Barred stage code)) p
refused-as b w refusal stage code p is h = subst (λ (x : AddRefusal). Plugs b w (Err x) p) is h

-- a line of the guest
pub told-came : (o : Outcome) (h : Heard) (d : outcome.Done) (p : Parts) → hearing.Came o h p → ((x : Board) → done_of x d ≡ guest_reply (outcome_of x h))
    → Came (guest_reply o) d p
told-came o h d p (now, is) so = (now, so o.board ∙ ap guest_reply is)

-- the time went on, or it may not
pub step-ok : (change : Changed) (p : Parts) (time : ℕ) (d : outcome.Done) → Advances change (Ok time) p
    → ((x : Board) → done_of x d ≡ returned x (time_data time)) → Came (timed change) d p
step-ok change p time d (none, now, at) so =
    came-as (timed change) (returned change.board (time_data change.board.now)) d p (rw (timed, none) refl)
    (came-value change.board (time_data change.board.now) d p now (λ x. so x ∙ ap (λ (t : ℕ). returned x (time_data t)) at))

pub step-err : (change : Changed) (p : Parts) (code : Code) (d : outcome.Done) → Advances change (Err code) p
    → ((x : Board) → done_of x d ≡ refused_with x code) → Came (timed change) d p
step-err change p code d (some, now) so =
    came-as (timed change) (refused_with change.board code) d p (rw (timed, some) refl) (came-err change.board code d p now so)

-- the machine runs, or stands still
abbrev told_where : Event → Bool → Board → Done
told_where event changes x = record { result = Ok empty; board = x; events = if changes then event ∷ [] else []; ends = false }

pub switched-came : (b : Board) (on : Bool) (event : Event) (changes : Bool) (d : outcome.Done) (p : Parts) → Stands (with_running on b) p
    → changes ≡ switches b on → ((x : Board) → done_of x d ≡ told_where event changes x) → Came (switched b on event) d p
switched-came b on event changes d p now same so =
    (now, so (with_running on b) ∙ ap (λ (t : Bool). told_where event t (with_running on b)) same)

-- the whole board is reset
pub reset-came : (b : Board) (d : outcome.Done) (p : Parts) → Stands (reset_whole b) p → ((x : Board) → done_of x d ≡ record (reset_by b) { board = x })
    → Came (reset_by b) d p
reset-came b d p now so = (now, so (reset_whole b))

-- the bytes of a ring were taken, or not
pub read-ok : (reading : Reading) (text : List ℕ) (d : outcome.Done) (p : Parts) → ReadsRing reading (Ok text) p
    → ((x : Board) → done_of x d ≡ returned x (string text)) → Came (ring_told reading) d p
read-ok reading text d p (is, now) so =
    came-as (ring_told reading) (returned reading.board (string text)) d p (ap (answered reading.board string) is)
    (came-value reading.board (string text) d p now so)

pub read-err : (reading : Reading) (code : Code) (d : outcome.Done) (p : Parts) → ReadsRing reading (Err (Refused code)) p
    → ((x : Board) → done_of x d ≡ refused_with x code) → Came (ring_told reading) d p
read-err reading code d p (is, now) so =
    came-as (ring_told reading) (refused_with reading.board code) d p (ap (answered reading.board string) is)
    (came-err reading.board code d p now so)
