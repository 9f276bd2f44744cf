-- What stands beside the objects stays with each call on them.
use Rattle.std.proofs.Common.{◌≡◌, refl, ap, sym, subst, ◌∙◌, ap₂, ℕ, Bool, List, [], Option, None, Some, IfNone, Result, Ok, Err, OnErr, inl, inr, map, true}
use Rattle.qo_values.specs.declared.codes.Code.{Code}
use Rattle.qo_values.specs.declared.properties.Val.{Val}
use Rattle.qo_model.specs.declared.notes.Note.{Note}
use Rattle.qo_model.specs.Access.{write_at}
use Rattle.std.specs.Option.{option_map_or}
use Rattle.qo_events.specs.Queue.{cleared}
use Rattle.qo_object.specs.Content.{Content}
use Rattle.qo_object.specs.BoardObject.{shown_slots}
use Rattle.qo_model.specs.Board.{Board, Slot, Ring}
use Rattle.qo_model.specs.Listing.{listing, type_text}
use Rattle.qo_heap.proofs.BoardReads.{shows-slots}
use Rattle.qo_model.specs.FinalNotesRuns.{added, deleted, severed}
use Rattle.qo_model.specs.NoteReplies.{first_from}
use Rattle.qo_model.specs.Notes.{kept_of, total_of}
use Rattle.qo_model.specs.Objects.{Changed, Given, attempted_as, object_add, object_del, sever}
use Rattle.qo_model.specs.Opening.{opening_board}
use Rattle.qo_model.specs.ChangeScope.{Stays}
use Rattle.qo_model.proofs.ClockScopeLemmas.{write_at-stays}
use Rattle.qo_model.proofs.ChangeScopeLemmas.{attempted_as-stays, stays-none, stays_lem}
use Rattle.qo_heap.specs.Log as log
use Rattle.qo_heap.specs.Log.{IsLogOf, Log}
use Rattle.qo_heap.specs.Board.{Shows}
use Rattle.qo_heap.specs.Book.{IsBook}
use Rattle.qo_heap.specs.Objects.{Objects, content_of, no_objects_made}
use Rattle.qo_properties.specs.Additions as properties
use Rattle.qo_properties.specs.Changes as changes
use Rattle.qo_properties.specs.Claims.{KeepsBook}
use Rattle.qo_properties.specs.Pins.{OnlyRootPinned}
use Rattle.qo_properties.specs.OpeningSteps.{no_objects, with_all}
use Rattle.qo_properties.specs.Writes as writes
use Rattle.qo_properties.specs.declared.refusals.Refusal.{Refusal}
use Rattle.qo_properties.specs.declared.refusals.Refusal.TheVariants.{Refused, Memory}
use Rattle.qo_properties.proofs.ClaimLemmas.{book-none}
use Rattle.qo_properties.proofs.PinLemmas.{opening-pinned}
use Rattle.qo_properties.proofs.OpeningLemmas.{all-is_opening, shows-none}
use Rattle.qo_realize.specs.Answers.{Adds, IsAnswered, Writes}
use Rattle.qo_hotplug.specs.Hotplug.{Asked, nothing_asked}
use Rattle.qo_reset.specs.HoldList.{HoldList, no_holds}
use Rattle.qo_realize.specs.SoundBoard.{SoundBoard}
use Rattle.qo_realize.proofs.GoodBoardLemmas.{changed-good}
use Rattle.qo_realize.proofs.GoodBoardLemmas.{attempted-good}
use Rattle.qo_realize.proofs.WriteLemmas.{wrote-good}
use Rattle.qo_realize.specs.Parts.{Parts, parts_of}
use Rattle.qo_realize.specs.Representation.{Stands, StandsForGood}

-- other objects, beside the same
abbrev pub with_objects : Objects → Parts → Parts
with_objects v p = record p { objects = v }

-- another board stands with other objects, where all but objects, births, pins, notes and events is as before
pub stands-by : (b c : Board) (p : Parts) (v : Objects) → Stands b p → Stays b c → Shows c v → KeepsBook p.objects v → Stands c (with_objects v p)
stands-by b c p v s stays shows keeps =
    record {
      shows = shows;
      anonymous = stays.anonymous ∙ s.anonymous;
      running = stays.running ∙ s.running;
      holds = stays.holds ∙ s.holds;
      pending = stays.pending ∙ s.pending;
      notices = stays.notices ∙ s.notices;
      rings = stays.rings ∙ s.rings;
      book = keeps [] s.book;
    }

-- a write
pub write-stands : (b : Board) (p : Parts) (v : Objects) (path name : List ℕ) (val : Val) (result : Result (Unit {0}) Refusal) → Stands b p
    → writes.Writes v result (write_at b path name val) → KeepsBook p.objects v → Writes (with_objects v p) result (write_at b path name val)
write-stands b p v path name val (Ok u) s (c, is, shows) keeps = (c, is, stands-by b c p v s (write_at-stays b c path name val is) shows keeps)
write-stands b p v path name val (Err (Refused code)) s is keeps = is
write-stands b p v path name val (Err Memory) s is keeps = tt

-- changes of objects
pub del-stands : (b : Board) (p : Parts) (v : Objects) (id : List ℕ) (result : Result (Unit {0}) Code) → Stands b p
    → changes.IsAnswered (object_del b id) result v → KeepsBook p.objects v → IsAnswered (object_del b id) result (with_objects v p)
del-stands b p v id result s h keeps =
    record { refusal = h.refusal; board = stands-by b (object_del b id).board p v s (stays_lem.change b (deleted id)) h.board keeps }

pub sever-stands : (b : Board) (p : Parts) (v : Objects) (n : ℕ) (result : Result (Unit {0}) Code) → Stands b p
    → changes.IsAnswered (sever b n) result v → KeepsBook p.objects v → IsAnswered (sever b n) result (with_objects v p)
sever-stands b p v n result s h keeps =
    record { refusal = h.refusal; board = stands-by b (sever b n).board p v s (stays_lem.change b (severed n)) h.board keeps }

pub add-stands : (b : Board) (p : Parts) (v : Objects) (driver id : List ℕ) (props : List Given) (result : Result (Unit {0}) Refusal) → Stands b p
    → properties.Adds b driver id props result v → KeepsBook p.objects v → Adds b driver id props result (with_objects v p)
add-stands b p v driver id props (Ok u) s (none, shows) keeps =
    (none, stands-by b (object_add b driver id props).board p v s (stays_lem.change b (added driver id props)) shows keeps)
add-stands b p v driver id props (Err (Refused code)) s (some, shows) keeps =
    (some, stands-by b (object_add b driver id props).board p v s (stays_lem.change b (added driver id props)) shows keeps)
add-stands b p v driver id props (Err Memory) s (inl shows) keeps = inl (stands-by b b p v s (stays-none b) shows keeps)
add-stands b p v driver id props (Err Memory) s (inr shows) keeps =
    inr (stands-by b (attempted_as b driver id) p v s (attempted_as-stays b driver id) shows keeps)

-- an error leaves the objects
pub err-stays : {T E : Type 0} (r : Result T E) (rings : List Ring) (anonymous : ℕ) (running : Bool) (holds : HoldList) (asked : Asked)
    (v w : Objects) (p : Parts)
    → parts_of rings anonymous running holds asked v ≡ p → OnErr r (w ≡ v) → OnErr r (parts_of rings anonymous running holds asked w ≡ p)
err-stays (Ok t) rings anonymous running holds asked v w p is same = tt
err-stays (Err e) rings anonymous running holds asked v w p is same = ap (parts_of rings anonymous running holds asked) same ∙ is

-- a sound board stands after each call
pub answered-sound : (change : Changed) (result : Result (Unit {0}) Code) (p : Parts) → SoundBoard change.board → IsAnswered change result p → StandsForGood p
answered-sound change result p sound h = (change.board, h.board, sound)

pub written-sound : (b : Board) (p : Parts) (w : Objects) (path name : List ℕ) (val : Val) (result : Result (Unit {0}) Refusal)
    → Stands b p → SoundBoard b → Writes (with_objects w p) result (write_at b path name val) → OnErr result (w ≡ p.objects) → StandsForGood (with_objects w p)
written-sound b p w path name val (Ok u) s sound (c, is, stands) same = (c, stands, wrote-good b c path name val is sound)
written-sound b p w path name val (Err e) s sound h same = (b, subst (λ (x : Objects). Stands b (with_objects x p)) (sym same) s, sound)

pub added-sound : (b : Board) (driver id : List ℕ) (props : List Given) (result : Result (Unit {0}) Refusal) (p : Parts)
    → SoundBoard b → Adds b driver id props result p → StandsForGood p
added-sound b driver id props (Ok u) p sound h = ((object_add b driver id props).board, h.1, changed-good b (added driver id props) sound)
added-sound b driver id props (Err (Refused code)) p sound h = ((object_add b driver id props).board, h.1, changed-good b (added driver id props) sound)
added-sound b driver id props (Err Memory) p sound (inl s) = (b, s, sound)
added-sound b driver id props (Err Memory) p sound (inr s) = (attempted_as b driver id, s, attempted-good b driver id sound)

-- the beginning
opening-stands : (v : Objects) → Shows opening_board v → IsBook [] v → Stands opening_board (parts_of [] 0 true no_holds nothing_asked v)
unfolding opening_board
opening-stands v shows book =
    record { shows = shows; anonymous = refl; running = refl; holds = refl; pending = refl; notices = refl; rings = refl; book = book }

pub opens : (v w : Objects) → v ≡ no_objects_made → ((b : Board) → Shows b v → Shows (with_all b) w) → KeepsBook v w
    → (holds : HoldList) (asked : Asked) (rings : List Ring) → holds ≡ no_holds → asked ≡ nothing_asked → rings ≡ []
    → OnlyRootPinned w × Stands opening_board (parts_of rings 0 true holds asked w)
opens v w none makes keeps holds asked rings held cleared empty = (
  opening-pinned w shows,
  subst (λ (r : List Ring). Stands opening_board (parts_of r 0 true holds asked w)) (sym empty)
      (subst (λ (h : HoldList). Stands opening_board (parts_of [] 0 true h asked w)) (sym held)
      (subst (λ (x : Asked). Stands opening_board (parts_of [] 0 true no_holds x w)) (sym cleared)
      (opening-stands w shows (keeps [] (subst (λ (x : Objects). IsBook [] x) (sym none) book-none))))),
)
  where
    shows : Shows opening_board w
    shows = subst (λ (b : Board). Shows b w) all-is_opening (makes no_objects (subst (λ (x : Objects). Shows no_objects x) (sym none) shows-none))

-- the notes that the log tells are those of the board
log-of : (notes : List Note) (l : Log) → IsLogOf notes l → l ≡ record { total = total_of notes; kept = kept_of notes }
log-of notes l h = ap₂ (λ (total : ℕ) (kept : List Note). the Log (record { total = total; kept = kept })) h.total h.kept
  where
    the : (T : Type 0) → T → T
    the T x = x

pub first-told : (notes : List Note) (l : Log) → IsLogOf notes l → (start : ℕ) → log.first_from start l ≡ first_from start notes
first-told notes l h start = ap (log.first_from start) (log-of notes l h)

-- the events that waited were let go
pub cleared-stands : (b : Board) (rings : List Ring) (anonymous : ℕ) (running : Bool) (holds : HoldList) (asked : Asked) (v : Objects)
    → Stands b (parts_of rings anonymous running holds asked v)
    → Stands (record b { events = [] }) (parts_of rings anonymous running holds asked (record v { events = cleared v.events }))
cleared-stands b rings anonymous running holds asked v s =
    stands-by b (record b { events = [] }) (parts_of rings anonymous running holds asked v) (record v { events = cleared v.events }) s
    (record { anonymous = refl; now = refl; running = refl; holds = refl; pending = refl; notices = refl; rings = refl })
    (record { records = s.shows.records; born = s.shows.born; pins = s.shows.pins; notes = s.shows.notes; events = refl; now = s.shows.now }) (λ out h. h)

-- an object that is not there lists nothing
pub listing-none : (b : Board) (v : Objects) → Shows b v → (n : ℕ) → content_of v n ≡ None → listing b n ≡ []
listing-none b v s n none =
    ap (map (λ (t : List ℕ × Slot). (t.0, type_text b n t)))
    (shows-slots b v s n ∙ ap (λ (o : Option Content). shown_slots (option_map_or (λ (c : Content). c.slots) o [])) none)

pub none-listed : {T : Type 0} (o : Option T) (b : Board) (v : Objects) → Shows b v → (n : ℕ) → IfNone o (content_of v n ≡ None) → IfNone o (listing b n ≡ [])
none-listed None b v s n none = listing-none b v s n none
none-listed (Some x) b v s n none = tt
