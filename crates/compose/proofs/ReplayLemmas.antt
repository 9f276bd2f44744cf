-- What a run over the inputs of a stream did.
use Rattle.std.proofs.Common.{◌≡◌, ℕ, zero, suc, ◌+◌, ◌<◌, ◌≤◌, Bool, true, false, if◌then◌else◌, List, [], ◌∷◌, ◌++◌, length, take, refl, sym, ◌∙◌}
use Rattle.std.proofs.Common.{ap, subst, arith, Option, None, Some, IfSome, option_map, slice_index_or}
use Rattle.std.proofs.Math.Seq.{take-append_seam}
use Rattle.std.proofs.lemmas.Bool.{true≢false, or_parts}
use Rattle.std.proofs.lemmas.List.{append-nil}
use Rattle.std.specs.List.{cons_option}
use Rattle.std.specs.Io.KnownBytes.{prepend_known}
use Rattle.qo_causes.specs.Hub.{AtEnd, is_end}
use Rattle.qo_causes.specs.declared.hubs.Lane.{Lane}
use Rattle.qo_causes.specs.Names.{Given, Names, no_names}
use Rattle.qo_machine.proofs.RunLemmas.{has_end_ends, nothing_appended, took_twice}
use Rattle.qo_machine.specs.Machine.{opening}
use Rattle.qo_machine.specs.Runs.{CutRun, OpenRun, RunMeets, Turn, has_end, known, last_input, risen, risen_by, state_after, turn_inputs}
use Rattle.qo_machine.specs.declared.running.Ending.{Ending}
use Rattle.qo_machine.specs.declared.running.Ending.TheVariants as ending
use Rattle.qo_record.proofs.CoverLemmas.{covered, given_first, given_whole, taken_is, took_inputs}
use Rattle.qo_record.proofs.ReadingLemmas.{none_some}
use Rattle.qo_record.specs.Record.{bad_place, entries_from, entries_within, entry_at, read_after, stream_given}
use Rattle.qo_record.specs.Spelling.{Recorded, given_from}
use Rattle.qo_record.specs.declared.versions.Version.{Version}
use Rattle.qo_record.specs.Replays.{Gave, IsStarved, Progress, StarvedWith, Replaying, Went, bad_ahead, inputs_ahead, inputs_from, capped_offset, unread}
use Rattle.compose.specs.Replay.{DidReplay, IsCut, NoneLost, OpenReplay, Replayed, TakeHeld, TakePart, TakeToBad, TakeToEnd, TakeToLimit, offset_of, status_of}
use Rattle.compose.specs.declared.statuses.Status.{Status}
use Rattle.compose.specs.declared.statuses.Status.TheVariants.{Memory}

-- No session is lost where no count rises.

count_up : (flag : Bool) (n : ℕ) → n ≤ risen flag n
count_up true n = omega arith
count_up false n = omega arith

counts_up : (ts : List Turn) (n count : ℕ) → count ≤ risen_by n count ts
counts_up [] n count = omega arith
counts_up (t ∷ ts) n count =
    omega (arith, count_up (slice_index_or t.lost n false) count, counts_up ts n (risen (slice_index_or t.lost n false) count))

not_risen : (flag : Bool) → risen flag 0 ≤ 0 → flag ≡ false
not_risen true h = absurd (omega arith)
not_risen false h = refl

pub none_lost : (ts : List Turn) → ((n : ℕ) → risen_by n 0 ts ≤ 0) → NoneLost ts
none_lost [] h = tt
none_lost (t ∷ ts) h = (here, none_lost ts (λ n. subst (λ (f : Bool). risen_by n (risen f 0) ts ≤ 0) (here n) (h n)))
  where
    here : (n : ℕ) → slice_index_or t.lost n false ≡ false
    here n = not_risen (slice_index_or t.lost n false) (omega (arith, h n, counts_up ts n (risen (slice_index_or t.lost n false) 0)))

-- Each turn but the end takes an input.

abbrev pub given_at : Turn → Given
given_at t = record { input = t.input; names = t.names }

first_length : (e : Bool) (i : Given) (rest : List Given) → e ≡ false → length (cons_option (if e then None else Some i) rest) ≡ length rest + 1
first_length true i rest over = absurd (true≢false over)
first_length false i rest over = omega arith

pub each_taken : (ts : List Turn) → has_end ts ≡ false → length (turn_inputs ts) ≡ length ts
each_taken [] none = refl
each_taken (t ∷ ts) none =
    let ends = or_parts (is_end t.input.what) (has_end ts) none in
    omega (arith, first_length (is_end t.input.what) (given_at t) (turn_inputs ts) ends.0, each_taken ts ends.1)

by_going : (e : Bool) → (e ≡ true → ⊥) → e ≡ false
by_going true h = absurd (h refl)
by_going false h = refl

pub going_on : (ts : List Turn) → (state_after opening ts).ended ≡ false → has_end ts ≡ false
going_on ts on = by_going (has_end ts) (λ over. true≢false (sym (has_end_ends ts opening over) ∙ on))

-- A last turn takes one input, or none.

one_input : (e : Bool) (i : Given) → length (cons_option (if e then None else Some i) []) ≤ 1
one_input true i = omega arith
one_input false i = omega arith

one_taken : (last : Option Turn) → length (last_input last) ≤ 1
one_taken None = omega arith
one_taken (Some t) = one_input (is_end t.input.what) (given_at t)

taken_all : (a b : Option (List Given)) (xs : List Given) → a ≡ option_map (λ (r : List Given). xs ++ r) b →
    a ≡ option_map (λ (r : List Given). (xs ++ []) ++ r) b
taken_all a b xs took = took ∙ ap (λ (l : List Given). option_map (λ (r : List Given). l ++ r) b) (sym (append-nil xs))

-- What is told of the record.

no_place : (n : Option ℕ) → option_map capped_offset n ≡ None → n ≡ None
no_place None h = refl
no_place (Some n) h = absurd (none_some (sym h))

none_left : (inputs : Option (List Given)) (rest : List Given) → inputs ≡ Some rest → IfSome inputs (λ (r : List Given). r ≡ []) → rest ≡ []
none_left inputs rest is h = subst (λ (i : Option (List Given)). IfSome i (λ (r : List Given). r ≡ [])) is h

abbrev pub Read : Progress → Option (List ℕ) → Option (List ℕ) → List ℕ → List Recorded → Type 0
Read p left_old left_new bytes entries = Gave unread p left_old left_new bytes entries

abbrev Took : Progress → Option (List ℕ) → Option (List ℕ) → List Given → Type 0
Took p left_old left_new taken = inputs_ahead unread left_old ≡ option_map (λ (rest : List Given). taken ++ rest) (inputs_ahead p left_new)

pub to_end : (p : Progress) (lo ln : Option (List ℕ)) (bytes : List ℕ) (given : List Recorded) (ts : List Turn) → Read p lo ln bytes given →
    Took p lo ln (turn_inputs ts) → (has_end ts ≡ true → AtEnd (inputs_ahead p ln) (bad_ahead unread lo) None) → IfSome lo (TakeToEnd ts)
to_end p None ln bytes given ts read took over = tt
to_end p (Some all) ln bytes given ts read took over =
    let t = took_inputs p all ln bytes given (turn_inputs ts) read took in
    (t.rest, t.all_is, λ e. (none_left (inputs_ahead p ln) t.rest t.left_is (over e).0, no_place (bad_place all) (over e).1))

to_bad : (p : Progress) (lo ln : Option (List ℕ)) (bytes : List ℕ) (given : List Recorded) (ts : List Turn) (n : ℕ) → Read p lo ln bytes given →
    Took p lo ln (turn_inputs ts) → AtEnd (inputs_ahead p ln) (bad_ahead unread lo) (Some n) → IfSome lo (TakeToBad ts n)
to_bad p None ln bytes given ts n read took over = tt
to_bad p (Some all) ln bytes given ts n read took over =
    let t = took_inputs p all ln bytes given (turn_inputs ts) read took in
    let none = none_left (inputs_ahead p ln) t.rest t.left_is over.0 in
    (sym (append-nil (turn_inputs ts)) ∙ ap (λ (r : List Given). turn_inputs ts ++ r) (sym none) ∙ sym t.all_is, over.1)

to_limit : (p : Progress) (lo ln : Option (List ℕ)) (bytes : List ℕ) (given : List Recorded) (ts : List Turn) → Read p lo ln bytes given →
    Took p lo ln (turn_inputs ts) → length (turn_inputs ts) ≡ 1000000000 → IfSome lo (TakeToLimit ts)
to_limit p None ln bytes given ts read took size = tt
to_limit p (Some all) ln bytes given ts read took size =
    let t = took_inputs p all ln bytes given (turn_inputs ts) read took in (
      sym (ap (λ (k : ℕ). take k (stream_given all)) (sym size) ∙ ap (take (length (turn_inputs ts))) t.all_is ∙ take-append_seam (turn_inputs ts) t.rest),
      size,
    )

part_of : (p : Progress) (lo ln : Option (List ℕ)) (bytes : List ℕ) (given : List Recorded) (ts : List Turn) (last : Option Turn) →
    length p.buffered < 65700 → Read p lo ln bytes given → Took p lo ln (turn_inputs ts ++ last_input last) → IfSome lo (TakePart (bytes ++ p.buffered) ts last)
part_of p None ln bytes given ts last few read took = tt
part_of p (Some all) ln bytes given ts last few read took =
    let t = took_inputs p all ln bytes given (turn_inputs ts ++ last_input last) read took in
    let held : List Given = inputs_from p.version p.names p.buffered in
    record {
      front = (t.rest, t.all_is);
      stand = (held, given_first p (Some all) ln bytes given p.buffered read ∙ ap (λ (l : List Given). l ++ held) t.given_is);
      covers =
          covered bytes p.buffered given (turn_inputs ts) (last_input last) (given_whole p (Some all) ln bytes given read) few t.given_is (one_taken last);
    }

-- where the source failed no whole entry is held that was not given
none_within : (n : ℕ) (v : Version) (names : Names) (held : List ℕ) → entry_at v names held ≡ None → (entries_within n v names held).entries ≡ []
none_within zero v names held none = refl
none_within (suc n) v names held none = rw none refl

none_held : (version : Option Version) (names : Names) (held : List ℕ) → StarvedWith version names held → inputs_from version names held ≡ []
unfolding entries_from
none_held (Some v) names held h = ap (given_from names) (none_within (length held) v names held h.whole)
none_held None names held h = ap (λ (r : Option (Version × List ℕ)). given_from names (read_after names held r).entries) h

held_of : (p : Progress) (lo ln : Option (List ℕ)) (bytes : List ℕ) (given : List Recorded) (ts : List Turn) → IsStarved p → Read p lo ln bytes given →
    Took p lo ln (turn_inputs ts) → IfSome lo (λ _. TakeHeld (bytes ++ p.buffered) ts)
held_of p None ln bytes given ts starved read took = tt
held_of p (Some all) ln bytes given ts starved read took =
    let t = took_inputs p all ln bytes given (turn_inputs ts) read took in
    sym (given_first p (Some all) ln bytes given p.buffered read ∙ ap (λ (l : List Given). given_from no_names given ++ l)
    (none_held p.version p.names p.buffered starved) ∙ append-nil (given_from no_names given) ∙ t.given_is)

-- The run as a replay of the record.

open_run : (oi ni : Option (List Given)) (ho hn : Option (List ℕ)) (og ng : Lane → Option (List ℕ)) (ts : List Turn) →
    OpenRun (known oi ho og (λ n. 0)) (known ni hn ng (λ n. 0)) ts → OpenReplay ho hn ts
open_run oi ni ho hn og ng ts h = record { going = h.1; lost = none_lost ts h.0.losses; put = h.0.sent }

cut_run : (p : Progress) (lo ln ho hn : Option (List ℕ)) (bytes : List ℕ) (given : List Recorded) (og ng : Lane → Option (List ℕ)) →
    length p.buffered < 65700 → Read p lo ln bytes given →
    CutRun 1000000000 (known (inputs_ahead unread lo) ho og (λ n. 0)) (known (inputs_ahead p ln) hn ng (λ n. 0)) → IsCut lo (bytes ++ p.buffered) ho hn
cut_run p lo ln ho hn bytes given og ng few read h =
    let whole_part = h.3.0 in
    let cut_part = h.4 in
    let took = took_twice (inputs_ahead unread lo) h.0.inputs (inputs_ahead p ln) (turn_inputs h.1) (last_input h.2) whole_part.took cut_part.took in (
      h.1,
      h.2,
      record {
        going = h.3.1;
        few = h.5;
        lost = none_lost h.1 (λ n. omega (arith, whole_part.losses n, cut_part.losses n));
        put = (h.0.sent, whole_part.sent, cut_part.sent);
      },
      part_of p lo ln bytes given h.1 h.2 few read took,
    )

pub did : (e : Ending) (p : Progress) (lo ln ho hn : Option (List ℕ)) (bytes : List ℕ) (given : List Recorded) (og ng : Lane → Option (List ℕ)) →
    length p.buffered < 65700 → (e ≡ ending.NextFailed → IsStarved p) → Read p lo ln bytes given →
    RunMeets e 1000000000 (known (inputs_ahead unread lo) ho og (λ n. 0)) (known (inputs_ahead p ln) hn ng (λ n. 0)) (bad_ahead unread lo) →
    DidReplay (status_of e) lo (bytes ++ p.buffered) ho hn (offset_of e)
did ending.Done p lo ln ho hn bytes given og ng few starved read h = (
  h.0,
  record { last = h.2; few = h.3; lost = none_lost h.0 h.1.losses; put = h.1.sent },
  to_end p lo ln bytes given h.0 read h.1.took h.4,
)
did (ending.Bad n) p lo ln ho hn bytes given og ng few starved read h = (
  h.0,
  open_run (inputs_ahead unread lo) (inputs_ahead p ln) ho hn og ng h.0 h.1,
  h.2,
  to_bad p lo ln bytes given h.0 n read h.1.0.took h.3,
)
did ending.Limit p lo ln ho hn bytes given og ng few starved read h =
    let size : length (turn_inputs h.0) ≡ 1000000000 = each_taken h.0 (going_on h.0 h.1.1) ∙ h.2 in (
      h.0,
      open_run (inputs_ahead unread lo) (inputs_ahead p ln) ho hn og ng h.0 h.1,
      h.2,
      to_limit p lo ln bytes given h.0 read h.1.0.took size,
    )
did ending.NextFailed p lo ln ho hn bytes given og ng few starved read h =
    let took = taken_all (inputs_ahead unread lo) (inputs_ahead p ln) (turn_inputs h.0) h.1.0.took in (
      h.0,
      open_run (inputs_ahead unread lo) (inputs_ahead p ln) ho hn og ng h.0 h.1,
      h.2,
      part_of p lo ln bytes given h.0 None few read took,
      held_of p lo ln bytes given h.0 (starved refl) read h.1.0.took,
    )
did ending.SendFailed p lo ln ho hn bytes given og ng few starved read h = cut_run p lo ln ho hn bytes given og ng few read h
did ending.Memory p lo ln ho hn bytes given og ng few starved read h = cut_run p lo ln ho hn bytes given og ng few read h

-- what a run over a fresh hub did
pub replayed : (e : Ending) (q p : Progress) (lo ln ho hn : Option (List ℕ)) (og ng : Lane → Option (List ℕ)) →
    q ≡ unread → length p.buffered < 65700 → (e ≡ ending.NextFailed → IsStarved p) → Went q p lo ln →
    RunMeets e 1000000000 (known (inputs_ahead q lo) ho og (λ n. 0)) (known (inputs_ahead p ln) hn ng (λ n. 0)) (bad_ahead q lo) →
    (taken : List ℕ) × Replayed (status_of e) lo ln ho hn taken (offset_of e)
replayed e q p lo ln ho hn og ng fresh few starved went meets =
    let w : Went unread p lo ln = subst (λ (r : Progress). Went r p lo ln) fresh went in
    let m = subst (λ (r : Progress). RunMeets e 1000000000 (known (inputs_ahead r lo) ho og (λ n. 0)) (known (inputs_ahead p ln) hn ng (λ n. 0))
    (bad_ahead r lo)) fresh meets in
    (w.0 ++ p.buffered, record { took = taken_is p lo ln w.0 w.1 w.2; did = did e p lo ln ho hn w.0 w.1 og ng few starved w.2 m })

-- nothing was done for want of memory
nothing_taken : (left : Option (List ℕ)) → left ≡ prepend_known [] left
nothing_taken None = refl
nothing_taken (Some bytes) = refl

nothing_told : (left : Option (List ℕ)) → IfSome left (TakePart [] [] None)
nothing_told None = tt
nothing_told (Some bytes) = record { front = (stream_given bytes, refl); stand = ([], refl); covers = ([], refl) }

pub not_made : (left held : Option (List ℕ)) → Replayed Memory left left held held [] 0
not_made left held =
    record {
      took = nothing_taken left;
      did = (
        [],
        None,
        record { going = refl; few = omega arith; lost = tt; put = (held, nothing_appended held, (0, omega arith, nothing_appended held)) },
        nothing_told left,
      );
    }

-- the same of a hub that was made and given up
pub hub_replayed : {S K : Type 0} (left : S → Option (List ℕ)) (held : K → Option (List ℕ)) (e : Ending) (status : Status) (place : ℕ) →
    (hub new : Replaying S K) (source source_new : S) (sink sink_new : K) (og ng : Lane → Option (List ℕ)) →
    hub ≡ record { source = source; sink = sink; read = unread } → status ≡ status_of e → place ≡ offset_of e →
    source_new ≡ new.source → sink_new ≡ new.sink → length new.read.buffered < 65700 → (e ≡ ending.NextFailed → IsStarved new.read) → Went hub.read new.read (left hub.source) (left new.source) →
    RunMeets e 1000000000 (known (inputs_ahead hub.read (left hub.source)) (held hub.sink) og (λ n. 0))
    (known (inputs_ahead new.read (left new.source)) (held new.sink) ng (λ n. 0)) (bad_ahead hub.read (left hub.source)) →
    (taken : List ℕ) × Replayed status (left source) (left source_new) (held sink) (held sink_new) taken place
hub_replayed {S} {K} left held e status place hub new source source_new sink sink_new og ng made st pl so si few starved went meets =
    let fresh = ap (λ (h : Replaying S K). h.read) made in
    let h = replayed e hub.read new.read (left hub.source) (left new.source) (held hub.sink) (held new.sink) og ng fresh few starved went meets in
    rw (st, pl, so, si, sym (ap (λ (h : Replaying S K). h.source) made), sym (ap (λ (h : Replaying S K). h.sink) made)) h
