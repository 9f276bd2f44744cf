-- How many holds are kept of each object: each call of the board leaves that right.
use Rattle.std.proofs.Common.{◌≡◌, ◌⊎◌, inl, inr, refl, ap, sym, subst, ◌∙◌, ℕ, ◌+◌, Bool, true, false, ◌||◌, cond, eqb, List, [], ◌∷◌, ◌++◌, length, Option, Some, None, option_map, is_some, Result, Ok, Err, OnErr, arith}
use Rattle.std.specs.Prelude.{count_by}
use Rattle.std.specs.List.{AllByRecursion, flat_map}
use Rattle.std.specs.Option.{option_map_or}
use Rattle.std.proofs.lemmas.Bool.{eq-eqb}
use Rattle.std.proofs.lemmas.List.Sums.{sum_by-cons}
use Rattle.qo_values.specs.declared.codes.Code.{Code}
use Rattle.qo_values.specs.declared.kinds.TypeId.{TypeId}
use Rattle.qo_values.specs.declared.properties.Val.{Val}
use Rattle.qo_kinds.specs.declared.bodies.Body.{Body}
use Rattle.qo_slots.specs.declared.keys.Key.{Key}
use Rattle.qo_object.specs.Content.{Content}
use Rattle.qo_model.specs.Access.{write_at}
use Rattle.qo_model.specs.Board.{Board, is_live}
use Rattle.qo_model.specs.ClockChanges.{clock_scaled, clock_set}
use Rattle.qo_model.specs.Clocks.{div_of, mul_of}
use Rattle.qo_model.specs.Depth.{among, by_depth}
use Rattle.qo_model.specs.FinalNotesRuns.{Change, added, after_write, changed, wrote}
use Rattle.qo_model.specs.Objects.{Given, attempted_as, barred_by, object_add, with_attempt}
use Rattle.qo_model.specs.Plug.{Wanted, cut_attempt, plug, plug_attempt, resources_of, with_plugged}
use Rattle.qo_model.specs.Paths.{births}
use Rattle.qo_model.specs.Release.{pin}
use Rattle.qo_model.specs.Reset.{below, count, post, post_turn}
use Rattle.qo_model.specs.Types.{TypeInfo, type_named}
use Rattle.qo_model.specs.Unplug.{detach, unrealize}
use Rattle.qo_model.proofs.AmongLemmas.{among-all}
use Rattle.qo_model.proofs.ReleaseScopeLemmas.{unpin-leaves}
use Rattle.qo_model.proofs.ChangeScopeLemmas.{attempted_as-stays, changed-stays}
use Rattle.qo_model.proofs.ClockScopeLemmas.{write_at-stays}
use Rattle.qo_model.proofs.ClockPropertyLemmas.{write_at-cases}
use Rattle.qo_clocks.specs.Kept.{PeriodsKept}
use Rattle.qo_heap.specs.Acts.{counted_in, counts_of}
use Rattle.qo_heap.specs.Board.{Shows}
use Rattle.qo_heap.specs.Objects.{Objects, content_of, with_edit}
use Rattle.qo_heap.proofs.BoardReads.{shows-live}
use Rattle.qo_plug.specs.Admission.{IfRefused}
use Rattle.qo_plug.specs.Answers.{IsAdded, IsCut, IsRefused}
use Rattle.qo_plug.specs.Drafts.{CutShort}
use Rattle.qo_plug.specs.KeptClaims.{CountedOn, OthersOrNew}
use Rattle.qo_plug.specs.declared.adding.Added.{Added}
use Rattle.qo_plug.specs.declared.refusals.AddRefusal.{AddRefusal}
use Rattle.qo_plug.specs.declared.refusals.AddRefusal.TheVariants.{Refused, Memory}
use Rattle.qo_hotplug.specs.Hotplug.{Asked}
use Rattle.qo_properties.specs.Additions as properties
use Rattle.qo_properties.specs.KeptClaims.{CountsBefore, KeptBefore, KeptOrNew}
use Rattle.qo_properties.specs.Writes as writes
use Rattle.qo_properties.specs.declared.refusals.Refusal.{Refusal}
use Rattle.qo_properties.specs.declared.refusals.Refusal.TheVariants as object
use Rattle.qo_properties.proofs.KeptLemmas.{counts-before, counts-either, counts-there}
use Rattle.qo_reset.specs.Counts.{CountsKept, IsCounted}
use Rattle.qo_reset.specs.Phases.{count_on, post_by}
use Rattle.qo_reset.proofs.BoardLemmas.{shows-count}
use Rattle.qo_reset.proofs.EditLemmas.{counted-pair, edit-count, pair-counted}
use Rattle.qo_reset.proofs.WalkLemmas.{read-after}
use Rattle.qo_sound.proofs.DeviceScopeLemmas.{devices_stay_lem}
use Rattle.qo_sound.proofs.ViewLemmas.{rest-from_sound}
use Rattle.qo_sound_bounds.specs.SoundHolds.{SoundHolds}
use Rattle.qo_sound_bounds.proofs.ClockWriteLemmas.{Written, written-acts, written-none, written-numbers}
use Rattle.qo_sound_bounds.proofs.FeedLemmas.{added-placed}
use Rattle.qo_sound_bounds.specs.SoundSources.{SoundSources}
use Rattle.qo_sound_bounds.proofs.HoldsLemmas.{holds_kept_lem}
use Rattle.qo_sound_bounds.proofs.SourceLemmas.{beside-sources}
use Rattle.qo_sound_claims.proofs.StayLawLemmas.{refused-same}
use Rattle.qo_sound_clocks.specs.ClockRuns.{SoundRun}
use Rattle.qo_sound_clocks.proofs.StepsLemmas.{calls-kept, kept-scaled, kept-set}
use Rattle.qo_sound_clocks.proofs.WriteLawLemmas.{writes_keep_lem}
use Rattle.qo_sound_devices.specs.SoundDevices.{SoundDevices}
use Rattle.qo_sound_devices.specs.SoundPlaces.{stands}
use Rattle.qo_sound_devices.proofs.AdditionLemmas.{Joined, done}
use Rattle.qo_sound_devices.proofs.DevicesLawLemmas.{devices_kept_lem}
use Rattle.qo_sound_devices.proofs.PlugLemmas.{Accepted, after-plug}
use Rattle.qo_sound_devices.proofs.PlugStageLemmas.{accepted-joined}
use Rattle.qo_sound_phases.specs.SoundPhases.{IsReached}
use Rattle.qo_sound_phases.proofs.CommandLemmas.{frame, reached-on}
use Rattle.qo_sound_phases.proofs.DetachmentLemmas as detaching
use Rattle.qo_sound_phases.proofs.FrameLemmas.{Frame, dims-frame, dims-reached, frame-count}
use Rattle.qo_sound_phases.proofs.PlugLemmas.{back, reached-old}
use Rattle.qo_sound_phases.proofs.PlugLemmas as plugging
use Rattle.qo_sound_phases.proofs.ReachLemmas.{StaysReached, post-reached, reached-live, shape-reached}
use Rattle.qo_sound_phases.proofs.ResetTreeLemmas.{Placed, placed}
use Rattle.qo_sound_phases.proofs.ShapeLemmas.{shape-count, shape-records}
use Rattle.qo_sound_phases.proofs.UnrealizingLemmas.{unrealize-all_holds}
use Rattle.qo_unplug.specs.Feeding.{MayDetach}
use Rattle.qo_unplug.specs.Unparenting.{taken_within}
use Rattle.qo_unplug.specs.Unrealizing.{KeepsHeld}
use Rattle.qo_unplug.proofs.ScopeLemmas.{takes-taken_within}
use Rattle.qo_values.proofs.ListLemmas.{all-imply}
use Rattle.qo_realize.proofs.SoundRunLemmas.{alike-run}

-- what has holds on it or above it is reached

abbrev one_if : Bool → ℕ
one_if t = cond {A = ℕ} t 1 0

one-or-none : (P : ℕ → Type 0) (f : ℕ → Bool) (rs : List ℕ) → AllByRecursion P rs → (count_by f rs ≡ 0) ⊎ ((r : ℕ) × P r × (f r ≡ true))
one-or-none P f [] h = inl refl
one-or-none P f (r ∷ rs) h = by (f r) refl (one-or-none P f rs h.1)
  where
    by : (t : Bool) → f r ≡ t → (count_by f rs ≡ 0) ⊎ ((x : ℕ) × P x × (f x ≡ true)) → (count_by f (r ∷ rs) ≡ 0) ⊎ ((x : ℕ) × P x × (f x ≡ true))
    by true p rest = inr (r, h.0, p)
    by false p (inl none) =
        let zero : one_if (f r) ≡ 0 = ap one_if p in
        inl (omega (arith, zero, none, sum_by-cons (λ (y : ℕ). one_if (f y)) r rs))
    by false p (inr one) = inr one

reached-or-none : (b : Board) → Placed b → AllByRecursion (IsReached b) b.holds → (n : ℕ) → (count b n ≡ 0) ⊎ IsReached b n
reached-or-none b k on n = by (one-or-none (IsReached b) (λ (r : ℕ). among (post b r) n) b.holds on)
  where
    by : (count b n ≡ 0) ⊎ ((r : ℕ) × IsReached b r × (among (post b r) n ≡ true)) → (count b n ≡ 0) ⊎ IsReached b n
    by (inl none) = inl none
    by (inr one) = inr (post-reached b k one.0 n one.1 one.2)

unborn-none : (b : Board) → Placed b → AllByRecursion (IsReached b) b.holds → (n : ℕ) → is_live b n ≡ false → count b n ≡ 0
unborn-none b k on n gone = by (reached-or-none b k on n)
  where
    by : (count b n ≡ 0) ⊎ IsReached b n → count b n ≡ 0
    by (inl none) = none
    by (inr i) = absurd (let clash : true ≡ false = sym (reached-live b k n i) ∙ gone in cc)

-- as many holds are on each object and above it

abbrev pub SameCounts : Board → Board → Type 0
SameCounts b c = (n : ℕ) → count c n ≡ count b n

frame-counts : (b c : Board) → Placed b → Placed c → Frame b c → StaysReached b c → c.holds ≡ b.holds → AllByRecursion (IsReached b) b.holds
    → AllByRecursion (IsReached c) c.holds → SameCounts b c
frame-counts b c kb kc f stay holds onb onc n = by (reached-or-none c kc onc n) (reached-or-none b kb onb n)
  where
    by : (count c n ≡ 0) ⊎ IsReached c n → (count b n ≡ 0) ⊎ IsReached b n → count c n ≡ count b n
    by (inr i) old = frame-count b c kb kc f n i holds
    by (inl none) (inl zero) = none ∙ sym zero
    by (inl none) (inr i) = frame-count b c kb kc f n (stay n i) holds

pub records-counts : (b c : Board) → c.records ≡ b.records → c.holds ≡ b.holds → SameCounts b c
records-counts b c records holds n = shape-count b c (shape-records b c records) holds n

-- a change of objects by command, and a write of a property
change-counts : (b : Board) (change : Change) → SoundDevices b → SoundHolds b → SameCounts b (changed b change)
change-counts b change d h =
    frame-counts b (changed b change) (placed b d) (placed (changed b change) (devices_kept_lem.change b change d)) (frame b change d) (reached-on b change d)
    (changed-stays b change).holds h.on (holds_kept_lem.change b change d h).on

written-counts : (b c : Board) → SoundDevices b → SoundDevices c → Written b c → SoundHolds b → SoundHolds c → SameCounts b c
written-counts b c d g w h k = frame-counts b c (placed b d) (placed c g) (dims-frame b c w.dims) (dims-reached b c w.dims) w.holds h.on k.on

set-counts : (b d : Board) (c period : ℕ) → clock_set b c period ≡ Ok d → SoundDevices b → SoundHolds b → SameCounts b d
set-counts b d c period e s h =
    written-counts b d s (writes_keep_lem.set_devices b d c period e s)
    (kept-set (Written b) (calls-kept (Written b) (written-acts b)) (written-numbers b) b d c period e (written-none b)) h
    (holds_kept_lem.set b d c period e s h)

scaled-counts : (b d : Board) (c mul div : ℕ) → clock_scaled b c mul div ≡ Ok d → SoundDevices b → SoundHolds b → SameCounts b d
scaled-counts b d c mul div e s h =
    written-counts b d s (writes_keep_lem.scaled_devices b d c mul div e s)
    (kept-scaled (Written b) (calls-kept (Written b) (written-acts b)) (written-numbers b) b d c mul div e (written-none b)) h
    (holds_kept_lem.scaled b d c mul div e s h)

write-counts_board : (b d : Board) (path name : List ℕ) (val : Val) → write_at b path name val ≡ Ok d → SoundDevices b → SoundHolds b → SameCounts b d
write-counts_board b d path name val is s h =
    write_at-cases (SameCounts b d) b d
    (λ n name v q. subst (SameCounts b) (ap (after_write b) q) (change-counts b (wrote n name v) s h))
    (λ c period fits q. set-counts b d c period q s h)
    (λ c mul fits q. scaled-counts b d c mul (div_of b c) q s h)
    (λ c div fits q. scaled-counts b d c (mul_of b c) div q s h)
    path name val is

-- an attempt at an object
attempted-counts : (b : Board) (driver id : List ℕ) → SameCounts b (attempted_as b driver id)
attempted-counts b driver id = by (barred_by b driver id) (type_named driver)
  where
    by : (bar : Option Code) (row : Option TypeInfo)
        → SameCounts b (elim bar as (λ o. Board) [ Some code ↦ b | None ↦ option_map_or (λ (row : TypeInfo). with_attempt b row.id) row b ])
    by (Some code) row = λ n. refl
    by None None = λ n. refl
    by None (Some row) = records-counts b (with_attempt b row.id) refl refl

-- a device that is refused
module _ (b : Board) (a : Wanted) where
  refused-counts : (r : ℕ × Code) → (plug b a).refusal ≡ Some r → SameCounts b (plug b a).board
  refused-counts r e = records-counts b (plug b a).board (refused-same b a r e) (devices_stay_lem.refused b a r e).stays.holds

-- a device that is added: as many on each object that is neither it nor below it
abbrev OthersSame : Board → Board → Type 0
OthersSame b c = (n : ℕ) → among (post c (b.born + 1)) n ≡ false → count c n ≡ count b n

module _ (b : Board) (a : Wanted) (w : SoundDevices b) (h : SoundHolds b) where
  module _ (t : TypeId) (at : ℕ) (k : Accepted b t at a) where
    abbrev c : Board
    c = with_plugged b t a (resources_of b t at a.props)

    abbrev kb : Placed b
    kb = record { depth = w.places.0; places = w.places.1; firm = (rest-from_sound b w.tree).used.firm }

    j : Joined kb.depth b (b.born + 1) at (resources_of b t at a.props).slot a.id t (done b at (resources_of b t at a.props).slot a.id)
        (with_plugged b t a (resources_of b t at a.props))
    j = accepted-joined w.places.0 b a (rest-from_sound b w.tree) w.places.1 t at k

    kc : Placed (with_plugged b t a (resources_of b t at a.props))
    kc = added-placed b a w t at k

    holds : (with_plugged b t a (resources_of b t at a.props)).holds ≡ b.holds
    holds = (devices_stay_lem.added b t a (resources_of b t at a.props)).holds

    -- who was reached has as many
    old-count : (o : ℕ) → IsReached b o → count (with_plugged b t a (resources_of b t at a.props)) o ≡ count b o
    old-count o i =
        sym (frame-count c b kc kb (back b kb (b.born + 1) at (resources_of b t at a.props).slot a.id t c kc j) o i (sym holds))

    on : AllByRecursion (IsReached (with_plugged b t a (resources_of b t at a.props))) (with_plugged b t a (resources_of b t at a.props)).holds
    on =
        subst (AllByRecursion (IsReached c)) (sym holds)
        (all-imply (IsReached b) (IsReached c) (plugging.reached-on b kb (b.born + 1) at (resources_of b t at a.props).slot a.id t c kc j) b.holds h.on)

    accepted-others : OthersSame b (with_plugged b t a (resources_of b t at a.props))
    accepted-others n apart = by (reached-or-none c kc on n) (reached-or-none b kb h.on n)
      where
        by : (count c n ≡ 0) ⊎ IsReached c n → (count b n ≡ 0) ⊎ IsReached b n → count c n ≡ count b n
        by (inr i) old = old-count n (reached-old b kb (b.born + 1) at (resources_of b t at a.props).slot a.id t c kc j n i apart)
        by (inl none) (inl zero) = none ∙ sym zero
        by (inl none) (inr i) = old-count n i

  plug-others : OthersSame b (plug b a).board
  plug-others =
      after-plug (OthersSame b) b a (λ n apart. refl)
      (λ t bus stage. λ n apart. records-counts b (plug_attempt b t bus stage) refl refl n) (λ t bus k. accepted-others t bus k)

-- what is kept on a heap, as on the boards that it shows

not-there : (o : Option Content) → option_map counts_of o ≡ None → is_some o ≡ false
not-there None e = refl
not-there (Some c) e = absurd (let clash : Some (counts_of c) ≡ None = e in cc)

module _ (b c : Board) (v w : Objects) (old new : List ℕ) (s : Shows b v) (held : b.holds ≡ old) (t : Shows c w) (holds : c.holds ≡ new)
    (d : SoundDevices b) (on : SoundHolds b) (kept : CountsKept old v) where
  -- of who was there as much is kept as before, of who is new nothing
  before-pair : (n : ℕ) (k : ℕ × ℕ) → count c n ≡ count b n → (counted_in v n ≡ Some k) ⊎ ((counted_in v n ≡ None) × (k ≡ (0, 0)))
      → k ≡ (count_on w new n, 0)
  before-pair n k same (inl was) =
      counted-pair v old n k (kept n) was ∙ ap (λ (j : ℕ). (j, 0)) (sym (shows-count b v s old held n) ∙ sym same ∙ shows-count c w t new holds n)
  before-pair n k same (inr unborn) =
      let gone : is_live b n ≡ false = shows-live b v s n ∙ not-there (content_of v n) unborn.0 in
      let none : count b n ≡ 0 = unborn-none b (placed b d) on.on n gone in
      unborn.1 ∙ ap (λ (j : ℕ). (j, 0)) (sym none ∙ sym same ∙ shows-count c w t new holds n)

  pub new-counts : SameCounts b c → KeptOrNew v w → CountsKept new w
  new-counts same either n x there = pair-counted w new n each x there
    where
      each : (k : ℕ × ℕ) → counted_in w n ≡ Some k → k ≡ (count_on w new n, 0)
      each k e = let y = counts-there (content_of w n) k e in before-pair n k (same n) (counts-either v n k y.0 y.2 (either n y.0 y.1))

  pub step-counts : SameCounts b c → CountsBefore v w → CountsKept new w
  step-counts same before n x there = pair-counted w new n (λ k e. before-pair n k (same n) (inl (before n k e))) x there

  -- a device was added
  added-counts : (one : ℕ) → ((n : ℕ) → among (post c one) n ≡ false → count c n ≡ count b n) → CountedOn c one w → OthersOrNew c one v w → CountsKept new w
  added-counts one same counted others n x there = pair-counted w new n (λ k e. by k e (among (post c one) n) refl) x there
    where
      by : (k : ℕ × ℕ) → counted_in w n ≡ Some k → (u : Bool) → among (post c one) n ≡ u → k ≡ (count_on w new n, 0)
      by k e true p = counted n k e p ∙ ap (λ (j : ℕ). (j, 0)) (shows-count c w t new holds n)
      by k e false p = before-pair n k (same n p) (others n k e p)

-- rows alone are read
pub rows-counts : (holds : List ℕ) (v w : Objects) → w.rows ≡ v.rows → CountsKept holds v → CountsKept holds w
unfolding count_on post_by
rows-counts holds v w same kept n c there =
    let its : IsCounted (record v { rows = w.rows }) holds n c =
    subst (λ (rows : List (Key × Content)). CountsKept holds (record v { rows = rows })) (sym same) kept n c there in
    record { count = its.count; unmarked = its.unmarked }

pub same-counts : (old new : List ℕ) (v w : Objects) → w ≡ v → new ≡ old → CountsKept old v → CountsKept new w
same-counts old new v w same holds kept = subst (λ (x : Objects). CountsKept new x) (sym same) (subst (λ (l : List ℕ). CountsKept l v) (sym holds) kept)

-- the calls

pub changed-counts : (b : Board) (change : Change) (holds : List ℕ) (v w : Objects) → SoundDevices b → SoundHolds b → Shows b v → b.holds ≡ holds
    → Shows (changed b change) w → KeptBefore v w → CountsKept holds v → CountsKept holds w
changed-counts b change holds v w d h s held t before kept =
    step-counts b (changed b change) v w holds holds s held t ((changed-stays b change).holds ∙ held) d h kept (change-counts b change d h)
    (counts-before v w before)

pub add-counts : (b : Board) (driver id : List ℕ) (props : List Given) (result : Result (Unit {0}) Refusal) (holds : List ℕ) (v w : Objects) → SoundDevices b
    → SoundHolds b → Shows b v → b.holds ≡ holds → properties.Adds b driver id props result w → KeptOrNew v w → CountsKept holds v → CountsKept holds w
add-counts b driver id props (Ok u) holds v w d h s held told before kept =
    new-counts b (object_add b driver id props).board v w holds holds s held told.1 ((changed-stays b (added driver id props)).holds ∙ held) d h kept
    (change-counts b (added driver id props) d h) before
add-counts b driver id props (Err (object.Refused code)) holds v w d h s held told before kept =
    new-counts b (object_add b driver id props).board v w holds holds s held told.1 ((changed-stays b (added driver id props)).holds ∙ held) d h kept
    (change-counts b (added driver id props) d h) before
add-counts b driver id props (Err object.Memory) holds v w d h s held (inl shows) before kept =
    new-counts b b v w holds holds s held shows held d h kept (λ n. refl) before
add-counts b driver id props (Err object.Memory) holds v w d h s held (inr shows) before kept =
    new-counts b (attempted_as b driver id) v w holds holds s held shows ((attempted_as-stays b driver id).holds ∙ held) d h kept
    (attempted-counts b driver id) before

pub write-counts : (b : Board) (path name : List ℕ) (val : Val) (result : Result (Unit {0}) Refusal) (holds : List ℕ) (v w : Objects) → SoundDevices b
    → SoundHolds b → Shows b v → b.holds ≡ holds → writes.Writes w result (write_at b path name val) → OnErr result (w ≡ v) → CountsBefore v w
    → CountsKept holds v → CountsKept holds w
write-counts b path name val (Ok u) holds v w d h s held (c, is, t) same before kept =
    step-counts b c v w holds holds s held t ((write_at-stays b c path name val is).holds ∙ held) d h kept (write-counts_board b c path name val is d h) before
write-counts b path name val (Err e) holds v w d h s held told same before kept = same-counts holds holds v w same refl kept

-- a device is added, or not
pub plug-counts : (b : Board) (a : Wanted) (x : Added) (asked : Asked) (holds : List ℕ) (v w : Objects) → SoundDevices b → SoundHolds b → Shows b v
    → b.holds ≡ holds → IsAdded b a x asked w → CountedOn (plug b a).board x.birth w × OthersOrNew (plug b a).board x.birth v w → CountsKept holds v
    → CountsKept holds w
plug-counts b a x asked holds v w d h s held came counts kept =
    added-counts b (plug b a).board v w holds holds s held came.shown ((devices_stay_lem.plugged b a).holds ∙ held) d h kept x.birth
    (λ n apart. plug-others b a d h n (ap (λ (m : ℕ). among (post (plug b a).board m) n) (sym came.birth) ∙ apart)) counts.0 counts.1

pub late-counts : (b : Board) (a : Wanted) (stage : ℕ) (code : Code) (holds : List ℕ) (v w : Objects) → SoundDevices b → SoundHolds b → Shows b v
    → b.holds ≡ holds → IsRefused b a stage code w → KeptOrNew v w → CountsKept holds v → CountsKept holds w
late-counts b a stage code holds v w d h s held refused before kept =
    new-counts b (plug b a).board v w holds holds s held refused.shown ((devices_stay_lem.plugged b a).holds ∙ held) d h kept
    (refused-counts b a (stage, code) refused.refusal) before

pub barred-counts : (T : Type 0) (b : Board) (a : Wanted) (e : AddRefusal) (holds : List ℕ) (v w : Objects) → SoundDevices b → SoundHolds b → Shows b v
    → b.holds ≡ holds → IfRefused {T = T} (Err e) (λ stage code. IsRefused b a stage code w) → (e ≡ Memory → IsCut b a w) → KeptOrNew v w
    → CountsKept holds v → CountsKept holds w
barred-counts T b a (Refused stage code) holds v w d h s held refused cut before kept = late-counts b a stage code holds v w d h s held refused before kept
barred-counts T b a Memory holds v w d h s held refused cut before kept = by (cut refl)
  where
    left : (c : Board) → Shows c w → c.records ≡ b.records → c.holds ≡ b.holds → CountsKept holds w
    left c shows records stay = new-counts b c v w holds holds s held shows (stay ∙ held) d h kept (records-counts b c records stay) before

    short : (t : TypeId) → CutShort b t w → CountsKept holds w
    short t (inl shows) = left b shows refl refl
    short t (inr (i, joined, low, high, shows)) = left (cut_attempt b t i joined) shows refl refl

    by : IsCut b a w → CountsKept holds w
    by (inl shows) = left b shows refl refl
    by (inr (t, named, unbarred, early, short_of)) = short t short_of

pub given_up-counts : (b : Board) (t : TypeId) (bus : ℕ) (holds : List ℕ) (v w : Objects) → SoundDevices b → SoundHolds b → Shows b v → b.holds ≡ holds
    → Shows (plug_attempt b t bus 4) w → KeptOrNew v w → CountsKept holds v → CountsKept holds w
given_up-counts b t bus holds v w d h s held t_shows before kept =
    new-counts b (plug_attempt b t bus 4) v w holds holds s held t_shows held d h kept (records-counts b (plug_attempt b t bus 4) refl refl) before

-- a body was written
pub body-counts : (n : ℕ) (body : Body) (holds : List ℕ) (v : Objects) → CountsKept holds v
    → CountsKept holds (with_edit n (λ (c : Content). record c { body = body }) v)
body-counts n body holds v kept m d there =
    pair-counted (with_edit n put v) holds m
    (λ k e.
    counted-pair v holds m k (kept m) (sym (read-after counts_of n put (λ c. refl) v m) ∙ e)
    ∙ ap (λ (j : ℕ). (j, 0)) (sym (edit-count n put (λ c. refl) (λ c. refl) v holds m)))
    d there
  where
    put : Content → Content
    put = λ c. record c { body = body }

-- a device is detached, with all that is below it

-- the board with other holds
abbrev with_holds : List ℕ → Board → Board
with_holds hs b = record b { holds = hs }

sees : (hs : List ℕ) (b : Board) (v : Objects) → Shows b v → Shows (with_holds hs b) v
sees hs b v s = record { records = s.records; born = s.born; pins = s.pins; notes = s.notes; events = s.events; now = s.now }

run-with : (hs : List ℕ) (b : Board) → SoundRun b → SoundRun (with_holds hs b)
run-with hs b run = alike-run b (with_holds hs b) refl refl refl refl refl refl (omega arith) run

-- a detachment leaves no holds but some of those that were
left-holds : (P : ℕ → Type 0) (b : Board) (d : ℕ) → AllByRecursion P b.holds → AllByRecursion P (detach b d).holds
unfolding detach taken_within pin
left-holds P b d all =
    let levels : ℕ = length (births b) in
    let u : Board = unrealize (pin b d) d in
    subst (AllByRecursion P) (sym ((unpin-leaves (taken_within levels d u) d).holds ∙ (takes-taken_within levels d u).holds))
    (unrealize-all_holds P (pin b d) d all)

-- where some of the numbers that are all n is counted, n is among them
one-among : (f : ℕ → Bool) (n : ℕ) (rs : List ℕ) → AllByRecursion (λ (r : ℕ). r ≡ n) rs → count_by f rs ≡ 1 → among rs n ≡ true
one-among f n [] all e = absurd (let clash : 0 ≡ 1 = e in omega (arith, clash))
one-among f n (r ∷ rs) all e = rw (all.0, eq-eqb n n refl) refl

-- an object is below itself
below-itself : (b : Board) (n : ℕ) → among (post b n) n ≡ true
unfolding post
below-itself b n = last (flat_map (by_depth (post_turn b) (λ _. []) (length (births b))) (below b n))
  where
    last : (xs : List ℕ) → among (xs ++ n ∷ []) n ≡ true
    last [] = rw (eq-eqb n n refl) refl
    last (x ∷ xs) = go (eqb n x) (last xs)
      where
        go : (t : Bool) → among (xs ++ n ∷ []) n ≡ true → (t || among (xs ++ n ∷ []) n) ≡ true
        go true q = refl
        go false q = q

module _ (b : Board) (d : ℕ) (old new : List ℕ) (v w : Objects) (run : SoundRun b) (on : SoundHolds b) (there : stands b d ≡ true)
    (sources : SoundSources b) (periods : PeriodsKept v) (s : Shows b v)
    (held : b.holds ≡ old) (t : Shows (detach b d) w) (holds : (detach b d).holds ≡ new)
    (seen : (x : Board) → MayDetach x d v → Shows x v → Shows (detach x d) w)
    (keeps : (x : Board) → MayDetach x d v → Shows x v → (n : ℕ) (was : ℕ × ℕ) → KeepsHeld n was x v → KeepsHeld n was (detach x d) w)
    (kept : CountsKept old v) where
  abbrev after : Board
  after = detach b d

  -- the board with one hold, on n alone
  abbrev one : ℕ → Board
  one n = with_holds (n ∷ []) b

  one-run : (n : ℕ) → SoundRun (with_holds (n ∷ []) b)
  one-run n = run-with (n ∷ []) b run

  one-may : (n : ℕ) → MayDetach (with_holds (n ∷ []) b) d v
  one-may n =
      record {
        devices = (one-run n).devices;
        clocks = (one-run n).clocks;
        sources = beside-sources b (with_holds (n ∷ []) b) refl sources;
        stood = there;
        kept = periods;
      }

  one-seen : (n : ℕ) → Shows (detach (with_holds (n ∷ []) b) d) w
  one-seen n = seen (one n) (one-may n) (sees (n ∷ []) b v s)

  same-records : (n : ℕ) → (detach (with_holds (n ∷ []) b) d).records ≡ (detach b d).records
  same-records n = (one-seen n).records ∙ sym t.records

  devices : SoundDevices (detach b d)
  devices = devices_kept_lem.detached b d run.devices there

  from-one : (n : ℕ) → IsReached (detach (with_holds (n ∷ []) b) d) n → IsReached (detach b d) n
  from-one n i = shape-reached (detach (one n) d) after (shape-records (detach (one n) d) after (sym (same-records n))) n i

  to-one : (n : ℕ) → IsReached (detach b d) n → IsReached (detach (with_holds (n ∷ []) b) d) n
  to-one n i = shape-reached after (detach (one n) d) (shape-records after (detach (one n) d) (same-records n)) n i

  -- a hold on what is still reached stays
  hold-stays : (n : ℕ) → IsReached (detach b d) n → among (detach (with_holds (n ∷ []) b) d).holds n ≡ true
  hold-stays n i =
      let f : ℕ → Bool = λ r. among (post (detach (one n) d) r) n in
      let counted : count (detach (one n) d) n ≡ count (one n) n = detaching.counts (one n) d (one-run n).devices there n (to-one n i) in
      let below : among (post (one n) n) n ≡ true = below-itself (one n) n in
      let single : count (one n) n ≡ 1 = sum_by-cons (λ (r : ℕ). one_if (among (post (one n) r) n)) n [] ∙ ap (λ (u : Bool). one_if u + 0) below in
      one-among f n (detach (one n) d).holds (left-holds (λ (r : ℕ). r ≡ n) (one n) d (refl, tt)) (counted ∙ single)

  -- and one that stays was on what is still reached
  reached-still : (n : ℕ) → among (detach (with_holds (n ∷ []) b) d).holds n ≡ true → IsReached b n → IsReached (detach b d) n
  reached-still n stays i =
      let first : IsReached (one n) n = shape-reached b (one n) (shape-records b (one n) refl) n i in
      from-one n (among-all (IsReached (detach (one n) d)) (detach (one n) d).holds (detaching.holds-left (one n) d (one-run n).devices there (first, tt)) n stays)

  still-on : AllByRecursion (IsReached (detach b d)) (detach b d).holds
  still-on = detaching.holds-left b d run.devices there on.on

  pair : (n : ℕ) (k : ℕ × ℕ) → (u : Bool) → among (detach (with_holds (n ∷ []) b) d).holds n ≡ u → k ≡ cond u (count b n, 0) (0, 0)
      → k ≡ (count (detach b d) n, 0)
  pair n k u e is = by (reached-or-none after (placed after devices) still-on n) (reached-or-none b (placed b run.devices) on.on n) u e is
    where
      same : IsReached (detach b d) n → count (detach b d) n ≡ count b n
      same i = detaching.counts b d run.devices there n i

      by : (count (detach b d) n ≡ 0) ⊎ IsReached (detach b d) n → (count b n ≡ 0) ⊎ IsReached b n → (u : Bool)
          → among (detach (with_holds (n ∷ []) b) d).holds n ≡ u → k ≡ cond u (count b n, 0) (0, 0) → k ≡ (count (detach b d) n, 0)
      by (inr i) before true e is = is ∙ ap (λ (j : ℕ). (j, 0)) (sym (same i))
      by (inr i) before false e is = absurd (let clash : true ≡ false = sym (hold-stays n i) ∙ e in cc)
      by (inl none) before false e is = is ∙ ap (λ (j : ℕ). (j, 0)) (sym none)
      by (inl none) (inl zero) true e is = is ∙ ap (λ (j : ℕ). (j, 0)) (zero ∙ sym none)
      by (inl none) (inr i) true e is = is ∙ ap (λ (j : ℕ). (j, 0)) (sym (same (reached-still n e i)))

  pub detached-counts : CountsKept new w
  detached-counts n c at =
      pair-counted w new n
      (λ k e.
      pair n k (among (detach (with_holds (n ∷ []) b) d).holds n) refl
      (keeps (one n) (one-may n) (sees (n ∷ []) b v s) n (count b n, 0)
      (λ j f. counted-pair v old n j (kept n) f ∙ ap (λ (m : ℕ). (m, 0)) (sym (shows-count b v s old held n)) ∙ sym (ap (λ (u : Bool). cond u (count b n, 0) (0, 0))
      (alone n))) k e)
      ∙ ap (λ (j : ℕ). (j, 0)) (shows-count after w t new holds n))
      c at
    where
      alone : (n : ℕ) → among (n ∷ []) n ≡ true
      alone n = rw (eq-eqb n n refl) refl
