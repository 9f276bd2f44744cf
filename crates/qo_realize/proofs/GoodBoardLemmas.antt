-- The board that stands is sound after each call.
use Rattle.std.proofs.Common.{◌≡◌, ◌≤◌, ◌<◌, ◌^◌, arith, refl, ap, sym, subst, ◌∙◌, ℕ, Bool, true, false, List, [], ◌∷◌, codes, Option, None, Some, Ok, is_some, if◌then◌else◌}
use Rattle.std.specs.Option.{option_map_or}
use Rattle.qo_values.specs.Registers.{Effect, Registers, bare}
use Rattle.qo_values.specs.declared.codes.Code.{Code}
use Rattle.qo_values.specs.declared.kinds.ResetKind.{ResetKind}
use Rattle.qo_values.specs.declared.kinds.ResetKind.TheVariants.{Cold}
use Rattle.qo_values.specs.declared.kinds.TypeId.{TypeId}
use Rattle.qo_values.specs.declared.limits.TheConstants.{TIME_MAX}
use Rattle.qo_buses.specs.Rings.{claimed_ring}
use Rattle.qo_model.specs.Board.{Board, Record, Ring, is_pending, record_of}
use Rattle.qo_model.specs.ClockChanges.{clock_scaled, clock_set}
use Rattle.qo_model.specs.Clocks.{device_period}
use Rattle.qo_model.specs.FinalNotesRuns.{Change, changed}
use Rattle.qo_model.specs.Hotplug.{asked, completed, refused, reset_whole}
use Rattle.qo_model.specs.Objects.{attempted_as, barred_by, with_attempt}
use Rattle.qo_model.specs.Opening.{opening_board}
use Rattle.qo_model.specs.Paths.{attached, is_of}
use Rattle.qo_model.specs.Plug.{Wanted, barred_early, cut_attempt, objects_in, plug, plug_attempt, type_barred}
use Rattle.qo_model.specs.Reset.{after_hold, exceeds_depth, pulse, released}
use Rattle.qo_model.specs.SoundGraph.{graph_of}
use Rattle.qo_model.specs.Types.{TypeInfo, type_named}
use Rattle.qo_sound_devices.proofs.DevicesLawLemmas.{removal-all}
use Rattle.qo_plug.specs.Cuts.{cut_as, cut_of, cut_open}
use Rattle.qo_plug.proofs.PlugSteps.{cut-whole}
use Rattle.qo_properties.specs.Pins.{OnlyRootPinned}
use Rattle.qo_sound_bounds.specs.SoundSegments.{IsSegmented, SoundSegments}
use Rattle.qo_sound_bounds.proofs.BoundsLemmas.{bounds_kept_lem}
use Rattle.qo_sound_bounds.proofs.HoldsLemmas.{holds_kept_lem}
use Rattle.qo_sound_bounds.proofs.SegmentsLawLemmas.{segments_kept_lem}
use Rattle.qo_sound_bounds.proofs.SourcesLawLemmas.{sources_kept_lem}
use Rattle.qo_sound_claims.specs.SoundBackends.{SoundBackends}
use Rattle.qo_sound_claims.proofs.LawLemmas.{claims_kept_lem}
use Rattle.qo_sound_clocks.specs.ClockRuns.{SoundRun}
use Rattle.qo_sound_clocks.specs.RegisterWrites.{registers_set}
use Rattle.qo_sound_devices.specs.SoundLists.{IsOn}
use Rattle.qo_sound_devices.specs.SoundPlaces.{stands}
use Rattle.qo_sound_shapes.proofs.OwnersLawLemmas.{owners_kept_lem}
use Rattle.qo_sound_shapes.specs.SoundShape.{is_like}
use Rattle.qo_sound_shapes.proofs.LawLemmas.{shapes_kept_lem}
use Rattle.qo_realize.specs.Chardevs.{with_rings}
use Rattle.qo_realize.specs.Guest.{polled}
use Rattle.qo_realize.specs.Parts.{Parts}
use Rattle.qo_realize.specs.Registers.{guest_written, pushed, registers_at, registers_written}
use Rattle.qo_realize.specs.Representation.{Stands, StandsForGood}
use Rattle.qo_realize.specs.SoundBoard.{SoundBoard}
use Rattle.qo_realize.specs.Time.{at_time, with_running}
use Rattle.qo_realize.proofs.RegisterWriteLemmas.{written-all}
use Rattle.qo_realize.proofs.RingLemmas.{gained_backends, registers_backends}
use Rattle.qo_realize.proofs.SoundRunLemmas.{added-run, alike-run, asked-run, attempt-run, changed-run, cleared-run, completed-run, cut-run, held-run, opening-run, polled-run, pulsed-run, refused-run, registers-run, registers-timely, released-run, reset-run, ringed-run, scaled-run, set-run, switched-run, timed-run}

le-of-eq : {m n : ℕ} → m ≡ n → m ≤ n
le-of-eq {m} e = subst (λ (n : ℕ). m ≤ n) e (omega arith)

-- what changes no object, no ring and no hold, and comes to no later time than there may be
pub beside-good : (b c : Board) → c.records ≡ b.records → c.rings ≡ b.rings → c.holds ≡ b.holds → c.now ≤ TIME_MAX → SoundRun c → SoundBoard b → SoundBoard c
beside-good b c records rings holds low run h =
    record {
      run = run;
      shape = shapes_kept_lem.beside b c records h.shape;
      owners = owners_kept_lem.beside b c records h.owners;
      sources = sources_kept_lem.beside b c records h.sources;
      segments = segments_kept_lem.beside b c records h.segments;
      backends = claims_kept_lem.beside b c records rings h.backends;
      holds = holds_kept_lem.beside b c records holds h.holds;
      bounds = bounds_kept_lem.beside b c records low h.bounds;
    }

-- the beginning
pub opening-good : SoundBoard opening_board
opening-good =
    record {
      run = opening-run;
      shape = shapes_kept_lem.opening;
      owners = owners_kept_lem.opening;
      sources = sources_kept_lem.opening;
      segments = segments_kept_lem.opening;
      backends = claims_kept_lem.opening;
      holds = holds_kept_lem.opening;
      bounds = bounds_kept_lem.opening;
    }

-- each change by command on objects
pub changed-good : (b : Board) (change : Change) → SoundBoard b → SoundBoard (changed b change)
changed-good b change h =
    record {
      run = changed-run b change h.run;
      shape = shapes_kept_lem.change b change h.run.devices h.shape;
      owners = owners_kept_lem.change b change h.run.devices h.owners;
      sources = sources_kept_lem.change b change h.run.devices h.sources;
      segments = segments_kept_lem.change b change h.run.times h.segments;
      backends = claims_kept_lem.change b change h.run.devices h.backends;
      holds = holds_kept_lem.change b change h.run.devices h.holds;
      bounds = bounds_kept_lem.change b change h.bounds;
    }

-- an attempt to make a user's object
pub attempt-good : (b : Board) (t : TypeId) → SoundBoard b → SoundBoard (with_attempt b t)
attempt-good b t h = beside-good b (with_attempt b t) refl refl refl h.bounds.time (attempt-run b t h.run) h

pub attempted-good : (b : Board) (driver id : List ℕ) → SoundBoard b → SoundBoard (attempted_as b driver id)
attempted-good b driver id good = by (barred_by b driver id) (type_named driver)
  where
    by : (bar : Option Code) (row : Option TypeInfo)
        → SoundBoard (elim bar as (λ o. Board) [ Some code ↦ b | None ↦ option_map_or (λ (row : TypeInfo). with_attempt b row.id) row b ])
    by (Some code) row = good
    by None None = good
    by None (Some row) = attempt-good b row.id good

-- a clock is written, by numbers as wide as its properties, and is not refused
pub set-good : (b d : Board) (c period : ℕ) → period < 2 ^ 64 → clock_set b c period ≡ Ok d → SoundBoard b → SoundBoard d
set-good b d c period fits is h =
    record {
      run = set-run b d c period fits is h.run;
      shape = shapes_kept_lem.set b d c period fits is h.shape;
      owners = owners_kept_lem.set b d c period is h.owners;
      sources = sources_kept_lem.set b d c period is h.run.devices h.sources;
      segments = segments_kept_lem.set b d c period is h.run.times h.segments;
      backends = claims_kept_lem.set b d c period is h.run.devices h.backends;
      holds = holds_kept_lem.set b d c period is h.run.devices h.holds;
      bounds = bounds_kept_lem.set b d c period is h.bounds;
    }

pub scaled-good : (b d : Board) (c mul div : ℕ) → mul < 2 ^ 32 → div < 2 ^ 32 → clock_scaled b c mul div ≡ Ok d → SoundBoard b → SoundBoard d
scaled-good b d c mul div narrow thin is h =
    record {
      run = scaled-run b d c mul div narrow thin is h.run;
      shape = shapes_kept_lem.scaled b d c mul div narrow thin is h.shape;
      owners = owners_kept_lem.scaled b d c mul div is h.owners;
      sources = sources_kept_lem.scaled b d c mul div is h.run.devices h.sources;
      segments = segments_kept_lem.scaled b d c mul div is h.run.times h.segments;
      backends = claims_kept_lem.scaled b d c mul div is h.run.devices h.backends;
      holds = holds_kept_lem.scaled b d c mul div is h.run.devices h.holds;
      bounds = bounds_kept_lem.scaled b d c mul div is h.bounds;
    }

-- the events are no matter to it
pub cleared-good : (b : Board) → SoundBoard b → SoundBoard (record b { events = [] })
cleared-good b h = beside-good b (record b { events = [] }) refl refl refl h.bounds.time (cleared-run b h.run) h

-- a removal that is asked for, or refused, and a notice that is taken
pub asked-good : (b : Board) (id : List ℕ) → SoundBoard b → SoundBoard (asked b id).board
asked-good b id h =
    record {
      run = asked-run b id h.run;
      shape = shapes_kept_lem.asked_for b id h.shape;
      owners = owners_kept_lem.asked_for b id h.owners;
      sources = sources_kept_lem.asked_for b id h.sources;
      segments = segments_kept_lem.asked_for b id h.segments;
      backends = claims_kept_lem.asked_for b id h.backends;
      holds = holds_kept_lem.asked_for b id h.holds;
      bounds = bounds_kept_lem.asked_for b id h.bounds;
    }

pub refused-good : (b : Board) (n : ℕ) → SoundBoard b → SoundBoard (refused b n)
refused-good b n h = beside-good b (refused b n) refl refl refl h.bounds.time (refused-run b n h.run) h

pub polled-good : (b : Board) → SoundBoard b → SoundBoard (polled b)
polled-good b h = beside-good b (polled b) refl refl refl h.bounds.time (polled-run b h.run) h

-- time that goes on, and a machine that runs or stands still
pub timed-good : (b : Board) (now : ℕ) → b.now ≤ now → now ≤ TIME_MAX → SoundBoard b → SoundBoard (at_time now b)
timed-good b now on low h = beside-good b (at_time now b) refl refl refl low (timed-run b now on h.run) h

pub switched-good : (b : Board) (on : Bool) → SoundBoard b → SoundBoard (with_running on b)
switched-good b on h = beside-good b (with_running on b) refl refl refl h.bounds.time (switched-run b on h.run) h

-- other rings, which are sound with what devices claim
pub ringed-good : (b : Board) (rings : List Ring) → SoundBackends (with_rings rings b) → SoundBoard b → SoundBoard (with_rings rings b)
ringed-good b rings backends h =
    record {
      run = ringed-run b rings h.run;
      shape = shapes_kept_lem.beside b (with_rings rings b) refl h.shape;
      owners = owners_kept_lem.beside b (with_rings rings b) refl h.owners;
      sources = sources_kept_lem.beside b (with_rings rings b) refl h.sources;
      segments = segments_kept_lem.beside b (with_rings rings b) refl h.segments;
      backends = backends;
      holds = holds_kept_lem.beside b (with_rings rings b) refl refl h.holds;
      bounds = bounds_kept_lem.beside b (with_rings rings b) refl h.bounds.time h.bounds;
    }

-- a device is added, or not
pub added-good : (b : Board) (a : Wanted) → SoundBoard b → SoundBoard (plug b a).board
added-good b a h =
    record {
      run = added-run b a h.run;
      shape = shapes_kept_lem.plugged b a h.run.devices h.shape;
      owners = owners_kept_lem.plugged b a h.run.devices h.owners;
      sources = sources_kept_lem.plugged b a h.run.devices h.sources;
      segments = segments_kept_lem.plugged b a h.run.times h.segments;
      backends = claims_kept_lem.plugged b a h.run.devices h.backends;
      holds = holds_kept_lem.plugged b a h.run.devices h.holds;
      bounds = bounds_kept_lem.plugged b a h.bounds;
    }

-- an attempt at one is cut
pub cut-good : (b : Board) (t : TypeId) (i : ℕ) (joined : Bool) → SoundBoard b → SoundBoard (cut_attempt b t i joined)
cut-good b t i joined h = beside-good b (cut_attempt b t i joined) refl refl refl h.bounds.time (cut-run b t i joined h.run) h

pub cut_as-good : (b : Board) (a : Wanted) (i : ℕ) (joined : Bool) → SoundBoard b → SoundBoard (cut_as b a i joined)
unfolding cut_as
cut_as-good b a i joined good = by (type_barred a.driver) (type_named a.driver)
  where
    some : (t : TypeId) (u : Bool) → SoundBoard (if u then cut_attempt b t i joined else b)
    some t true = cut-good b t i joined good
    some t false = good

    free : (row : TypeInfo) (bar : Option (ℕ × Code)) → SoundBoard (elim bar as (λ o. Board) [ None ↦ cut_of b row.id i joined | Some found ↦ b ])
    free row None = some row.id _
    free row (Some found) = good

    by : (bar : Option Code) (row : Option TypeInfo)
        → SoundBoard (elim bar as (λ o. Board) [ Some code ↦ b | None ↦ option_map_or (λ (row : TypeInfo). cut_open b a row i joined) row b ])
    by (Some code) row = good
    by None None = good
    by None (Some row) = free row (barred_early b row.id a)

-- or given up
pub given_up-good : (b : Board) (t : TypeId) (bus : ℕ) → SoundBoard b → SoundBoard (plug_attempt b t bus 4)
given_up-good b t bus good = subst SoundBoard (sym (cut-whole b t bus)) (cut-good b t (objects_in t) true good)

-- a device whose removal is pending, which stands in its place, is let go
pub completed-good : (b : Board) (d : ℕ) → is_pending b d ≡ true → SoundBoard b → SoundBoard (completed b d)
completed-good b d pending h =
    record {
      run = completed-run b d pending h.run;
      shape = shapes_kept_lem.detached b d h.run.devices there h.shape;
      owners = owners_kept_lem.detached b d h.run.devices there h.owners;
      sources = sources_kept_lem.detached b d h.run.devices there h.sources;
      segments = segments_kept_lem.detached b d h.run.times h.segments;
      backends = claims_kept_lem.detached b d h.run.devices there h.backends;
      holds = holds_kept_lem.detached b d h.run.devices there h.holds;
      bounds = bounds_kept_lem.detached b d h.bounds;
    }
  where
    there : stands b d ≡ true
    there = (removal-all (IsOn b) b.pending h.run.devices.lists.pending d pending).0

-- a hold of a reset on an attached object that is not held too often, a hold less, both, and the reset of the whole board
pub held-good : (b : Board) (n : ℕ) (kind : ResetKind) → is_of b (codes "resettable") n ≡ true → attached b n ≡ true → exceeds_depth b n ≡ false
    → SoundBoard b → SoundBoard (after_hold b n kind)
held-good b n kind is home deep h =
    record {
      run = held-run b n kind h.run;
      shape = shapes_kept_lem.held_so b n kind h.shape;
      owners = owners_kept_lem.held_so b n kind h.owners;
      sources = sources_kept_lem.held_so b n kind h.run.devices h.sources;
      segments = segments_kept_lem.held_so b n kind h.run.times h.segments;
      backends = claims_kept_lem.held_so b n kind h.run.devices h.backends;
      holds = holds_kept_lem.held_so b n kind (holds_kept_lem.reached b h.run.devices h.owners.lone n (rw (home, is) refl)) deep h.holds;
      bounds = bounds_kept_lem.held_so b n kind h.bounds;
    }

pub released-good : (b : Board) (n : ℕ) → SoundBoard b → SoundBoard (released b n)
released-good b n h =
    record {
      run = released-run b n h.run;
      shape = shapes_kept_lem.released_so b n h.shape;
      owners = owners_kept_lem.released_so b n h.owners;
      sources = sources_kept_lem.released_so b n h.run.devices h.sources;
      segments = segments_kept_lem.released_so b n h.run.times h.segments;
      backends = claims_kept_lem.released_so b n h.run.devices h.backends;
      holds = holds_kept_lem.released_so b n h.holds;
      bounds = bounds_kept_lem.released_so b n h.bounds;
    }

pub pulsed-good : (b : Board) (n : ℕ) (kind : ResetKind) → SoundBoard b → SoundBoard (pulse b n kind)
pulsed-good b n kind h =
    record {
      run = pulsed-run b n kind h.run;
      shape = shapes_kept_lem.pulsed b n kind h.shape;
      owners = owners_kept_lem.pulsed b n kind h.owners;
      sources = sources_kept_lem.pulsed b n kind h.run.devices h.sources;
      segments = segments_kept_lem.pulsed b n kind h.run.times h.segments;
      backends = claims_kept_lem.pulsed b n kind h.run.devices h.backends;
      holds = holds_kept_lem.pulsed b n kind h.holds;
      bounds = bounds_kept_lem.pulsed b n kind h.bounds;
    }

pub reset-good : (b : Board) → SoundBoard b → SoundBoard (reset_whole b)
reset-good b h =
    record {
      run = reset-run b h.run;
      shape = shapes_kept_lem.reset b h.run.devices h.shape;
      owners = owners_kept_lem.reset b h.run.devices h.owners;
      sources = sources_kept_lem.reset b h.run.devices h.sources;
      segments = segments_kept_lem.reset b h.run.times h.segments;
      backends = claims_kept_lem.reset b h.run.devices h.backends;
      holds = holds_kept_lem.reset b h.run.devices h.holds;
      bounds = bounds_kept_lem.reset b h.bounds;
    }

-- the guest writes to a register: the registers stay those of the same body
same-body : (b : Board) (d : ℕ) (registers : Registers) → is_like registers (registers_at b d) ≡ true → (r : Record) → record_of b d ≡ Some r
    → is_like registers r.registers ≡ true
same-body b d registers like r found =
    sym (ap (λ (o : Option Record). is_like registers (option_map_or (λ (x : Record). x.registers) o bare)) found) ∙ like

registers-segmented : (b : Board) (d : ℕ) → SoundSegments b → IsSegmented (registers_at b d)
registers-segmented b d h = go (record_of b d) refl
  where
    go : (o : Option Record) → record_of b d ≡ o → IsSegmented (option_map_or (λ (r : Record). r.registers) o bare)
    go None e = tt
    go (Some r) e = segments_kept_lem.there b d r e h

registers-good : (b : Board) (d reg value : ℕ) (registers : Registers) (e : Effect) → registers_written b d reg value ≡ Some (registers, e) → SoundBoard b
    → SoundBoard (registers_set b d registers)
registers-good b d reg value registers e is h =
    record {
      run = registers-run b d reg value registers e is h.run;
      shape =
          shapes_kept_lem.registers b d registers
          (same-body b d registers
          (shapes_kept_lem.wrote (registers_at b d) registers e reg value (is_some (claimed_ring b d)) b.now (device_period b d) is)) h.shape;
      owners = owners_kept_lem.registers b d registers h.owners;
      sources = sources_kept_lem.registers b d registers h.run.devices h.sources;
      segments =
          segments_kept_lem.registers b d registers
          (segments_kept_lem.wrote (registers_at b d) registers e reg value (is_some (claimed_ring b d)) b.now (device_period b d) is
          (registers-timely b d h.run.times) (registers-segmented b d h.segments)) h.segments;
      backends = registers_backends b d reg value registers e is h.run.devices h.backends;
      holds = holds_kept_lem.registers b d registers h.holds;
      bounds = bounds_kept_lem.registers b d registers h.bounds;
    }

-- a byte goes after those of a ring
pushed-good : (b : Board) (n : ℕ) (id : List ℕ) → SoundBoard b → SoundBoard (pushed n b id)
pushed-good b n id h = ringed-good b (pushed n b id).rings (gained_backends b id (n ∷ []) h.backends) h

pub written-good : (b : Board) (d reg value : ℕ) (c : Board) → guest_written b d reg value ≡ Some c → SoundBoard b → SoundBoard c
written-good b d reg value c is h =
    written-all SoundBoard b d reg value (λ registers e so. registers-good b d reg value registers e so h) (λ x n id q. pushed-good x n id q)
    (λ x m on q. pulsed-good x m Cold q) c is

-- each board that stands at the same parts as a sound one is sound
pub alike-good : (b c : Board) (p : Parts) → Stands b p → Stands c p → SoundBoard b → SoundBoard c
alike-good b c p s t h =
    beside-good b c records (t.rings ∙ sym s.rings) (t.holds ∙ sym s.holds) (subst (λ (k : ℕ). k ≤ TIME_MAX) now h.bounds.time)
    (alike-run b c records (t.shows.born ∙ sym s.shows.born) (t.anonymous ∙ sym s.anonymous) (t.shows.pins ∙ sym s.shows.pins)
    (t.pending ∙ sym s.pending) (t.notices ∙ sym s.notices) (le-of-eq now) h.run) h
  where
    records : c.records ≡ b.records
    records = t.shows.records ∙ sym s.shows.records

    now : b.now ≡ c.now
    now = s.shows.now ∙ sym t.shows.now

pub good-of : (p : Parts) → StandsForGood p → (b : Board) → Stands b p → SoundBoard b
good-of p (c, s, good) b t = alike-good c b p s t good

-- and the root alone is pinned
pub root-pinned : (b : Board) (p : Parts) → Stands b p → SoundBoard b → OnlyRootPinned p.objects
unfolding graph_of
root-pinned b p s good = sym s.shows.pins ∙ good.run.devices.tree.0.pinned

pub good-pinned : (b : Board) (p : Parts) → Stands b p → SoundBoard b → OnlyRootPinned p.objects × StandsForGood p
good-pinned b p s good = (root-pinned b p s good, (b, s, good))
