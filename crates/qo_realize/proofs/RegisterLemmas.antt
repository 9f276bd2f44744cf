-- The registers of a device as the guest reads and writes them: what the heap's body has is the board's, and what stands after a write.
use Rattle.std.proofs.Common.{◌≡◌, refl, ap, ap₂, sym, subst, ◌∙◌, ℕ, Bool, true, false, eqb, List, [], count_by, Option, None, Some, IfNone, IfSome, is_some, option_map, arith}
use Rattle.std.specs.Option.{option_map_or}
use Rattle.std.proofs.lemmas.Bool.{eqb-true}
use Rattle.std.proofs.lemmas.Option.{same_Some}
use Rattle.qo_values.specs.Registers.{Effect, body_write, Registers, bare}
use Rattle.qo_values.specs.Registers as effect
use Rattle.qo_values.specs.declared.kinds.ResetKind.TheVariants.{Cold}
use Rattle.qo_buses.specs.Rings.{claimed_ring}
use Rattle.qo_kinds.specs.Bodies.{IsTimely, kept_of, registers_of}
use Rattle.qo_kinds.specs.declared.bodies.Body.{Body}
use Rattle.qo_kinds.specs.declared.kept_set.KeptSet.{KeptSet}
use Rattle.qo_kinds.specs.Effects.{shown_effect}
use Rattle.qo_kinds.specs.declared.effects.Effect as told
use Rattle.qo_slots.specs.declared.keys.Key.{Key}
use Rattle.qo_heap.specs.Rows.{IsLive}
use Rattle.qo_object.specs.Content.{Content}
use Rattle.qo_object.specs.BoardObject.{shown}
use Rattle.qo_model.specs.Board.{Board, Record, record_of, Ring}
use Rattle.qo_model.specs.Clocks.{device_period}
use Rattle.qo_model.specs.Devices.{first_bus}
use Rattle.qo_model.specs.Reset.{pulse}
use Rattle.qo_heap.specs.Board.{Shows}
use Rattle.qo_heap.specs.Book.{claim_eq, kept_times}
use Rattle.qo_heap.specs.Objects.{IsHeap, Objects, content_of, with_edit}
use Rattle.qo_heap.proofs.BookLemmas.{book-put}
use Rattle.qo_heap.proofs.HeapLemmas.{edit-is, edit-same, live-edit}
use Rattle.qo_heap.proofs.BoardEdits.{shows-edit}
use Rattle.qo_heap.proofs.BoardObjects.{content-edited, content-other, live-content}
use Rattle.qo_heap.proofs.BoardReads.{shows-record}
use Rattle.qo_hotplug.specs.Hotplug.{Asked}
use Rattle.qo_clocks.specs.Kept.{Clocked, PeriodsKept}
use Rattle.qo_properties.specs.Claims.{KeepsBook}
use Rattle.qo_properties.proofs.KeptLemmas.{claims-before}
use Rattle.qo_properties.specs.KeptClaims.{Kept, KeptBefore, all_kept, kept_with}
use Rattle.qo_properties.specs.Pins.{OnlyRootPinned}
use Rattle.qo_reset.specs.HoldList.{HoldList}
use Rattle.qo_reset.specs.Phases.{Holds}
use Rattle.qo_sound.proofs.DeviceScopeLemmas.{devices_stay_lem}
use Rattle.qo_sound_clocks.specs.RegisterWrites.{registers_set, with_registers}
use Rattle.qo_sound_clocks.specs.SoundTimes as boards
use Rattle.qo_sound_clocks.proofs.TimesLemmas.{times_kept_lem}
use Rattle.qo_unplug.proofs.MomentLemmas.{in-time}
use Rattle.qo_realize.specs.BoardClaims.{KeepsClaims}
use Rattle.qo_realize.specs.Parts.{Parts, parts_of}
use Rattle.qo_realize.specs.Registers.{GuestWrites, HasWritten, IsHeld, Written, after_effect, guest_written, registers_at, registers_written}
use Rattle.qo_realize.specs.Representation.{Stands, StandsForGood}
use Rattle.qo_realize.proofs.GoodBoardLemmas.{good-pinned, written-good}
use Rattle.qo_realize.proofs.ClaimsLemmas.{guest-keep, same-claims, step-claims}
use Rattle.qo_realize.proofs.PeriodLemmas.{clocked-sound}
use Rattle.qo_realize.proofs.RegisterWriteLemmas.{WriteLeaves, written-leaves}

-- the body of an object that is there
body-there : (v : Objects) (o : Key) (body : Body) → IsLive v.rows o → option_map (λ (c : Content). c.body) (content_of v o.birth) ≡ Some body
    → (c : Content) × (content_of v o.birth ≡ Some c) × (c.body ≡ body)
body-there v o body live is =
    let (c, there) = live-content v o live in
    (c, there, same_Some c.body body (sym (ap (option_map (λ (d : Content). d.body)) there) ∙ is))

-- no timer is ahead of the heap's time

pub timely-there : (p : Parts) → StandsForGood p → (n : ℕ) → IfSome (content_of p.objects n) (λ c. IsTimely p.objects.time c.body)
timely-there p (b, s, good) n = go (content_of p.objects n) refl
  where
    go : (o : Option Content) → content_of p.objects n ≡ o → IfSome o (λ c. IsTimely p.objects.time c.body)
    go None e = tt
    go (Some c) e =
        let there : record_of b n ≡ Some (shown n c) = shows-record b p.objects s.shows n ∙ ap (option_map (shown n)) e in
        in-time p.objects.time (registers_of c.body)
        (subst (λ (now : ℕ). boards.IsTimely now (registers_of c.body)) s.shows.now (times_kept_lem.there b n (shown n c) there good.run.times))

pub body-timely : (time : ℕ) (v : Objects) (o : Key) (body : Body) → IsLive v.rows o → option_map (λ (c : Content). c.body) (content_of v o.birth) ≡ Some body
    → IfSome (content_of v o.birth) (λ c. IsTimely time c.body) → IsTimely time body
body-timely time v o body live is h =
    let (c, there, same) = body-there v o body live is in
    let at : IsTimely time c.body = subst (λ (x : Option Content). IfSome x (λ c. IsTimely time c.body)) there h in
    subst (IsTimely time) same at

-- the registers of the body are the board's
body-registers : (b : Board) (v : Objects) → Shows b v → (o : Key) (body : Body) → IsLive v.rows o
    → option_map (λ (c : Content). c.body) (content_of v o.birth) ≡ Some body → registers_at b o.birth ≡ registers_of body
body-registers b v s o body live is =
    let (c, there, same) = body-there v o body live is in
    ap (λ (x : Option Record). option_map_or (λ (r : Record). r.registers) x bare) (shows-record b v s o.birth ∙ ap (option_map (shown o.birth)) there)
    ∙ ap registers_of same

-- so a call of the body at the heap's time, with the period of the device's clock, is one of the board's
pub board-call : {T : Type 0} (f : Registers → ℕ → ℕ → T) (b : Board) (v : Objects) → Shows b v → (o : Key) (body : Body) → IsLive v.rows o
    → option_map (λ (c : Content). c.body) (content_of v o.birth) ≡ Some body → (time period : ℕ) → time ≡ v.time → period ≡ device_period b o.birth
    → f (registers_of body) time period ≡ f (registers_at b o.birth) b.now (device_period b o.birth)
board-call f b v s o body live is time period at by =
    ap (λ (r : Registers). f r time period) (sym (body-registers b v s o body live is))
    ∙ ap (λ (now : ℕ). f (registers_at b o.birth) now period) (at ∙ sym s.now)
    ∙ ap (f (registers_at b o.birth) b.now) by

-- a write to the body is one of the board's

abbrev put : Body → Content → Content
put body c = record c { body = body }

shows-put : (b : Board) (v : Objects) → Shows b v → (n : ℕ) (body : Body) → Shows (registers_set b n (registers_of body)) (with_edit n (put body) v)
shows-put b v s n body = shows-edit n (put body) b v s (with_registers (registers_of body)) (λ m c. refl) (λ c. refl)

pub has-written : (b : Board) (v : Objects) → Shows b v → (o : Key) (old new : Body) (reg value : ℕ) → IsLive v.rows o
    → option_map (λ (c : Content). c.body) (content_of v o.birth) ≡ Some old → (ring : Bool) (time period : ℕ) → ring ≡ is_some (claimed_ring b o.birth)
    → time ≡ v.time → period ≡ device_period b o.birth → (result : Option told.Effect)
    → option_map (λ (e : told.Effect). (registers_of new, shown_effect e)) result ≡ body_write (registers_of old) reg value ring time period
    → HasWritten b o.birth (registers_written b o.birth reg value) result (with_edit o.birth (put new) v)
has-written b v s o old new reg value live is ring time period claimed at by result came =
    go result
    (sym
    (came ∙ board-call (λ (r : Registers) (now p : ℕ). body_write r reg value ring now p) b v s o old live is time period at by
    ∙ ap (λ (x : Bool). body_write (registers_at b o.birth) reg value x b.now (device_period b o.birth)) claimed))
  where
    go : (r : Option told.Effect) → registers_written b o.birth reg value ≡ option_map (λ (e : told.Effect). (registers_of new, shown_effect e)) r
        → HasWritten b o.birth (registers_written b o.birth reg value) r (with_edit o.birth (put new) v)
    go None e = e
    go (Some x) e = (registers_of new, e, shows-put b v s o.birth new)

-- and it keeps the claims
pub put-book : (v : Objects) → IsHeap v → (o : Key) (old new : Body) → IsLive v.rows o → option_map (λ (c : Content). c.body) (content_of v o.birth) ≡ Some old
    → kept_of new ≡ kept_of old → KeepsBook v (with_edit o.birth (put new) v)
put-book v good o old new live is kept out h =
    let (c, there, same) = body-there v o old live is in
    book-put [] out v good o.birth (put new) c there
    (λ x.
    let times : kept_times x (kept_of new) ≡ kept_times x (kept_of c.body) = ap (kept_times x) (kept ∙ ap kept_of (sym same)) in
    let none : count_by (claim_eq x) [] ≡ 0 = refl in
    omega (arith, times, none))
    h

-- each body keeps the claims that it kept
pub put-kept : (v : Objects) (o : Key) (old new : Body) → IsLive v.rows o → option_map (λ (c : Content). c.body) (content_of v o.birth) ≡ Some old
    → kept_of new ≡ kept_of old → KeptBefore v (with_edit o.birth (put new) v)
put-kept v o old new live is kept n k e = go (eqb n o.birth) refl
  where
    held : Option Content → Option Kept
    held x = option_map kept_with x

    go : (t : Bool) → eqb n o.birth ≡ t → all_kept v n ≡ Some k
    go false p = ap held (sym (content-other v o.birth n (put new) p)) ∙ e
    go true p =
        let (c, there, same) = body-there v o old live is in
        let own : n ≡ o.birth = eqb-true n o.birth p in
        let now : held (content_of (with_edit o.birth (put new) v) o.birth) ≡ Some (kept_of new, c.side) =
        ap held (content-edited v o.birth (put new) ∙ ap (option_map (put new)) there) in
        let is_now : Some (kept_of new, c.side) ≡ Some k = sym now ∙ sym (ap (all_kept (with_edit o.birth (put new) v)) own) ∙ e in
        ap (all_kept v) own ∙ ap held there ∙ ap (λ (x : KeptSet). Some (x, c.side)) (ap kept_of same ∙ sym kept) ∙ is_now

-- a write of what is there leaves all
pub put-none : (v : Objects) → IsHeap v → (o : Key) (old new : Body) → IsLive v.rows o → option_map (λ (c : Content). c.body) (content_of v o.birth) ≡ Some old
    → (result : Option told.Effect) → IfNone result (new ≡ old) → IfNone result (with_edit o.birth (put new) v ≡ v)
put-none v good o old new live is None same =
    let (c, there, here) = body-there v o old live is in
    sym (edit-is v good o.birth (put new) c c there (ap (λ (b : Body). record c { body = b }) (here ∙ sym same)))
    ∙ edit-is v good o.birth (λ (d : Content). d) c c there refl
    ∙ edit-same o.birth v
put-none v good o old new live is (Some e) same = tt

pub put-live : (v : Objects) (o : Key) (new : Body) → IsLive v.rows o → IsLive (with_edit o.birth (put new) v).rows o
put-live v o new live = live-edit o.birth (put new) v.rows o live

-- what is done beside

-- a bus goes through a pulse, which leaves the rings
pub pulse-held : (b : Board) (d m : ℕ) (holds next : List ℕ) (rings : List Ring) (v w : Objects) → IsHeld b holds rings v → first_bus b d ≡ Some m
    → Holds (pulse b m Cold) next w → IsHeld (after_effect d effect.pulse b) next rings w
pulse-held b d m holds next rings v w h is after =
    subst (λ (bus : Option ℕ). IsHeld (option_map_or (λ n. pulse b n Cold) bus b) next rings w) (sym is)
    (record { held = after; rings_are = (devices_stay_lem.pulsed b m Cold).rings ∙ h.rings_are })

-- the board after the write
pub was-written : (b : Board) (d reg value : ℕ) (e : told.Effect) (holds next : List ℕ) (rings others : List Ring) (v w : Objects) → b.holds ≡ holds
    → b.rings ≡ rings → HasWritten b d (registers_written b d reg value) (Some e) v
    → ((c : Board) → IsHeld c holds rings v → IsHeld (after_effect d (shown_effect e) c) next others w)
    → Written (guest_written b d reg value) (Some tt) next others w
was-written b d reg value e holds next rings others v w held kept (registers, is, shows) through = (
  after_effect d (shown_effect e) (registers_set b d registers),
  ap (option_map (λ (x : Registers × Effect). after_effect d x.1 (registers_set b d x.0))) is,
  through (registers_set b d registers) (record { held = (shows, held); rings_are = kept }),
)

-- what stands after it

module _ (rings others : List Ring) (anonymous : ℕ) (running : Bool) (old new : HoldList) (asked : Asked) (v w : Objects) (book : KeepsBook v w)
    (d reg value : ℕ) where
  abbrev before : Parts
  before = parts_of rings anonymous running old asked v

  abbrev after : Parts
  after = parts_of others anonymous running new asked w

  written-stands : (b c : Board) → Stands b before → WriteLeaves b c → IsHeld c new.births others w → Stands c after
  written-stands b c s l h =
      record {
        shows = h.held.0;
        anonymous = l.anonymous ∙ s.anonymous;
        running = l.running ∙ s.running;
        holds = h.held.1;
        pending = l.pending ∙ s.pending;
        notices = l.notices ∙ s.notices;
        rings = h.rings_are;
        book = book [] s.book;
      }

  same-parts : (w ≡ v) × (new.births ≡ old.births) × (others ≡ rings) → after ≡ before
  same-parts h =
      ap (λ (r : List Ring). parts_of r anonymous running new asked w) h.2
      ∙ ap₂ (λ (x : Objects) (holds : List ℕ). parts_of rings anonymous running (record { births = holds; spare = 0 }) asked x) h.0 h.1

  pub write-stands : (b : Board) (result : Option (Unit {0})) → Stands b before → Written (guest_written b d reg value) result new.births others w
      → GuestWrites (guest_written b d reg value) result after
  write-stands b (Some u) s (c, is, held) = (c, is, written-stands b c s (written-leaves b d reg value c is) held)
  write-stands b None s is = is

  pub write-claims : (result : Option (Unit {0})) → StandsForGood before → PeriodsKept v
      → ((b : Board) → IsHeld b old.births rings v → Clocked b v → Written (guest_written b d reg value) result new.births others w)
      → IfNone result ((w ≡ v) × (new.births ≡ old.births) × (others ≡ rings)) → KeptBefore v w → KeepsClaims v → KeepsClaims w
  write-claims None (b, s, good) periods h same kept claims = same-claims v w same.0 claims
  write-claims (Some u) (b, s, good) periods h same kept claims =
      let (c, is, held) = h b (record { held = (s.shows, s.holds); rings_are = s.rings }) (clocked-sound b v good.run.clocks periods) in
      step-claims b c v w s.shows held.held.0 (guest-keep b d reg value c is good.run.devices) (claims-before v w kept) claims

  pub write-keeps : (result : Option (Unit {0})) → StandsForGood before → PeriodsKept v
      → ((b : Board) → IsHeld b old.births rings v → Clocked b v → Written (guest_written b d reg value) result new.births others w)
      → IfNone result ((w ≡ v) × (new.births ≡ old.births) × (others ≡ rings)) → OnlyRootPinned w × StandsForGood after
  write-keeps None (b, s, good) periods h same = good-pinned b after (subst (λ (p : Parts). Stands b p) (sym (same-parts same)) s) good
  write-keeps (Some u) (b, s, good) periods h same =
      let (c, is, held) = h b (record { held = (s.shows, s.holds); rings_are = s.rings }) (clocked-sound b v good.run.clocks periods) in
      good-pinned c after (written-stands b c s (written-leaves b d reg value c is) held) (written-good b d reg value c is good)
