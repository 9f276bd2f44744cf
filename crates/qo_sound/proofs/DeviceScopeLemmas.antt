-- The law: what adding and detaching a device leaves of a board beside its objects.
use Rattle.std.proofs.Common.{◌≡◌, refl, ap, sym, ◌∙◌, ℕ, suc, ◌+◌, Bool, true, false, ◌==◌, List, [], ◌∷◌, ◌++◌, Option, Some, None, append_assoc, append-nil}
use Rattle.qo_model.proofs.Common.{⊤, Code, Realize, TypeId, Board, DeviceEvent, Notice, acted, buses_of, kids_of, Plugged, Resources, Wanted, acted_all, barred_early, barred_late, bus_births, bus_for, clocked, counted, cut_attempt, drafted, plug, plug_as, plug_attempt, plug_by, plug_late, source_for, resources_of, stood, type_barred, with_device, with_plugged, refs, after, finalize, pin, Leaves, plugged, post, Stays, TypeInfo, type_named, slots_of, detach}
use Rattle.qo_model.proofs.ReleaseScopeLemmas.{release_leaves}
use Rattle.qo_model.proofs.ChangeScopeLemmas.{stays-none, stays-then}
use Rattle.qo_sound.specs.DeviceScope.{AddLeaves, anonymous_after, AttemptLeaves, DetachLeaves, DevicesStayLaw}
use Rattle.qo_sound.proofs.AdditionStepsLemmas.{all-any, any-rows, KeepsActs, KeepsEdits, KeepsNew, step-acted_all, step-drafted, step-plugged, step-stood}
use Rattle.qo_sound.proofs.DetachmentStepsLemmas.{KeepsLists, KeepsPins, step-detach, step-pin, step-unrealize}
use Rattle.qo_sound.proofs.ResetLemmas.{held-leaves, pulse-leaves, released-leaves}

-- an attempt, and the steps of adding up to the number of accepted adds

attempt-none : (b : Board) → AttemptLeaves b b
attempt-none b = record { stays = stays-none b; events = refl }

attempt-then : (b c d : Board) → Stays c d → d.events ≡ c.events → AttemptLeaves b c → AttemptLeaves b d
attempt-then b c d stays events h = record { stays = stays-then b c d h.stays stays; events = events ∙ h.events }

attempt-edits : (b : Board) → KeepsEdits (AttemptLeaves b)
attempt-edits b n change same c h =
    attempt-then b c _ (record { anonymous = refl; now = refl; running = refl; holds = refl; pending = refl; notices = refl; rings = refl }) refl h

attempt-acts : (b : Board) → KeepsActs (λ n. ⊤) (AttemptLeaves b)
unfolding acted
attempt-acts b act n period plain on c h =
    attempt-then b c _ (record { anonymous = refl; now = refl; running = refl; holds = refl; pending = refl; notices = refl; rings = refl }) refl h

attempt-new : (b : Board) → KeepsNew (λ k. ⊤) (AttemptLeaves b)
attempt-new b k slots made c h =
    attempt-then b c _ (record { anonymous = refl; now = refl; running = refl; holds = refl; pending = refl; notices = refl; rings = refl }) refl h

attempt-given_up : (b : Board) (t : TypeId) (bus stage : ℕ) → AttemptLeaves b (plug_attempt b t bus stage)
attempt-given_up b t bus stage =
    record { stays = record { anonymous = refl; now = refl; running = refl; holds = refl; pending = refl; notices = refl; rings = refl }; events = refl }

attempt-cut : (b : Board) (t : TypeId) (i : ℕ) (joined : Bool) → AttemptLeaves b (cut_attempt b t i joined)
attempt-cut b t i joined =
    record { stays = record { anonymous = refl; now = refl; running = refl; holds = refl; pending = refl; notices = refl; rings = refl }; events = refl }

attempt-adds : (b c : Board) → AttemptLeaves b c → AddLeaves b c
attempt-adds b c h =
    record { now = h.stays.now; running = h.stays.running; holds = h.stays.holds; pending = h.stays.pending; rings = h.stays.rings; events = h.events }

add-then : (b c d : Board) → AddLeaves b c → AddLeaves c d → AddLeaves b d
add-then b c d h k =
    record {
      now = k.now ∙ h.now;
      running = k.running ∙ h.running;
      holds = k.holds ∙ h.holds;
      pending = k.pending ∙ h.pending;
      rings = k.rings ∙ h.rings;
      events = k.events ∙ h.events;
    }

counted-leaves : (id : Option (List ℕ)) (c : Board) → AddLeaves c (counted id c)
counted-leaves None c = record { now = refl; running = refl; holds = refl; pending = refl; rings = refl; events = refl }
counted-leaves (Some id) c = record { now = refl; running = refl; holds = refl; pending = refl; rings = refl; events = refl }

counted-counts : (id : Option (List ℕ)) (b c : Board) → c.anonymous ≡ b.anonymous → (counted id c).anonymous ≡ anonymous_after b id
counted-counts None b c e = ap (λ (k : ℕ). suc k) e
counted-counts (Some id) b c e = e

counted-tells : (id : Option (List ℕ)) (c : Board) → (counted id c).notices ≡ c.notices
counted-tells None c = refl
counted-tells (Some id) c = refl

module _ (b : Board) (t : TypeId) (a : Wanted) (resources : Resources) where
  abbrev n : ℕ
  n = b.born + 1

  -- it stands in its place
  abbrev placed : Board
  placed = clocked (source_for b resources.bus) n (stood b n a resources (drafted b t))

  placed-leaves : AttemptLeaves b placed
  placed-leaves =
      step-stood (AttemptLeaves b) (attempt-edits b) b n a resources
      (λ c h. attempt-then b c _ (record { anonymous = refl; now = refl; running = refl; holds = refl; pending = refl; notices = refl; rings = refl }) refl h)
      (drafted b t)
      (step-drafted (AttemptLeaves b) (attempt-edits b) (λ k. ⊤) (attempt-new b) t tt (any-rows (slots_of t)) b (attempt-none b))

  -- it acts, and goes through the phases
  abbrev made : Board
  made = with_device b t a resources

  abbrev passed_on : Board
  passed_on = plugged (acted_all Realize (n ∷ bus_births n t) made) n

  passed-leaves : AttemptLeaves made passed_on
  passed-leaves =
      step-plugged (λ m. ⊤) (AttemptLeaves made) (attempt-acts made) n _ (all-any (post (acted_all Realize (n ∷ bus_births n t) made) n))
      (step-acted_all (λ m. ⊤) (AttemptLeaves made) (attempt-acts made) Realize refl (n ∷ bus_births n t) (all-any (n ∷ bus_births n t)) made
      (attempt-none made))

  made-leaves : AddLeaves b made
  made-leaves = add-then b placed made (attempt-adds b placed placed-leaves) (counted-leaves a.id placed)

  plugged-leaves : AddLeaves b (with_plugged b t a resources)
  plugged-leaves =
      let h : AddLeaves b passed_on = add-then b made passed_on made-leaves (attempt-adds made passed_on passed-leaves) in
      record { now = h.now; running = h.running; holds = h.holds; pending = h.pending; rings = h.rings; events = h.events }

  plugged-counts : (with_plugged b t a resources).anonymous ≡ anonymous_after b a.id
  plugged-counts = passed-leaves.stays.anonymous ∙ counted-counts a.id b placed placed-leaves.stays.anonymous

  plugged-told : (with_plugged b t a resources).notices ≡ b.notices ++ record { plug = true; birth = b.born + 1 } ∷ []
  plugged-told =
      ap (λ (xs : List Notice). xs ++ record { plug = true; birth = b.born + 1 } ∷ [])
      (passed-leaves.stays.notices ∙ counted-tells a.id placed ∙ placed-leaves.stays.notices)

-- taken or refused

record Outcome (b : Board) (x : Plugged) : Type 0 where
  leaves : AddLeaves b x.board
  refused : (refusal : ℕ × Code) → x.refusal ≡ Some refusal → AttemptLeaves b x.board

nothing-came : (b : Board) (x : Plugged) → AttemptLeaves b x.board → Outcome b x
nothing-came b x h = record { leaves = attempt-adds b x.board h; refused = λ refusal e. h }

late-outcome : (b : Board) (t : TypeId) (bus : ℕ) (a : Wanted) (o : Option (ℕ × Code)) → Outcome b (plug_late b t bus a o)
late-outcome b t bus a (Some refusal) = nothing-came b (plug_late b t bus a (Some refusal)) (attempt-given_up b t bus refusal.0)
late-outcome b t bus a None =
    record { leaves = plugged-leaves b t a (resources_of b t bus a.props); refused = λ refusal e. absurd (let clash : None ≡ Some refusal = e in cc) }

as-outcome : (b : Board) (t : TypeId) (a : Wanted) (o : Option (ℕ × Code)) → Outcome b (plug_as b t a o)
as-outcome b t a (Some refusal) = nothing-came b (plug_as b t a (Some refusal)) (attempt-none b)
as-outcome b t a None = go (bus_for b t a.bus) refl
  where
    go : (m : Option ℕ) → bus_for b t a.bus ≡ m → Outcome b (plug_as b t a None)
    go None p = rw (plug_as, p) (nothing-came b (record { refusal = None; board = b }) (attempt-none b))
    go (Some bus) p = rw (plug_as, p) (late-outcome b t bus a (barred_late b t bus a.props))

by-outcome : (b : Board) (a : Wanted) (o : Option Code) → Outcome b (plug_by b a o)
by-outcome b a (Some code) = nothing-came b (plug_by b a (Some code)) (attempt-none b)
by-outcome b a None = go (type_named a.driver) refl
  where
    go : (row : Option TypeInfo) → type_named a.driver ≡ row → Outcome b (plug_by b a None)
    go None p = rw (plug_by, p) (nothing-came b (record { refusal = None; board = b }) (attempt-none b))
    go (Some row) p = rw (plug_by, p) (as-outcome b row.id a (barred_early b row.id a))

plug-outcome : (b : Board) (a : Wanted) → Outcome b (plug b a)
unfolding plug
plug-outcome b a = by-outcome b a (type_barred a.driver)

-- detaching

detach-none : (b : Board) → DetachLeaves b b
detach-none b = record { anonymous = refl; now = refl; running = refl; rings = refl; events_gain = ([], sym (append-nil b.events)) }

detach-left : (b c d : Board) → Leaves c d → DetachLeaves b c → DetachLeaves b d
detach-left b c d k h =
    record {
      anonymous = k.anonymous ∙ h.anonymous;
      now = k.now ∙ h.now;
      running = k.running ∙ h.running;
      rings = k.rings ∙ h.rings;
      events_gain = gained;
    }
  where
    gained : (more : List DeviceEvent) × (d.events ≡ b.events ++ more)
    gained =
        let (old, before) = h.events_gain in
        let (new, later) = k.events_gain in
        (old ++ new, later ∙ ap (λ (xs : List DeviceEvent). xs ++ new) before ∙ append_assoc b.events old new)

detach-ends : (b : Board) (o : Option ℕ) (c : Board) → DetachLeaves b c → DetachLeaves b (after finalize c o)
detach-ends b None c h = h
detach-ends b (Some m) c h = go (refs c m == 0) refl
  where
    go : (u : Bool) → (refs c m == 0) ≡ u → DetachLeaves b (after finalize c (Some m))
    go true p = rw (after, p) (detach-left b c (finalize c m) (release_leaves c m) h)
    go false p = rw (after, p) h

detach-acts : (b : Board) → KeepsActs (λ n. ⊤) (DetachLeaves b)
unfolding acted
detach-acts b act n period plain on c h =
    record { anonymous = h.anonymous; now = h.now; running = h.running; rings = h.rings; events_gain = h.events_gain }

detach-edits : (b : Board) → KeepsEdits (DetachLeaves b)
detach-edits b n change same c h =
    record { anonymous = h.anonymous; now = h.now; running = h.running; rings = h.rings; events_gain = h.events_gain }

detach-lists : (b : Board) → KeepsLists (DetachLeaves b)
detach-lists b holds pending notices c h =
    record { anonymous = h.anonymous; now = h.now; running = h.running; rings = h.rings; events_gain = h.events_gain }

detach-pins : (b : Board) → KeepsPins (DetachLeaves b)
detach-pins b pins c h =
    record { anonymous = h.anonymous; now = h.now; running = h.running; rings = h.rings; events_gain = h.events_gain }

detach-leaves : (b : Board) (d : ℕ) → DetachLeaves b (detach b d)
detach-leaves b d =
    step-detach (DetachLeaves b) (detach-edits b) (detach-pins b) (detach-ends b) b d
    (step-unrealize (λ n. ⊤) (DetachLeaves b) (detach-edits b) (detach-acts b) (detach-lists b) (pin b d)
    (λ m. all-any (buses_of (pin b d) m)) (λ m. all-any (kids_of (pin b d) m)) d tt
    (step-pin (DetachLeaves b) (detach-edits b) (detach-pins b) (detach-ends b) d b (detach-none b)))

pub devices_stay_lem : DevicesStayLaw
devices_stay_lem =
    record {
      plugged = λ b a. (plug-outcome b a).leaves;
      refused = λ b a refusal e. (plug-outcome b a).refused refusal e;
      cut = attempt-cut;
      added = plugged-leaves;
      counted = plugged-counts;
      told = plugged-told;
      detached = detach-leaves;
      held_so = held-leaves;
      released_so = released-leaves;
      pulsed = pulse-leaves;
    }
