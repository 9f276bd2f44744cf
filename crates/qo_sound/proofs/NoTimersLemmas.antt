-- The law: without timers a board stays so after all commands but the adding of a timer.
use Rattle.std.proofs.Common.{rules, ◌≡◌, refl, ap, sym, ◌∙◌, ℕ, zero, suc, ◌+◌, Bool, true, false, not, ◌==◌, List, ◌∷◌, filter, length, codes, Option, Some, None, is_some, [], slice_get}
use Rattle.qo_model.proofs.Common.{⊤, AllByRecursion, body_act, Registers, fresh_registers, MACHINE_BIRTH, OBJECTS_BIRTH, Code, Act, Realize, Hold, Exit, TypeId, Range, Board, Record, acted, with_act_on, buses_of, kids_of, Change, added, deleted, wrote, severed, after_changes, changed, all_completed, asked, asked_of, completed, device_at, reset_whole, Given, added_as, object_add, opening_board, attached, canonical, Resources, Wanted, acted_all, barred_early, barred_late, bus_births, bus_for, counted, drafted, notice_barred, plug, plug_as, plug_by, plug_late, resources_of, type_barred, with_body_of, with_device, with_path, with_plugged, drop_slot, edit, edited, finish, forgotten, pin, with_dropped, without_first, KeepsRelease, is_not_in_reset, phased, plugged, post, pulse, released, TypeInfo, is_a, type_named, slots_of, types, detach}
use Rattle.std.proofs.lemmas.Option.{same_Some}
use Rattle.qo_values.proofs.EachLemmas.{AllBodies, each, each_act, each_body}
use Rattle.qo_model.specs.Reset.{after_hold}
use Rattle.qo_model.specs.Board.{Removal}
use Rattle.qo_model.specs.Hotplug.{is_early}
use Rattle.qo_model.proofs.ComesToLemmas.{addition-comes}
use Rattle.qo_model.proofs.ReleaseInductionLemmas.{after_keeps}
use Rattle.qo_model.proofs.StepLemmas.{found_at}
use Rattle.qo_sound.specs.NoTimers.{is_timer, makes_timer, Timerless, TimerlessKeptLaw}
use Rattle.qo_sound.proofs.RecordLemmas.{all-append, all-filter, all-map}
use Rattle.qo_sound.proofs.AddLemmas.{creatable}
use Rattle.qo_sound.proofs.AdditionStepsLemmas.{all-any, KeepsActs, KeepsEdits, KeepsNew, new_with, RowPasses, step-acted_all, step-drafted, step-plugged, step-stood}
use Rattle.qo_sound.proofs.DetachmentStepsLemmas.{KeepsEnds, KeepsLists, KeepsPins, step-detach, step-pin, step-unrealize}
use Rattle.qo_sound.proofs.ChangeStepsLemmas.{step-object_del, step-sever, step-write}
use Rattle.qo_values.specs.declared.kinds.ResetKind.{ResetKind}
use Rattle.qo_values.specs.declared.kinds.ResetKind.TheVariants.{Cold}
use Rattle.qo_values.specs.Kinds.{entering}

-- an object that is no timer
abbrev NoTimer : Record → Type 0
NoTimer r = is_timer r.registers ≡ false

abbrev NoTimerType : TypeId → Type 0
NoTimerType t = is_timer (fresh_registers t) ≡ false

-- an act makes no timer of what is none
abbrev StaysNone : Act → Registers → Type 0
StaysNone act r = (now period : ℕ) → is_timer r ≡ false → is_timer (body_act act now period r) ≡ false

abbrev StayNone : Act → Type 0
StayNone act = AllBodies (StaysNone act)

act-no_timer : (act : Act) (now period : ℕ) (r : Registers) → is_timer r ≡ false → is_timer (body_act act now period r) ≡ false
act-no_timer act now period r = each_body (StaysNone act) (each_act StayNone (search rules) act) r now period

-- no further object of a device is a timer
rows-no_timer : (t : TypeId) → AllByRecursion (RowPasses NoTimerType) (slots_of t)
unfolding types
rows-no_timer = each (λ (t : TypeId). AllByRecursion (RowPasses NoTimerType) (slots_of t)) (search rules)

-- and no object that a command may make
created-no_timer : (t : TypeId) → is_a t (codes "user-creatable") ≡ true → NoTimerType t
unfolding types
created-no_timer = each (λ (t : TypeId). is_a t (codes "user-creatable") ≡ true → NoTimerType t) (search rules)

-- small steps

edited-no_timer : (n : ℕ) (change : Record → Record) → ((r : Record) → NoTimer r → NoTimer (change r)) → (r : Record) → NoTimer r → NoTimer (edited n change r)
edited-no_timer n change keeps r h = go (r.birth == n) refl
  where
    go : (u : Bool) → (r.birth == n) ≡ u → NoTimer (edited n change r)
    go true e = rw (edited, e) (keeps r h)
    go false e = rw (edited, e) h

edit-timerless : (n : ℕ) (change : Record → Record) → ((r : Record) → NoTimer r → NoTimer (change r)) → (c : Board) → Timerless c → Timerless (edit n change c)
edit-timerless n change keeps c h = all-map NoTimer NoTimer (edited n change) (edited-no_timer n change keeps) c.records h

timerless-edits : KeepsEdits Timerless
timerless-edits n change same c h =
    edit-timerless n change (λ r k. ap (λ (x : Record). is_timer x.registers) (same r) ∙ k) c h

timerless-acts : KeepsActs (λ n. ⊤) Timerless
unfolding acted
timerless-acts act n period unbound on c h =
    edit-timerless n (with_act_on act c.now period) (λ r k. act-no_timer act c.now period r.registers k) c h

timerless-new : KeepsNew NoTimerType Timerless
timerless-new k slots made c h = all-append NoTimer c.records (new_with c k slots ∷ []) h (made, tt)

timerless-lists : KeepsLists Timerless
timerless-lists holds pending notices c h = h

timerless-pins : KeepsPins Timerless
timerless-pins pins c h = h

finish-timerless : (c : Board) (n : ℕ) → Timerless c → Timerless (finish c n)
unfolding finish
finish-timerless c n h = all-map NoTimer NoTimer (forgotten n) (λ r k. k) _ (all-filter NoTimer (λ (r : Record). not (r.birth == n)) c.records h)

drop-timerless : (c : Board) (n i : ℕ) → Timerless c → Timerless (drop_slot c n i)
unfolding drop_slot
drop-timerless c n i h = timerless-edits n (with_dropped i) (λ r. refl) c h

release-timerless : KeepsRelease (λ (work : List (ℕ × ℕ)) (c : Board). Timerless c)
release-timerless =
    record {
      ended = λ c n i work h e. finish-timerless c n h;
      freed = λ c n i work s m h e q free. drop-timerless c n i h;
      kept = λ c n i work s h e held_on. drop-timerless c n i h;
    }

timerless-ends : KeepsEnds Timerless
timerless-ends o c h = after_keeps (λ (work : List (ℕ × ℕ)) (d : Board). Timerless d) release-timerless c o [] (λ m e free. h) (λ held_on. h)

-- the commands on objects

added-timerless : (b : Board) (t : TypeId) (id : List ℕ) (props : List Given) → NoTimerType t → (o : Option Code) → Timerless b
    → Timerless (added_as b t id props o).board
added-timerless b t id props made (Some code) h = h
added-timerless b t id props made None h =
    all-append NoTimer _ _ (all-map NoTimer NoTimer _ (edited-no_timer OBJECTS_BIRTH _ (λ r k. k)) b.records h) (made, tt)

object_add-timerless : (b : Board) (driver id : List ℕ) (props : List Given) → Timerless b → Timerless (object_add b driver id props).board
object_add-timerless b driver id props h =
    addition-comes Timerless b driver id props h (λ row e o is. added-timerless b row.id id props (created-no_timer row.id (creatable b row id e)) o h)

changed-timerless : (b : Board) (change : Change) → Timerless b → Timerless (changed b change)
changed-timerless b (added driver id props) h = object_add-timerless b driver id props h
changed-timerless b (deleted id) h = step-object_del Timerless timerless-edits timerless-pins timerless-ends b id h
changed-timerless b (wrote n name v) h = step-write Timerless timerless-edits timerless-pins timerless-ends b n name v h
changed-timerless b (severed n) h = step-sever Timerless timerless-edits timerless-pins timerless-ends b n h

after-timerless : (changes : List Change) (b : Board) → Timerless b → Timerless (after_changes b changes)
after-timerless [] b h = h
after-timerless (change ∷ changes) b h = after-timerless changes (changed b change) (changed-timerless b change h)

opening-timerless : Timerless opening_board
unfolding opening_board types
opening-timerless = search rules

-- adding

body-no_timer : (id : Option (List ℕ)) (range : Option Range) (r : Record) → NoTimer r → NoTimer (with_body_of id range r)
body-no_timer id None r h = h
body-no_timer id (Some range) r h = refl

counted-timerless : (id : Option (List ℕ)) (c : Board) → Timerless c → Timerless (counted id c)
counted-timerless None c h = h
counted-timerless (Some id) c h = h

plugged-timerless : (b : Board) (t : TypeId) (a : Wanted) (resources : Resources) → NoTimerType t → Timerless b → Timerless (with_plugged b t a resources)
plugged-timerless b t a resources made h =
    edit-timerless n (with_path (canonical passed_on n)) (λ r k. k) passed_on
    (step-plugged (λ m. ⊤) Timerless timerless-acts n _ (all-any (post (acted_all Realize (n ∷ bus_births n t) (with_device b t a resources)) n))
    (step-acted_all (λ m. ⊤) Timerless timerless-acts Realize refl (n ∷ bus_births n t) (all-any (n ∷ bus_births n t)) _
    (counted-timerless a.id _
    (step-stood Timerless timerless-edits b n a resources (λ c k. edit-timerless n (with_body_of a.id resources.range) (body-no_timer a.id resources.range) c k)
    (drafted b t)
    (step-drafted Timerless timerless-edits NoTimerType timerless-new t made (rows-no_timer t) b h)))))
  where
    n : ℕ
    n = b.born + 1

    passed_on : Board
    passed_on = plugged (acted_all Realize (n ∷ bus_births n t) (with_device b t a resources)) n

late-timerless : (b : Board) (t : TypeId) (bus : ℕ) (a : Wanted) (o : Option (ℕ × Code)) → NoTimerType t → Timerless b → Timerless (plug_late b t bus a o).board
late-timerless b t bus a (Some refusal) made h = h
late-timerless b t bus a None made h = plugged-timerless b t a (resources_of b t bus a.props) made h

as-timerless : (b : Board) (t : TypeId) (a : Wanted) (o : Option (ℕ × Code)) → NoTimerType t → Timerless b → Timerless (plug_as b t a o).board
as-timerless b t a (Some refusal) made h = h
as-timerless b t a None made h = go (bus_for b t a.bus) refl
  where
    go : (m : Option ℕ) → bus_for b t a.bus ≡ m → Timerless (plug_as b t a None).board
    go None p = rw (plug_as, p) h
    go (Some bus) p = rw (plug_as, p) (late-timerless b t bus a (barred_late b t bus a.props) made h)

by-timerless : (b : Board) (a : Wanted) (o : Option Code) → makes_timer a.driver ≡ false → Timerless b → Timerless (plug_by b a o).board
by-timerless b a (Some code) made h = h
by-timerless b a None made h = go (type_named a.driver) refl
  where
    go : (row : Option TypeInfo) → type_named a.driver ≡ row → Timerless (plug_by b a None).board
    go None p = rw (plug_by, p) h
    go (Some row) p = rw (plug_by, p) (as-timerless b row.id a (barred_early b row.id a) (rw (makes_timer, p) at made) h)

plug-timerless : (b : Board) (a : Wanted) → makes_timer a.driver ≡ false → Timerless b → Timerless (plug b a).board
unfolding plug
plug-timerless b a made h = by-timerless b a (type_barred a.driver) made h

-- detaching

pub detach-timerless : (b : Board) (d : ℕ) → Timerless b → Timerless (detach b d)
detach-timerless b d h =
    step-detach Timerless timerless-edits timerless-pins timerless-ends b d
    (step-unrealize (λ n. ⊤) Timerless timerless-edits timerless-acts timerless-lists (pin b d)
    (λ m. all-any (buses_of (pin b d) m)) (λ m. all-any (kids_of (pin b d) m)) d tt
    (step-pin Timerless timerless-edits timerless-pins timerless-ends d b h))

-- removals that are asked for, and the reset of the whole board

asked_of-timerless : (b : Board) (d : ℕ) → Timerless b → Timerless (asked_of b d).board
asked_of-timerless b d h = go (attached b d) refl (is_early b d) refl (is_some (notice_barred b)) refl
  where
    go : (u : Bool) → attached b d ≡ u → (v : Bool) → is_early b d ≡ v → (w : Bool) → is_some (notice_barred b) ≡ w → Timerless (asked_of b d).board
    go false p v q w r = rw (asked_of, p) h
    go true p true q w r = rw (asked_of, p, q) h
    go true p false q true r = rw (asked_of, p, q, r) h
    go true p false q false r = rw (asked_of, p, q, r) h

asked-timerless : (b : Board) (id : List ℕ) → Timerless b → Timerless (asked b id).board
asked-timerless b id h = go (device_at b id) refl
  where
    go : (o : Option ℕ) → device_at b id ≡ o → Timerless (asked b id).board
    go None p = rw (asked, p) h
    go (Some d) p = rw (asked, p) (asked_of-timerless b d h)

completed-timerless : (times : ℕ) (b : Board) → Timerless b → Timerless (all_completed times b)
completed-timerless zero b h = h
completed-timerless (suc times) b h = go (slice_get b.pending 0) refl (completed-timerless times)
  where
    go : (o : Option Removal) → slice_get b.pending 0 ≡ o → ((c : Board) → Timerless c → Timerless (all_completed times c))
        → Timerless (all_completed (suc times) b)
    go None p rest = rw (all_completed, p) h
    go (Some d) p rest = rw (all_completed, p) (rest (completed b d.birth) (detach-timerless b d.birth h))

acted-timerless : (act : Act) (n period : ℕ) (c : Board) → Timerless c → Timerless (acted act n period c)
unfolding acted
acted-timerless act n period c h = edit-timerless n (with_act_on act c.now period) (λ r k. act-no_timer act c.now period r.registers k) c h

phased-timerless : (act : Act) (ns : List ℕ) (c : Board) → Timerless c → Timerless (phased act ns c)
phased-timerless act [] c h = h
phased-timerless act (n ∷ ns) c h = phased-timerless act ns (acted act n 0 c) (acted-timerless act n 0 c h)

held-timerless : (b : Board) (n : ℕ) (kind : ResetKind) → Timerless b → Timerless (after_hold b n kind)
unfolding after_hold
held-timerless b n kind h =
    let out : List ℕ = filter (is_not_in_reset b) (post b n) in
    phased-timerless Hold out (phased (entering kind) out b) (phased-timerless (entering kind) out b h)

released-timerless : (b : Board) (n : ℕ) → Timerless b → Timerless (released b n)
unfolding released
released-timerless b n h =
    let c : Board = record b { holds = without_first n b.holds } in
    phased-timerless Exit (filter (is_not_in_reset c) (post c n)) c h

pulse-timerless : (b : Board) (n : ℕ) (kind : ResetKind) → Timerless b → Timerless (pulse b n kind)
unfolding pulse
pulse-timerless b n kind h = released-timerless (after_hold b n kind) n (held-timerless b n kind h)

reset-timerless : (b : Board) → Timerless b → Timerless (reset_whole b)
unfolding reset_whole
reset-timerless b h = pulse-timerless (all_completed (length b.pending) b) MACHINE_BIRTH Cold (completed-timerless (length b.pending) b h)

there-timerless : (n : ℕ) (rs : List Record) (r : Record) → found_at n rs ≡ Some r → AllByRecursion NoTimer rs → NoTimer r
there-timerless n [] r e h = absurd (let clash : None ≡ Some r = e in cc)
there-timerless n (x ∷ rs) r e h = go (x.birth == n) refl (there-timerless n rs r)
  where
    go : (u : Bool) → (x.birth == n) ≡ u → (found_at n rs ≡ Some r → AllByRecursion NoTimer rs → NoTimer r) → NoTimer r
    go true p rest = rw (sym (same_Some x r (rw p at e))) h.0
    go false p rest = rest (rw p at e) h.1

pub timerless_kept_lem : TimerlessKeptLaw
timerless_kept_lem =
    record {
      opening = opening-timerless;
      same = λ b c e h. rw e h;
      there = λ b n r e h. there-timerless n b.records r e h;
      change = changed-timerless;
      attempt = λ b t h. h;
      run = λ changes. after-timerless changes opening_board opening-timerless;
      plugged = plug-timerless;
      cut = λ b t i joined h. h;
      detached = detach-timerless;
      asked_for = asked-timerless;
      refused_by = λ b d h. h;
      acts = acted-timerless;
      held_so = held-timerless;
      released_so = released-timerless;
      pulsed = pulse-timerless;
      reset = reset-timerless;
    }
