-- Changes that note no phase, and those that change no object.
use Rattle.std.proofs.Common.{◌≡◌, refl, ap, sym, subst, ◌∙◌, ℕ, ◌+◌, ◌<◌, ◌≤◌, leb, Bool, true, false, ◌==◌, List, [], ◌∷◌, ◌++◌, map, append-nil, Option, Some, None, is_some, arith}
use Rattle.qo_model.proofs.Common.{if◌then◌else◌, ⊤, option_map_or, AllByRecursion, cons_option, fresh_registers, Act, Init, TypeId, Board, Record, is_live, record_of, acted, Change, added, changed, deleted, severed, wrote, Given, added_as, init_notes, object_add, with_attempt, Resources, Wanted, acted_all, counted, drafted, with_device, with_new, after, final_notes, finalize, finals_of, NotesEnds, notes_on, refs, finals, inits, slots_of, Code}
use Rattle.qo_model.specs.declared.notes.Deed.{Deed}
use Rattle.qo_model.specs.declared.notes.Deed.TheVariants.{Did, Final}
use Rattle.qo_model.specs.declared.notes.Note.{Note}
use Rattle.std.proofs.lemmas.List.Elements.{filter_map-append}
use Rattle.qo_model.proofs.ComesToLemmas.{addition-comes}
use Rattle.qo_model.proofs.ReleaseNotesLemmas.{final_notes_lem}
use Rattle.qo_sound.proofs.ChangeStepsLemmas.{step-object_del, step-sever, step-write}
use Rattle.qo_sound.proofs.DetachmentStepsLemmas.{KeepsEnds, KeepsPins}
use Rattle.qo_sound.proofs.AdditionStepsLemmas.{any-rows, new_with, KeepsEdits, KeepsNew, step-drafted, step-stood}
use Rattle.qo_values.proofs.ListLemmas.{all-imply}
use Rattle.qo_sound.proofs.TestLemmas.{decide}
use Rattle.qo_sound_phases.specs.Phases.{held, out, passed_all, phase_in, phase_of, phases_of, stage_of}
use Rattle.qo_sound_phases.specs.SoundPhases.{IsReached, LoneMachine, SoundPhases}
use Rattle.qo_sound_phases.proofs.ResetTreeLemmas.{Placed}
use Rattle.qo_sound_phases.proofs.FrameLemmas.{Frame, frame-count, frame-reached}
use Rattle.qo_sound_phases.proofs.ReachLemmas.{buses-stay, live-born, reached-live, shape-reached, StaysReached}
use Rattle.qo_sound_phases.proofs.ShapeLemmas.{SameShape, shape-back, shape-count}
use Rattle.qo_sound_phases.proofs.StageLemmas.{noted-none}

-- no phase is noted from one board to the other
abbrev pub Quiet : Board → Board → Type 0
Quiet b c = (n : ℕ) → stage_of n c.notes ≡ stage_of n b.notes

pub quiet-then : (b c d : Board) → Quiet b c → Quiet c d → Quiet b d
quiet-then b c d h k n = k n ∙ h n

-- notes of one kind of deed that is no phase
pub phases-made : (m : ℕ) (deed : TypeId → Deed) → ((t : TypeId) → phase_of (deed t) ≡ None) → (ts : List TypeId) (n : ℕ)
    → phases_of n (map (λ (t : TypeId). record { birth = m; deed = deed t }) ts) ≡ []
phases-made m deed none [] n = refl
phases-made m deed none (t ∷ ts) n =
    decide (m == n) (λ e. rw (e, none t) (phases-made m deed none ts n)) (λ e. rw e (phases-made m deed none ts n))

pub phases-init : (m : ℕ) (t : TypeId) (n : ℕ) → phases_of n (init_notes m t) ≡ []
phases-init m t n = phases-made m (λ (k : TypeId). Did (Init k)) (λ k. refl) (inits t) n

pub phases-final : (r : Record) (n : ℕ) → phases_of n (final_notes r) ≡ []
phases-final r n = phases-made r.birth Final (λ k. refl) (finals r.kind) n

-- the phases of an object are in the notes on it
phases-on : (n : ℕ) (notes : List Note) → phases_of n notes ≡ phases_of n (notes_on n notes)
phases-on n [] = refl
phases-on n (x ∷ xs) = go (x.birth == n) refl (phases-on n xs)
  where
    go : (t : Bool) → (x.birth == n) ≡ t → phases_of n xs ≡ phases_of n (notes_on n xs) → phases_of n (x ∷ xs) ≡ phases_of n (notes_on n (x ∷ xs))
    go true e rest = rw (e, e) (ap (cons_option (phase_of x.deed)) rest)
    go false e rest = rw e rest

finals-none : (b : Board) (n : ℕ) → phases_of n (finals_of b n) ≡ []
finals-none b n = go (record_of b n)
  where
    go : (o : Option Record) → phases_of n (option_map_or final_notes o []) ≡ []
    go None = refl
    go (Some r) = phases-final r n

-- a release
pub quiet-ends : (b c : Board) → NotesEnds b c → Quiet b c
quiet-ends b c h n =
    ap (passed_all out)
    (decide (is_live c n)
    (λ e. phases-on n c.notes ∙ ap (phases_of n) (h.living n e) ∙ sym (phases-on n b.notes))
    (λ e.
    phases-on n c.notes
    ∙ ap (phases_of n) (h.ended n e)
    ∙ filter_map-append (phase_in n) (notes_on n b.notes) (finals_of b n)
    ∙ ap (λ (acts : List Act). phases_of n (notes_on n b.notes) ++ acts) (finals-none b n)
    ∙ append-nil (phases_of n (notes_on n b.notes))
    ∙ sym (phases-on n b.notes)))

pub quiet-after : (b : Board) (o : Option ℕ) → Quiet b (after finalize b o)
quiet-after b None = λ n. refl
quiet-after b (Some m) = go (refs b m == 0) refl
  where
    go : (t : Bool) → (refs b m == 0) ≡ t → Quiet b (after finalize b (Some m))
    go true e = rw (after, e) (quiet-ends b (finalize b m) (final_notes_lem.finalized b m))
    go false e = rw (after, e) (λ n. refl)

-- an act that is no phase
pub quiet-acted : (act : Act) (n period : ℕ) → phase_of (Did act) ≡ None → (b : Board) → Quiet b (acted act n period b)
unfolding acted
quiet-acted act n period none b x = noted-none x b.notes (record { birth = n; deed = Did act } ∷ []) (decide (n == x) (λ e. rw (e, none) refl) (λ e. rw e refl))

pub quiet-acted_all : (act : Act) → phase_of (Did act) ≡ None → (ns : List ℕ) (b : Board) → Quiet b (acted_all act ns b)
quiet-acted_all act none [] b = λ n. refl
quiet-acted_all act none (n ∷ ns) b =
    quiet-then b (acted act n 0 b) (acted_all act ns (acted act n 0 b)) (quiet-acted act n 0 none b) (quiet-acted_all act none ns (acted act n 0 b))

-- commands on objects
edits : (b : Board) → KeepsEdits (Quiet b)
edits b n change leaves c h = h

pins : (b : Board) → KeepsPins (Quiet b)
pins b ps c h = h

ends : (b : Board) → KeepsEnds (Quiet b)
ends b o c h = quiet-then b c (after finalize c o) h (quiet-after c o)

pub quiet-attempt : (b : Board) (t : TypeId) → Quiet b (with_attempt b t)
quiet-attempt b t n =
    noted-none n (b.notes ++ init_notes (b.born + 1) t) (final_notes (fresh-end b t)) (phases-final (fresh-end b t) n)
    ∙ noted-none n b.notes (init_notes (b.born + 1) t) (phases-init (b.born + 1) t n)
  where
    fresh-end : (b : Board) (t : TypeId) → Record
    fresh-end b t = record { birth = b.born + 1; kind = t; slots = []; registers = fresh_registers t; device_id = None; kept_path = None }

quiet-added : (b : Board) (t : TypeId) (id : List ℕ) (props : List Given) (refusal : Option Code) → Quiet b (added_as b t id props refusal).board
quiet-added b t id props None n = noted-none n b.notes (init_notes (b.born + 1) t) (phases-init (b.born + 1) t n)
quiet-added b t id props (Some code) n = quiet-attempt b t n

quiet-add : (b : Board) (driver id : List ℕ) (props : List Given) → Quiet b (object_add b driver id props).board
quiet-add b driver id props = addition-comes (Quiet b) b driver id props (λ n. refl) (λ row e o is. quiet-added b row.id id props o)

pub quiet-changed : (b : Board) (change : Change) → Quiet b (changed b change)
quiet-changed b (added driver id props) = quiet-add b driver id props
quiet-changed b (deleted id) = step-object_del (Quiet b) (edits b) (pins b) (ends b) b id (λ n. refl)
quiet-changed b (wrote n name v) = step-write (Quiet b) (edits b) (pins b) (ends b) b n name v (λ m. refl)
quiet-changed b (severed n) = step-sever (Quiet b) (edits b) (pins b) (ends b) b n (λ m. refl)

-- a device as it is made
new : (b : Board) → KeepsNew (λ k. ⊤) (Quiet b)
new b k slots made c h =
    quiet-then b c (with_new (new_with c k slots) c) h (λ n. noted-none n c.notes (init_notes (c.born + 1) k) (phases-init (c.born + 1) k n))

pub quiet-device : (b : Board) (t : TypeId) (a : Wanted) (resources : Resources) → Quiet b (with_device b t a resources)
quiet-device b t a resources =
    count_in a.id _
    (step-stood (Quiet b) (edits b) b (b.born + 1) a resources (λ c h. h) (drafted b t)
    (step-drafted (Quiet b) (edits b) (λ k. ⊤) (new b) t tt (any-rows (slots_of t)) b (λ n. refl)))
  where
    count_in : (id : Option (List ℕ)) (c : Board) → Quiet b c → Quiet b (counted id c)
    count_in None c h = h
    count_in (Some its) c h = h

-- what leaves the objects that a reset reaches, the holds and the phases
pub frame-phases : (b c : Board) → Placed b → Placed c → Frame b c → StaysReached b c → c.holds ≡ b.holds → b.born ≤ c.born
    → Quiet b c → (LoneMachine b → LoneMachine c) → SoundPhases b → SoundPhases c
frame-phases b c kb kc f stay holds older quiet lone h =
    record {
      in_turn = λ n. ap is_some (quiet n) ∙ h.in_turn n;
      unborn = λ n high. quiet n ∙ h.unborn n (omega (arith, older, high));
      reached = λ n i.
          quiet n ∙ h.reached n (frame-reached b c kb kc f n i)
          ∙ ap (λ (k : ℕ). Some (if k == 0 then out else held)) (sym (frame-count b c kb kc f n i holds));
      holds = subst (AllByRecursion (IsReached c)) (sym holds) (all-imply (IsReached b) (IsReached c) stay b.holds h.holds);
      buses = buses-stay b c stay h.buses;
      lone = lone h.lone;
    }

-- what changes no object: births may pass that have their phases in turn
pub record Aside (b c : Board) : Type 0 where
  pub shape : SameShape b c
  pub holds : c.holds ≡ b.holds
  pub older : b.born ≤ c.born
  pub quiet : (n : ℕ) → n ≤ b.born → stage_of n c.notes ≡ stage_of n b.notes
  pub in_turn : (n : ℕ) → b.born < n → is_some (stage_of n c.notes) ≡ true
  pub unborn : (n : ℕ) → c.born < n → stage_of n c.notes ≡ Some out

not-over : (n m : ℕ) → leb n m ≡ true → n ≤ m
not-over n m e = grind (arith, e)

over : (n m : ℕ) → leb n m ≡ false → m < n
over n m e = grind (arith, e)

pub aside-phases : (b c : Board) → Placed b → Aside b c → SoundPhases b → SoundPhases c
aside-phases b c k a h =
    record {
      in_turn = λ n. decide (leb n b.born) (λ e. ap is_some (a.quiet n (not-over n b.born e)) ∙ h.in_turn n) (λ e. a.in_turn n (over n b.born e));
      unborn = a.unborn;
      reached = λ n i.
          a.quiet n (old n (back n i)) ∙ h.reached n (back n i)
          ∙ ap (λ (m : ℕ). Some (if m == 0 then out else held)) (sym (shape-count b c a.shape a.holds n));
      holds = subst (AllByRecursion (IsReached c)) (sym a.holds) (all-imply (IsReached b) (IsReached c) (shape-reached b c a.shape) b.holds h.holds);
      buses = buses-stay b c (shape-reached b c a.shape) h.buses;
      lone = λ x e. h.lone x (sym (a.shape.kind x) ∙ e);
    }
  where
    back : StaysReached c b
    back = shape-reached c b (shape-back b c a.shape)

    old : (n : ℕ) → IsReached b n → n ≤ b.born
    old n i = decide (leb n b.born) (λ e. not-over n b.born e) (λ e. absurd (live-born b k n (reached-live b k n i) (over n b.born e)))

-- what notes no phase either
pub quiet-aside : (b c : Board) → SameShape b c → c.holds ≡ b.holds → b.born ≤ c.born → Quiet b c → SoundPhases b → Aside b c
quiet-aside b c shape holds older quiet h =
    record {
      shape = shape;
      holds = holds;
      older = older;
      quiet = λ n low. quiet n;
      in_turn = λ n high. ap is_some (quiet n) ∙ h.in_turn n;
      unborn = λ n high. quiet n ∙ h.unborn n (omega (arith, older, high));
    }
