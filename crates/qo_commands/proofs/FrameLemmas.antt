-- What leaves the objects of a board but for their plain values and registers.
use Rattle.std.proofs.Common.{◌≡◌, refl, ap, ap₂, sym, subst, ◌∙◌, ℕ, zero, suc, ◌+◌, ◌==◌, nat_lt, Bool, true, false, not, if◌then◌else◌, List, [], ◌∷◌, map, length, Option, None, Some, option_map, Result, Ok, Err}
use Rattle.std.specs.Option.{option_map_or}
use Rattle.qo_values.specs.Registers.{Effect, Registers, byte, nothing, pulse as pulses}
use Rattle.qo_values.specs.declared.births.TheConstants.{MACHINE_BIRTH}
use Rattle.qo_values.specs.declared.codes.Code.{Code}
use Rattle.qo_values.specs.declared.kinds.Act.{Act}
use Rattle.qo_values.specs.declared.kinds.ResetKind.{ResetKind}
use Rattle.qo_values.specs.declared.kinds.ResetKind.TheVariants.{Cold, Wakeup}
use Rattle.qo_values.specs.declared.limits.TheConstants.{TIME_MAX}
use Rattle.qo_values.specs.declared.properties.Val.{Val}
use Rattle.qo_values.specs.declared.properties.Val.TheVariants as val
use Rattle.qo_buses.specs.Rings.{claimed_ring}
use Rattle.qo_model.specs.Board.{Board, Record, Removal, Slot, alias, child, plain, slots_at, strong, weak}
use Rattle.qo_model.specs.Changes.{changed_at, set, with_changed, with_val}
use Rattle.qo_model.specs.ClockChanges.{clock_scaled, clock_set}
use Rattle.qo_model.specs.Clocks.{acted, with_act_on}
use Rattle.qo_model.specs.Devices.{first_bus}
use Rattle.qo_model.specs.Hotplug.{all_completed, reset_whole, woken}
use Rattle.qo_model.specs.Objects.{Changed, index_from}
use Rattle.qo_model.specs.Paths.{attached}
use Rattle.qo_model.specs.Release.{edit, edited}
use Rattle.qo_model.specs.Reset.{after_hold, exceeds_depth, pulse, released}
use Rattle.qo_model.specs.SoundGraph.{without_value, without_values}
use Rattle.qo_model.specs.Unplug.{is_named, set_named}
use Rattle.qo_realize.specs.Registers.{after_effect, guest_written, pushed, registers_written}
use Rattle.qo_realize.specs.Resets.{at_path, held_at, held_of, released_at, released_of, resettable_at}
use Rattle.qo_realize.specs.Time.{advanced}
use Rattle.qo_sound.proofs.QuietStepsLemmas.{quiet-held, quiet-pulse, quiet-released}
use Rattle.qo_sound_clocks.specs.RegisterWrites.{registers_set, with_registers}
use Rattle.qo_sound_clocks.proofs.StepsLemmas.{KeepsNumbers, calls-kept, kept-scaled, kept-set}
use Rattle.qo_sound_shapes.specs.SoundShape.{unvalued}
use Rattle.qo_commands.specs.Hearing.{if_written, written_by}
use Rattle.qo_commands.specs.Touched.{Touches, touched_by_reset}
use Rattle.qo_commands.proofs.DeviceFrameLemmas.{frame_of, framed-lines}

-- an object that is changed in these alone
framed-edited : (n : ℕ) (change : Record → Record) → ((r : Record) → without_values (change r) ≡ without_values r) → (rs : List Record)
    → map without_values rs ≡ map without_values (map (edited n change) rs)
framed-edited n change same [] = refl
framed-edited n change same (r ∷ rs) = go (r.birth == n) refl (framed-edited n change same rs)
  where
    go : (t : Bool) → (r.birth == n) ≡ t → map without_values rs ≡ map without_values (map (edited n change) rs)
        → map without_values (r ∷ rs) ≡ map without_values (map (edited n change) (r ∷ rs))
    go true p rest = rw p (ap₂ (λ (x : Record) (xs : List Record). x ∷ xs) (sym (same r)) rest)
    go false p rest = rw p (ap (λ (xs : List Record). without_values r ∷ xs) rest)

pub frame-edit : (n : ℕ) (change : Record → Record) → ((r : Record) → without_values (change r) ≡ without_values r) → (b : Board)
    → frame_of b ≡ frame_of (edit n change b)
frame-edit n change same b = framed-edited n change same b.records

-- a plain slot that is set
value-unseen : (v : Val) (s : Slot) → without_value (with_val v s) ≡ without_value s
value-unseen v (plain old) = refl
value-unseen v (child m) = refl
value-unseen v (strong t target) = refl
value-unseen v (weak t target) = refl
value-unseen v (alias m property) = refl

slots-set : (v : Val) (i : ℕ) (slots : List (List ℕ × Slot)) → unvalued (changed_at (with_val v) i slots) ≡ unvalued slots
slots-set v i [] = refl
slots-set v zero (s ∷ slots) = ap (λ (x : Slot). (s.0, x) ∷ unvalued slots) (value-unseen v s.1)
slots-set v (suc i) (s ∷ slots) = ap (λ (xs : List (List ℕ × Slot)). (s.0, without_value s.1) ∷ xs) (slots-set v i slots)

frame-set : (n i : ℕ) (v : Val) (b : Board) → frame_of b ≡ frame_of (set n i v b)
unfolding set
frame-set n i v b =
    frame-edit n (with_changed (with_val v) i)
    (λ r. ap (λ (slots : List (List ℕ × Slot)). record (without_values r) { slots = slots }) (slots-set v i r.slots)) b

-- so it is after others
module _ (b : Board) where
  abbrev Framed : Board → Type 0
  Framed c = frame_of b ≡ frame_of c

  framed-beside : (c d : Board) → d.records ≡ c.records → Framed c → Framed d
  framed-beside c d same h = h ∙ ap (λ (rs : List Record). map without_values rs) (sym same)

  framed-acted : (act : Act) (n period : ℕ) (c : Board) → Framed c → Framed (acted act n period c)
  unfolding acted
  framed-acted act n period c h = h ∙ frame-edit n (with_act_on act c.now period) (λ r. refl) c

  framed-held : (n : ℕ) (kind : ResetKind) → Framed (after_hold b n kind)
  framed-held n kind = quiet-held Framed framed-beside framed-acted b n kind refl

  framed-released : (n : ℕ) → Framed (released b n)
  framed-released n = quiet-released Framed framed-beside framed-acted b n refl

  framed-pulse : (c : Board) (n : ℕ) (kind : ResetKind) → Framed c → Framed (pulse c n kind)
  framed-pulse c n kind h = quiet-pulse Framed framed-beside framed-acted c n kind h

  -- numbers of clocks that are written

  framed-number : KeepsNumbers Framed
  framed-number name place mark n v c h = go (index_from (is_named name) 0 (slots_at c n)) refl
    where
      go : (o : Option ℕ) → index_from (is_named name) 0 (slots_at c n) ≡ o → Framed (set_named n name (val.Uint v) c)
      go None e = rw (set_named, e) h
      go (Some i) e = rw (set_named, e) (h ∙ frame-set n i (val.Uint v) c)

  pub set-frame : (c : Board) (n period : ℕ) → clock_set b n period ≡ Ok c → frame_of b ≡ frame_of c
  set-frame c n period e = kept-set Framed (calls-kept Framed framed-acted) framed-number b c n period e refl

  pub scaled-frame : (c : Board) (n mul div : ℕ) → clock_scaled b n mul div ≡ Ok c → frame_of b ≡ frame_of c
  scaled-frame c n mul div e = kept-scaled Framed (calls-kept Framed framed-acted) framed-number b c n mul div e refl

  -- what a write of the guest does beside

  framed-effect : (d : ℕ) (e : Effect) (c : Board) → Framed c → Framed (after_effect d e c)
  framed-effect d nothing c h = h
  framed-effect d pulses c h = go (first_bus c d)
    where
      go : (o : Option ℕ) → Framed (option_map_or (λ m. pulse c m Cold) o c)
      go None = h
      go (Some bus) = framed-pulse c bus Cold h
  framed-effect d (byte n) c h = go (claimed_ring c d)
    where
      go : (o : Option (List ℕ)) → Framed (option_map_or (pushed n c) o c)
      go None = h
      go (Some id) = h

-- a write of the guest
frame-written : (b : Board) (d reg value : ℕ) → frame_of b ≡ frame_of (if_written b (guest_written b d reg value)).board
frame-written b d reg value = go (registers_written b d reg value)
  where
    go : (o : Option (Registers × Effect))
        → frame_of b ≡ frame_of (if_written b (option_map (λ (w : Registers × Effect). after_effect d w.1 (registers_set b d w.0)) o)).board
    go None = refl
    go (Some w) = framed-effect b d w.1 (registers_set b d w.0) (frame-edit d (with_registers w.0) (λ r. refl) b)

pub written-frame : (b : Board) (reg value : ℕ) (o : Option ℕ) → frame_of b ≡ frame_of (written_by b reg value o).board
written-frame b reg value None = refl
written-frame b reg value (Some d) = frame-written b d reg value

-- a reset of the whole board
pub reset-touches : (b : Board) (pending : List Removal) → b.pending ≡ pending → Touches (touched_by_reset pending) b (reset_whole b)
unfolding reset_whole
reset-touches b [] none =
    framed-lines b (reset_whole b)
    (subst (λ (c : Board). frame_of b ≡ frame_of (pulse c MACHINE_BIRTH Cold)) (sym (ap (λ (rs : List Removal). all_completed (length rs) b) none))
    (framed-pulse b b MACHINE_BIRTH Cold refl))
reset-touches b (r ∷ removals) some = tt

-- a wakeup
pub woken-frame : (b : Board) → frame_of b ≡ frame_of (woken b)
woken-frame b = framed-pulse b b MACHINE_BIRTH Wakeup refl

-- either of two changes
or-frame : (b : Board) (t : Bool) (c d : Changed) → frame_of b ≡ frame_of c.board → frame_of b ≡ frame_of d.board
    → frame_of b ≡ frame_of (if t then c else d).board
or-frame b true c d p q = p
or-frame b false c d p q = q

-- time that goes on
pub advanced-frame : (b : Board) (ns : ℕ) → frame_of b ≡ frame_of (advanced b ns).board
advanced-frame b ns = or-frame b (not b.running) _ _ refl (or-frame b (nat_lt TIME_MAX (b.now + ns)) _ _ refl refl)

-- holds

held_of-frame : (b : Board) (n : ℕ) (kind : ResetKind) → frame_of b ≡ frame_of (held_of b n kind).board
held_of-frame b n kind = or-frame b (not (attached b n)) _ _ refl (or-frame b (exceeds_depth b n) _ _ refl (framed-held b n kind))

pub held-frame : (b : Board) (path : List ℕ) (kind : ResetKind) → frame_of b ≡ frame_of (held_at b path kind).board
held-frame b path kind = go (resettable_at b path)
  where
    go : (r : Result ℕ Code) → frame_of b ≡ frame_of (at_path b (λ n. held_of b n kind) r).board
    go (Err code) = refl
    go (Ok n) = held_of-frame b n kind

pub released-frame : (b : Board) (path : List ℕ) → frame_of b ≡ frame_of (released_at b path).board
released-frame b path = go (resettable_at b path)
  where
    go : (r : Result ℕ Code) → frame_of b ≡ frame_of (at_path b (released_of b) r).board
    go (Err code) = refl
    go (Ok n) = or-frame b _ _ _ (framed-released b n) refl
