-- Writes of a clock keep phases sound: its numbers are in no slot that is read here, and no act by which clocks are called back is a phase.
use Rattle.std.proofs.Common.{◌≡◌, refl, sym, subst, ◌∙◌, ℕ, false, eqb, List, [], ◌∷◌, codes, Option, Some, None, is_some, Ok, Err, arith}
use Rattle.qo_model.proofs.Common.{list_any, bytes_eq, E45, E46, E47, Act, Pre, Update, Board, slots_at, set, clock_scaled, clock_set, acted, called, called_all, clock_written, clocks_below, overflows, period, source_of, spread, index_from, is_named, set_named}
use Rattle.qo_model.specs.declared.notes.Deed.TheVariants.{Did}
use Rattle.qo_values.specs.declared.properties.Val.TheVariants as val
use Rattle.qo_model.specs.Paths.{parent_of}
use Rattle.qo_sound.proofs.TestLemmas.{decide}
use Rattle.qo_sound_devices.specs.SoundDevices.{SoundDevices}
use Rattle.qo_sound_devices.proofs.PlacesLemmas.{kind-alike}
use Rattle.qo_sound_devices.proofs.UnrealizingLemmas.{Dims, dims-acted, dims-none, dims-set, dims-then}
use Rattle.qo_sound_clocks.proofs.WriteLawLemmas.{writes_keep_lem}
use Rattle.qo_sound_clocks.proofs.StepsLemmas.{same_ok}
use Rattle.qo_sound_phases.specs.Phases.{phase_of}
use Rattle.qo_sound_phases.specs.SoundPhases.{SoundPhases}
use Rattle.qo_sound_phases.proofs.ResetTreeLemmas.{placed}
use Rattle.qo_sound_phases.proofs.FrameLemmas.{dims-frame, dims-reached}
use Rattle.qo_sound_phases.proofs.QuietChangeLemmas.{frame-phases, Quiet, quiet-acted, quiet-then}

-- what a write leaves
record LeavesPhases (b c : Board) : Type 0 where
  dims : Dims b c
  holds : c.holds ≡ b.holds
  born : c.born ≡ b.born
  quiet : Quiet b c

leaves-none : (b : Board) → LeavesPhases b b
leaves-none b = record { dims = dims-none b; holds = refl; born = refl; quiet = λ n. refl }

leaves-then : (b c d : Board) → LeavesPhases b c → LeavesPhases c d → LeavesPhases b d
leaves-then b c d h k =
    record {
      dims = dims-then b c d h.dims k.dims;
      holds = k.holds ∙ h.holds;
      born = k.born ∙ h.born;
      quiet = quiet-then b c d h.quiet k.quiet;
    }

leaves-acted : (act : Act) → phase_of (Did act) ≡ None → (n period : ℕ) (b : Board) → LeavesPhases b (acted act n period b)
unfolding acted
leaves-acted act none n period b =
    record { dims = dims-acted act n period b; holds = refl; born = refl; quiet = quiet-acted act n period none b }

leaves-set : (name : List ℕ) → bytes_eq name (codes "slot") ≡ false → bytes_eq name (codes "realized") ≡ false → (n v : ℕ) (b : Board)
    → LeavesPhases b (set_named n name (val.Uint v) b)
unfolding set
leaves-set name no_slot no_mark n v b = go (index_from (is_named name) 0 (slots_at b n)) refl
  where
    dims : Dims b (set_named n name (val.Uint v) b)
    dims = dims-set n name (val.Uint v) no_slot no_mark b

    go : (o : Option ℕ) → index_from (is_named name) 0 (slots_at b n) ≡ o → LeavesPhases b (set_named n name (val.Uint v) b)
    go None e = record { dims = dims; holds = rw (set_named, e) refl; born = rw (set_named, e) refl; quiet = λ m. rw (set_named, e) refl }
    go (Some i) e = record { dims = dims; holds = rw (set_named, e) refl; born = rw (set_named, e) refl; quiet = λ m. rw (set_named, e) refl }

-- the clocks below are called back
leaves-called : (old new b : Board) (c : ℕ) → LeavesPhases b (called old new b c)
leaves-called old new b c =
    decide (eqb (period old c) (period new c)) (λ p. rw (called, p) (leaves-none b)) (λ p. by p (parent_of new c) refl)
  where
    by : eqb (period old c) (period new c) ≡ false → (o : Option ℕ) → parent_of new c ≡ o → LeavesPhases b (called old new b c)
    by p None q = rw (called, p, q) (leaves-none b)
    by p (Some d) q =
        let mid : Board = acted Pre d (period old c) b in
        rw (called, p, q)
        (leaves-then b mid (acted Update d (period new c) mid) (leaves-acted Pre refl d (period old c) b) (leaves-acted Update refl d (period new c) mid))

leaves-all : (old new : Board) (cs : List ℕ) (b : Board) → LeavesPhases b (called_all old new cs b)
leaves-all old new [] b = leaves-none b
leaves-all old new (c ∷ cs) b =
    leaves-then b (called old new b c) (called_all old new (c ∷ cs) b) (leaves-called old new b c) (leaves-all old new cs (called old new b c))

leaves-written : (b new d : Board) (c : ℕ) → LeavesPhases b new → clock_written b new c ≡ Ok d → LeavesPhases b d
leaves-written b new d c h e =
    decide (list_any (overflows new) (c ∷ clocks_below b c)) (λ p. absurd (let clash : Err E47 ≡ Ok d = rw (clock_written, p) at e in cc))
    (λ p.
    let is : Ok (spread b new c) ≡ Ok d = rw (clock_written, p) at e in
    subst (LeavesPhases b) (same_ok (spread b new c) d is) (leaves-then b new (spread b new c) h (leaves-all b new (clocks_below b c) new)))

-- a device, a bus and the machine are where they were
module _ (b d : Board) (s : SoundDevices b) (t : SoundDevices d) (h : SoundPhases b) (k : LeavesPhases b d) where
  leaves-phases : SoundPhases d
  leaves-phases =
      frame-phases b d (placed b s) (placed d t) (dims-frame b d k.dims) (dims-reached b d k.dims) k.holds (omega (arith, k.born)) k.quiet
      (λ lone n e. lone n (sym (kind-alike b d n (k.dims.dimmed.body n)) ∙ e)) h

pub set-phases : (b d : Board) (c period : ℕ) → clock_set b c period ≡ Ok d → SoundDevices b → SoundPhases b → SoundPhases d
set-phases b d c period e s h = leaves-phases b d s (writes_keep_lem.set_devices b d c period e s) h left
  where
    left : LeavesPhases b d
    left =
        decide (is_some (source_of b c)) (λ p. absurd (let clash : Err E45 ≡ Ok d = rw (clock_set, p) at e in cc))
        (λ p.
        leaves-written b (set_named c (codes "period") (val.Uint period) b) d c (leaves-set (codes "period") refl refl c period b) (rw (clock_set, p) at e))

pub scaled-phases : (b d : Board) (c mul div : ℕ) → clock_scaled b c mul div ≡ Ok d → SoundDevices b → SoundPhases b → SoundPhases d
scaled-phases b d c mul div e s h = leaves-phases b d s (writes_keep_lem.scaled_devices b d c mul div e s) h left
  where
    mid : Board
    mid = set_named c (codes "mul") (val.Uint mul) b

    end : Board
    end = set_named c (codes "div") (val.Uint div) mid

    left : LeavesPhases b d
    left =
        decide (eqb div 0) (λ p. absurd (let clash : Err E46 ≡ Ok d = rw (clock_scaled, p) at e in cc))
        (λ p.
        leaves-written b end d c
        (leaves-then b mid end (leaves-set (codes "mul") refl refl c mul b) (leaves-set (codes "div") refl refl c div mid)) (rw (clock_scaled, p) at e))
