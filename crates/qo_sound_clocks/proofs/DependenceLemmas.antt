-- What leaves the slots of objects keeps what speaks of these alone: acts, holds, and what lies beside the objects. What is kept where objects read no more as
-- clocks, devices that go keep.
use Rattle.std.proofs.Common.{◌≡◌, refl, ap, ◌∙◌, ℕ, zero, suc, List, length, Option, Some, None, slice_get}
use Rattle.qo_model.proofs.Common.{MACHINE_BIRTH, Act, Board, Record, record_of, slots_at, acted, with_act_on, all_completed, completed, reset_whole, detach}
use Rattle.qo_model.specs.Board.{Removal}
use Rattle.qo_model.proofs.FirstSlotLemmas.{slots_in}
use Rattle.qo_model.proofs.StepLemmas.{found-edited, found_at, slots-edited}
use Rattle.qo_sound.specs.TreeKept.{SoundTree}
use Rattle.qo_sound.proofs.TreeKeptLemmas.{sound_kept_lem}
use Rattle.qo_sound.proofs.QuietStepsLemmas.{quiet-pulse}
use Rattle.qo_sound_clocks.proofs.DecreaseLemmas.{Fewer, fewer-detach, fewer-none}
use Rattle.qo_sound_clocks.proofs.ReadLemmas.{Reads, tree-reads}
use Rattle.qo_values.specs.declared.kinds.ResetKind.TheVariants.{Cold}

-- what is kept where objects read no more as clocks
abbrev pub KeptByFewer : (Board → Type 0) → Type 0
KeptByFewer P = (b c : Board) → Reads b → Reads c → Fewer b c → P b → P c

-- acts

pub acted-slots : (act : Act) (n period : ℕ) (b : Board) (x : ℕ) → slots_at (acted act n period b) x ≡ slots_at b x
unfolding acted
acted-slots act n period b x =
    ap slots_in (found-edited n (with_act_on act b.now period) (λ r. refl) x b.records)
    ∙ slots-edited n (with_act_on act b.now period) (λ r. refl) (record_of b x)

module _ (P : Board → Type 0) (same : (b c : Board) → ((n : ℕ) → slots_at c n ≡ slots_at b n) → P b → P c) where
  pub kept-beside : (b c : Board) → c.records ≡ b.records → P b → P c
  kept-beside b c e h = same b c (λ n. ap (λ (rs : List Record). slots_in (found_at n rs)) e) h

  pub kept-acted : (act : Act) (n period : ℕ) (b : Board) → P b → P (acted act n period b)
  kept-acted act n period b h = same b (acted act n period b) (acted-slots act n period b) h

  module _ (fewer : KeptByFewer P) where
    -- devices that go

    pub kept-detach : (b : Board) (d : ℕ) → SoundTree b → P b → P (detach b d)
    kept-detach b d tree h =
        fewer b (detach b d) (tree-reads b tree) (tree-reads (detach b d) (sound_kept_lem.detached b d tree)) (fewer-detach b b d (fewer-none b)) h

    kept-completed : (times : ℕ) (b : Board) → SoundTree b → P b → P (all_completed times b)
    kept-completed zero b tree h = h
    kept-completed (suc times) b tree h = go (slice_get b.pending 0) refl (kept-completed times)
      where
        go : (o : Option Removal) → slice_get b.pending 0 ≡ o → ((c : Board) → SoundTree c → P c → P (all_completed times c))
            → P (all_completed (suc times) b)
        go None e rest = rw (all_completed, e) h
        go (Some d) e rest = rw (all_completed, e) (rest (completed b d.birth) (sound_kept_lem.detached b d.birth tree) (kept-detach b d.birth tree h))

    pub kept-reset : (b : Board) → SoundTree b → P b → P (reset_whole b)
    unfolding reset_whole
    kept-reset b tree h =
        quiet-pulse P kept-beside kept-acted (all_completed (length b.pending) b) MACHINE_BIRTH Cold (kept-completed (length b.pending) b tree h)
