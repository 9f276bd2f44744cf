-- The law: what keeps the segments of timers sound.
use Rattle.std.proofs.Common.{◌≢◌, sym, subst, rules, ℕ}
use Rattle.qo_model.proofs.Common.{AllByRecursion, body_act, Registers, Act, Pre, Update, Board, Record, acted, opening_board, types, ⊤}
use Rattle.qo_values.proofs.ListLemmas.{all-imply}
use Rattle.qo_sound.proofs.SearchLemmas.{all-found}
use Rattle.qo_sound.proofs.RecordLemmas.{all-both}
use Rattle.qo_sound_clocks.specs.SoundTimes.{IsTimely, SoundTimes}
use Rattle.qo_sound_bounds.specs.SegmentsKept.{SegmentsKeptLaw}
use Rattle.qo_sound_bounds.specs.SoundSegments.{IsSegmented, SoundSegments}
use Rattle.qo_steps.specs.Changes.{Changes}
use Rattle.qo_steps.proofs.HoldStepsLemmas.{asked-by}
use Rattle.qo_steps.proofs.StepsLawLemmas.{changes-imply}
use Rattle.qo_sound_clocks.specs.RegisterWrites.{with_registers}
use Rattle.qo_steps.proofs.RegisterStepsLemmas.{Each, KeepsRegisters, acted-kept, edit-kept, kept-calls, registers-kept}
use Rattle.qo_sound_bounds.proofs.SegmentLemmas.{Paused, pre-paused, paused-timed, Timed, act-timed, fresh-timed, write-segments}

-- objects that are not ahead of a moment, with sound segments
abbrev RecordTimed : ℕ → Record → Type 0
RecordTimed now r = Timed now r.registers

abbrev Segmented : Record → Type 0
Segmented r = IsSegmented r.registers

own-timed : (act : Act) (now period : ℕ) (r : Registers) → act ≢ Pre → act ≢ Update → Timed now r → Timed now (body_act act now period r)
own-timed act now period r other apart h = act-timed act now period r other h

segments_keep : KeepsRegisters Timed Paused
segments_keep = record { fresh = fresh-timed; act = own-timed; pre = pre-paused; update = paused-timed; memory = λ now d. (tt, tt) }

-- a board of such objects
abbrev Sound : Board → Type 0
Sound = Each Timed

opening-segments : Sound opening_board
unfolding opening_board types
opening-segments = search rules

-- the segments alone

abbrev Timely : ℕ → Record → Type 0
Timely now r = IsTimely now r.registers

both : (b : Board) → SoundTimes b → SoundSegments b → Sound b
both b times h = all-both (Timely b.now) Segmented b.records times h

alone : (b : Board) → Sound b → SoundSegments b
alone b h = all-imply (RecordTimed b.now) Segmented (λ r k. k.1) b.records h

-- the same, whatever the moment
abbrev Whenever : ℕ → Registers → Type 0
Whenever now r = IsSegmented r

-- what every change keeps where moments are sound
kept : Changes (λ types b c. SoundTimes b → SoundSegments b → SoundSegments c)
kept =
    changes-imply (λ b. ⊤) (λ b n. ⊤) (λ types b c. Sound b → Sound c) (λ types b c. SoundTimes b → SoundSegments b → SoundSegments c)
    (λ types b c keeps times h. alone c (keeps (both b times h))) (registers-kept Timed Paused segments_keep)

pub segments_kept_lem : SegmentsKeptLaw
segments_kept_lem =
    record {
      opening = alone opening_board opening-segments;
      there = λ b n r e h. all-found Segmented n b.records h r e;
      beside = λ b c e h. subst (AllByRecursion Segmented) (sym e) h;
      attempt = λ b t h. h;
      given_up = λ b t bus stage h. h;
      cut = λ b t i joined h. h;
      asked_for = asked-by SoundSegments (λ d c may h. h);
      refused_by = λ b d h. h;
      wrote = write-segments;
      acts = λ act n period b other times h.
          alone (acted act n period b) (acted-kept Timed act n period b (λ r k. act-timed act b.now period r other k) (both b times h));
      called_back = λ n old new b times h. alone (acted Update n new (acted Pre n old b)) (kept-calls Timed Paused segments_keep n old new b (both b times h));
      held_so = λ b n kind. kept.held_so b n kind tt tt;
      released_so = λ b n. kept.released_so b n tt tt;
      pulsed = λ b n kind. kept.pulsed b n kind tt tt;
      set = kept.set;
      scaled = kept.scaled;
      registers = λ b n registers one h. edit-kept Whenever n (with_registers registers) b (λ r k. one) h;
      change = kept.change;
      plugged = λ b a. kept.plugged b a tt;
      detached = λ b d. kept.detached b d tt tt;
      reset = λ b. kept.reset b tt;
    }
