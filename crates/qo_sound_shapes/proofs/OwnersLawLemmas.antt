-- The law: what keeps the owners of a board sound.
use Rattle.std.proofs.Common.{refl}
use Rattle.qo_model.specs.Plug.{cut_attempt, plug_attempt}
use Rattle.qo_sound.proofs.QuietStepsLemmas.{quiet-asked, quiet-held, quiet-pulse, quiet-released}
use Rattle.qo_sound_shapes.specs.OwnersKept.{OwnersKeptLaw}
use Rattle.qo_sound_shapes.specs.SoundOwners.{SoundOwners}
use Rattle.qo_sound_shapes.proofs.OwnersLemmas.{acted-owners, changed-owners, clock_scaled-owners, clock_set-owners, detach-owners, opening-owners, plug-owners, registers-owners, same-owners}
use Rattle.qo_sound_shapes.proofs.OwnersResetLemmas.{quiet-reset}

pub owners_kept_lem : OwnersKeptLaw
owners_kept_lem =
    record {
      opening = opening-owners;
      beside = same-owners;
      attempt = λ b t h. same-owners b _ refl h;
      given_up = λ b t bus stage h. same-owners b (plug_attempt b t bus stage) refl h;
      cut = λ b t i joined h. same-owners b (cut_attempt b t i joined) refl h;
      asked_for = quiet-asked SoundOwners same-owners acted-owners;
      refused_by = λ b d h. same-owners b _ refl h;
      acts = acted-owners;
      held_so = quiet-held SoundOwners same-owners acted-owners;
      released_so = quiet-released SoundOwners same-owners acted-owners;
      pulsed = quiet-pulse SoundOwners same-owners acted-owners;
      set = clock_set-owners;
      scaled = clock_scaled-owners;
      registers = registers-owners;
      change = changed-owners;
      plugged = plug-owners;
      detached = detach-owners;
      reset = quiet-reset SoundOwners same-owners acted-owners detach-owners;
    }
