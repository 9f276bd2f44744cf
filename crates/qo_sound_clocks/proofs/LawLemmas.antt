-- The law: what keeps the clocks of a board sound.
use Rattle.std.proofs.Common.{refl}
use Rattle.qo_model.specs.Plug.{cut_attempt, plug_attempt}
use Rattle.qo_sound.proofs.QuietStepsLemmas.{quiet-asked, quiet-held, quiet-pulse, quiet-released}
use Rattle.qo_sound_clocks.specs.ClocksKept.{ClocksKeptLaw}
use Rattle.qo_sound_clocks.specs.SoundClocks.{SoundClocks}
use Rattle.qo_sound_clocks.proofs.CommandLemmas.{kept-change}
use Rattle.qo_sound_clocks.proofs.GrowthLemmas.{fewer-sound, same-sound}
use Rattle.qo_sound_clocks.proofs.OpeningLemmas.{opening-clocks}
use Rattle.qo_sound_clocks.proofs.PlugStageLemmas.{plug-clocks}
use Rattle.qo_sound_clocks.proofs.DependenceLemmas.{kept-acted, kept-beside, kept-detach, kept-reset, KeptByFewer}
use Rattle.qo_sound_clocks.proofs.WriteLemmas.{scaled-clocks, set-clocks}

fewer-clocks : KeptByFewer SoundClocks
fewer-clocks b c on now less h = fewer-sound b c on now h less

pub clocks_kept_lem : ClocksKeptLaw
clocks_kept_lem =
    record {
      opening = opening-clocks;
      beside = kept-beside SoundClocks same-sound;
      attempt = λ b t h. kept-beside SoundClocks same-sound b _ refl h;
      given_up = λ b t bus stage h. kept-beside SoundClocks same-sound b (plug_attempt b t bus stage) refl h;
      cut = λ b t i joined h. kept-beside SoundClocks same-sound b (cut_attempt b t i joined) refl h;
      asked_for = quiet-asked SoundClocks (kept-beside SoundClocks same-sound) (kept-acted SoundClocks same-sound);
      refused_by = λ b d h. kept-beside SoundClocks same-sound b _ refl h;
      acts = kept-acted SoundClocks same-sound;
      held_so = quiet-held SoundClocks (kept-beside SoundClocks same-sound) (kept-acted SoundClocks same-sound);
      released_so = quiet-released SoundClocks (kept-beside SoundClocks same-sound) (kept-acted SoundClocks same-sound);
      pulsed = quiet-pulse SoundClocks (kept-beside SoundClocks same-sound) (kept-acted SoundClocks same-sound);
      set = set-clocks;
      scaled = scaled-clocks;
      change = kept-change SoundClocks fewer-clocks;
      plugged = plug-clocks;
      detached = kept-detach SoundClocks same-sound fewer-clocks;
      reset = kept-reset SoundClocks same-sound fewer-clocks;
    }
