-- The law: what keeps the objects of a board shaped as their types say.
use Rattle.std.proofs.Common.{refl}
use Rattle.qo_model.specs.Plug.{cut_attempt, plug_attempt}
use Rattle.qo_sound_shapes.specs.ShapesKept.{ShapesKeptLaw}
use Rattle.qo_sound_shapes.proofs.CommandLemmas.{changed-shape}
use Rattle.qo_sound_shapes.proofs.ResetLemmas.{detach-shape, reset-shape}
use Rattle.qo_sound_shapes.proofs.PlugLemmas.{plug-shape}
use Rattle.qo_sound_shapes.proofs.NewObjectLemmas.{opening-shape}
use Rattle.qo_sound_shapes.proofs.QuietChangeLemmas.{acted-shape, asked-shape, clock_scaled-shape, clock_set-shape, held-shape, pulse-shape, registers-shape, released-shape, same-shape, write-like}

pub shapes_kept_lem : ShapesKeptLaw
shapes_kept_lem =
    record {
      opening = opening-shape;
      beside = same-shape;
      attempt = λ b t h. same-shape b _ refl h;
      given_up = λ b t bus stage h. same-shape b (plug_attempt b t bus stage) refl h;
      cut = λ b t i joined h. same-shape b (cut_attempt b t i joined) refl h;
      asked_for = asked-shape;
      refused_by = λ b d h. same-shape b _ refl h;
      acts = acted-shape;
      held_so = held-shape;
      released_so = released-shape;
      pulsed = pulse-shape;
      set = clock_set-shape;
      scaled = clock_scaled-shape;
      registers = registers-shape;
      wrote = write-like;
      change = changed-shape;
      plugged = plug-shape;
      detached = detach-shape;
      reset = reset-shape;
    }
