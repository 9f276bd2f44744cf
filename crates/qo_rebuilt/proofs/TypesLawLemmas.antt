-- The law: what keeps each object of a board telling the name of its type.
use Rattle.std.proofs.Common.{refl}
use Rattle.qo_model.proofs.Common.{Board, changed, opening_board, plug, cut_attempt, plug_attempt, with_attempt, acted, asked, refused, reset_whole, pulse, released, detach}
use Rattle.qo_model.specs.Reset.{after_hold}
use Rattle.qo_sound_clocks.specs.RegisterWrites.{registers_set}
use Rattle.qo_sound_order.proofs.ObjectLemmas.{fact-acted, fact-asked, fact-clock_scaled, fact-clock_set, fact-detach, fact-held, fact-pulse, fact-registers, fact-released, fact-reset}
use Rattle.qo_sound_shapes.specs.SoundShape.{SoundShape}
use Rattle.qo_sound_shapes.proofs.BoardLemmas.{AllOf}
use Rattle.qo_sound_shapes.proofs.LawLemmas.{shapes_kept_lem}
use Rattle.qo_alike.specs.AlikeBoards.{TellsTypes}
use Rattle.qo_rebuilt.specs.TypesTold.{TypesToldLaw}
use Rattle.qo_rebuilt.proofs.TypeSlotLemmas.{NoText}
use Rattle.qo_rebuilt.proofs.StepTypesLemmas.{rebuilt-tells}
use Rattle.qo_rebuilt.proofs.TypesLemmas.{Plain, changed-plain, from-plain, from-sound, opening-sound, plain-keeps, plugged-right, to-plain, same-told, to-sound}

-- what keeps each object right keeps types told
by-plain : (b c : Board) → SoundShape b → SoundShape c → (AllOf Plain b → AllOf Plain c) → TellsTypes b → TellsTypes c
by-plain b c shape after keeps h = from-sound c after (from-plain c (keeps (to-plain b (to-sound b shape h))))

pub types_told_lem : TypesToldLaw
types_told_lem =
    record {
      opening = from-sound opening_board shapes_kept_lem.opening opening-sound;
      beside = same-told;
      attempt = λ b t h. same-told b (with_attempt b t) refl h;
      given_up = λ b t bus stage h. same-told b (plug_attempt b t bus stage) refl h;
      cut = λ b t i joined h. same-told b (cut_attempt b t i joined) refl h;
      refused_by = λ b d h. same-told b (refused b d) refl h;
      asked_for = λ b id shape.
          by-plain b (asked b id).board shape (shapes_kept_lem.asked_for b id shape) (fact-asked NoText Plain plain-keeps b id);
      acts = λ act n period b shape.
          by-plain b (acted act n period b) shape (shapes_kept_lem.acts act n period b shape) (fact-acted NoText Plain plain-keeps act n period b);
      held_so = λ b n kind shape.
          by-plain b (after_hold b n kind) shape (shapes_kept_lem.held_so b n kind shape) (fact-held NoText Plain plain-keeps b n kind);
      released_so = λ b n shape.
          by-plain b (released b n) shape (shapes_kept_lem.released_so b n shape) (fact-released NoText Plain plain-keeps b n);
      pulsed = λ b n kind shape.
          by-plain b (pulse b n kind) shape (shapes_kept_lem.pulsed b n kind shape) (fact-pulse NoText Plain plain-keeps b n kind);
      set = λ b d c period low e shape.
          by-plain b d shape (shapes_kept_lem.set b d c period low e shape) (fact-clock_set NoText Plain plain-keeps b d c period tt e);
      scaled = λ b d c mul div low few e shape.
          by-plain b d shape (shapes_kept_lem.scaled b d c mul div low few e shape) (fact-clock_scaled NoText Plain plain-keeps b d c mul div tt tt e);
      registers = λ b n registers like shape.
          by-plain b (registers_set b n registers) shape (shapes_kept_lem.registers b n registers like shape)
          (fact-registers NoText Plain plain-keeps b n registers);
      change = λ b change d shape.
          by-plain b (changed b change) shape (shapes_kept_lem.change b change d shape) (changed-plain b change);
      plugged = λ b a d shape h.
          from-sound (plug b a).board (shapes_kept_lem.plugged b a d shape) (plugged-right b a d (to-sound b shape h));
      detached = λ b d devices stands shape.
          by-plain b (detach b d) shape (shapes_kept_lem.detached b d devices stands shape) (fact-detach NoText Plain plain-keeps b d);
      reset = λ b d shape. by-plain b (reset_whole b) shape (shapes_kept_lem.reset b d shape) (fact-reset NoText Plain plain-keeps b);
      rebuilt_so = rebuilt-tells;
    }
