-- The opening board is sound.
use Rattle.std.proofs.Common.{refl, rules}
use Rattle.qo_model.proofs.Common.{IsDistinct, types, opening_board, graph_of, OpeningLaw}
use Rattle.qo_model.proofs.GraphLemmas.{HasLater, none_round-from_later}

pub opening_sound : OpeningLaw
unfolding types opening_board graph_of IsDistinct HasLater
opening_sound =
    record {
      graph =
          record {
            rising = search rules;
            within = search rules;
            begun = search rules;
            named = search rules;
            live = search rules;
            one_parent = search rules;
            none_round = none_round-from_later opening_board (search rules);
            pinned = refl;
            referred = search rules;
          };
      aliases = search rules;
      events = record { none = refl };
    }
