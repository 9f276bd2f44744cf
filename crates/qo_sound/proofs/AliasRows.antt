-- Why the aliases have to be sound too: one of the machine that passes on to a tag under `/objects` outlasts the tag, and what was sound is not.
use Rattle.std.proofs.Common.{◌≡◌, refl, rules, true, false, [], ◌∷◌, ◌++◌, map, codes}
use Rattle.qo_model.proofs.Common.{IsDistinct, Tag, Board, child, alias, with_added, deleted, changed, opening_board, fresh_record, edited, drop_slot, finish, finalize, finalize_within, let_go, graph_of, SoundGraph, types}
use Rattle.qo_model.proofs.GraphLemmas.{HasLater, none_round-from_later}

-- the opening board with the tag `t`, and an alias of the machine that passes on to it
abbrev aliased : Board
aliased =
    record opening_board {
      records =
          map (edited 8 (with_added (codes "t") (child 9))) (map (edited 2 (with_added (codes "a") (alias 9 (codes "text")))) opening_board.records)
          ++ fresh_record 9 Tag ∷ [];
      born = 9;
    }

aliased-sound : SoundGraph aliased
unfolding types opening_board graph_of IsDistinct HasLater
aliased-sound =
    record {
      rising = search rules;
      within = search rules;
      begun = search rules;
      named = search rules;
      live = search rules;
      one_parent = search rules;
      none_round = none_round-from_later aliased (search rules);
      pinned = refl;
      referred = search rules;
    }

-- after `object-del` of the tag the alias names what is gone
deleted-unsound : SoundGraph (changed aliased (deleted (codes "t"))) → ⊥
unfolding types opening_board graph_of drop_slot finish finalize finalize_within let_go
deleted-unsound h = let gone : false ≡ true = h.live.1.0.1.1.1.1.1.1.0 in absurd cc
