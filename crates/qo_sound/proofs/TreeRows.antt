-- Worked rows: a board with two tags that hold each other has a sound tree, and what becomes of the tags.
use Rattle.std.proofs.Common.{◌≡◌, refl, rules, [], ◌∷◌, codes}
use Rattle.qo_model.proofs.Common.{IsDistinct, Board, point, set, added, deleted, wrote, severed, after_changes, opening_board, attached, births, path_down_to, drop_slot, finish, finalize, finalize_within, let_go, pin, unpin, graph_of, types}
use Rattle.qo_values.specs.declared.properties.Val.TheVariants as val
use Rattle.qo_model.proofs.GraphLemmas.{HasLater, none_round-from_later}
use Rattle.qo_sound.specs.TreeKept.{SoundTree}

-- the opening board with the tags `a` and `b`, whose links `next` name each other
abbrev held_round : Board
held_round =
    after_changes opening_board (added (codes "tag") (codes "a") [] ∷ added (codes "tag") (codes "b") ((codes "next", val.Text (codes "/objects/a")) ∷ [])
    ∷ wrote 9 (codes "next") (val.Text (codes "/objects/b")) ∷ [])

round-births : births held_round ≡ 1 ∷ 2 ∷ 3 ∷ 4 ∷ 5 ∷ 6 ∷ 7 ∷ 8 ∷ 9 ∷ 10 ∷ []
unfolding types opening_board path_down_to attached drop_slot finish finalize finalize_within let_go pin unpin point set
round-births = refl

round-sound : SoundTree held_round
unfolding types opening_board path_down_to attached drop_slot finish finalize finalize_within let_go pin unpin point set graph_of IsDistinct HasLater
round-sound = (
  record {
    rising = search rules;
    within = search rules;
    begun = search rules;
    named = search rules;
    live = search rules;
    one_parent = search rules;
    none_round = none_round-from_later held_round (search rules);
    pinned = refl;
    referred = search rules;
  },
  search rules,
)

-- deleted, both stay, since each still holds the other; severed, both end
deleted-births : births (after_changes held_round (deleted (codes "a") ∷ deleted (codes "b") ∷ [])) ≡ births held_round
unfolding types opening_board path_down_to attached drop_slot finish finalize finalize_within let_go pin unpin point set
deleted-births = refl

severed-births : births (after_changes held_round (deleted (codes "a") ∷ deleted (codes "b") ∷ severed 9 ∷ [])) ≡ births opening_board
unfolding types opening_board path_down_to attached drop_slot finish finalize finalize_within let_go pin unpin point set
severed-births = refl
