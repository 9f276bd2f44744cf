-- The law: each change keeps the tree sound, and so do any changes of the opening board.
use Rattle.std.proofs.Common.{◌+◌, ◌≤◌, List, [], ◌∷◌, arith}
use Rattle.qo_model.proofs.Common.{TypeId, Board, Change, added, deleted, wrote, severed, after_changes, changed, with_attempt, opening_board, births, reset_whole, cut_attempt, plug, released, graph_of, SoundGraph, detach}
use Rattle.qo_model.specs.Reset.{after_hold}
use Rattle.qo_model.proofs.OpeningLemmas.{opening_sound}
use Rattle.qo_sound.specs.TreeKept.{SoundKeptLaw, SoundTree}
use Rattle.qo_values.proofs.ListLemmas.{all-imply}
use Rattle.qo_sound.proofs.AddLemmas.{object_add-rest}
use Rattle.qo_sound.proofs.PlugLemmas.{cut_attempt-rest, plug-rest}
use Rattle.qo_sound.proofs.ResetLemmas.{held-rest, released-rest, reset-rest}
use Rattle.qo_sound.proofs.SeveringLemmas.{sever-rest}
use Rattle.qo_sound.proofs.UnplugLemmas.{detach-rest}
use Rattle.qo_sound.proofs.ViewLemmas.{PinsRootAlone, rest-from_sound, sound-from_rest}
use Rattle.qo_sound.proofs.WriteLemmas.{object_del-rest, write-rest}

changed-rest : (b : Board) (change : Change) → PinsRootAlone b → PinsRootAlone (changed b change)
changed-rest b (added driver id props) h = object_add-rest b driver id props h
changed-rest b (deleted id) h = object_del-rest b id h
changed-rest b (wrote n name v) h = write-rest b n name v h
changed-rest b (severed n) h = sever-rest b n h

pub changed-sound : (b : Board) (change : Change) → SoundTree b → SoundTree (changed b change)
changed-sound b change h = sound-from_rest (changed b change) (changed-rest b change (rest-from_sound b h))

attempt-sound : (b : Board) (t : TypeId) → SoundGraph b → SoundGraph (with_attempt b t)
unfolding graph_of
attempt-sound b t h =
    record {
      rising = h.rising;
      within = all-imply (λ n. n ≤ b.born) (λ n. n ≤ b.born + 1) (λ n k. omega (arith, k)) (births (graph_of b)) h.within;
      begun = let low : 8 ≤ b.born = h.begun in omega (arith, low);
      named = h.named;
      live = h.live;
      one_parent = h.one_parent;
      none_round = h.none_round;
      pinned = h.pinned;
      referred = h.referred;
    }

opening-tree : SoundTree opening_board
opening-tree = (opening_sound.graph, opening_sound.aliases)

pub after-sound : (b : Board) (changes : List Change) → SoundTree b → SoundTree (after_changes b changes)
after-sound b [] h = h
after-sound b (change ∷ changes) h = after-sound (changed b change) changes (changed-sound b change h)

pub sound_kept_lem : SoundKeptLaw
sound_kept_lem =
    record {
      change = changed-sound;
      attempt = attempt-sound;
      attempt_aliases = λ b t h. h;
      plugged = λ b a h. sound-from_rest (plug b a).board (plug-rest b a (rest-from_sound b h));
      cut = λ b t i joined h. sound-from_rest (cut_attempt b t i joined) (cut_attempt-rest b t i joined (rest-from_sound b h));
      detached = λ b d h. sound-from_rest (detach b d) (detach-rest b d (rest-from_sound b h));
      held_so = λ b n kind h. sound-from_rest (after_hold b n kind) (held-rest b n kind (rest-from_sound b h));
      released_so = λ b n h. sound-from_rest (released b n) (released-rest b n (rest-from_sound b h));
      reset = λ b h. sound-from_rest (reset_whole b) (reset-rest b (rest-from_sound b h));
      run = λ changes. (after-sound opening_board changes opening-tree).0;
      run_aliases = λ changes. (after-sound opening_board changes opening-tree).1;
    }
