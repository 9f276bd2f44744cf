-- Worked rows of changes: a tag that is added and removed, and one that is refused.
use Rattle.std.proofs.Common.{◌≡◌, refl, true, [], ◌∷◌, codes}
use Rattle.qo_model.proofs.Common.{Init, Tag, added, deleted, after_changes, opening_board, attached, path_down_to, drop_slot, finish, finalize, finalize_within, let_go, pin, unpin, point, set, types}
use Rattle.qo_model.specs.declared.notes.Deed.TheVariants.{Did, Final}
use Rattle.qo_values.specs.declared.properties.Val.TheVariants as val
use Rattle.qo_model.proofs.RowTerms.{note}

-- the one tag ends, and the next has another birth
added-and-deleted : (after_changes opening_board (added (codes "tag") (codes "a") [] ∷ deleted (codes "a") ∷ added (codes "tag") (codes "a") [] ∷ [])).notes
    ≡ note 9 (Did (Init Tag)) ∷ note 9 (Final Tag) ∷ note 10 (Did (Init Tag)) ∷ []
unfolding types opening_board path_down_to attached drop_slot finish finalize finalize_within let_go pin unpin point set
added-and-deleted = refl

-- an attempt that is given up takes a birth
refused-and-added :
    (after_changes opening_board (added (codes "tag") (codes "a") ((codes "text", val.Bool true) ∷ []) ∷ added (codes "tag") (codes "a") [] ∷ [])).notes
    ≡ note 9 (Did (Init Tag)) ∷ note 9 (Final Tag) ∷ note 10 (Did (Init Tag)) ∷ []
unfolding types opening_board path_down_to attached drop_slot finish finalize finalize_within let_go pin unpin point set
refused-and-added = refl
