-- The new notes of a board, as readings give them.
use Rattle.std.proofs.Common.{◌≡◌, sym, ap, subst, ◌∙◌, ℕ, ◌+◌, ◌-◌, ◌^◌, ◌<◌, ◌≤◌, min, List, ◌++◌, length, take, drop, length-append, length-drop, drop-drop, take-add, arith}
use Rattle.std.proofs.lemmas.List.{drop_at, take_all, take_min}
use Rattle.qo_values.specs.declared.limits.TheConstants.{NOTES_KEPT, NOTES_PER_REPLY}
use Rattle.qo_model.specs.Board.{Board}
use Rattle.qo_model.specs.NoteReplies.{first_from, given_from}
use Rattle.qo_model.specs.Notes.{kept_of, total_of}
use Rattle.qo_model.specs.declared.notes.Note.{Note}
use Rattle.qo_listen.specs.Ears.{AllHeard, Ear}
use Rattle.qo_telling.specs.Telling.{HeardFronts, IsNew}
use Rattle.qo_telling.proofs.EarsLemmas.{all-none, all-then, fronts-then, fronts-upto}

module _ (b : Board) (from : ℕ) (more : List Note) (new : IsNew b from more) where
  abbrev before : List Note
  before = new.notes.0

  long : length b.notes ≡ from + length more
  long = ap (λ (l : List Note). length l) new.notes.1 ∙ length-append before more ∙ ap (λ (n : ℕ). n + length more) new.notes.2

  pub total : total_of b.notes ≡ from + length more
  total = let counted : length b.notes < 2 ^ 64 - 1 = new.counted in omega (arith, long, counted)

  -- past what was there before, they alone are left
  past : (at : ℕ) → from ≤ at → drop at b.notes ≡ drop (at - from) more
  past at later =
      ap (λ (l : List Note). drop at l) new.notes.1
      ∙ ap (λ (n : ℕ). drop n (before ++ more)) {x = at} {y = from + (at - from)} (omega (arith, later))
      ∙ sym (drop-drop (at - from) from (before ++ more))
      ∙ ap (λ (l : List Note). drop (at - from) l) (drop_at before more from new.notes.2)

  -- what a reading gives of them
  pub given : (at : ℕ) → from ≤ at → at < from + length more → given_from at b.notes ≡ take NOTES_PER_REPLY (drop (at - from) more)
  given at later within =
      let skip = length b.notes - NOTES_KEPT in
      let short : length (kept_of b.notes) ≡ length b.notes - skip = length-drop skip b.notes in
      let few : length more ≤ NOTES_KEPT = new.kept in
      ap (λ (l : List Note). take NOTES_PER_REPLY l)
      (drop-drop (first_from at b.notes - (total_of b.notes - length (kept_of b.notes))) skip b.notes
      ∙ ap (λ (n : ℕ). drop n b.notes) {x = skip + (first_from at b.notes - (total_of b.notes - length (kept_of b.notes)))} {y = at}
      (omega (arith, short, few, total, long, later, within))
      ∙ past at later)

-- those up to a place, and as many as a reading gives, are those up to the next place
pub up-to : {X : Type 0} (xs : List X) (k next : ℕ) → min (k + NOTES_PER_REPLY) (length xs) ≡ min next (length xs)
    → take k xs ++ take NOTES_PER_REPLY (drop k xs) ≡ take next xs
up-to {X = X} xs k next is =
    sym (take-add k NOTES_PER_REPLY xs) ∙ sym (take_min (k + NOTES_PER_REPLY) xs) ∙ ap (λ (n : ℕ). take n xs) is ∙ take_min next xs

module _ (b : Board) (from : ℕ) (more : List Note) (new : IsNew b from more) (xs ys : List Ear) where
  -- none of them was told yet
  pub none-yet : AllHeard (take (from - from) more) xs xs
  none-yet = subst (λ (n : ℕ). AllHeard (take n more) xs xs) {x = 0} {y = from - from} (omega arith) (all-none xs)

  -- all of them were, at the total
  pub all-told : (at all : ℕ) → all ≡ total_of b.notes → all ≤ at → AllHeard (take (at - from) more) xs ys → AllHeard more xs ys
  all-told at all is past told =
      subst (λ (l : List Note). AllHeard l xs ys) (take_all (at - from) more (omega (arith, is, past, total b from more new))) told

  -- a reading more, at a place below the total
  module _ (at next all : ℕ) (later : from ≤ at) (is : all ≡ total_of b.notes) (within : at < all) (goes : next ≡ min (at + NOTES_PER_REPLY) (2 ^ 64 - 1))
      (read : List Note) (reads : read ≡ given_from at b.notes) (zs : List Ear) (told : AllHeard (take (at - from) more) xs ys) where
    reading : read ≡ take NOTES_PER_REPLY (drop (at - from) more)
    reading = reads ∙ given b from more new at later (omega (arith, is, within, total b from more new))

    parts : take (at - from) more ++ read ≡ take (next - from) more
    parts =
        ap (λ (l : List Note). take (at - from) more ++ l) reading
        ∙ up-to more (at - from) (next - from) (let counted : length b.notes < 2 ^ 64 - 1 = new.counted in
        omega (arith, goes, later, counted, long b from more new))

    pub more-told : AllHeard read ys zs → AllHeard (take (next - from) more) xs zs
    more-told h = subst (λ (l : List Note). AllHeard l xs zs) parts (all-then (take (at - from) more) read xs ys zs told h)

    pub more-front : HeardFronts read ys zs → HeardFronts more xs zs
    more-front h =
        fronts-upto (next - from) more xs zs
        (subst (λ (l : List Note). HeardFronts l xs zs) parts (fronts-then (take (at - from) more) read xs ys zs told h))
