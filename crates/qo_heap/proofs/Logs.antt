-- A log keeps what its notes give.
use Rattle.std.proofs.Common.{◌≡◌, ℕ, zero, suc, ◌+◌, ◌-◌, ◌^◌, ◌≤◌, min, replicate, List, [], ◌∷◌, ◌++◌, length, take, drop, refl, sym, ap, ◌∙◌, arith, append-nil, append_assoc, length-drop, drop-drop}
use Rattle.std.proofs.lemmas.List.{length_push, drop-append-le}
use Rattle.qo_values.specs.declared.limits.TheConstants.{NOTES_KEPT, NOTES_PER_REPLY}
use Rattle.qo_model.specs.Notes.{kept_of}
use Rattle.qo_model.specs.declared.notes.Deed.TheVariants.{Did}
use Rattle.qo_model.specs.declared.notes.Note.{Note}
use Rattle.qo_values.specs.declared.kinds.Act.TheVariants.{Enter}
use Rattle.qo_heap.specs.Log.{Log, IsLogOf, empty_log, noted, noted_all, first_from}
use Rattle.qo_heap.specs.Laws.{LogLaw, GivenLaw}

module _ {X : Type 0} where
  -- of the last `most` and one more, the last `most` are those of all
  last_again : (most : ℕ) (xs : List X) (x : X)
      → drop (length (drop (length xs - most) xs ++ x ∷ []) - most) (drop (length xs - most) xs ++ x ∷ []) ≡ drop (length (xs ++ x ∷ []) - most) (xs ++ x ∷ [])
  last_again most xs x =
      let skip = length xs - most in
      let whole : drop skip xs ++ x ∷ [] ≡ drop skip (xs ++ x ∷ []) = sym (drop-append-le skip xs (x ∷ []) (omega arith)) in
      let short = length-drop skip (xs ++ x ∷ []) in
      let long = length_push xs x in
      ap (λ ys. drop (length ys - most) ys) whole
      ∙ drop-drop (length (drop skip (xs ++ x ∷ [])) - most) skip (xs ++ x ∷ [])
      ∙ ap (λ n. drop n (xs ++ x ∷ [])) {x = skip + (length (drop skip (xs ++ x ∷ [])) - most)} {y = length (xs ++ x ∷ []) - most} (omega (arith, short, long))

-- notes before those that are kept are passed over
module _ (note : Note) (kept : List Note) where
  drop-front : (m : ℕ) → drop m (replicate m note ++ kept) ≡ kept
  drop-front zero = refl
  drop-front (suc m) = drop-front m

  length-front : (m : ℕ) → length (replicate m note ++ kept) ≡ m + length kept
  length-front zero = omega arith
  length-front (suc m) = omega (arith, length-front m)

-- each log is that of some notes
pub some_lem : (total : ℕ) (kept : List Note) → length kept ≡ min total NOTES_KEPT → total ≤ 2 ^ 64 - 1
    → (notes : List Note) × IsLogOf notes (record { total = total; kept = kept })
some_lem total kept size bound =
    let note : Note = record { birth = 0; deed = Did Enter } in
    let before : ℕ = total - length kept in
    let long : length (replicate before note ++ kept) ≡ before + length kept = length-front note kept before in
    let past : length (replicate before note ++ kept) - NOTES_KEPT ≡ before = omega (arith, long, size) in (
      replicate before note ++ kept,
      record {
        total = omega (arith, long, size, bound);
        kept = sym (ap (λ n. drop n (replicate before note ++ kept)) past ∙ drop-front note kept before);
      },
    )

-- no notes give the log without notes
pub none_lem : IsLogOf [] empty_log
none_lem = record { total = refl; kept = refl }

-- a note more gives the log with it
pub one_lem : (notes : List Note) (log : Log) (n : Note) → IsLogOf notes log → IsLogOf (notes ++ n ∷ []) (noted n log)
one_lem notes log n of = record {
  total = let long = length_push notes n in omega (arith, of.total, long);
  kept = ap (λ kept. kept_of (kept ++ n ∷ [])) of.kept ∙ last_again NOTES_KEPT notes n;
}

-- notes more give the log with them
pub all_lem : (notes ns : List Note) (log : Log) → IsLogOf notes log → IsLogOf (notes ++ ns) (noted_all ns log)
unfolding noted_all
all_lem notes [] log of = rw append-nil of
all_lem notes (n ∷ ns) log of = rw (← append_assoc notes (n ∷ []) ns) (all_lem (notes ++ n ∷ []) ns (noted n log) (one_lem notes log n of))

-- notes may be added in parts
pub parts_lem : (xs ys : List Note) (log : Log) → noted_all (xs ++ ys) log ≡ noted_all ys (noted_all xs log)
unfolding noted_all
parts_lem [] ys log = refl
parts_lem (x ∷ xs) ys log = parts_lem xs ys (noted x log)

pub log_lem : LogLaw
log_lem = record { none = none_lem; one = one_lem; all = all_lem; parts = parts_lem }

-- a reading gives the notes from its first number on
pub given_lem : GivenLaw
given_lem notes log from of below =
    let first = first_from from log in
    let skip = length notes - NOTES_KEPT in
    let short : length log.kept ≡ length notes - skip = ap length of.kept ∙ length-drop skip notes in
    ap (λ kept. take NOTES_PER_REPLY (drop (first - (log.total - length log.kept)) kept)) of.kept
    ∙ ap (take NOTES_PER_REPLY) (drop-drop (first - (log.total - length log.kept)) skip notes
    ∙ ap (λ k. drop k notes) {x = skip + (first - (log.total - length log.kept))} {y = first} (omega (arith, short, of.total, below)))
