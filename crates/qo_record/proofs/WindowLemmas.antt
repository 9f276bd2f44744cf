-- What a window holds after a take.
use Rattle.std.proofs.Common.{◌≡◌, ℕ, ◌+◌, ◌-◌, ◌≤◌, List, ◌++◌, length, take, drop, refl, sym, ◌∙◌, ap, arith, length-append, append_assoc}
use Rattle.std.proofs.Common.{Option, None, Some, Result, Ok, Err, IfOk}
use Rattle.std.proofs.Math.Seq.{drop-append_seam, take-append-add}
use Rattle.std.proofs.lemmas.List.{drop-append-le, length-take-le, take-append-drop, take-take}
use Rattle.std.specs.Io.KnownBytes.{prepend_known}
use Rattle.qo_causes.specs.Bytes.{Takes}
use Rattle.qo_causes.specs.Names.{Names}
use Rattle.qo_record.proofs.EntryLemmas.{entry_taken}
use Rattle.qo_record.specs.Record.{entry_at}
use Rattle.qo_record.specs.Replays.{ahead_of}
use Rattle.qo_record.specs.Windows.{TakesAfter, between}
use Rattle.qo_record.specs.Spelling.{Recorded, entry_text}
use Rattle.qo_record.specs.declared.versions.Version.{Version}

-- a place that is after a front is in what follows it
pub piece_after : (front piece : List ℕ) (end n : ℕ) → length front ≡ end → between (front ++ piece) end (end + n) ≡ take n piece
piece_after front piece end n size =
    let upto : take (end + n) (front ++ piece) ≡ front ++ take n piece =
    ap (λ (k : ℕ). take (k + n) (front ++ piece)) (sym size) ∙ take-append-add front piece n in
    ap (drop end) upto ∙ ap (λ (k : ℕ). drop k (front ++ take n piece)) (sym size) ∙ drop-append_seam front (take n piece)

-- what a source gave stands after the front
pub took_after : {E : Type 0} (old new : Option (List ℕ)) (r : Result ℕ E) (before after piece : List ℕ) (end : ℕ) → end ≤ length before →
    length piece ≡ length before - end → length after ≡ length before → take (end + length piece) after ≡ take end before ++ piece → IfOk r (λ
    (n : ℕ). n ≤ length piece) → Takes old new r piece → TakesAfter old new r after end
took_after old new (Ok n) before after piece end within room size written few took =
    let upto : take (end + n) after ≡ take (end + n) (take end before ++ piece) =
    sym (take-take (end + n) (end + length piece) after (omega (arith, few))) ∙ ap (take (end + n)) written in
    let is : between after end (end + n) ≡ take n piece =
    ap (drop end) upto ∙ piece_after (take end before) piece end n (length-take-le end before within) in
    (rw is took.0, λ none some. took.1 none (omega arith))
took_after old new (Err e) before after piece end within room size written few took = took

-- what stands up to a place is what stands up to an earlier one, and what is after that
between_more : (old new : List ℕ) (at end n : ℕ) → at ≤ end → end ≤ length old → take end new ≡ take end old →
    between new at (end + n) ≡ between old at end ++ between new end (end + n)
between_more old new at end n order within same =
    let front : List ℕ = take end new in
    let size : length front ≡ end = ap (length {A = ℕ}) same ∙ length-take-le end old within in
    let parts : take (end + n) new ≡ front ++ take n (drop end new) =
    ap (take (end + n)) (sym (take-append-drop end new)) ∙ ap (λ (k : ℕ). take (k + n) (front ++ drop end new)) (sym size)
    ∙ take-append-add front (drop end new) n in
    let piece : between new end (end + n) ≡ take n (drop end new) =
    ap (λ (l : List ℕ). between l end (end + n)) (sym (take-append-drop end new)) ∙ piece_after front (drop end new) end n size in
    ap (drop at) parts ∙ drop-append-le at front (take n (drop end new)) (omega (arith, size))
    ∙ ap (λ (l : List ℕ). drop at l ++ take n (drop end new)) same ∙ ap (λ (l : List ℕ). between old at end ++ l) (sym piece)

-- bytes may stand with those that are held or with those that are left
ahead_same : (buffered piece : List ℕ) (left : Option (List ℕ)) → ahead_of (buffered ++ piece) left ≡ ahead_of buffered (prepend_known piece left)
ahead_same buffered piece None = refl
ahead_same buffered piece (Some more) = ap (λ (l : List ℕ). Some l) (append_assoc buffered piece more)

pub taken_ahead : (old_bytes new_bytes buffered : List ℕ) (at end n : ℕ) (old new : Option (List ℕ)) → at ≤ end → end ≤ length old_bytes →
    take end new_bytes ≡ take end old_bytes → between old_bytes at end ≡ buffered → old ≡ prepend_known (between new_bytes end (end + n)) new → ahead_of
    (between new_bytes at (end + n)) new ≡ ahead_of buffered old
taken_ahead old_bytes new_bytes buffered at end n old new order within same is took =
    let piece : List ℕ = between new_bytes end (end + n) in
    ap (λ (l : List ℕ). ahead_of l new) (between_more old_bytes new_bytes at end n order within same)
    ∙ ahead_same (between old_bytes at end) piece new ∙ ap (λ (l : List ℕ). ahead_of l (prepend_known piece new)) is
    ∙ ap (ahead_of buffered) (sym took)

-- the bytes after an entry are no more than all, and are the last so many
pub after_size : (v : Version) (names : Names) (bytes : List ℕ) (e : Recorded × List ℕ) → entry_at v names bytes ≡ Some e →
    (length e.1 ≤ length bytes) × (drop (length bytes - length e.1) bytes ≡ e.1)
after_size v names bytes e h =
    let t = entry_taken v names bytes e h in
    let front : List ℕ = entry_text e.0 in
    let size : length bytes - length e.1 ≡ length front = omega (arith, ap (length {A = ℕ}) t.0, length-append front e.1) in
    (omega (arith, ap (length {A = ℕ}) t.0, length-append front e.1), rw size (rw t.0 (drop-append_seam front e.1)))
