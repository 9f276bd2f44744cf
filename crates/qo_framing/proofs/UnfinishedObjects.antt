-- Objects that have not ended, and how they go on.
use Rattle.std.proofs.Common.{◌≡◌, ℕ, ◌-◌, ◌≤◌, List, [], ◌∷◌, ◌++◌, length, reverse, None, refl, sym, ◌∙◌, ap, subst, arith, length-append}
use Rattle.std.proofs.lemmas.List.{reverse-append, append-nil}
use Rattle.qo_framing.specs.Cut.{between_part, object_part, trimmed, first_part, inside}
use Rattle.qo_framing.specs.Fronts.{end_after, later}
use Rattle.qo_framing.specs.Parts.{IsUnfinished}
use Rattle.qo_framing.specs.Scanning.{IsAfter}
use Rattle.qo_framing.specs.declared.scanner.Scanner.{Scanner}
use Rattle.qo_framing.proofs.Scans.{end_further}

-- an object that begins
pub unfinished_begun : (bytes inner : List ℕ) (s : Scanner) → bytes ≡ 123 ∷ inner → end_after (123 ∷ []) inner ≡ None → IsAfter (reverse inner ++ 123 ∷ []) s
    → length inner ≤ 262143 → IsUnfinished bytes s
unfinished_begun bytes inner s is none after short =
    subst (λ (l : List ℕ). IsUnfinished l s) (sym is) (
    record {
      begins = inner;
      brace = refl;
      unended = ap (later 1) none;
      scanned = subst (λ (l : List ℕ). IsAfter l s) (sym (reverse-append (123 ∷ []) inner)) after;
      size = omega arith;
    }
    )

-- an object that goes on
pub unfinished_more : (bytes more : List ℕ) (old new : Scanner) → IsUnfinished bytes old → end_after (reverse bytes) more ≡ None
    → IsAfter (reverse more ++ reverse bytes) new → length more ≤ 262144 - length bytes → IsUnfinished (bytes ++ more) new
unfinished_more bytes more old new h none after short =
    let size = h.size in
    record {
      begins = h.begins ++ more;
      brace = ap (λ (l : List ℕ). l ++ more) h.brace;
      unended = end_further [] bytes more h.unended
          ∙ (ap (λ (l : List ℕ). later (length bytes) (end_after l more)) (append-nil (reverse bytes)) ∙ ap (later (length bytes)) none);
      scanned = subst (λ (l : List ℕ). IsAfter l new) (sym (reverse-append bytes more)) after;
      size = omega (arith, length-append bytes more);
    }

-- the first part after an unfinished object is that of all its bytes
pub part_inside : (bytes more : List ℕ) (s : Scanner) → IsUnfinished bytes s
    → first_part (inside bytes) more ≡ object_part (bytes ++ more) (later (length bytes) (end_after (reverse bytes) more))
part_inside bytes more s h =
    ap (λ (l : List ℕ). between_part (trimmed (l ++ more))) h.brace
    ∙ (ap (λ (l : List ℕ). object_part (l ++ more) (end_after [] (l ++ more))) (sym h.brace)
    ∙ ap (object_part (bytes ++ more))
    (end_further [] bytes more h.unended ∙ ap (λ (l : List ℕ). later (length bytes) (end_after l more)) (append-nil (reverse bytes))))
