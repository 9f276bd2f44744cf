-- The part is read, or the text is not.
use Rattle.std.proofs.Common.{◌≡◌, ℕ, ◌<◌, ◌==◌, ◌∙◌, true, false, List, [], ◌∷◌, length, take, ap, subst, sym, arith}
use Rattle.std.proofs.lemmas.List.{length-take}
use Rattle.std.proofs.lemmas.Bool.{eqb-true}
use Rattle.base64.proofs.EngineFacts.{front_bytes}
use Rattle.base64.specs.Engines.{standard}
use Rattle.base64.specs.GeneralPurpose.{IsBytes}
use Rattle.qo_chardev.specs.Texts.{bytes_of}
use Rattle.qo_chardev.proofs.PartLemmas.{decoded_are_bytes, part_bars, part_reads}
use Rattle.qo_chardev.proofs.parts.first_part.Goals.{else-bytes-lt-PART_BYTES-via-then-bytes-lt-PART_BYTES+else-not-is_empty, else-bytes-lt-PART_BYTES-via-else-bytes-lt-PART_BYTES}
use Rattle.qo_chardev.proofs.parts.first_part.Goals as goal

some : (xs : List ℕ) → false ≡ (length xs == 0) → 0 < length xs
some [] no_none = cc
some (x ∷ xs) no_none = omega arith

none : (xs : List ℕ) → true ≡ (length xs == 0) → length xs ≡ 0
none xs is_none = eqb-true (length xs) 0 (sym is_none)

pub returns-in_default-clause-none : goal.returns-in_default-clause-none
returns-in_default-clause-none c = λ is.
    let split = c.split_at.ensures in
    let bytes = subst IsBytes split.by_index.0 (λ i. let fits = c.type_inv.text i in omega arith) in
    let most = c.min.ensures in
    let error = c.in_default.ensures.err in
    ap bytes_of split.by_index.0
    ∙ part_bars c.split_at.result.0.now c.split_at.result.1.now bytes (λ more. omega (arith, split.front_len, split.back_len)) (λ x reads. cc (error, reads))

pub returns-then-not-is_empty-clause-none : goal.returns-then-not-is_empty-clause-none
returns-then-not-is_empty-clause-none c = λ is.
    let rest : List ℕ = c.split_at.result.1.now in
    let split = c.split_at.ensures in
    let bytes = subst IsBytes split.by_index.0 (λ i. let fits = c.type_inv.text i in omega arith) in
    let most = c.min.ensures in
    let decoded = c.in-Ok.ensures.ok.0 in
    let more : 0 < length rest = some rest c.if-not-is_empty.ensures in
    let short = c.if-bytes-lt-PART_BYTES.true in
    ap bytes_of split.by_index.0
    ∙ part_bars c.split_at.result.0.now rest bytes (λ more. omega (arith, split.front_len, split.back_len))
    (λ x reads. let same : x ≡ take c.in-Ok.count c.decode_slice_unchecked.new.output = cc (decoded, reads) in (more, rw same short))

pub returns-clause-part : goal.returns-clause-part
returns-clause-part c =
    let part : List ℕ = c.split_at.result.0.now in
    let rest : List ℕ = c.split_at.result.1.now in
    let split = c.split_at.ensures in
    let bytes = front_bytes part rest (subst IsBytes split.by_index.0 (λ i. let fits = c.type_inv.text i in omega arith)) in
    let most = c.min.ensures in
    let decoded = c.in-Ok.ensures.ok in
    let whole : 0 < length rest → length (take c.in-Ok.count c.decode_slice_unchecked.new.output) ≡ 768 = λ more. elim c.else-bytes-lt-PART_BYTES.branch [
      | else-bytes-lt-PART_BYTES-via-then-bytes-lt-PART_BYTES+else-not-is_empty w ↦ omega (arith, none rest w.if-not-is_empty.ensures)
      | else-bytes-lt-PART_BYTES-via-else-bytes-lt-PART_BYTES w ↦
          omega (arith, w.if-bytes-lt-PART_BYTES.false, c.told-buffer, c.decode_slice_unchecked.auto.output, length-take c.in-Ok.count c.decode_slice_unchecked.new.output)
    ] in
    record {
      all = decoded_are_bytes standard part _ bytes decoded.0;
      shorter = omega (arith, c.requires, split.back_len);
      read = ap bytes_of split.by_index.0 ∙ part_reads part rest _ bytes decoded.0 whole;
    }
