-- Of four bytes each is plain as far as one is not.
use Rattle.std.proofs.Common.{◌≡◌, ◌+◌, ◌<◌, ◌≤◌, ℕ, true, List, slice_index, arith, inl, inr, rules}
use Rattle.std.proofs.lemmas.Bool.{cases_eq}
use Rattle.qo_framing.specs.Scanning.{is_plain}
use Rattle.qo_framing.proofs.bytes.after_plain.Goals as goal

-- the bytes from one place on and before another are plain
abbrev ArePlain : List ℕ → ℕ → ℕ → Type 0
ArePlain bytes from to = (k : ℕ) → from ≤ k → k < to → is_plain (slice_index bytes k) ≡ true

one-more : (bytes : List ℕ) (from at next : ℕ) → ArePlain bytes from at → is_plain (slice_index bytes at) ≡ true → next ≤ at + 1 → ArePlain bytes from next
one-more bytes from at next before here near k least most =
    elim (cases_eq k at) [ inl same ↦ rw same here | inr other ↦ before k least (omega arith) ]

pub returns-then-not-is_plain-2-clause-plain : goal.returns-then-not-is_plain-2-clause-plain
returns-then-not-is_plain-2-clause-plain c =
    let a : is_plain (slice_index c.args.bytes.now c.loop-place.place) ≡ true = search rules in
    one-more c.args.bytes.now c.args.at c.loop-place.place (c.loop-place.place + 1) c.loop-place.invariant.plain a (omega arith)

pub returns-then-not-is_plain-3-clause-plain : goal.returns-then-not-is_plain-3-clause-plain
returns-then-not-is_plain-3-clause-plain c =
    let a : is_plain (slice_index c.args.bytes.now c.loop-place.place) ≡ true = search rules in
    let b : is_plain (slice_index c.args.bytes.now (c.loop-place.place + 1)) ≡ true = search rules in
    one-more c.args.bytes.now c.args.at (c.loop-place.place + 1) (c.loop-place.place + 2)
    (one-more c.args.bytes.now c.args.at c.loop-place.place (c.loop-place.place + 1) c.loop-place.invariant.plain a (omega arith)) b (omega arith)

pub returns-then-not-is_plain-4-clause-plain : goal.returns-then-not-is_plain-4-clause-plain
returns-then-not-is_plain-4-clause-plain c =
    let a : is_plain (slice_index c.args.bytes.now c.loop-place.place) ≡ true = search rules in
    let b : is_plain (slice_index c.args.bytes.now (c.loop-place.place + 1)) ≡ true = search rules in
    let d : is_plain (slice_index c.args.bytes.now (c.loop-place.place + 2)) ≡ true = search rules in
    one-more c.args.bytes.now c.args.at (c.loop-place.place + 2) (c.loop-place.place + 3)
    (one-more c.args.bytes.now c.args.at (c.loop-place.place + 1) (c.loop-place.place + 2)
    (one-more c.args.bytes.now c.args.at c.loop-place.place (c.loop-place.place + 1) c.loop-place.invariant.plain a (omega arith)) b (omega arith)) d (omega arith)

pub loop-place-preserved : goal.loop-place-preserved
loop-place-preserved c =
    let a : is_plain (slice_index c.args.bytes.now c.loop-place.place) ≡ true = search rules in
    let b : is_plain (slice_index c.args.bytes.now (c.loop-place.place + 1)) ≡ true = search rules in
    let d : is_plain (slice_index c.args.bytes.now (c.loop-place.place + 2)) ≡ true = search rules in
    let e : is_plain (slice_index c.args.bytes.now (c.loop-place.place + 3)) ≡ true = search rules in
    record {
      least = omega (arith, c.loop-place.invariant.least);
      most = omega (arith, c.loop-place-test.true);
      plain = one-more c.args.bytes.now c.args.at (c.loop-place.place + 3) (c.loop-place.place + 4)
          (one-more c.args.bytes.now c.args.at (c.loop-place.place + 2) (c.loop-place.place + 3)
          (one-more c.args.bytes.now c.args.at (c.loop-place.place + 1) (c.loop-place.place + 2)
          (one-more c.args.bytes.now c.args.at c.loop-place.place (c.loop-place.place + 1) c.loop-place.invariant.plain a (omega arith)) b (omega arith)) d (omega arith)) e (omega arith);
    }
