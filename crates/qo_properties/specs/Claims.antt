-- For proofs alone. The book of claims over a change of a heap.
use Rattle.std.specs.Prelude.{List}
use Rattle.qo_claims.specs.declared.claims.Claimed.{Claimed}
use Rattle.qo_heap.specs.Book.{IsBook}
use Rattle.qo_heap.specs.Objects.{Objects}

-- a book that is right stays right, whatever claims are out
abbrev pub KeepsBook : Objects → Objects → Type 0
KeepsBook v w = (out : List Claimed) → IsBook out v → IsBook out w
