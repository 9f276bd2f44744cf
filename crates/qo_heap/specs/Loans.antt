-- For proofs alone. What a heap ends as, where a `&mut` to a part of it is returned.
use Rattle.std.specs.Borrow.{Lends, Fml, MutBor}
use Rattle.qo_claims.specs.Book.{ClaimsTaken}
use Rattle.qo_claims.specs.contracts.claims.Claims as claims
use Rattle.qo_kinds.specs.declared.bodies.Body.{Body}
use Rattle.qo_kinds.specs.contracts.bodies.Body as body
use Rattle.qo_slots.specs.declared.keys.Key.{Key}
use Rattle.qo_slots.specs.Loans.{lends_value}
use Rattle.qo_slots.specs.Table.{Table}
use Rattle.qo_heap.specs.Objects.{Objects, with_edit}
use Rattle.qo_heap.specs.contracts.entries.Entry as entry
use Rattle.qo_heap.specs.contracts.heap.Heap as heap
use Rattle.qo_heap.specs.declared.entries.Entry.{Entry}

-- once the borrow r ends, the book is the last one written through r
abbrev pub lends_claims : MutBor Objects → MutBor ClaimsTaken → Fml
lends_claims s r = Lends heap.the_row claims.the_row s r (λ h. record s.now { claims = h })

-- and the object has the last body written through r
abbrev pub lends_body : MutBor Objects → Key → MutBor Body → Fml
lends_body s key r = Lends heap.the_row body.the_row s r (λ b. with_edit key.birth (λ c. record c { body = b }) s.now)

-- once the borrow r ends, the entry of a name is the last one written through r
abbrev pub lends_entry : MutBor (Table Entry) → Key → MutBor Entry → Fml
lends_entry s key r = lends_value entry.the_row s key r
