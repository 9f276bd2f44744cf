-- For proofs alone. What an object ends as, where a `&mut` to its body is returned.
use Rattle.std.specs.Borrow.{Lends, Fml, MutBor}
use Rattle.qo_kinds.specs.declared.bodies.Body.{Body}
use Rattle.qo_kinds.specs.contracts.bodies.Body as body
use Rattle.qo_object.specs.Content.{Content}
use Rattle.qo_object.specs.contracts.objects.Object as object

-- once the borrow r ends, the object has the last body written through r
abbrev pub lends_body : MutBor Content → MutBor Body → Fml
lends_body s r = Lends object.the_row body.the_row s r (λ b. record s.now { body = b })
