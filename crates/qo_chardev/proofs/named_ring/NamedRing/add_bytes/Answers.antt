use Rattle.std.proofs.Common.{Some, ap, refl, sym}
use Rattle.qo_chardev.proofs.named_ring.NamedRing.add_bytes.Goals as goal

pub returns-in-Utf8-clause-added : goal.returns-in-Utf8-clause-added
returns-in-Utf8-clause-added c =
    rw (c.in-Utf8.is)
    (record {
      bytes = c.as_bytes.result.now;
      given = ap Some (sym c.as_bytes.ensures.value);
      added = rw (c.add.ensures, ← c.self.view_is) refl;
    })
