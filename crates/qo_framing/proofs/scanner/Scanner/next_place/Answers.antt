-- Plain bytes are passed over, where no backslash hides the first.
use Rattle.std.proofs.Common.{sym, ◌∙◌, ⊎_elim}
use Rattle.qo_framing.proofs.Scans.{scan_plain_to}
use Rattle.qo_framing.proofs.scanner.Scanner.next_place.Goals as goal

pub returns-in-InString-clause-scanned : goal.returns-in-InString-clause-scanned
returns-in-InString-clause-scanned c =
    λ front short so_far. scan_plain_to front c.args.bytes.now c.args.at c.after_plain.result c.args.self (λ e. ⊎_elim (λ a. cc (sym e ∙ a))
    (λ a. cc (sym e ∙ a)) c.in-InString.is) c.after_plain.ensures.least c.after_plain.ensures.most short c.after_plain.ensures.plain so_far
