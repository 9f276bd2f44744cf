-- The next byte to look at ends the scan, or leads on, or there is none.
use Rattle.std.proofs.Common.{arith, ap, ◌∙◌}
use Rattle.qo_framing.specs.Scanning.{step_of}
use Rattle.qo_framing.proofs.Scans.{scan_ends, scan_goes, scan_open}
use Rattle.qo_framing.proofs.scanner.scan_all.Goals as goal

pub returns-in-None-clause-found : goal.returns-in-None-clause-found
returns-in-None-clause-found c =
    λ front later short. scan_open front c.args.bytes.now c.next_place-next.result c.loop-at.scanner (let none = c.in-None.ensures.lookup in
    none.3) (c.next_place-next.ensures.scanned front short (c.loop-at.invariant.scanned front later short))

pub loop-at-preserved : goal.loop-at-preserved
loop-at-preserved c =
    let found = c.in-Some.ensures.lookup in
    record {
      within = omega (arith, found.3.0);
      scanned = λ front later short. scan_goes front c.args.bytes.now c.next_place-next.result c.loop-at.scanner c.in-Goes.after found.3.0
          short (c.next_place-next.ensures.scanned front short (c.loop-at.invariant.scanned front later short))
          (c.in-Goes.ensures ∙ ap (step_of c.loop-at.scanner) (found.3.1 0));
    }

pub returns-in-Ends-clause-found : goal.returns-in-Ends-clause-found
returns-in-Ends-clause-found c =
    let found = c.in-Some.ensures.lookup in
    λ front later short. scan_ends front c.args.bytes.now c.next_place-next.result c.loop-at.scanner c.in-Ends.ending found.3.0 short
    (c.next_place-next.ensures.scanned front short (c.loop-at.invariant.scanned front later short))
    (c.in-Ends.ensures ∙ ap (step_of c.loop-at.scanner) (found.3.1 0))

pub returns-clause-found : goal.returns-clause-found
returns-clause-found c =
    λ front later short. scan_open front c.args.bytes.now c.loop-at.at c.loop-at.scanner c.loop-at-test.false (c.loop-at.invariant.scanned front later short)
