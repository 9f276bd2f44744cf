-- So far nothing ended, and the scanner stands after what was scanned.
use Rattle.std.proofs.Common.{ℕ, ◌+◌, ◌-◌, ◌≤◌, List, length}
use Rattle.qo_framing.specs.Scanning.{HasScanned, IsAfter}
use Rattle.qo_framing.proofs.scanner.scan_all.Given as goal

abbrev pub invariant-loop-at : goal.invariant-loop-at
invariant-loop-at l =
    record {
      within : l.at ≤ length l.bytes;
      scanned : (front : List ℕ) → IsAfter front l.fn.scanner → length front + length l.bytes ≤ 262144 → HasScanned front l.bytes l.at l.scanner;
    }

abbrev pub decreases-loop-at : goal.decreases-loop-at
decreases-loop-at l = length l.bytes - l.at
