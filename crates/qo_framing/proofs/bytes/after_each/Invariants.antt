-- All bytes so far are plain.
use Rattle.std.proofs.Common.{◌≡◌, ℕ, ◌-◌, ◌<◌, ◌≤◌, true, length, get_or}
use Rattle.qo_framing.specs.Scanning.{is_plain}
use Rattle.qo_framing.proofs.bytes.after_each.Given as goal

abbrev pub invariant-loop-place : goal.invariant-loop-place
invariant-loop-place l =
    record {
      least : l.at ≤ l.place;
      most : l.place ≤ length l.bytes;
      plain : (k : ℕ) → l.at ≤ k → k < l.place → is_plain (get_or l.bytes k 0) ≡ true;
    }

abbrev pub decreases-loop-place : goal.decreases-loop-place
decreases-loop-place l = length l.bytes - l.place
