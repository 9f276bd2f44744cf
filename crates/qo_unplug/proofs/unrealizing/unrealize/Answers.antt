-- As many levels as there are objects, and one.
use Rattle.std.proofs.Common.{◌≡◌, ap, subst, ℕ, ◌+◌, length}
use Rattle.qo_unplug.specs.Feeding.{FeedsWithin}
use Rattle.qo_unplug.specs.Unrealizing.{Ends, device_within, parts}
use Rattle.qo_unplug.proofs.unrealizing.unrealize.Goals as goal

pub returns : goal.returns
returns g c =
    let is : c.live-levels.result + 1 ≡ length c.args.heap.now.rows + 1 = ap (λ (k : ℕ). k + 1) c.live-levels.ensures in
    subst
    (λ (k : ℕ). Ends (λ b _. FeedsWithin b k c.args.dev.birth) (λ b. device_within b k c.args.dev.birth)
    (parts c.args.heap.now c.args.resets.now.births c.args.hotplug.now)
    (parts c.unrealize_device.new.heap c.unrealize_device.new.resets.births c.unrealize_device.new.hotplug))
    is c.unrealize_device.ensures
