-- `unmix::read_full` is safe and ends: each read takes at least a byte, and never more than there is room for. Assumes nothing.
use Rattle.std.proofs.Common.{◌-◌, ◌≤◌, length}
use Rattle.unmix.proofs.read_full.Given as goal

abbrev pub invariant-loop-at : goal.invariant-loop-at
invariant-loop-at g l = l.at ≤ length l.bytes

abbrev pub decreases-loop-at : goal.decreases-loop-at
decreases-loop-at g l = length l.bytes - l.at
