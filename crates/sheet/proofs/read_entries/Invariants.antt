-- `sheet::read_entries` meets its contract: what was read so far is what the closure gives. Assumes nothing.
use Rattle.std.proofs.Common.{ℕ, ◌+◌, ◌*◌, ◌<◌, slice_get, slice_range, IfSome}
use Rattle.std.specs.Fn.{FnReturnsAt}
use Rattle.sheet.proofs.read_entries.Given as goal

abbrev pub invariant-loop-i : goal.invariant-loop-i
invariant-loop-i g l = (k : ℕ) → k < l.i → IfSome (slice_get l.out k) (λ x. FnReturnsAt g.F.Fn l.entry (slice_range l.part (k * l.step) (k * l.step + l.step)) x)
