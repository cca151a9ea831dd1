-- `calls::sum_parts` meets its contract: after t parts the total is the sum of their entries, and i is the place in the next one. Assumes nothing.
use mathlib.Core.Path.{◌≡◌}
use Prim.Native.Nat.{◌+◌, ◌*◌}
use Rattle.sums.specs.Sum.{sum}
use Rattle.sums.specs.Table.{at}
use Rattle.calls.proofs.sum_parts.Given as goal

abbrev pub invariant-loop-t : goal.invariant-loop-t
invariant-loop-t l = (l.i ≡ l.k + l._t * l.step) × (l.total ≡ sum l._t (λ j. at l.a (l.k + j * l.step)))
