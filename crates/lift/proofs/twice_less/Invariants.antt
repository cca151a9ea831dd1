-- `lift::twice_less` meets its contract: after k turns the first k entries are the answer's and the rest is as it came.
-- Assumes nothing.
use mathlib.Core.Path.{◌≡◌}
use mathlib.Core.List.{◌++◌}
use Prim.Native.Nat.{◌+◌, ◌-◌, ◌*◌, ◌%◌}
use lib.ListN.{drop}
use Rattle.sums.specs.Table.{table, at}
use Rattle.lift.proofs.twice_less.Given as goal

abbrev pub invariant-loop-k : goal.invariant-loop-k
invariant-loop-k l = l.g ≡ table l.k (λ j. (2 * at l.initial.g j + (l.q - at l.h j)) % l.q) ++ drop l.k l.initial.g
