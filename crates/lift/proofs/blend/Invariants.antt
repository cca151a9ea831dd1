-- `lift::blend` meets its contract: after k turns the first k entries are the answer's and the rest is as it came. Assumes nothing.
use mathlib.Core.Path.{◌≡◌}
use mathlib.Core.List.{◌++◌}
use Prim.Native.Nat.{◌+◌, ◌*◌, ◌%◌}
use lib.ListN.{drop}
use Rattle.sums.specs.Table.{table, at}
use Rattle.lift.proofs.blend.Given as goal

abbrev pub invariant-loop-k : goal.invariant-loop-k
invariant-loop-k l = l.acc ≡ table l.k (λ j. (l.first * at l.g j + l.second * at l.initial.acc j) % l.m) ++ drop l.k l.initial.acc
