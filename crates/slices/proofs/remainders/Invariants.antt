-- `slices::remainders` meets its contract: after i turns the output is the first i remainders and then as it came.
-- Assumes nothing.
use mathlib.Core.Path.{◌≡◌}
use mathlib.Core.List.{◌++◌}
use Prim.Native.Nat.{◌%◌}
use lib.ListN.{drop}
use Rattle.sums.specs.Table.{at, table}
use Rattle.slices.proofs.remainders.Given as goal

abbrev pub invariant-loop-i : goal.invariant-loop-i
invariant-loop-i l = l.out ≡ table l.i (λ i. at l.a i % l.divisor) ++ drop l.i l.initial.out
