-- `along::four_sums` meets its contract: after i turns each sum has its first i products, and the sums before j have the next one too. Assumes nothing.
use mathlib.Core.Path.{◌≡◌}
use mathlib.Core.List.{◌++◌}
use Prim.Native.Nat.{◌+◌}
use lib.ListN.{drop}
use Rattle.sums.specs.Table.{table}
use Rattle.along.proofs.Blocks.{sums_to}
use Rattle.along.proofs.four_sums.Given as goal

abbrev pub invariant-loop-i : goal.invariant-loop-i
invariant-loop-i l = l.sums ≡ table 4 (sums_to l.i l.x l.c)

abbrev pub invariant-loop-j : goal.invariant-loop-j
invariant-loop-j l = l.sum-items ≡ table l.j (sums_to (l.i + 1) l.x l.c) ++ drop l.j (table 4 (sums_to l.i l.x l.c))
