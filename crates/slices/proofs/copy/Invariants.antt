-- `slices::copy` meets its contract: after i turns dst is the first i entries of src and then as it came. Assumes nothing.
use mathlib.Core.Path.{◌≡◌}
use mathlib.Core.List.{◌++◌}
use lib.ListN.{drop}
use Rattle.sums.specs.Table.{at, table}
use Rattle.slices.proofs.copy.Given as goal

abbrev pub invariant-loop-i : goal.invariant-loop-i
invariant-loop-i l = l.dst ≡ table l.i (at l.src) ++ drop l.i l.initial.dst
