-- `slices::multiply` meets its contract: after k turns the first k entries are the multiples and the rest is as it came. Assumes nothing.
use Prim.Native.Nat.{◌*◌}
use mathlib.Core.Path.{◌≡◌}
use mathlib.Core.List.{◌++◌}
use lib.ListN.{drop}
use Rattle.sums.specs.Table.{at, table}
use Rattle.slices.proofs.multiply.Given as goal

abbrev pub invariant-loop-x : goal.invariant-loop-x
invariant-loop-x l = l.row ≡ table l.x-index (λ j. l.factor * at l.initial.row j) ++ drop l.x-index l.initial.row
