-- `checks::check_lengths`: the rings passed are as long as ring 1, so the rest of them decide. Assumes nothing.
use mathlib.Core.Path.{◌≡◌}
use Prim.Native.Nat.{◌+◌}
use lib.ListN.{drop}
use Rattle.answer.specs.First.{first}
use Rattle.checks.specs.Order.{lent, mismatches}
use Rattle.checks.proofs.check_lengths.Given as goal

abbrev pub invariant-loop-i : goal.invariant-loop-i
invariant-loop-i l = first (mismatches l.n 2 (lent l.others)) ≡ first (mismatches l.n (l.i + 2) (lent (drop l.i l.others)))
