-- `convolve::lay_backwards` meets its contract: after i turns x holds the last i entries of a, and then what it held. Assumes nothing.
use Prim.Native.Nat.{◌+◌, ◌-◌}
use mathlib.Core.Path.{◌≡◌}
use mathlib.Core.List.{◌++◌}
use lib.ListN.{length, drop}
use Rattle.sums.specs.Table.{at, table}
use Rattle.convolve.proofs.lay_backwards.Given as goal

abbrev pub invariant-loop-i : goal.invariant-loop-i
invariant-loop-i l = l.x ≡ table l.i (λ t. at l.a (length l.a - (t + 1))) ++ drop l.i l.initial.x
