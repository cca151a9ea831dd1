-- `convolve::entries` meets its contract: the output is filled up to k, or to its end; and then up to i, entry by entry. Assumes nothing.
use Prim.Native.Nat.{◌+◌, ◌%◌, min}
use mathlib.Core.Path.{◌≡◌}
use mathlib.Core.List.{◌++◌}
use lib.ListN.{drop}
use Rattle.sums.specs.Table.{table}
use Rattle.along.specs.Along.{along}
use Rattle.convolve.proofs.entries.Given as goal

abbrev pub invariant-loop-k : goal.invariant-loop-k
invariant-loop-k l = l.out ≡ table (min l.k l.n) (λ i. along l.x l.d (i + 1) % l.m) ++ drop (min l.k l.n) l.fn.out

abbrev pub invariant-loop-j : goal.invariant-loop-j
invariant-loop-j l = l.out ≡ table (min (l.k + l.j) l.n) (λ i. along l.x l.d (i + 1) % l.m) ++ drop (min (l.k + l.j) l.n) l.fn.out
