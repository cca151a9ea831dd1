-- `euclid::descend` meets its contract. The loop's invariant: the rows stand, and the output is as it came; the measure is the length of the second row.
-- A turn divides the first row by the second and then the second by what is left of the first. Assumes nothing.
use mathlib.Core.Path.{◌≡◌}
use lib.ListN.{length}
use Rattle.sums.specs.Table.{at}
use Rattle.euclid.specs.Descent.{Standing}
use Rattle.euclid.proofs.descend.Given as goal

abbrev pub invariant-loop-second : goal.invariant-loop-second
invariant-loop-second l = record {
  standing : Standing (length l.initial.out) l.m.value (at l.initial.second.remainder) l.first l.second;
  long : length l.out ≡ length l.initial.out;
}

abbrev pub decreases-loop-second : goal.decreases-loop-second
decreases-loop-second l = l.second.len
