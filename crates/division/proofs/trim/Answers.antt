-- The goal of `division::trim` that the search leaves.
use native.Mathlib.Omega.{arith}
use Rattle.sums.specs.Table.{at}
use Rattle.series.proofs.Degrees.{below_pred}
use Rattle.division.proofs.trim.Goals as goal

pub loop-last-preserved : goal.loop-last-preserved
loop-last-preserved c = below_pred c.loop-last.last (at c.args.a.now) c.loop-last.invariant (omega arith)
