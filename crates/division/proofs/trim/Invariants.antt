-- `division::trim` meets its contract: from place last on all is 0. Assumes nothing.
use Rattle.sums.specs.Table.{at}
use Rattle.series.specs.Series.{Below}
use Rattle.division.proofs.trim.Given as goal

abbrev pub invariant-loop-last : goal.invariant-loop-last
invariant-loop-last l = Below l.last (at l.a)
