-- `modular::inverse::inverse` meets its contract. The loop's invariant: the rows of extended Euclid, the one of b below the one of a, which is above 1.
-- The measure is b. Assumes nothing.
use Rattle.modular.proofs.Divisions.{Dividing}
use Rattle.modular.proofs.inverse.inverse.Given as goal

abbrev pub invariant-loop-b : goal.invariant-loop-b
invariant-loop-b l = Dividing l.m l.y l.a l.b l.s l.t

abbrev pub decreases-loop-b : goal.decreases-loop-b
decreases-loop-b l = l.b
