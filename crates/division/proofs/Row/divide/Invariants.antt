-- `division::Row::divide` meets its contract. The loop's invariant is `Going`, and its measure the row's length, which each turn lowers. Assumes nothing.
use Rattle.division.proofs.Dividing.{Going}
use Rattle.division.proofs.Row.divide.Given as goal

abbrev pub invariant-loop-self : goal.invariant-loop-self
invariant-loop-self l = Going l.p l.fn.self l.self l.divisor

abbrev pub decreases-loop-self : goal.decreases-loop-self
decreases-loop-self l = l.self.len
