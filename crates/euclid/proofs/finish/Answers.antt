-- `euclid::finish` meets its contract: where the last divisor is a constant, its cofactor over it is the inverse; else the zero row's cofactor over its
-- own leading coefficient is the ghost. Assumes nothing.
use mathlib.Core.Path.{refl}
use native.Mathlib.Omega.{arith}
use Rattle.euclid.proofs.LastRows.{last_some, ghost_some, dividable, finished_inverse, finished_ghost}
use Rattle.euclid.proofs.finish.Goals as goal

pub over-requires : goal.over-requires
over-requires c = dividable c.requires c.requires.standing.first.cofactor (last_some c.requires (omega arith)) refl

pub returns-then-last-eq1 : goal.returns-then-last-eq1
returns-then-last-eq1 c = finished_inverse c.requires c.if-last-eq1.true c.over.ensures

pub over-requires-2 : goal.over-requires-2
over-requires-2 c = dividable c.requires c.requires.standing.second.cofactor (ghost_some c.requires) refl

pub returns : goal.returns
returns c = finished_ghost c.requires (omega arith) c.over-2.ensures
