-- `checks::check_coefficients`: the entries of the rings passed are below m, so the rest of them decide. Assumes nothing.
use mathlib.Core.Path.{◌≡◌}
use mathlib.Core.List.{◌∷◌}
use Prim.Native.Nat.{◌+◌}
use lib.ListN.{drop}
use Rattle.answer.specs.First.{first}
use Rattle.checks.specs.Order.{lent, coefficients}
use Rattle.checks.proofs.check_coefficients.Given as goal

abbrev pub invariant-loop-i : goal.invariant-loop-i
invariant-loop-i l = first (coefficients l.m 1 (l.a ∷ lent l.others)) ≡ first (coefficients l.m (l.i + 2) (lent (drop l.i l.others)))
