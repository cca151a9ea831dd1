-- `convolve::lay_once` meets its contract: after j turns d holds the first j entries of b, and then what it held. Assumes nothing.
use mathlib.Core.Path.{◌≡◌}
use mathlib.Core.List.{◌++◌}
use lib.ListN.{drop}
use Rattle.convolve.specs.Layout.{around}
use Rattle.convolve.proofs.lay_once.Given as goal

abbrev pub invariant-loop-j : goal.invariant-loop-j
invariant-loop-j l = l.d ≡ around l.j l.b ++ drop l.j l.initial.d
