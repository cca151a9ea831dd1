-- `convolve::lay_around` meets its contract: d holds the first j entries of b, b, .., and then what it held; entry j is entry j - n again. Assumes nothing.
use mathlib.Core.Path.{◌≡◌}
use mathlib.Core.List.{◌++◌}
use lib.ListN.{drop}
use Rattle.convolve.specs.Layout.{around}
use Rattle.convolve.proofs.lay_around.Given as goal

abbrev pub invariant-loop-j : goal.invariant-loop-j
invariant-loop-j l = l.d ≡ around l.j l.b ++ drop l.j l.initial.d
