-- The goals of `lift::twice_less` that the search leaves.
use mathlib.Core.Path.{refl}
use Rattle.sums.proofs.Fill.{fill_none, fill_read, fill_store}
use native.Mathlib.Omega.{arith}
use Rattle.lift.proofs.twice_less.Goals as goal

pub loop-k-init : goal.loop-k-init
loop-k-init c = fill_none _ _

pub loop-k-preserved : goal.loop-k-preserved
loop-k-preserved c = fill_store _ _ _ (omega arith) c.loop-k.invariant (rw (fill_read _ _ _ (omega arith) c.loop-k.invariant) refl)
