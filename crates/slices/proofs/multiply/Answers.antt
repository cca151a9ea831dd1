-- The goals of `slices::multiply` that the search leaves.
use Prim.Native.Nat.{◌*◌}
use mathlib.Core.Path.{ap}
use Rattle.sums.proofs.Fill.{fill_none, fill_read, fill_store}
use native.Mathlib.Omega.{arith}
use Rattle.slices.proofs.multiply.Goals as goal

pub loop-x-init : goal.loop-x-init
loop-x-init c = fill_none _ _

pub overflow_mul-x : goal.overflow_mul-x
overflow_mul-x c = omega (arith, ap (◌*◌ c.args.factor) (fill_read _ _ _ (omega arith) c.loop-x.invariant), c.requires.fits c.loop-x.x-index)

pub loop-x-preserved : goal.loop-x-preserved
loop-x-preserved c =
    fill_store _ _ _ (omega arith) c.loop-x.invariant (omega (arith, ap (◌*◌ c.args.factor) (fill_read _ _ _ (omega arith) c.loop-x.invariant)))
