-- The goals of `lift::blend` that the search leaves.
use Rattle.sums.proofs.Fill.{fill_none, fill_read, fill_store}
use native.Mathlib.Omega.{arith}
use Rattle.lift.proofs.blend.Goals as goal

pub loop-k-init : goal.loop-k-init
loop-k-init c = fill_none _ _

pub blended-requires : goal.blended-requires
blended-requires c = rw (fill_read _ _ _ (omega arith) c.loop-k.invariant) (c.requires.each c.loop-k.k)

pub loop-k-preserved : goal.loop-k-preserved
loop-k-preserved c = fill_store _ _ _ (omega arith) c.loop-k.invariant (rw (fill_read _ _ _ (omega arith) c.loop-k.invariant) at c.blended.ensures)
