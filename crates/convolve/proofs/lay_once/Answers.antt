-- The goals of `convolve::lay_once` that the search leaves.
use Rattle.convolve.proofs.Layouts.{around_none, around-step, first_turn}
use native.Mathlib.Omega.{arith}
use Rattle.convolve.proofs.lay_once.Goals as goal

pub loop-j-init : goal.loop-j-init
loop-j-init c = around_none _ _

pub loop-j-preserved : goal.loop-j-preserved
loop-j-preserved c =
    cc (around-step c.args.b.now c.args.d.now c.loop-j.j _ (omega arith) (first_turn c.args.b.now c.loop-j.j (omega arith)))
