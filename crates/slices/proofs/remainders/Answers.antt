-- The goals of `slices::remainders` that the search leaves.
use mathlib.Core.Path.{◌≡◌, refl, ◌∙◌}
use lib.ListN.{length}
use Rattle.sums.proofs.Fill.{fill_none, fill_store, fill_all}
use Rattle.ring.specs.Reduce.{reduce}
use native.Mathlib.Omega.{arith}
use Rattle.slices.proofs.remainders.Goals as goal

pub loop-i-init : goal.loop-i-init
loop-i-init c = fill_none _ _

pub loop-i-preserved : goal.loop-i-preserved
loop-i-preserved c = fill_store _ _ _ (omega arith) c.loop-i.invariant refl

pub returns : goal.returns
unfolding reduce
returns c =
    let e : c.loop-i.i ≡ length c.args.a.now = omega arith in
    rw e at (c.loop-i.invariant ∙ fill_all _ _ _ (omega arith))
