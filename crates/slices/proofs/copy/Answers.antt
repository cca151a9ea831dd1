-- The goals of `slices::copy` that the search leaves.
use mathlib.Core.Path.{◌≡◌, refl}
use lib.ListN.{length}
use Rattle.sums.proofs.Fill.{fill_none, fill_store}
use Rattle.sums.proofs.Tables.{table_self}
use native.Mathlib.Omega.{arith}
use Rattle.slices.proofs.copy.Goals as goal

pub loop-i-init : goal.loop-i-init
loop-i-init c = fill_none _ _

pub loop-i-preserved : goal.loop-i-preserved
loop-i-preserved c = fill_store _ _ _ (omega arith) c.loop-i.invariant refl

pub returns : goal.returns
returns c =
    let e : c.loop-i.i ≡ length c.args.src.now = omega arith in
    rw (table_self c.args.src.now) at (rw e at c.loop-i.invariant)
