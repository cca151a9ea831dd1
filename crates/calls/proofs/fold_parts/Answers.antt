-- The goals of `calls::fold_parts` that the search leaves.
use mathlib.Core.Path.{◌≡◌}
use Prim.Native.Nat.{◌/◌}
use native.Mathlib.Nat.{div-mul_cancel}
use lib.ListN.{length}
use Rattle.sums.proofs.Fill.{fill_none, fill_step, fill_all}
use Rattle.ring.proofs.Fold as laws
use native.Mathlib.Omega.{arith}
use Rattle.calls.proofs.fold_parts.Invariants.{entry}
use Rattle.calls.proofs.fold_parts.Goals as goal

pub loop-k-init : goal.loop-k-init
loop-k-init c = fill_none _ _

pub sum_parts-requires : goal.sum_parts-requires
sum_parts-requires c =
    record { few = c.requires.few; whole = div-mul_cancel (length c.args.out.now) c.requires.onto; inside = c.loop-k-test.true }

pub loop-k-preserved : goal.loop-k-preserved
loop-k-preserved c =
    cc (fill_step (entry c.args.a.now (length c.args.out.now) (length c.args.a.now / length c.args.out.now) c.args.m) c.args.out.now c.loop-k.k (omega arith))

pub returns : goal.returns
returns c =
    let a = c.args.a.now in
    let step = length c.args.out.now in
    let e : c.loop-k.k ≡ step = omega arith in
    let done = fill_all (entry a step (length a / step) c.args.m) c.args.out.now c.loop-k.k e in
    let law = rw (div-mul_cancel step c.requires.onto) at (laws.fold_parts (length a / step) step c.args.m a) in
    cc (done, law)
