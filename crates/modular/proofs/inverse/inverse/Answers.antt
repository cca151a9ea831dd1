-- The goals of `modular::inverse::inverse` that the search leaves.
use Rattle.modular.proofs.Divisions.{dividing_start, end_inverse, end_shares, half_inverse, half_shares, full_low, full_next}
use native.Mathlib.Omega.{arith}
use Rattle.modular.proofs.inverse.inverse.Goals as goal

pub loop-b-init : goal.loop-b-init
loop-b-init c = dividing_start c.args.m c.args.y c.requires

pub returns-then-a-eq1 : goal.returns-then-a-eq1
returns-then-a-eq1 c = half_inverse c.loop-b.invariant c.loop-b-test.true c.if-a-eq1.true

pub returns-then-a-eq0 : goal.returns-then-a-eq0
returns-then-a-eq0 c = half_shares c.loop-b.invariant c.loop-b-test.true c.if-a-eq0.true

pub overflow_mul-s : goal.overflow_mul-s
overflow_mul-s c = omega (arith, full_low c.loop-b.invariant (omega arith))

pub overflow_add-s : goal.overflow_add-s
overflow_add-s c = omega (arith, full_low c.loop-b.invariant (omega arith))

pub loop-b-preserved : goal.loop-b-preserved
loop-b-preserved c = full_next c.loop-b.invariant (omega arith)

pub returns-then-b-eq1 : goal.returns-then-b-eq1
returns-then-b-eq1 c = end_inverse c.loop-b.invariant (omega arith)

pub returns : goal.returns
returns c = end_shares c.loop-b.invariant (omega arith)
