-- The goals of `euclid::descend` that the search leaves.
use mathlib.Core.Path.{refl}
use native.Mathlib.Omega.{arith}
use Rattle.euclid.proofs.Descent.{begun, steppable, stepped, last, answered}
use Rattle.euclid.proofs.descend.Goals as goal

pub loop-second-init : goal.loop-second-init
loop-second-init c = record { standing = begun c.requires; long = refl }

-- ---- the first division leaves nothing
pub finish-requires : goal.finish-requires
finish-requires c =
    let halfway = stepped c.args.m c.requires.entries c.loop-second.invariant.standing c.loop-second-test.true c.step.ensures c.in_ok-step.was in
    last c.args.m c.requires.entries halfway c.loop-second.invariant.long c.if-first-eq0.true

pub returns-then-first-eq0 : goal.returns-then-first-eq0
returns-then-first-eq0 c =
    let halfway = stepped c.args.m c.requires.entries c.loop-second.invariant.standing c.loop-second-test.true c.step.ensures c.in_ok-step.was in
    answered c.args.m c.requires.entries halfway c.loop-second.invariant.long c.finish.ensures

-- ---- the second division
pub step-requires-in-loop-second : goal.step-requires-in-loop-second
step-requires-in-loop-second c =
    let halfway = stepped c.args.m c.requires.entries c.loop-second.invariant.standing c.loop-second-test.true c.step.ensures c.in_ok-step.was in
    steppable c.args.m c.requires.entries halfway (omega (arith, c.if-first-eq0.false))

pub loop-second-preserved : goal.loop-second-preserved
loop-second-preserved c =
    let halfway = stepped c.args.m c.requires.entries c.loop-second.invariant.standing c.loop-second-test.true c.step.ensures c.in_ok-step.was in
    record {
      standing = stepped c.args.m c.requires.entries halfway (omega (arith, c.if-first-eq0.false)) c.step-in-loop-second.ensures c.in_ok-step-2.was;
      long = c.loop-second.invariant.long;
    }

-- ---- after a whole turn
pub returns : goal.returns
returns c = answered c.args.m c.requires.entries c.loop-second.invariant.standing c.loop-second.invariant.long c.finish-2.ensures
