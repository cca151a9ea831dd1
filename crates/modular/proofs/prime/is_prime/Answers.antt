-- The goals of `modular::prime::is_prime` that the search leaves.
use mathlib.Core.Path.{refl, sym, subst}
use Rattle.modular.specs.Prime.{Prime}
use Rattle.modular.proofs.Trial.{free_next, free_prime, composite, divides, divides_not, past_quotient, tried_low, two_prime, tells_prime, tells_none}
use native.Mathlib.Decide.{ℕ_discrete}
use native.Mathlib.Nat.{mul-le-mul}
use borrow.Author.Tests.{eqb-true, eq-eqb}
use native.Mathlib.Omega.{arith}
use Rattle.modular.proofs.prime.is_prime.Goals as goal

pub returns-then-p-eq0 : goal.returns-then-p-eq0
returns-then-p-eq0 c =
    let p = c.args.p in
    record {
      is = λ e. subst Prime (sym (eqb-true p 2 e)) two_prime;
      told = λ pr. elim (ℕ_discrete p 2) [ yes e ↦ eq-eqb p 2 e | no e ↦ absurd (composite p 2 (omega arith) (omega arith) c.if-p-eq0.true pr) ];
    }

-- The quotient is below the divisor: so p is below its square.
pub returns-then-q-d : goal.returns-then-q-d
returns-then-q-d c =
    let v = c.loop-d.invariant in
    tells_prime (free_prime c.args.p c.loop-d.d (omega arith) (past_quotient c.args.p c.loop-d.d (omega arith) (rw v.2 at c.if-q-d.true)) v.1)

-- The quotient times the divisor is p.
pub returns-then-q-d-2 : goal.returns-then-q-d-2
returns-then-q-d-2 c =
    let v = c.loop-d.invariant in
    let d = c.loop-d.d in
    tells_none (composite c.args.p d (omega arith) (omega (arith, tried_low c.args.p d (omega arith) (omega (arith, v.2)))) (divides c.args.p d (rw v.2 at c.if-q-d-2.true)))

pub loop-d-preserved : goal.loop-d-preserved
loop-d-preserved c =
    let v = c.loop-d.invariant in
    (omega (arith, v.0), free_next c.args.p c.loop-d.d c.if-p-eq0.false v.0 v.1 (divides_not c.args.p c.loop-d.d (rw v.2 at c.if-q-d-2.false)), refl)

-- Past the last divisor: no number of 32 bits reaches its square.
pub returns : goal.returns
returns c = tells_prime (free_prime c.args.p c.loop-d.d (omega arith) (omega (arith, mul-le-mul {n₁ = 65536} {m₁ = 65536} {n₂ = c.loop-d.d} {m₂ = c.loop-d.d} (omega arith) (omega arith))) c.loop-d.invariant.1)
