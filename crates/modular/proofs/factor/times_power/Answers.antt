-- The goals of `modular::factor::times_power` that the search leaves.
use Prim.Native.Nat.{ℕ, ◌*◌, ◌^◌}
use mathlib.Core.Path.{sym, ap, ◌∙◌}
use native.Mathlib.Numerals.{add-one}
use native.Mathlib.Nat.{pow-suc, pow-le-pow_right, mul_assoc, mul-le-mul_left}
use native.Mathlib.Omega.{arith}
use Rattle.modular.proofs.factor.times_power.Goals as goal

pub returns-then-from-product : goal.returns-then-from-product
returns-then-from-product c =
    let a = c.args in
    let v = c.loop-k in
    record {
      same = λ l. absurd (omega arith);
      over = λ l. omega (arith, v.invariant, mul-le-mul_left a.x (pow-le-pow_right {n = a.p} c.requires {i = v._k} {j = a.e} (omega arith)));
    }

pub loop-k-preserved : goal.loop-k-preserved
loop-k-preserved c =
    let a = c.args in
    let v = c.loop-k in
    (λ i. v.invariant i * c.from-product.ensures i) ∙ mul_assoc a.x (a.p ^ v._k) a.p ∙ ap (λ (z : ℕ). a.x * z) (sym (pow-suc a.p v._k) ∙ ap (λ (z : ℕ). a.p ^ z) (sym (add-one v._k)))
