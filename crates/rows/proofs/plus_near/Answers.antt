-- `rows::plus_near` meets its contract: q p is taken away from x + t, and less than 3 p is left. Assumes nothing.
use Prim.Native.Nat.{ℕ, ◌/◌, ◌%◌, ◌^◌}
use mathlib.Core.Path.{sym, ap, ◌∙◌}
use native.Mathlib.Nat.{mul-add-mod_self_right}
use native.Mathlib.Omega.{arith}
use Rattle.rows.proofs.plus_near.Goals as goal

pub returns : goal.returns
returns c =
    let a = c.args in
    let q = a.s / 2 ^ 32 in
    c.thrice.ensures ∙ sym (mul-add-mod_self_right q a.p _) ∙ ap (λ (n : ℕ). n % a.p) (grind arith)
