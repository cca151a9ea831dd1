-- The goals of `rows::Factor::scale` that the search leaves.
use Prim.Native.Nat.{ℕ, ◌*◌, ◌%◌}
use mathlib.Core.Path.{◌≡◌, ap, ◌∙◌}
use lib.ListN.{length}
use Rattle.sums.proofs.Fill.{fill_none, fill_all, fill_read, fill_store}
use Rattle.rows.specs.Row.{terms}
use native.Mathlib.Omega.{arith}
use Rattle.rows.proofs.Factor.scale.Goals as goal

pub loop-y-init : goal.loop-y-init
loop-y-init c = fill_none _ _

pub plus_multiple-requires : goal.plus_multiple-requires
plus_multiple-requires c =
    let v = c.loop-y in
    record { modulus = c.requires.modulus; onto = omega (arith, c.args.self.prepared.low); from = omega (arith, fill_read _ c.args.row.now v.y-index (omega arith) v.invariant, c.requires.low v.y-index) }

pub loop-y-preserved : goal.loop-y-preserved
loop-y-preserved c =
    let v = c.loop-y in
    let x = fill_read _ c.args.row.now v.y-index (omega arith) v.invariant in
    fill_store _ c.args.row.now v.y-index (omega arith) v.invariant (c.plus_multiple.ensures ∙ ap (λ (z : ℕ). z % c.args.self.modulus) (omega (arith, ap (λ (z : ℕ). c.args.self.value * z) x)))

pub returns : goal.returns
unfolding terms
returns c =
    let v = c.loop-y in
    let e : v.y-index ≡ length c.args.row.now = omega arith in
    rw (← e) (v.invariant ∙ fill_all _ c.args.row.now v.y-index e)
