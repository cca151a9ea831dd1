-- The goals of `along::four_sums` that the search leaves.
use mathlib.Core.Path.{◌≡◌, refl, sym, ap, ◌∙◌}
use Prim.Native.Nat.{ℕ, ◌+◌}
use Rattle.sums.specs.Sum.{sum}
use Rattle.sums.specs.Table.{table}
use Rattle.sums.proofs.Tables.{length-table}
use Rattle.sums.proofs.Fill.{fill_none, fill_all}
use Rattle.along.proofs.Blocks.{sums_to, term_fits, sum_so_far, next_sum}
use native.Mathlib.Omega.{arith}
use Rattle.along.proofs.four_sums.Goals as goal

pub loop-i-init : goal.loop-i-init
unfolding sum table
loop-i-init c = refl

pub loop-j-init : goal.loop-j-init
loop-j-init c = c.loop-i.invariant ∙ fill_none _ _

pub plus_product-requires : goal.plus_product-requires
plus_product-requires c =
    let x = c.args.x.now in
    let y = c.args.c.now in
    term_fits x y c.loop-j.j c.loop-i.i _ _ c.requires c.loop-i-test.true refl (sum_so_far x y c.loop-i.i c.loop-j.j c.loop-j-test.true c.loop-j.invariant)

pub loop-j-preserved : goal.loop-j-preserved
loop-j-preserved c =
    next_sum c.args.x.now c.args.c.now c.loop-i.i c.loop-j.j c.loop-j-test.true c.loop-j.invariant c.plus_product.ensures

pub loop-i-preserved : goal.loop-i-preserved
loop-i-preserved c =
    let f = sums_to (c.loop-i.i + 1) c.args.x.now c.args.c.now in
    let e : c.loop-j.j ≡ 4 = omega arith in
    c.loop-j.invariant ∙ fill_all f _ c.loop-j.j (e ∙ sym (length-table 4 _)) ∙ ap (λ (z : ℕ). table z f) e
