-- The goals of `along::four_entries` that the search leaves.
use mathlib.Core.Path.{◌≡◌, refl, sym, ap, ◌∙◌}
use Prim.Native.Nat.{ℕ, ◌+◌, ◌-◌, ◌*◌, ◌%◌, ◌<◌}
use lib.ListN.{length, take, drop}
use Rattle.std.specs.Slice.Iter.{chunks_rest}
use Rattle.std.specs.Iterator.Adapters.{enumerate_source, enumerate_count}
use Rattle.sums.specs.Table.{at, table}
use Rattle.sums.proofs.Fill.{fill_none, fill_read, fill_store, fill_all}
use Rattle.along.specs.declared.TheConstants.{BLOCK}
use Rattle.along.proofs.Blocks.{Missing, Next, all_missing, none_missing, next, sum_fits, next_block}
use native.Mathlib.Omega.{arith}
use Rattle.along.proofs.four_entries.Goals as goal
use Rattle.along.proofs.four_entries.Goals.{In-Some}

turn : (c : In-Some)
    → Next c.args.x.now c.args.c.now (c.in-Some.k * BLOCK) c.in-Some.block.now (chunks_rest (enumerate_source c.next.new.self))
    (take (length c.args.c.now - c.in-Some.k * BLOCK) (drop (c.in-Some.k * BLOCK) c.args.c.now))
    × Missing c.args.x.now c.args.c.now c.args.m (drop (c.in-Some.k * BLOCK) c.args.x.now) (drop (c.in-Some.k * BLOCK) c.args.c.now) c.loop-k.sums
turn c =
    let now = rw (sym c.in-Some.ensures.steps.1) at c.loop-k.invariant in
    let chunk = c.in-Some.ensures.steps.0.1 in
    (next _ _ _ _ _ _ _ _ c.requires now.0 now.1 chunk.0 chunk.1 chunk.2, now.2)

pub loop-k-init : goal.loop-k-init
unfolding table
loop-k-init c =
    rw c.into_iter-k-iterator.ensures.into_iter_gives
    (rw (c.enumerate-k-items.ensures.source, c.enumerate-k-items.ensures.count, c.chunks.ensures.rest)
    (c.chunks.ensures.size, refl, all_missing c.args.x.now c.args.c.now c.args.m c.requires.positive))

pub four_sums-block_sums-requires : goal.four_sums-block_sums-requires
four_sums-block_sums-requires c = (turn (goal.at.four_sums-block_sums-requires c).In-Some).0.ready

pub overflow_add-sum : goal.overflow_add-sum
overflow_add-sum c =
    let now = turn (goal.at.overflow_add-sum c).In-Some in
    let j = c.loop-j.j in
    let inside : j < length c.loop-k.sums = omega (arith, now.1.four) in
    omega (
      arith,
      fill_read _ c.loop-k.sums j inside c.loop-j.invariant,
      sum_fits _ _ _ _ c.requires now.0 _ _ now.1 c.four_sums-block_sums.ensures j c.loop-j-test.true,
    )

pub loop-j-init : goal.loop-j-init
loop-j-init c = fill_none _ _

pub loop-j-preserved : goal.loop-j-preserved
loop-j-preserved c =
    let j = c.loop-j.j in
    let f = λ (j : ℕ). (at c.loop-k.sums j + at c.four_sums-block_sums.result j) % c.args.m in
    let inside : j < length c.loop-k.sums = omega (arith, c.loop-k.invariant.2.four) in
    fill_store f c.loop-k.sums j inside c.loop-j.invariant (cc (fill_read f c.loop-k.sums j inside c.loop-j.invariant))

pub loop-k-preserved : goal.loop-k-preserved
loop-k-preserved c =
    let now = turn (goal.at.loop-k-preserved c).In-Some in
    let step = c.in-Some.ensures.steps in
    let further : enumerate_count c.next.new.self * BLOCK ≡ c.in-Some.k * BLOCK + BLOCK = omega (arith, step.1, step.2) in
    let f = λ (j : ℕ). (at c.loop-k.sums j + at c.four_sums-block_sums.result j) % c.args.m in
    let all : c.loop-j.j ≡ length c.loop-k.sums = omega (arith, now.1.four) in
    let sums = c.loop-j.invariant ∙ fill_all f c.loop-k.sums c.loop-j.j all ∙ ap (λ (z : ℕ). table z f) (all ∙ now.1.four) in (
      step.0.0 ∙ c.loop-k.invariant.0,
      now.0.left ∙ ap (λ (z : ℕ). drop z c.args.x.now) (sym further),
      next_block _ _ _ _ c.requires now.0 _ _ now.1 c.four_sums-block_sums.ensures _ _ further sums,
    )

pub returns : goal.returns
returns c =
    let now = c.loop-k.invariant in
    none_missing c.args.x.now c.args.c.now c.args.m _ _ _ (ap length (sym now.1) ∙ c.in-None.ensures.steps.0.1.0) now.2
