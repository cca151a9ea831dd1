-- The goals of `invert::solve` that the search leaves.
use Rattle.std.proofs.Common.{arith, length-append, None, refl}
use Rattle.std.proofs.lemmas.Result.{err_from_is_err_and}
use Rattle.std.proofs.lemmas.Slice.Zip.{zip_end}
use Rattle.invert.proofs.Steps.{turned, same_lists, walk_start, powered, walk-next, walk-joined, walk_dark, walk_end}
use Rattle.invert.proofs.solve.Goals as goal

pub loop-p-init : goal.loop-p-init
loop-p-init c = ((tt, tt), tt, refl, walk_start c.requires (c.fill.ensures.after (λ y e. e)))

pub of-power-requires : goal.of-power-requires
of-power-requires c =
    powered c.requires (turned c.loop-p.yielded c.into_iter-p-iterator.result c.loop-p.p-iterator c.next.new.self (c.in-Some.field-0-0, c.in-Some.field-0-1) (cc) (cc) c.loop-p.yielded_by c.in-Some.ensures.steps c.from.ensures)

pub next_power-requires : goal.next_power-requires
next_power-requires c =
    let inv = c.loop-p.invariant in
    walk-next c.requires (turned c.loop-p.yielded c.into_iter-p-iterator.result c.loop-p.p-iterator c.next.new.self (c.in-Some.field-0-0, c.in-Some.field-0-1) (cc) (cc) c.loop-p.yielded_by c.in-Some.ensures.steps c.from.ensures) c.of-power.result c.of-power.ensures inv.2 inv.3

pub returns-in_err-big : goal.returns-in_err-big
returns-in_err-big c =
    let inv = c.loop-p.invariant in
    let told = err_from_is_err_and c.from_residual.result c.from_residual.ensures.1 in
    rw (told.1, told.2) (walk_dark c.requires (turned c.loop-p.yielded c.into_iter-p-iterator.result c.loop-p.p-iterator c.next.new.self (c.in-Some.field-0-0, c.in-Some.field-0-1) (cc) (cc) c.loop-p.yielded_by c.in-Some.ensures.steps c.from.ensures) c.of-power.result c.of-power.ensures inv.2 inv.3 c.in_err-big.ensures)

pub loop-p-preserved : goal.loop-p-preserved
loop-p-preserved c =
    let inv = c.loop-p.invariant in
    let walked = walk-joined c.requires (turned c.loop-p.yielded c.into_iter-p-iterator.result c.loop-p.p-iterator c.next.new.self (c.in-Some.field-0-0, c.in-Some.field-0-1) (cc) (cc) c.loop-p.yielded_by c.in-Some.ensures.steps c.from.ensures) c.of-power.result c.of-power.ensures inv.2 inv.3 c.in_ok-big.ensures in
    ((tt, tt), tt, simp length-append walked.0, walked.1)

pub returns : goal.returns
returns c =
    let end = zip_end c.args.m.primes.now c.args.m.exponents.now c.loop-p.yielded c.into_iter-p-iterator.result c.loop-p.p-iterator c.next.new.self None (cc) (cc) c.loop-p.yielded_by refl c.in-None.ensures.steps in
    walk_end c.requires _ (omega (arith, same_lists c.requires)) c.loop-p.invariant.2 c.loop-p.invariant.3
