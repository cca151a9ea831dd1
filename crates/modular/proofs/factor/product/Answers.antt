-- The goals of `modular::factor::product` that the search leaves.
use Prim.Native.Nat.{◌<◌}
use mathlib.Core.Path.{◌≡◌}
use lib.ListN.{length}
use Rattle.std.proofs.Common.{arith, length-append, Some, None, refl}
use Rattle.std.proofs.lemmas.Slice.Zip.{zip_turn, zip_end}
use Rattle.sums.specs.Table.{at}
use Rattle.modular.proofs.Factors.{rising_same}
use Rattle.modular.proofs.Running.{left_split, running_start, running_next, running_end}
use Rattle.modular.proofs.factor.product.Goals as goal
use Rattle.modular.proofs.factor.product.Goals.{In-Some}

-- Where the pair of this turn stands.
turn : (c : In-Some) → (length c.loop-p.yielded < length c.args.primes.now) × (length c.loop-p.yielded < length c.args.exponents.now)
    × (c.in-Some.p.now ≡ at c.args.primes.now (length c.loop-p.yielded)) × (c.in-Some.e.now ≡ at c.args.exponents.now (length c.loop-p.yielded))
turn c =
    let t = zip_turn c.args.primes.now c.args.exponents.now c.loop-p.yielded c.into_iter-p-iterator.result c.loop-p.p-iterator c.next.new.self (Some (c.in-Some.p, c.in-Some.e)) (cc) (cc) c.loop-p.yielded_by (c.in-Some.p, c.in-Some.e) refl c.in-Some.ensures.steps in
    (t.0, t.1, t.2 0, t.3 0)

pub loop-p-init : goal.loop-p-init
loop-p-init c = running_start _ _ _ c.requires

pub times_power-x-requires : goal.times_power-x-requires
times_power-x-requires c =
    let t = turn (goal.at.times_power-x-requires c).In-Some in
    let entry = left_split _ _ _ t.0 t.1 c.loop-p.invariant.left in
    omega (arith, entry.0.above, t.2)

pub loop-p-preserved : goal.loop-p-preserved
loop-p-preserved c =
    let t = turn (goal.at.loop-p-preserved c).In-Some in
    simp length-append (running_next _ _ _ _ _ _ t.0 t.1 (rw (← t.2, ← t.3) c.times_power-x.ensures) c.loop-p.invariant)

pub returns : goal.returns
returns c =
    let end = zip_end c.args.primes.now c.args.exponents.now c.loop-p.yielded c.into_iter-p-iterator.result c.loop-p.p-iterator c.next.new.self None (cc) (cc) c.loop-p.yielded_by refl c.in-None.ensures.steps in
    let same = rising_same _ _ _ c.requires in
    running_end _ _ _ _ _ (omega arith) (omega arith) c.loop-p.invariant
