-- `factors::check_entries`: the entry passed is right, so those behind it decide. Assumes nothing.
use mathlib.Core.Path.{◌≡◌, ◌∙◌}
use native.Mathlib.Omega.{arith}
use Rattle.std.proofs.Common.{rules, Ok}
use Rattle.std.proofs.lemmas.Grind.{common_steps}
use Rattle.std.proofs.lemmas.Iterator.{YieldsList-from_slice, YieldsList-from_zip}
use Rattle.std.proofs.lemmas.Iterator.Consumers.{YieldsList-at, YieldsList-from_enumerate, YieldsList-turn}
use Rattle.std.proofs.lemmas.List.{length_push}
use Rattle.factors.proofs.Entries.{right_entry}
use Rattle.factors.proofs.check_entries.Goals as goal

pub loop-i-preserved : goal.loop-i-preserved
loop-i-preserved c = (
  grind (arith, common_steps),
  tt,
  let passed : c.check_entry.result ≡ Ok tt = search rules in
      let zipped = YieldsList-from_zip (YieldsList-from_slice c.args.primes.now cc) (YieldsList-from_slice c.args.exponents.now cc) in
      let entries = YieldsList-from_enumerate (YieldsList-at c.enumerate-i-items.ensures.source zipped) c.enumerate-i-items.ensures.count in
      let turn = YieldsList-turn (YieldsList-at c.into_iter-i-iterator.ensures.into_iter_gives entries) c.loop-i.yielded c.loop-i.i-iterator c.loop-i.yielded_by c.next.result c.next.new.self _ c.in-Some.is c.next.ensures.steps in
      rw length_push (c.loop-i.invariant.2 ∙ right_entry c.loop-i.before _ c.args.primes.now c.args.exponents.now _ c.check_entry.ensures passed turn.0 turn.1),
)
