-- `feeding::same_counts` meets its contract: where a count is 1 or more the comparison tells, and else there is no feeding. Assumes nothing.
use Rattle.feeding.proofs.Comparing.{fed_exactly, unfed_exactly}
use Rattle.feeding.proofs.same_counts.Goals as goal

pub returns-then-is_some : goal.returns-then-is_some
returns-then-is_some c =
    fed_exactly c.args.a.now c.args.b.now c.requires (cc) c.eq.ensures

pub returns-else-is_some : goal.returns-else-is_some
returns-else-is_some c = unfed_exactly c.args.a.now c.args.b.now (cc) c.if-is_some.false
