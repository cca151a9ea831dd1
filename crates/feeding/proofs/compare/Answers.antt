-- `feeding::compare` meets its contract: the first singular side decides, and else the comparison of the counts. Assumes nothing.
use Rattle.feeding.proofs.Comparing.{compared}
use Rattle.feeding.proofs.compare.Goals as goal

pub returns : goal.returns
returns c = compared c.count.ensures c.in_ok-map_err.ensures.variant c.count-2.ensures c.in_ok-map_err-2.ensures.variant c.same_counts.ensures
