-- `euclid::cycle` meets its contract: m - 1 at place 0, 1 at place n, and 0 at every other. Assumes nothing.
use Rattle.euclid.proofs.Arrays.{holds_cycle}
use Rattle.euclid.proofs.cycle.Goals as goal

pub returns : goal.returns
returns c = holds_cycle c.args.m.two c.requires.0 c.constant.ensures
