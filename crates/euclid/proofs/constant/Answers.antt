-- `euclid::constant` meets its contract: c at place 0, and 0 at every other. Assumes nothing.
use Rattle.euclid.proofs.Arrays.{holds_constant}
use Rattle.euclid.proofs.constant.Goals as goal

pub returns : goal.returns
returns c = holds_constant c.args.c c.requires
