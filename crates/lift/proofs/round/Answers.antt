-- `lift::round` meets its contract: its four calls leave 2 g - g² f modulo q. Assumes nothing.
use Rattle.lift.proofs.Rounds.{multiplying, lessening, rounded}
use Rattle.lift.proofs.round.Goals as goal

pub convolve-requires-2 : goal.convolve-requires-2
convolve-requires-2 c = multiplying c.requires c.remainders.ensures c.convolve.ensures

pub twice_less-requires : goal.twice_less-requires
twice_less-requires c = lessening c.requires c.remainders.ensures c.convolve.ensures c.convolve-2.ensures

pub returns : goal.returns
returns c = rounded c.requires c.remainders.ensures c.convolve.ensures c.convolve-2.ensures c.twice_less.ensures
