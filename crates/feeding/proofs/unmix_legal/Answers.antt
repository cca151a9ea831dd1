-- The goal of `feeding::unmix_legal` that the search leaves: the counts are the inverse mixed with the readings. Assumes nothing.
use Rattle.feeding.proofs.Unmixing.{counts_told}
use Rattle.feeding.proofs.unmix_legal.Goals as goal

pub returns : goal.returns
returns c = counts_told c.requires c.in_ok-invert_legal.ensures c.counts_behind.ensures
