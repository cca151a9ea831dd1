-- `sheet::read` meets its contract: a whole sheet has a modulus, of four bytes, factors and a pattern. Assumes nothing.
use Rattle.sheet.proofs.Walking.{modulus_came, modulus_fits, factors_came, pattern_came}
use Rattle.sheet.proofs.read.Goals as goal

pub unwrap-requires : goal.unwrap-requires
unwrap-requires c = modulus_came c.in_ok-found.ensures

pub number_at-requires : goal.number_at-requires
number_at-requires c = modulus_fits c.in_ok-found.ensures c.unwrap.ensures

pub unwrap-requires-2 : goal.unwrap-requires-2
unwrap-requires-2 c = factors_came c.in_ok-found.ensures

pub unwrap-requires-3 : goal.unwrap-requires-3
unwrap-requires-3 c = pattern_came c.in_ok-found.ensures
