-- `euclid::euclid_modulo` meets its contract: the rows begin with x^n - 1 and f modulo m, and the descent answers for f. Assumes nothing.
use Rattle.euclid.proofs.Descent.{pattern_front, beginning, called}
use Rattle.euclid.proofs.euclid_modulo.Goals as goal

pub trim-requires : goal.trim-requires
trim-requires c = pattern_front c.args.m c.requires c.cycle.ensures c.zero_row-first.ensures.cofactor c.pattern.ensures c.constant.ensures

pub descend-requires : goal.descend-requires
descend-requires c = rw c.zero_row-first.ensures.len (beginning c.args.m c.requires c.cycle.ensures c.zero_row-first.ensures.cofactor c.pattern.ensures c.constant.ensures c.trim.ensures)

pub returns : goal.returns
returns c = called c.args.m c.requires c.cycle.ensures c.zero_row-first.ensures.cofactor c.pattern.ensures c.constant.ensures _ c.descend.ensures
