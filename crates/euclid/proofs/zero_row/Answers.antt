-- `euclid::zero_row` meets its contract: both arrays are zeros. Assumes nothing.
use mathlib.Core.Path.{refl}
use Rattle.euclid.proofs.Arrays.{holds_none}
use Rattle.euclid.proofs.zero_row.Goals as goal

pub returns-clause-remainder : goal.returns-clause-remainder
returns-clause-remainder c = holds_none 1026 refl

pub returns-clause-cofactor : goal.returns-clause-cofactor
returns-clause-cofactor c = holds_none 1026 refl
