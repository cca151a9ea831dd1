-- `euclid::over` meets its contract: a number that has an inverse shares nothing with the modulus; the output is src times the inverse. Assumes nothing.
use mathlib.Core.Path.{refl}
use Rattle.modular.proofs.Inverses.{inverse_there}
use Rattle.euclid.proofs.Arrays.{copied_whole, over_is}
use Rattle.euclid.proofs.Descent.{leading}
use Rattle.euclid.proofs.over.Goals as goal

pub lead_inverse-requires : goal.lead_inverse-requires
lead_inverse-requires c = leading c.args.m c.requires.number.some c.requires.number.low

pub returns : goal.returns
returns c =
    over_is (rw c.unwrap_or-z.ensures (inverse_there _ c.lead_inverse.ensures (rw ((c.lead_inverse.ensures.inverse _).1 c.requires.number.is) refl))) (rw (c.copy.ensures, copied_whole c.args.src.now c.args.out.now c.requires.room, c.new.ensures.modulus, c.new.ensures.value) at c.scale.ensures)
