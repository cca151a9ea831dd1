-- `division::digit` meets its contract: p less the remainder of x z, modulo p. Assumes nothing.
use native.Mathlib.Omega.{arith}
use Rattle.division.proofs.Digits.{digit_is}
use Rattle.division.proofs.digit.Goals as goal

pub returns : goal.returns
returns c = digit_is c.args.p c.args.x c.args.z _ (omega arith) (cc) (omega arith)
