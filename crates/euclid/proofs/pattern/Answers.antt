-- `euclid::pattern` meets its contract: f modulo m stands in the first n places, and 0 in the others. Assumes nothing.
use native.Mathlib.Omega.{arith}
use Rattle.euclid.proofs.Arrays.{holds_zeros, holds_remainders}
use Rattle.euclid.proofs.pattern.Goals as goal

pub returns : goal.returns
returns c = rw c.remainders.ensures (holds_remainders c.args.m.value c.args.f.now (omega (arith, c.requires.0.most)) (holds_zeros c.requires.1))
