-- `modular::power::rounds` meets its contract: the binary digits of k - 1 are the rounds. Assumes nothing.
use Rattle.modular.proofs.Doublings.{rounds_digits}
use native.Mathlib.Omega.{arith}
use Rattle.modular.proofs.power.rounds.Goals as goal

pub returns : goal.returns
returns c = rounds_digits c.args.k (omega arith) (omega arith)
