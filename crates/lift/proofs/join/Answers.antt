-- `lift::join` meets its contract: the two factors are those of `joined`, and all products fit. Assumes nothing.
use mathlib.Core.Path.{ap₂}
use Prim.Native.Nat.{◌*◌}
use Rattle.lift.proofs.Joining.{blends, joins}
use Rattle.lift.proofs.join.Goals as goal

pub blend-requires : goal.blend-requires
blend-requires c = blends c.requires (ap₂ ◌*◌ c.from-3.ensures c.from-4.ensures) (ap₂ ◌*◌ c.from.ensures c.from-2.ensures)

pub returns : goal.returns
returns c = joins c.requires (ap₂ ◌*◌ c.from-3.ensures c.from-4.ensures) (ap₂ ◌*◌ c.from.ensures c.from-2.ensures) c.blend.ensures
