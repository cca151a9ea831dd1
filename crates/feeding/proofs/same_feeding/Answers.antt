-- The goal of `feeding::same_feeding` that the search leaves: what it has been given where no check refuses.
use mathlib.Core.Path.{sym}
use Rattle.pattern.proofs.Granted.{same_granted}
use Rattle.feeding.proofs.same_feeding.Goals as goal

pub compare-requires : goal.compare-requires
compare-requires c = same_granted _ _ _ (sym c.in_ok-check_rings.ensures)
