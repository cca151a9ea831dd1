-- The goal of `feeding::unmix` that the search leaves: what it has been given where no check refuses.
use mathlib.Core.Path.{sym}
use Rattle.pattern.proofs.Granted.{unmix_granted}
use Rattle.feeding.proofs.unmix.Goals as goal

pub count-requires : goal.count-requires
count-requires c =
    let given = unmix_granted _ _ _ (sym c.in_ok-check_unmix.ensures) in
    record { granted = given.0; long = given.1 }
