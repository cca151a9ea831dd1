-- The goal of `invert::invert` that the search leaves: what it has been given where no check refuses.
use mathlib.Core.Path.{sym}
use Rattle.pattern.proofs.Granted.{invert_granted}
use Rattle.invert.proofs.invert.Goals as goal

pub invert_legal-requires : goal.invert_legal-requires
invert_legal-requires c =
    let given = invert_granted _ _ _ (sym c.in_ok-check_invert.ensures) in
    record { granted = given.0; long = given.1 }
