-- `invert::modulo_power` meets its contract: an inverse modulo p is lifted, and a ghost polynomial stays. Assumes nothing.
use Rattle.std.proofs.lemmas.Result.{err_from_is_err_and}
use Rattle.invert.proofs.Steps.{solvable, inverted, haunting}
use Rattle.invert.proofs.modulo_power.Goals as goal

pub euclid-requires : goal.euclid-requires
euclid-requires c = solvable c.requires

pub lift-requires : goal.lift-requires
lift-requires c = record { some = c.requires.some; few = c.requires.few; inverse = inverted c.requires c.in_ok-euclid.ensures }

pub returns-in_err-euclid : goal.returns-in_err-euclid
returns-in_err-euclid c =
    let told = err_from_is_err_and c.from_residual.result c.from_residual.ensures.1 in
    rw (told.1, told.2) (haunting c.requires c.in_err-euclid.ensures)
