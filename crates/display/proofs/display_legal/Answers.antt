-- The goals of `display::display_legal` that the search leaves: both outputs are as long as the pattern, and each page has its room.
use lib.Seq.{length-take-le}
use Rattle.display.proofs.Displaying.{can_solve, inverse_fits, ghost_fits}
use Rattle.display.proofs.display_legal.Goals as goal

pub solve-requires : goal.solve-requires
solve-requires c = can_solve c.requires (length-take-le _ _ c.requires.few) (length-take-le _ _ c.requires.few)

pub put_inverse-requires : goal.put_inverse-requires
put_inverse-requires c = inverse_fits c.requires c.solve.ensures c.in-Ok.is

pub put_ghost-requires : goal.put_ghost-requires
put_ghost-requires c = ghost_fits c.requires c.solve.ensures c.in-Err.is
