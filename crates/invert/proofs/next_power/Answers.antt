-- `invert::next_power` meets its contract: an inverse modulo p^k is joined with what stands, and a ghost polynomial takes its place. Assumes nothing.
use Rattle.invert.proofs.Steps.{apart}
use Rattle.invert.proofs.next_power.Goals as goal

pub join_power-requires : goal.join_power-requires
join_power-requires c = apart c.requires c.in-Ok.ensures
