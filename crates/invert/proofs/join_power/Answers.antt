-- `invert::join_power` meets its contract: the moduli share no factor, so there is an inverse of the one modulo the other. Assumes nothing.
use Rattle.modular.proofs.Inverses.{inverse_there}
use Rattle.invert.proofs.Steps.{apart_found}
use Rattle.invert.proofs.join_power.Goals as goal

pub join-requires : goal.join-requires
join-requires c =
    let pre = c.requires in
    record {
      limit = pre.limit;
      some = pre.some;
      inverse = rw c.unwrap_or-z.ensures (inverse_there _ c.inverse.ensures (apart_found pre.apart c.inverse.ensures));
      ring = pre.ring;
      ring' = pre.ring';
    }
