-- `euclid::step` meets its contract: where the divisor's leading number has an inverse the rows can be divided, and else what it shares with the
-- modulus is told. Assumes nothing.
use Rattle.std.proofs.lemmas.Result.{err_from_is_err_and}
use Rattle.modular.proofs.Inverses.{found_inverse}
use Rattle.euclid.proofs.Descent.{lead_some, lead_low, leading, dividing, splits}
use Rattle.euclid.proofs.step.Goals as goal

pub lead_inverse-requires : goal.lead_inverse-requires
lead_inverse-requires c = leading c.args.m (lead_some c.requires) (lead_low c.requires)

pub returns-in_err-z : goal.returns-in_err-z
returns-in_err-z c =
    let p = err_from_is_err_and c.from_residual.result c.from_residual.ensures.1 in
    rw (p.1, p.2) (record { leaves = splits (lead_some c.requires) (lead_low c.requires) ((c.lead_inverse.ensures.shares c.in_err-z.field-0.0.divisor).0 (cc)) })

pub divide-requires : goal.divide-requires
divide-requires c = dividing c.requires (found_inverse c.lead_inverse.ensures c.in_ok-z.was)
