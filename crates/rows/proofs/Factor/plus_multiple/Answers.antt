-- `rows::Factor::plus_multiple` meets its contract: one product is near its quotient. Assumes nothing.
use Rattle.rows.proofs.Shoup.{near_one}
use native.Mathlib.Omega.{arith}
use Rattle.rows.proofs.Factor.plus_multiple.Goals as goal

pub plus_near-requires : goal.plus_near-requires
plus_near-requires c =
    let e = c.requires in
    rw (c.from-a.ensures, c.from.ensures, c.from-2.ensures) (near_one e.modulus c.args.self.prepared _ _ e.onto (omega arith))
