-- `rows::plus_two` meets its contract: two products are near the sum of their quotients. Assumes nothing.
use Prim.Native.Nat.{ℕ}
use mathlib.Core.Path.{subst}
use Rattle.rows.specs.Row.{Prepared}
use Rattle.rows.proofs.Shoup.{near_two}
use native.Mathlib.Omega.{arith}
use Rattle.rows.proofs.plus_two.Goals as goal

pub plus_near-requires : goal.plus_near-requires
plus_near-requires c =
    let e = c.requires in
    let high = subst (λ (p : ℕ). Prepared p c.args.high.value c.args.high.quotient) e.same c.args.high.prepared in
    rw (c.from-a.ensures, c.from-b.ensures, c.from.ensures, c.from-2.ensures, c.from-3.ensures, c.from-4.ensures)
    (near_two e.first.modulus c.args.low.prepared high _ _ _ e.first.onto (omega arith))
