-- `rows::thrice` meets its contract: by each way through the two tests, so many p were taken away. Assumes nothing.
use Rattle.rows.proofs.Shoup.{remains}
use native.Mathlib.Omega.{arith}
use Rattle.rows.proofs.thrice.Goals as goal
use Rattle.rows.proofs.thrice.Goals.{then-p-r, else-p-r}

pub returns-then-p-s : goal.returns-then-p-s
returns-then-p-s c =
    let a = c.args in
    elim c.if-p-r.branch [ then-p-r w ↦ remains a.r 2 a.p _ (omega arith) (omega arith) | else-p-r w ↦ omega arith ]

pub returns-else-p-s : goal.returns-else-p-s
returns-else-p-s c =
    let a = c.args in
    elim c.if-p-r.branch [
      | then-p-r w ↦ remains a.r 1 a.p _ (omega arith) c.if-p-s.false
      | else-p-r w ↦ remains a.r 0 a.p _ (omega arith) c.if-p-s.false
    ]
