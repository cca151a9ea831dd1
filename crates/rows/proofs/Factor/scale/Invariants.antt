-- `rows::Factor::scale` meets its contract. The loop's invariant: the first entries are the answer's, and the rest is as it came. Assumes nothing.
use Prim.Native.Nat.{◌%◌}
use mathlib.Core.Path.{◌≡◌}
use mathlib.Core.List.{◌++◌}
use lib.ListN.{drop}
use Rattle.sums.specs.Table.{table}
use Rattle.rows.specs.Row.{times}
use Rattle.rows.proofs.Factor.scale.Given as goal

abbrev pub invariant-loop-y : goal.invariant-loop-y
invariant-loop-y l = l.row ≡ table l.y-index (λ k. times l.self.value l.initial.row k % l.self.modulus) ++ drop l.y-index l.initial.row
