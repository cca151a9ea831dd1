-- `rows::add_linear` meets its contract. The loop's invariant: the first i entries are the answer's, the rest is as it came, and last is entry i - 1 of src.
-- Assumes nothing.
use mathlib.Core.Path.{◌≡◌}
use mathlib.Core.List.{◌∷◌, ◌++◌}
use lib.ListN.{drop}
use Rattle.sums.specs.Table.{at, table}
use Rattle.rows.specs.Row.{times_linear}
use Rattle.rows.proofs.Rows.{plus-at}
use Rattle.rows.proofs.add_linear.Given as goal

abbrev pub invariant-loop-i : goal.invariant-loop-i
invariant-loop-i l = record {
  front : l.dst ≡ table l.i (plus-at l.low.modulus l.initial.dst (times_linear l.low.value l.high.value l.src)) ++ drop l.i l.initial.dst;
  before : l.last ≡ at (0 ∷ l.src) l.i;
}
