-- `calls::fold_parts` meets its contract: after k turns the output is the first k sums over the parts and then as it came; a fold is a sum over parts.
-- Assumes nothing.
use mathlib.Core.Path.{◌≡◌}
use mathlib.Core.List.{◌++◌, List}
use Prim.Native.Nat.{◌+◌, ℕ, ◌*◌, ◌%◌}
use lib.ListN.{drop}
use Rattle.sums.specs.Table.{table, at}
use Rattle.sums.specs.Sum.{sum}
use Rattle.calls.proofs.fold_parts.Given as goal

-- Entry k, as a sum over parts.
abbrev pub entry : List ℕ → ℕ → ℕ → ℕ → ℕ → ℕ
entry a step parts m k = sum parts (λ t. at a (k + t * step)) % m

abbrev pub invariant-loop-k : goal.invariant-loop-k
invariant-loop-k l = l.out ≡ table l.k (entry l.a l.step l.parts l.m) ++ drop l.k l.initial.out
