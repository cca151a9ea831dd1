-- `along::four_entries` meets its contract: after each block, what is left of x along what is left of c is missing from each sum, modulo m. Assumes nothing.
use mathlib.Core.Path.{◌≡◌}
use mathlib.Core.List.{◌++◌}
use Prim.Native.Nat.{◌+◌, ◌*◌, ◌%◌}
use lib.ListN.{drop}
use Rattle.std.specs.Slice.Iter.{chunks_rest, chunks_size}
use Rattle.std.specs.Iterator.Adapters.{enumerate_source, enumerate_count}
use Rattle.sums.specs.Table.{at, table}
use Rattle.along.specs.declared.TheConstants.{BLOCK}
use Rattle.along.proofs.Blocks.{Missing}
use Rattle.along.proofs.four_entries.Given as goal

abbrev pub invariant-loop-k : goal.invariant-loop-k
invariant-loop-k l =
    let i = enumerate_count l.k-iterator * BLOCK in
    (chunks_size (enumerate_source l.k-iterator) ≡ BLOCK) × (chunks_rest (enumerate_source l.k-iterator) ≡ drop i l.x) × Missing l.x l.c l.m (drop i l.x) (drop i l.c) l.sums

abbrev pub invariant-loop-j : goal.invariant-loop-j
invariant-loop-j l =
    l.sum-items ≡ table l.j (λ j. (at l.initial.sum-items j + at l.block_sums j) % l.m) ++ drop l.j l.initial.sum-items
