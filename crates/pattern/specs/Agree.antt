-- "The counts behind them agree modulo m" (demand 3): two rings of n counts, entry by entry.
use Rattle.std.specs.Prelude.{ℕ, ◌%◌, ◌<◌, ◌≡◌, List}
use Rattle.sums.specs.Table.{at}

pub record Agree (n m : ℕ) (c₁ c₂ : List ℕ) : Type 0 where
  pub entries : (i : ℕ) → i < n → at c₁ i % m ≡ at c₂ i % m
