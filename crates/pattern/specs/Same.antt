-- "Two count rings shall be the same feeding when they agree and at least one entry isn't zero." (document 02, request 2)
use Rattle.std.specs.Prelude.{ℕ, ◌<◌, ◌≡◌, ◌≢◌, List}
use Rattle.sums.specs.Table.{at}

pub record Same (n : ℕ) (c₁ c₂ : List ℕ) : Type 0 where
  pub entries : (i : ℕ) → i < n → at c₁ i ≡ at c₂ i
  pub place : ℕ
  pub inside : place < n
  pub some : at c₁ place ≢ 0
