-- A division: r is r₀ + q r₁ with q a polynomial, and of smaller degree than r₁, whose degree is d. m is any modulus above 1.
-- That there is only one such r is `one_remainder` in proofs/Quotients.antt.
use Rattle.std.specs.Prelude.{ℕ, ◌≡◌}
use Rattle.series.specs.Series.{Series, Below, Polynomial}
use Rattle.series.specs.Operations.{add, mul}

pub record Remainder (m d : ℕ) (r₀ r₁ q r : Series) : Type 0 where
  pub poly : Polynomial q
  pub sum : r ≡ add m r₀ (mul m q r₁)
  pub below : Below d r
