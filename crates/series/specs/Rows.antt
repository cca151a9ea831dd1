-- What holds between two divisions of the extended Euclid on x^n - 1 and f, modulo any m above 1. Two rows (r₀, s₀) and (r₁, s₁): each r is s f
-- modulo x^n - 1, and s₁ r₀ = s₀ r₁ + κ (x^n - 1), where κ is a constant whose square is 1. The factors t₀ and t₁ are never computed.
use Rattle.std.specs.Prelude.{ℕ, ◌+◌, ◌-◌, ◌≤◌, ◌<◌, ◌≡◌}
use Rattle.series.specs.Series.{Series, Below, Polynomial, Reduced, Length}
use Rattle.series.specs.Operations.{add, mul, one, xn_minus_one}

pub record Rows (n m : ℕ) (f r₀ r₁ s₀ s₁ : Series) : Type 0 where
  pub t₀ : Series
  pub t₁ : Series
  pub κ : Series
  pub row₀ : r₀ ≡ add m (mul m s₀ f) (mul m t₀ (xn_minus_one n m))
  pub row₁ : r₁ ≡ add m (mul m s₁ f) (mul m t₁ (xn_minus_one n m))
  pub cross : mul m s₁ r₀ ≡ add m (mul m s₀ r₁) (mul m κ (xn_minus_one n m))
  pub square : mul m κ κ ≡ one
  pub constant : Below 1 κ
  pub poly₀ : Polynomial t₀
  pub poly₁ : Polynomial t₁

-- The rows with their lengths.
pub record State (n m : ℕ) (f : Series) (l₀ l₁ : ℕ) (r₀ r₁ s₀ s₁ : Series) : Type 0 where
  pub rows : Rows n m f r₀ r₁ s₀ s₁
  pub reduced₀ : Reduced m r₀
  pub reduced₁ : Reduced m r₁
  pub length₀ : Length r₀ l₀
  pub length₁ : Length r₁ l₁
  pub falling : l₁ < l₀
  pub most : l₀ ≤ n + 1
  pub short₀ : Below (n + 1 - l₀) s₀
  pub short₁ : Below (n + 2 - l₀) s₁
