-- The polynomial x^n - 1: its coefficients, its degree, and that its lowest and highest coefficients are units. Assumes nothing.
use Prim.Native.Nat.{ℕ, suc, ◌+◌, ◌*◌, ◌-◌, ◌%◌, ◌<◌}
use mathlib.Core.Path.{◌≡◌, ◌∙◌, ap}
use native.Mathlib.Omega.{arith}
use native.Mathlib.Nat.{mod-eq_of_lt, zero-mod, mul-add-mod_self_right}
use Rattle.series.specs.Series.{Below, Reduced}
use Rattle.series.specs.Operations.{red, add, term, xn_minus_one}
use Rattle.series.proofs.Products.{term-at, term_other, term_below}
use Rattle.series.proofs.SeriesRing
use Rattle.series.proofs.Degrees.{below_up, below_add, reduced_add}

module _ (n m : ℕ) (two : 1 < m) (some : 0 < n) where
  pub cycle_first : xn_minus_one n m 0 ≡ m - 1
  unfolding xn_minus_one add
  cycle_first = ap (λ (x : ℕ). x % m) (omega (arith, term_other 1 n 0 (λ e. omega arith), term-at (m - 1) 0)) ∙ mod-eq_of_lt (omega arith)

  pub cycle_last : xn_minus_one n m n ≡ 1
  unfolding xn_minus_one add
  cycle_last = ap (λ (x : ℕ). x % m) (omega (arith, term-at 1 n, term_other (m - 1) 0 n (λ e. omega arith))) ∙ mod-eq_of_lt two

  pub cycle_between : (k : ℕ) → (k ≡ 0 → ⊥) → (k ≡ n → ⊥) → xn_minus_one n m k ≡ 0
  unfolding xn_minus_one add
  cycle_between k a b = ap (λ (x : ℕ). x % m) (omega (arith, term_other 1 n k b, term_other (m - 1) 0 k a)) ∙ zero-mod m

  pub cycle_unit : (m - 1) * xn_minus_one n m 0 % m ≡ 1 % m
  cycle_unit = ap (λ (x : ℕ). (m - 1) * x % m) cycle_first ∙ ap (λ (x : ℕ). x % m) square ∙ mul-add-mod_self_right (m - 2) m 1
    where
      q : m ≡ suc (suc (m - 2))
      q = omega arith

      q' : m - 1 ≡ suc (m - 2)
      q' = omega arith

      square : (m - 1) * (m - 1) ≡ (m - 2) * m + 1
      square = omega (arith, ap (λ (x : ℕ). x * x) q', ap (λ (x : ℕ). (m - 2) * x) q)

  pub cycle_monic : 1 * xn_minus_one n m n % m ≡ 1 % m
  cycle_monic = ap (λ (x : ℕ). 1 * x % m) cycle_last

  pub cycle_below : Below (suc n) (xn_minus_one n m)
  unfolding xn_minus_one
  cycle_below = below_add m (suc n) (term 1 n) (term (m - 1) 0) (term_below 1 n) (below_up 1 (suc n) (term (m - 1) 0) (omega arith) (term_below (m - 1) 0))

  pub cycle_red : red m (xn_minus_one n m) ≡ xn_minus_one n m
  unfolding xn_minus_one
  cycle_red = SeriesRing.red-add m (term 1 n) (term (m - 1) 0)

  pub cycle_reduced : Reduced m (xn_minus_one n m)
  unfolding xn_minus_one
  cycle_reduced = reduced_add m (term 1 n) (term (m - 1) 0) (omega arith)
