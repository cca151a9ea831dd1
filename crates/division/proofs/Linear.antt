-- Products with (low + high x) x^j, place by place, and the next two terms of a quotient: they take the two top coefficients away.
-- Assumes nothing.
use Prim.Native.Nat.{ℕ, zero, suc, ◌+◌, ◌*◌, ◌-◌, ◌%◌, ◌<◌}
use mathlib.Core.Path.{◌≡◌, sym, ◌∙◌, ap}
use mathlib.Core.List.{List, ◌∷◌}
use native.Mathlib.Decide.{ℕ_discrete}
use native.Mathlib.Omega.{arith}
use native.Mathlib.Nat.{add-mod-mod, mod-add-mod}
use Rattle.sums.specs.Table.{at}
use Rattle.rows.specs.Row.{times_linear}
use Rattle.series.specs.Series.{Series, Below}
use Rattle.series.specs.Operations.{times, add, mul, term, linear}
use Rattle.series.proofs.Products.{times-add, times-term, times-term_low, term-at, term_other}
use Rattle.series.proofs.Degrees
use Rattle.series.proofs.Quotients.{digit}

module _ (low high j : ℕ) where
  parts : (a : Series) (k : ℕ) → times (linear low high j) a k ≡ times (term low j) a k + times (term high (suc j)) a k
  unfolding linear
  parts a k = times-add (term low j) (term high (suc j)) a k

  pub linear_low : (a : Series) (k : ℕ) → k < j → times (linear low high j) a k ≡ 0
  linear_low a k h = parts a k ∙ omega (arith, times-term_low low j k a h, times-term_low high (suc j) k a (omega arith))

  pub linear-at : (l : List ℕ) (k i : ℕ) → k ≡ i + j → times (linear low high j) (at l) k ≡ times_linear low high l i
  linear-at l k zero e = parts (at l) k ∙ omega (arith, times-term low j k 0 (at l) e, times-term_low high (suc j) k (at l) (omega arith))
  linear-at l k (suc i) e = parts (at l) k ∙ omega (arith, times-term low j k (suc i) (at l) e, times-term high (suc j) k i (at l) (omega arith))

  pub linear_below : Below (suc (suc j)) (linear low high j)
  unfolding Below linear
  linear_below k l = omega (arith, term_other low j k (λ e. omega arith), term_other high (suc j) k (λ e. omega arith))

  -- A product with l coefficients has l + j + 1.
  linear-product : (m l D : ℕ) (a : Series) → Below l a → 0 < l → l + j < D → Below D (mul m (linear low high j) a)
  linear-product m l D a b some h = Degrees.below_up (suc (suc j) + (l - 1)) D (mul m (linear low high j) a) (omega arith) (Degrees.below_mul m (suc (suc j)) (l - 1) (linear low high j) a linear_below (Degrees.below_up l (suc (l - 1)) a (omega arith) b))

-- One term where the higher is 0.
pub linear_single : (low j : ℕ) → Below (suc j) (linear low 0 j)
unfolding Below linear
linear_single low j k h = elim (ℕ_discrete k (suc j)) [
  | yes e ↦ omega (arith, term_other low j k (λ q. omega arith), ap (term 0 (suc j)) e, term-at 0 (suc j))
  | no e ↦ omega (arith, term_other low j k (λ q. omega arith), term_other 0 (suc j) k e)
]

module _ (m z l₁ : ℕ) (r0 r1 : List ℕ) (below₁ : Below l₁ (at r1)) (some : 0 < l₁) (unit : z * at r1 (l₁ - 1) % m ≡ 1 % m) where
  -- A coefficient of r₀ + (low + high x) x^j r₁.
  sum-at : (low high j k i : ℕ) → k ≡ i + j → add m (at r0) (mul m (linear low high j) (at r1)) k ≡ (at r0 k + times_linear low high r1 i) % m
  unfolding add mul
  sum-at low high j k i e = add-mod-mod (at r0 k) (times (linear low high j) (at r1) k) m ∙ ap (λ (x : ℕ). (at r0 k + x) % m) (linear-at low high j r1 k i e)

  -- Two terms.
  pub two_away : (l₀ low high rest : ℕ) → l₁ < l₀ → Below l₀ (at r0) → (high + at r0 (l₀ - 1) * z) % m ≡ 0 → rest ≡ (at r0 (l₀ - 2) + high * at (0 ∷ r1) (l₁ - 1)) % m → (low + rest * z) % m ≡ 0
      → Below (l₀ - 2) (add m (at r0) (mul m (linear low high (l₀ - l₁ - 1)) (at r1)))
  two_away l₀ low high rest lt b h e h' =
      Degrees.below_last (l₀ - 2) sum
      (Degrees.below_up (l₀ - 1) (suc (l₀ - 2)) sum (omega arith) (Degrees.below_last (l₀ - 1) sum
      (Degrees.below_up l₀ (suc (l₀ - 1)) sum (omega arith) (Degrees.below_add m l₀ (at r0) (mul m (linear low high j) (at r1)) b (linear-product low high j m l₁ l₀ (at r1) below₁ some (omega arith))))
      first))
      next
    where
      j : ℕ
      j = l₀ - l₁ - 1

      sum : Series
      sum = add m (at r0) (mul m (linear low high j) (at r1))

      past : at r1 l₁ ≡ 0
      past = Degrees.below_at l₁ (at r1) below₁ l₁ (omega arith)

      shifted : at (0 ∷ r1) l₁ ≡ at r1 (l₁ - 1)
      shifted = ap (at (0 ∷ r1)) {x = l₁} {y = suc (l₁ - 1)} (omega arith)

      first : sum (l₀ - 1) ≡ 0
      first =
          sum-at low high j (l₀ - 1) l₁ (omega arith)
          ∙ ap (λ (x : ℕ). x % m) (omega (arith, ap (λ (x : ℕ). low * x) past, ap (λ (x : ℕ). high * x) shifted)) ∙ digit m (at r0 (l₀ - 1)) (at r1 (l₁ - 1)) z high unit h

      next : sum (l₀ - 2) ≡ 0
      next =
          sum-at low high j (l₀ - 2) (l₁ - 1) (omega arith)
          ∙ ap (λ (x : ℕ). x % m) {x = at r0 (l₀ - 2) + times_linear low high r1 (l₁ - 1)} {y = at r0 (l₀ - 2) + high * at (0 ∷ r1) (l₁ - 1) + low * at r1 (l₁ - 1)} (omega arith)
          ∙ sym (mod-add-mod (at r0 (l₀ - 2) + high * at (0 ∷ r1) (l₁ - 1)) m (low * at r1 (l₁ - 1))) ∙ ap (λ (x : ℕ). (x + low * at r1 (l₁ - 1)) % m) (sym e)
          ∙ digit m rest (at r1 (l₁ - 1)) z low unit h'
