-- Division of polynomials modulo any m above 1, where the divisor's leading coefficient has an inverse z: there is a remainder (by recursion on
-- the dividend's length, one term of the quotient at a time), and there is only one, since a polynomial with a unit at the top divides
-- nothing shorter than itself but 0. Assumes nothing.
use Prim.Native.Nat.{ℕ, zero, suc, ◌+◌, ◌*◌, ◌-◌, ◌%◌, ◌≤◌, ◌<◌}
use mathlib.Core.Path.{◌≡◌, refl, sym, ◌∙◌, ap, subst}
use native.Mathlib.Decide.{dec_lt}
use native.Mathlib.Omega.{arith}
use native.Mathlib.Nat.{add-mod-mod, mul-mod_left}
use Rattle.sums.proofs.Remainders.{mul-mod}
use Rattle.series.specs.Series.{Series, Below}
use Rattle.series.specs.Operations.{red, add, mul, zeros, term}
use Rattle.series.specs.Remainder.{Remainder}
use Rattle.series.proofs.Residues.{mod-mul, add-mod-eq, add_minus}
use Rattle.series.proofs.Products.{times-term, term_below}
use Rattle.series.proofs.SeriesRing
use Rattle.series.proofs.SeriesRing.{neg, ring}
use Rattle.series.proofs.Degrees

-- c is - x z, so c y takes x away where z y is 1.
pub digit : (m x y z c : ℕ) → z * y % m ≡ 1 % m → (c + x * z) % m ≡ 0 → (x + c * y) % m ≡ 0
digit m x y z c u h =
    add-mod-eq m x (x * (z * y)) (c * y) (c * y) (ap (λ (e : ℕ). e % m) {x = x} {y = x * 1} (omega arith) ∙ sym (mul-mod x 1 m) ∙ ap (λ (e : ℕ). x * e % m) (sym u) ∙ mul-mod x (z * y) m) refl
    ∙ ap (λ (e : ℕ). e % m) {x = x * (z * y) + c * y} {y = (c + x * z) * y} (omega arith) ∙ sym (mod-mul (c + x * z) y m) ∙ ap (λ (e : ℕ). e * y % m) h
    ∙ ap (λ (e : ℕ). e % m) {x = 0 * y} {y = 0 * m} (omega arith) ∙ mul-mod_left 0 m

-- Two parts of a quotient.
pub in_parts : (m : ℕ) (r₀ r₁ r q q' : Series) → r ≡ add m r₀ (mul m q r₁) → add m r (mul m q' r₁) ≡ add m r₀ (mul m (add m q q') r₁)
in_parts m r₀ r₁ r q q' e = ap (λ (x : Series). add m x (mul m q' r₁)) e ∙ sorted r₀ r₁ q q'
  where
    sorted : (r₀ r₁ q q' : Series) → add m (add m r₀ (mul m q r₁)) (mul m q' r₁) ≡ add m r₀ (mul m (add m q q') r₁)
    sorted r₀ r₁ q q' = simp ring

module _ (m d z : ℕ) (pos : 0 < m) (r₁ : Series) (below : Below (suc d) r₁) (unit : z * r₁ d % m ≡ 1 % m) where
  -- One term of the quotient takes the top away.
  top_away : (l c : ℕ) (r₀ : Series) → d ≤ l → Below (suc l) r₀ → (c + r₀ l * z) % m ≡ 0 → Below l (add m r₀ (mul m (term c (l - d)) r₁))
  unfolding add mul
  top_away l c r₀ le b h =
      Degrees.below_last l (add m r₀ (mul m (term c (l - d)) r₁)) (Degrees.below_add m (suc l) r₀ (mul m (term c (l - d)) r₁) b (Degrees.below_term m c (l - d) (suc d) (suc l) r₁ below (omega arith)))
      (ap (λ (x : ℕ). (r₀ l + x % m) % m) (times-term c (l - d) l d r₁ (omega arith)) ∙ add-mod-mod (r₀ l) (c * r₁ d) m ∙ digit m (r₀ l) (r₁ d) z c unit h)

  -- Nothing is left to divide.
  none : (l : ℕ) (r₀ : Series) → Below d r₀ → (q r : Series) × Remainder m d r₀ r₁ q r × Below (l - d) q
  none l r₀ b = (
    zeros,
    red m r₀,
    record { poly = Degrees.poly_zeros; sum = sym (ap (add m r₀) (SeriesRing.zeros-mul m r₁) ∙ SeriesRing.add-zeros m r₀); below = Degrees.below_red m d r₀ b },
    Degrees.below_zeros (l - d),
  )

  -- There is a remainder, and the quotient has l - d coefficients where r₀ has l.
  pub divide : (l : ℕ) (r₀ : Series) → Below l r₀ → (q r : Series) × Remainder m d r₀ r₁ q r × Below (l - d) q
  divide zero r₀ b = none 0 r₀ (Degrees.below_up 0 d r₀ (omega arith) b)
  divide (suc l) r₀ b = elim (dec_lt l d) [
    | yes h ↦ none (suc l) r₀ (Degrees.below_up (suc l) d r₀ h b)
    | no h ↦ more (omega arith) (divide l (add m r₀ (mul m (term c (l - d)) r₁)) (top_away l c r₀ (omega arith) b minus))
  ]
    where
      c : ℕ
      c = (m - 1) * (r₀ l * z)

      minus : (c + r₀ l * z) % m ≡ 0
      minus = ap (λ (x : ℕ). x % m) {x = (m - 1) * (r₀ l * z) + r₀ l * z} {y = r₀ l * z + (m - 1) * (r₀ l * z)} (omega arith) ∙ add_minus m (r₀ l * z) pos

      more : d ≤ l → (q r : Series) × Remainder m d (add m r₀ (mul m (term c (l - d)) r₁)) r₁ q r × Below (l - d) q → (q r : Series) × Remainder m d r₀ r₁ q r × Below (suc l - d) q
      more le (q, r, w, bq) = (
        add m (term c (l - d)) q,
        r,
        record {
          poly = Degrees.poly_add m (term c (l - d)) q (Degrees.poly_term c (l - d)) w.poly;
          sum = w.sum ∙ in_parts m r₀ r₁ (add m r₀ (mul m (term c (l - d)) r₁)) (term c (l - d)) q refl;
          below = w.below;
        },
        Degrees.below_add m (suc l - d) (term c (l - d)) q (Degrees.below_up (suc (l - d)) (suc l - d) (term c (l - d)) (omega arith) (term_below c (l - d))) (Degrees.below_up (l - d) (suc l - d) q (omega arith) bq),
      )

  -- There is only one.
  one_quotient : (r₀ q q' r r' : Series) → Remainder m d r₀ r₁ q r → Remainder m d r₀ r₁ q' r' → red m q ≡ red m q'
  one_quotient r₀ q q' r r' w w' =
      SeriesRing.sub-zero m pos q q' (Degrees.top_zero m d z r₁ x below unit (Degrees.reduced_add m q (neg m q') pos) (Degrees.poly_add m q (neg m q') w.poly (Degrees.poly_neg m q' w'.poly)) (subst (Below d) (sym product) short))
    where
      x : Series
      x = add m q (neg m q')

      A : Series
      A = mul m q r₁

      B : Series
      B = mul m q' r₁

      cross : add m r' A ≡ add m r B
      cross = ap (λ (y : Series). add m y A) w'.sum ∙ sorted r₀ A B ∙ ap (λ (y : Series). add m y B) (sym w.sum)
        where
          sorted : (a b c : Series) → add m (add m a c) b ≡ add m (add m a b) c
          sorted a b c = simp ring

      product : mul m r₁ x ≡ add m r (neg m r')
      product =
          SeriesRing.mul_comm m r₁ x ∙ SeriesRing.add-mul m q (neg m q') r₁ ∙ ap (add m A) (SeriesRing.neg_mul m q' r₁) ∙ sym (SeriesRing.red-add m A (neg m B))
          ∙ sym (SeriesRing.move m pos (red m r) (add m A (neg m B)) r' (sym sum)) ∙ SeriesRing.add_redˡ m r (neg m r')
        where
          sorted : (a b c : Series) → add m (add m a b) c ≡ add m (add m c a) b
          sorted a b c = simp ring

          sum : add m (add m A (neg m B)) r' ≡ red m r
          sum = sorted A (neg m B) r' ∙ ap (λ (y : Series). add m y (neg m B)) cross ∙ SeriesRing.move m pos (add m r B) r B refl

      short : Below d (add m r (neg m r'))
      short = Degrees.below_add m d r (neg m r') w.below (Degrees.below_neg m d r' w'.below)

  pub one_remainder : (r₀ q q' r r' : Series) → Remainder m d r₀ r₁ q r → Remainder m d r₀ r₁ q' r' → r ≡ r'
  one_remainder r₀ q q' r r' w w' =
      w.sum ∙ ap (add m r₀) (sym (SeriesRing.mul_redˡ m q r₁) ∙ ap (λ (x : Series). mul m x r₁) (one_quotient r₀ q q' r r' w w') ∙ SeriesRing.mul_redˡ m q' r₁) ∙ sym w'.sum
