-- What the extended Euclid ends with, modulo any m above 1: r₀ of length l, and r₁ zero. r₀ is a factor of f and of x^n - 1; s₁ made monic is the ghost;
-- and where r₀ is a constant that has an inverse z, z s₀ is the inverse of f. Assumes nothing.
use Prim.Native.Nat.{ℕ, zero, suc, ◌+◌, ◌*◌, ◌-◌, ◌%◌, ◌<◌}
use mathlib.Core.Path.{◌≡◌, sym, ◌∙◌, ap, subst, fun_ext}
use native.Mathlib.Decide.{dec_lt}
use native.Mathlib.Omega.{arith}
use native.Mathlib.Nat.{mod-eq_of_lt, mul-zero, zero-mod}
use Rattle.sums.proofs.Remainders.{mul-mod}
use Rattle.series.specs.Series.{Series, Below, Polynomial, Reduced}
use Rattle.series.specs.Rows.{Rows, State}
use Rattle.series.specs.Operations.{red, add, mul, zeros, one, term, xn_minus_one}
use Rattle.series.specs.Inverse.{Inverse}
use Rattle.series.specs.SharedFactor.{SharedFactor}
use Rattle.series.specs.Ghost.{Ghost}
use Rattle.series.proofs.Products.{times_top, times_constant, term-at, term_below}
use Rattle.series.proofs.SeriesRing
use Rattle.series.proofs.SeriesRing.{neg, ring}
use Rattle.series.proofs.Degrees
use Rattle.series.proofs.Cycle
use Rattle.series.proofs.TwoRows
use Rattle.series.proofs.Ghosts.{Zero, zero-product, product-zero}

-- A constant times a series, place by place.
pub scaled_at : (m z : ℕ) (a : Series) (k : ℕ) → mul m (term z 0) a k ≡ z * a k % m
unfolding mul
scaled_at m z a k = ap (λ (x : ℕ). x % m) (times_constant (term z 0) a k (term_below z 0) ∙ ap (λ (x : ℕ). x * a k) (term-at z 0))

-- A constant that is a unit.
constant_unit : (m z : ℕ) (r : Series) → 1 < m → Below 1 r → z * r 0 % m ≡ 1 % m → mul m (term z 0) r ≡ one
unfolding term Below
constant_unit m z r two b h = fun_ext λ k. scaled_at m z r k ∙ at k
  where
    at : (k : ℕ) → z * r k % m ≡ one k
    at zero = h ∙ mod-eq_of_lt two
    at (suc k) = ap (λ (x : ℕ). z * x % m) (b (suc k) (omega arith)) ∙ ap (λ (x : ℕ). x % m) (mul-zero z) ∙ zero-mod m

module _ {n m : ℕ} (two : 1 < m) (some : 0 < n) {f : Series} {l : ℕ} {r₀ r₁ s₀ s₁ : Series} (w : State n m f l 0 r₀ r₁ s₀ s₁) where
  abbrev M : Series
  M = xn_minus_one n m

  pos : 0 < m
  pos = omega arith

  rows : Rows n m f r₀ zeros s₀ s₁
  rows = subst (λ (x : Series). Rows n m f r₀ x s₀ s₁) (Degrees.below_none r₁ w.length₁.below) w.rows

  below_last : Below (suc (l - 1)) r₀
  below_last = Degrees.below_up l (suc (l - 1)) r₀ (omega arith) w.length₀.below

  below_ghost : Below (suc (n - (l - 1))) s₁
  below_ghost = Degrees.below_up (n + 2 - l) (suc (n - (l - 1))) s₁ (omega (arith, w.most, w.falling)) w.short₁

  -- ---- the ghost

  -- The top of s₁ is a unit: s₁ r₀ is κ (x^n - 1), and κ κ is 1.
  top_product : rows.κ 0 * r₀ (l - 1) * s₁ (n - (l - 1)) % m ≡ 1 % m
  unfolding mul
  top_product =
      ap (λ (x : ℕ). x % m) {x = rows.κ 0 * r₀ (l - 1) * s₁ (n - (l - 1))} {y = rows.κ 0 * (s₁ (n - (l - 1)) * r₀ (l - 1))} (omega arith)
      ∙ sym (mul-mod (rows.κ 0) (s₁ (n - (l - 1)) * r₀ (l - 1)) m)
      ∙ ap (λ (x : ℕ). rows.κ 0 * (x % m) % m) (sym (times_top (n - (l - 1)) (l - 1) n s₁ r₀ below_ghost below_last (omega (arith, w.most, w.falling))))
      ∙ ap (λ (x : ℕ). x % m) (sym (times_constant rows.κ (mul m s₁ r₀) n rows.constant))
      ∙ ap (λ (x : Series). x n) (sym (TwoRows.cycle_factor two some rows)) ∙ Cycle.cycle_last n m two some ∙ sym (mod-eq_of_lt two)

  pub top_some : 0 < s₁ (n - (l - 1))
  top_some = elim (dec_lt 0 (s₁ (n - (l - 1)))) [
    | yes h ↦ h
    | no h ↦ absurd (omega (arith, sym (mod-eq_of_lt two) ∙ sym top_product ∙ ap (λ (x : ℕ). rows.κ 0 * r₀ (l - 1) * x % m) {x = s₁ (n - (l - 1))} {y = 0} (omega arith) ∙ ap (λ (x : ℕ). x % m) (mul-zero (rows.κ 0 * r₀ (l - 1))) ∙ zero-mod m))
  ]

  pub top_unit : (z : ℕ) × (z * s₁ (n - (l - 1)) % m ≡ 1 % m)
  top_unit = (rows.κ 0 * r₀ (l - 1), top_product)

  -- So is the top of r₀.
  pub last_unit : (z : ℕ) × (z * r₀ (l - 1) % m ≡ 1 % m)
  last_unit = (rows.κ 0 * s₁ (n - (l - 1)), ap (λ (x : ℕ). x % m) {x = rows.κ 0 * s₁ (n - (l - 1)) * r₀ (l - 1)} {y = rows.κ 0 * r₀ (l - 1) * s₁ (n - (l - 1))} (omega arith) ∙ top_product)

  pub ghost : (z : ℕ) → z * s₁ (n - (l - 1)) % m ≡ 1 % m → Ghost n m f (n - (l - 1)) (mul m (term z 0) s₁)
  ghost z unit = record {
    reduced = Degrees.reduced_mul m (term z 0) s₁ pos;
    below = Degrees.below_term m z 0 (suc e) (suc e) s₁ below_ghost (omega arith);
    monic = scaled_at m z s₁ e ∙ unit ∙ mod-eq_of_lt two;
    zero = product-zero n m f (mul m (term z 0) s₁) (mul m (term z 0) (neg m rows.t₁))
        (Degrees.poly_mul m (term z 0) (neg m rows.t₁) (Degrees.poly_term z 0) (Degrees.poly_neg m rows.t₁ rows.poly₁))
        (sorted f (term z 0) s₁ ∙ ap (mul m (term z 0)) (TwoRows.zero_row two some rows) ∙ SeriesRing.mul_swap m (term z 0) M (neg m rows.t₁));
    least = λ v b h.
        multiple v h ∙ ap (mul m s₁) (Degrees.top_zero m e z s₁ (y v h) below_ghost unit (Degrees.reduced_mul m rows.κ (inner v h) pos) (poly_y v b h) (subst (Below e) (multiple v h) (Degrees.below_red m e v b))) ∙ SeriesRing.mul-zeros m s₁;
  }
    where
      e : ℕ
      e = n - (l - 1)

      sorted : (f z s : Series) → mul m f (mul m z s) ≡ mul m z (mul m s f)
      sorted f z s = simp ring

      inner : (v : Series) → Zero n m f v → Series
      inner v h = add m (mul m s₀ h.by) (mul m rows.t₀ v)

      y : (v : Series) → Zero n m f v → Series
      y v h = mul m rows.κ (inner v h)

      poly_y : (v : Series) → Below e v → (h : Zero n m f v) → Polynomial (y v h)
      poly_y v b h =
          Degrees.poly_mul m rows.κ (inner v h) (record { bound = 1; below = rows.constant })
          (Degrees.poly_add m (mul m s₀ h.by) (mul m rows.t₀ v) (Degrees.poly_mul m s₀ h.by (record { bound = n + 1 - l; below = w.short₀ }) h.poly) (Degrees.poly_mul m rows.t₀ v rows.poly₀ (record { bound = e; below = b })))

      multiple : (v : Series) (h : Zero n m f v) → red m v ≡ mul m s₁ (y v h)
      multiple v h = TwoRows.multiple two some rows v h.by (zero-product n m f v h)

  -- ---- the inverse

  pub inverse : (z : ℕ) → l ≡ 1 → z * r₀ 0 % m ≡ 1 % m → Inverse n m f (mul m (term z 0) s₀)
  inverse z one-long unit = record {
    poly = Degrees.poly_mul m (term z 0) s₀ (Degrees.poly_term z 0) (record { bound = n + 1 - l; below = w.short₀ });
    product = record {
      by = mul m (term z 0) (neg m rows.t₀);
      poly = Degrees.poly_mul m (term z 0) (neg m rows.t₀) (Degrees.poly_term z 0) (Degrees.poly_neg m rows.t₀ rows.poly₀);
      sum = SeriesRing.red-mul m f (mul m (term z 0) s₀) ∙ sorted f (term z 0) s₀ ∙ ap (mul m (term z 0)) (TwoRows.last_row two some rows)
          ∙ opened (term z 0) r₀ M (neg m rows.t₀) ∙ ap (λ (x : Series). add m x (mul m M (mul m (term z 0) (neg m rows.t₀)))) (constant_unit m z r₀ two (subst (λ (x : ℕ). Below x r₀) one-long w.length₀.below) unit);
    };
  }
    where
      sorted : (f z s : Series) → mul m f (mul m z s) ≡ mul m z (mul m s f)
      sorted f z s = simp ring

      opened : (z r M t : Series) → mul m z (add m r (mul m M t)) ≡ add m (mul m z r) (mul m M (mul m z t))
      opened z r M t = simp ring

  -- ---- the shared factor

  pub shared : SharedFactor n m f (l - 1)
  unfolding Reduced
  shared = record {
    factor = r₀;
    below = below_last;
    lead = λ z. omega (arith, z, mod-eq_of_lt (w.reduced₀ (l - 1)), w.length₀.top (omega (arith, w.falling)));
    quotient = mul m rows.κ (neg m rows.t₁);
    poly = Degrees.poly_mul m rows.κ (neg m rows.t₁) (record { bound = 1; below = rows.constant }) (Degrees.poly_neg m rows.t₁ rows.poly₁);
    divides = TwoRows.pattern_factor two some rows;
    rest = mul m rows.κ s₁;
    poly' = Degrees.poly_mul m rows.κ s₁ (record { bound = 1; below = rows.constant }) (record { bound = n + 2 - l; below = w.short₁ });
    divides' = TwoRows.cycle_factor two some rows ∙ turned rows.κ s₁ r₀;
  }
    where
      turned : (k s r : Series) → mul m k (mul m s r) ≡ mul m r (mul m k s)
      turned k s r = simp ring
