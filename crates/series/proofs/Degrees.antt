-- Bounds on degrees and on coefficients, and two cancellations modulo m: by a unit at the top (polynomials) and by a unit at the bottom (series).
-- Assumes nothing.
use Prim.Native.Nat.{ℕ, zero, suc, ◌+◌, ◌*◌, ◌-◌, ◌%◌, ◌≤◌, ◌<◌}
use mathlib.Core.Path.{◌≡◌, refl, sym, ◌∙◌, ap, fun_ext}
use native.Mathlib.Decide.{dec_lt, ℕ_discrete}
use native.Mathlib.Omega.{arith}
use native.Mathlib.Nat.{zero-mod, mod-lt, mod-eq_of_lt, mul-zero, add-zero}
use Rattle.series.specs.Series.{Series, Below, Polynomial, Reduced}
use Rattle.series.specs.Operations.{times, red, add, mul, zeros, term}
use Rattle.series.proofs.Residues.{add-mod-eq, mul-mod-zero, unit_zero}
use Rattle.series.proofs.Products.{tail, times_zero, times-suc, times_below, times_top, times-term, term_below}
use Rattle.series.proofs.SeriesRing
use Rattle.series.proofs.SeriesRing.{neg}

-- ---- how many coefficients

pub below_up : (D E : ℕ) (a : Series) → D ≤ E → Below D a → Below E a
unfolding Below
below_up D E a l h k b = h k (omega arith)

pub below_at : (D : ℕ) (a : Series) → Below D a → (k : ℕ) → D ≤ k → a k ≡ 0
unfolding Below
below_at D a h = h

pub below_last : (D : ℕ) (a : Series) → Below (suc D) a → a D ≡ 0 → Below D a
unfolding Below
below_last D a h e k l = elim (ℕ_discrete k D) [ yes q ↦ ap a q ∙ e | no q ↦ h k (omega arith) ]

pub below_pred : (l : ℕ) (a : Series) → Below l a → a (l - 1) ≡ 0 → Below (l - 1) a
below_pred l a h e = below_last (l - 1) a (below_up l (suc (l - 1)) a (omega arith) h) e

pub below_zeros : (D : ℕ) → Below D zeros
unfolding zeros Below
below_zeros D k l = refl

pub below_none : (a : Series) → Below 0 a → a ≡ zeros
unfolding zeros Below
below_none a h = fun_ext λ k. h k (omega arith)

pub below_red : (m D : ℕ) (a : Series) → Below D a → Below D (red m a)
unfolding red Below
below_red m D a h k l = ap (λ (x : ℕ). x % m) (h k l) ∙ zero-mod m

pub below_mul : (m i j : ℕ) (a b : Series) → Below i a → Below (suc j) b → Below (i + j) (mul m a b)
unfolding mul Below
below_mul m i j a b ha hb k l = ap (λ (x : ℕ). x % m) (times_below i j k a b ha hb l) ∙ zero-mod m

pub below_add : (m D : ℕ) (a b : Series) → Below D a → Below D b → Below D (add m a b)
unfolding add Below
below_add m D a b ha hb k l = ap (λ (x : ℕ). x % m) (omega (arith, ha k l, hb k l)) ∙ zero-mod m

pub below_neg : (m D : ℕ) (a : Series) → Below D a → Below D (neg m a)
unfolding neg Below
below_neg m D a ha k l = ap (λ (x : ℕ). (m - 1) * x % m) (ha k l) ∙ ap (λ (x : ℕ). x % m) (mul-zero (m - 1)) ∙ zero-mod m

-- c x^j times l coefficients.
pub below_term : (m c j l D : ℕ) (a : Series) → Below l a → j + l ≤ D → Below D (mul m (term c j) a)
unfolding Below mul
below_term m c j l D a h e k b = ap (λ (x : ℕ). x % m) (times-term c j k (k - j) a (omega arith) ∙ ap (λ (x : ℕ). c * x) (h (k - j) (omega arith)) ∙ mul-zero c) ∙ zero-mod m

-- ---- polynomials

pub poly_mul : (m : ℕ) (a b : Series) → Polynomial a → Polynomial b → Polynomial (mul m a b)
poly_mul m a b p q = record { bound = p.bound + q.bound; below = below_mul m p.bound q.bound a b p.below (below_up q.bound (suc q.bound) b (omega arith) q.below) }

pub poly_add : (m : ℕ) (a b : Series) → Polynomial a → Polynomial b → Polynomial (add m a b)
poly_add m a b p q = record {
  bound = p.bound + q.bound;
  below = below_add m (p.bound + q.bound) a b (below_up p.bound (p.bound + q.bound) a (omega arith) p.below) (below_up q.bound (p.bound + q.bound) b (omega arith) q.below);
}

pub poly_neg : (m : ℕ) (a : Series) → Polynomial a → Polynomial (neg m a)
poly_neg m a p = record { bound = p.bound; below = below_neg m p.bound a p.below }

pub poly_red : (m : ℕ) (a : Series) → Polynomial a → Polynomial (red m a)
poly_red m a p = record { bound = p.bound; below = below_red m p.bound a p.below }

pub poly_term : (c j : ℕ) → Polynomial (term c j)
poly_term c j = record { bound = suc j; below = term_below c j }

pub poly_zeros : Polynomial zeros
poly_zeros = record { bound = 0; below = below_zeros 0 }

-- ---- coefficients below m

pub red_id : (m : ℕ) (a : Series) → Reduced m a → red m a ≡ a
unfolding Reduced red
red_id m a h = fun_ext λ k. mod-eq_of_lt (h k)

pub reduced_red : (m : ℕ) (a : Series) → 0 < m → Reduced m (red m a)
unfolding Reduced red
reduced_red m a h k = mod-lt (a k) h

pub reduced_add : (m : ℕ) (a b : Series) → 0 < m → Reduced m (add m a b)
unfolding Reduced add
reduced_add m a b h k = mod-lt (a k + b k) h

pub reduced_mul : (m : ℕ) (a b : Series) → 0 < m → Reduced m (mul m a b)
unfolding Reduced mul
reduced_mul m a b h k = mod-lt (times a b k) h

pub reduced_zeros : (m : ℕ) → 0 < m → Reduced m zeros
unfolding zeros Reduced
reduced_zeros m h k = h

pub reduced_one : (m : ℕ) → 1 < m → Reduced m (term 1 0)
unfolding term Reduced
reduced_one m h zero = h
reduced_one m h (suc k) = omega arith

pub red-one : (m : ℕ) → 1 < m → red m (term 1 0) ≡ term 1 0
red-one m h = red_id m (term 1 0) (reduced_one m h)

-- ---- a unit at the top

-- A polynomial of degree i whose top coefficient is a unit: from the degree of a multiple, the degree of the factor.
pub top_drop : (m i j z D : ℕ) (a u : Series) → Below (suc i) a → z * a i % m ≡ 1 % m → Reduced m u → Below D u → Below (i + j) (mul m a u) → Below j u
unfolding Below Reduced mul
top_drop m i j z zero a u ha hz su hu h = λ k l. hu k (omega arith)
top_drop m i j z (suc D) a u ha hz su hu h = elim (dec_lt D j) [
  | yes e ↦ λ k l. hu k (omega arith)
  | no e ↦ top_drop m i j z D a u ha hz su (below_last D u hu (sym (mod-eq_of_lt (su D)) ∙ top (omega arith))) h
]
  where
    top : j ≤ D → u D % m ≡ 0
    top l = unit_zero m (a i) z (u D) hz (ap (λ (x : ℕ). x % m) (sym (times_top i D (i + D) a u ha hu refl)) ∙ h (i + D) (omega arith))

-- So it divides nothing shorter than itself but 0.
pub top_zero : (m i z : ℕ) (a u : Series) → Below (suc i) a → z * a i % m ≡ 1 % m → Reduced m u → Polynomial u → Below i (mul m a u) → u ≡ zeros
top_zero m i z a u ha hz su pu h = below_none u (top_drop m i 0 z pu.bound a u ha hz su pu.below (below_up i (i + 0) (mul m a u) (omega arith) h))

-- ---- a unit at the bottom

-- A product depends, at k, on the coefficients up to k.
times_low : (m k : ℕ) (a b : Series) → ((i : ℕ) → i ≤ k → b i % m ≡ 0) → times a b k % m ≡ 0
times_low m zero a b h = ap (λ (x : ℕ). x % m) (times_zero a b) ∙ mul-mod-zero m (a 0) (b 0) (h 0 (omega arith))
times_low m (suc k) a b h =
    ap (λ (x : ℕ). x % m) (times-suc a b k)
    ∙ add-mod-eq m (a 0 * b (suc k)) 0 (times (tail a) b k) 0 (mul-mod-zero m (a 0) (b (suc k)) (h (suc k) (omega arith)) ∙ sym (zero-mod m)) (times_low m k (tail a) b (λ i l. h i (omega arith)) ∙ sym (zero-mod m))
    ∙ zero-mod m

low_zero : (m z : ℕ) (d a : Series) → z * d 0 % m ≡ 1 % m → mul m d a ≡ zeros → red m a ≡ zeros
unfolding zeros red mul
low_zero m z d a hz h = fun_ext λ k. below (suc k) k (omega arith)
  where
    at : (k : ℕ) → ((i : ℕ) → i < k → a i % m ≡ 0) → a k % m ≡ 0
    at zero g = unit_zero m (d 0) z (a 0) hz (ap (λ (x : ℕ). x % m) (sym (times_zero d a)) ∙ ap (λ (y : Series). y 0) h)
    at (suc k) g = unit_zero m (d 0) z (a (suc k)) hz
        (ap (λ (x : ℕ). x % m) (sym (add-zero (d 0 * a (suc k))))
        ∙ add-mod-eq m (d 0 * a (suc k)) (d 0 * a (suc k)) 0 (times (tail d) a k) refl (zero-mod m ∙ sym (times_low m k (tail d) a (λ i l. g i (omega arith))))
        ∙ ap (λ (x : ℕ). x % m) (sym (times-suc d a k)) ∙ ap (λ (y : Series). y (suc k)) h)

    below : (n k : ℕ) → k < n → a k % m ≡ 0
    below zero k l = omega arith
    below (suc n) k l = at k (λ i b. below n i (omega arith))

pub low_cancel : (m z : ℕ) (d a b : Series) → 0 < m → z * d 0 % m ≡ 1 % m → mul m d a ≡ mul m d b → red m a ≡ red m b
low_cancel m z d a b pos hz e =
    SeriesRing.sub-zero m pos a b (sym (SeriesRing.red-add m a (neg m b)) ∙ low_zero m z d (add m a (neg m b)) hz difference)
  where
    difference : mul m d (add m a (neg m b)) ≡ zeros
    difference =
        SeriesRing.mul-add m d a (neg m b) ∙ ap (λ (x : Series). add m x (mul m d (neg m b))) e ∙ ap (add m (mul m d b)) (SeriesRing.mul_neg m d b)
        ∙ SeriesRing.add_neg m pos (mul m d b)
