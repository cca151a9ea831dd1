-- Extended Euclid on two numbers, without signs. Two rows (a, t) and (b, s): a + t c y and b + s k y are multiples of m, where c and k are 1 and -1
-- modulo m; a s + b t is m, and what divides a and b divides y. A division of a by b keeps all of it, and the rows may change places.
-- Assumes nothing.
use Prim.Native.Nat.{ℕ, ◌+◌, ◌*◌, ◌/◌, ◌%◌, ◌≤◌, ◌<◌, ◌∣◌}
use mathlib.Core.Path.{◌≡◌, sym, ap, ◌∙◌, subst}
use native.Mathlib.Omega.{arith}
use native.Mathlib.Decide.{dec_lt}
use native.Mathlib.Nat.{dvd_refl, dvd_trans, dvd-zero, dvd-mod_iff, dvd-add, dvd-add_iff_left, dvd-mul_right, dvd-mul_left_of_dvd, mod-eq-zero_of_dvd, mod-eq_of_lt, div-add-mod', mul-le-mul_right, le_of_dvd}
use Rattle.sums.proofs.Remainders.{mod_cancel}
use Rattle.modular.specs.Inverse.{InverseOf}
use Rattle.modular.specs.Gcd.{Gcd}

pub record Rows (m y c k a b s t : ℕ) : Type 0 where
  pub opposite : m ∣ c + k
  pub first : m ∣ a + t * (c * y)
  pub second : m ∣ b + s * (k * y)
  pub whole : a * s + b * t ≡ m
  pub back : (e : ℕ) → e ∣ a → e ∣ b → e ∣ y

module _ {m y c k a b s t : ℕ} (r : Rows m y c k a b s t) where
  pub rows_swap : Rows m y k c b a t s
  rows_swap = record {
    opposite = subst (λ (x : ℕ). m ∣ x) (omega arith) r.opposite;
    first = r.second;
    second = r.first;
    whole = omega (arith, r.whole);
    back = λ e v w. r.back e w v;
  }

  pub rows_turn : Rows m y c k (a % b) b s (t + a / b * s)
  rows_turn = record {
    opposite = r.opposite;
    first = (dvd-add_iff_left m (dvd-mul_left_of_dvd m r.second (a / b))).1 (subst (λ (x : ℕ). m ∣ x) same (dvd-add m r.first (dvd-mul_left_of_dvd m r.opposite (a / b * s * y))));
    second = r.second;
    whole = omega (arith, r.whole, ap (λ (x : ℕ). x * s) (div-add-mod' a b));
    back = λ e v w. r.back e (subst (λ (x : ℕ). e ∣ x) (div-add-mod' a b) (dvd-add e (dvd-mul_left_of_dvd e w (a / b)) v)) w;
  }
    where
      same : a + t * (c * y) + a / b * s * y * (c + k) ≡ a % b + (t + a / b * s) * (c * y) + a / b * (b + s * (k * y))
      same = omega (arith, div-add-mod' a b)

  -- The factors stay at or below m, and below it beside a row above 1.
  pub rows_low : 0 < b → t ≤ m
  rows_low h = omega (arith, r.whole, mul-le-mul_right t h)

  pub rows_below : 1 < b → 0 < m → t < m
  rows_below h p = omega (arith, r.whole, mul-le-mul_right t h)

  -- At the end one row is 0, and the other is the greatest common divisor.
  pub rows_gcd : a ≡ 0 → Gcd y m b
  rows_gcd z = record {
    left = r.back b (subst (λ (x : ℕ). b ∣ x) (sym z) (dvd-zero b)) (dvd_refl b);
    right = subst (λ (x : ℕ). b ∣ x) (omega (arith, r.whole, ap (λ (x : ℕ). x * s) z)) (dvd-mul_right b t);
    greatest = λ e v w. (dvd-add_iff_left e (dvd-mul_left_of_dvd e (dvd-mul_left_of_dvd e v k) s)).1 (dvd_trans e w r.second);
  }

  -- Or one row is 1, and its factor, or its factor's opposite, is the inverse.
  pub rows_inverse : b ≡ 1 → c ≡ 1 → 1 < m → s < m → InverseOf m y s
  rows_inverse o i h l = record {
    low = l;
    product = mod_cancel m (y * s) 1 (s * (k * y)) (omega arith)
        (mod-eq-zero_of_dvd m (subst (λ (x : ℕ). m ∣ x) same (dvd-mul_left_of_dvd m r.opposite (s * y))) ∙ sym (mod-eq-zero_of_dvd m (subst (λ (x : ℕ). m ∣ x + s * (k * y)) o r.second)))
        ∙ mod-eq_of_lt h;
  }
    where
      same : s * y * (c + k) ≡ y * s + s * (k * y)
      same = omega (arith, ap (λ (x : ℕ). s * y * x) i)

  pub rows_opposite : (z : ℕ) → b ≡ 1 → k ≡ 1 → 1 < m → z + s ≡ m → z < m → InverseOf m y z
  rows_opposite z o i h e l = record {
    low = l;
    product = mod_cancel m (y * z) 1 (s * (k * y)) (omega arith)
        (mod-eq-zero_of_dvd m (subst (λ (x : ℕ). m ∣ x) same (dvd-mul_right m y)) ∙ sym (mod-eq-zero_of_dvd m (subst (λ (x : ℕ). m ∣ x + s * (k * y)) o r.second)))
        ∙ mod-eq_of_lt h;
  }
    where
      same : m * y ≡ y * z + s * (k * y)
      same = omega (arith, ap (λ (x : ℕ). x * y) e, ap (λ (x : ℕ). s * (x * y)) i)

  pub rows_some : b ≡ 1 → 1 < m → 0 < s
  rows_some o h = elim (dec_lt 0 s) [ yes p ↦ p | no p ↦ absurd (omega (arith, le_of_dvd (omega arith) (subst (λ (x : ℕ). m ∣ x) (one p) r.second))) ]
    where
      one : (0 < s → ⊥) → b + s * (k * y) ≡ 1
      one p = let z : s ≡ 0 = omega arith in omega (arith, ap (λ (x : ℕ). x * (k * y)) z)

pub rows_start : (m y κ : ℕ) → 0 < m → κ + 1 ≡ m → Rows m y 1 κ m (y % m) 1 0
rows_start m y κ h e = record {
  opposite = subst (λ (x : ℕ). m ∣ x) (omega arith) (dvd_refl m);
  first = subst (λ (x : ℕ). m ∣ x) (omega arith) (dvd_refl m);
  second = (dvd-add_iff_left m (dvd-mul_right m (y / m))).1 (subst (λ (x : ℕ). m ∣ x) same (dvd-mul_right m y));
  whole = omega arith;
  back = λ d v w. (dvd-mod_iff d v).0 w;
}
  where
    same : m * y ≡ y % m + 1 * (κ * y) + m * (y / m)
    same = omega (arith, div-add-mod' y m, ap (λ (x : ℕ). x * y) e)
