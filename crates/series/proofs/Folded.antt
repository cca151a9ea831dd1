-- The product modulo x^n - 1, coefficient by coefficient, over any modulus m above 1: a polynomial of fewer than 2 n coefficients is congruent to c exactly
-- if a_k + a_(k+n) is c_k, and for a product of two polynomials of n coefficients that sum goes around n. Crates above speak of rings by it. Assumes nothing.
use Prim.Native.Nat.{ℕ, suc, ◌+◌, ◌*◌, ◌-◌, ◌%◌, ◌≤◌, ◌<◌}
use mathlib.Core.Path.{◌≡◌, refl, sym, ◌∙◌, ap, subst, fun_ext}
use mathlib.Core.Logic.{◌↔◌}
use native.Mathlib.Decide.{dec_lt}
use native.Mathlib.Omega.{arith}
use native.Mathlib.Nat.{mod-mod, mod-add-mod, add-mod-mod, mod-eq_of_lt, mul-zero, zero-mul, add-mul-mod_self_right}
use Rattle.sums.specs.Sum.{sum}
use Rattle.sums.proofs.Sums.{sum-append, sum-eq, sum-empty}
use Rattle.sums.proofs.Remainders.{around_low, around_high}
use Rattle.series.specs.Series.{Series, Below, Reduced}
use Rattle.series.specs.Operations.{times, red, add, mul, term, xn_minus_one}
use Rattle.series.specs.Congruent.{Congruent}
use Rattle.series.proofs.Residues.{add_mods}
use Rattle.series.proofs.Products.{times-term, times-term_low}
use Rattle.series.proofs.SeriesRing
use Rattle.series.proofs.SeriesRing.{neg}
use Rattle.series.proofs.Degrees
use Rattle.series.proofs.Cycle

-- The coefficient at k of a b, around n.
abbrev pub cyclic : ℕ → Series → Series → Series
cyclic n a b k = sum n (λ i. a i * b ((k + (n - i)) % n))

-- k + 1 terms, then n - k - 1 that go around; past those the products are 0.
cyclic_folds : (n : ℕ) (a b : Series) (k : ℕ) → Below n a → Below n b → k < n → cyclic n a b k ≡ times a b k + times a b (k + n)
unfolding times
cyclic_folds n a b k ha hb l =
    omega (
      arith,
      ap (λ (x : ℕ). sum x g) whole,
      sum-append (suc k) m g,
      ap (λ (x : ℕ). sum x h) double,
      sum-append (suc k) (m + suc k) h,
      sum-append m (suc k) (λ i. h (suc k + i)),
      first,
      middle,
      low,
      high,
    )
  where
    m : ℕ
    m = n - suc k

    g : ℕ → ℕ
    g i = a i * b ((k + (n - i)) % n)

    h : ℕ → ℕ
    h i = a i * b (k + n - i)

    whole : n ≡ suc k + m
    whole = omega arith

    double : suc (k + n) ≡ suc k + (m + suc k)
    double = omega arith

    first : sum (suc k) g ≡ sum (suc k) (λ i. a i * b (k - i))
    first = sum-eq (suc k) g (λ i. a i * b (k - i)) (λ i j. ap (λ (x : ℕ). a i * b x) (around_low n k i l (omega arith)))

    middle : sum m (λ i. g (suc k + i)) ≡ sum m (λ i. h (suc k + i))
    middle = sum-eq m (λ i. g (suc k + i)) (λ i. h (suc k + i)) (λ i j. ap (λ (x : ℕ). a (suc k + i) * b x) (around_high n k (suc k + i) (omega arith) (omega arith) ∙ omega arith))

    low : sum (suc k) h ≡ 0
    low = sum-empty (suc k) h (λ i j. ap (λ (x : ℕ). a i * x) (Degrees.below_at n b hb (k + n - i) (omega arith)) ∙ mul-zero (a i))

    high : sum (suc k) (λ i. h (suc k + (m + i))) ≡ 0
    high = sum-empty (suc k) (λ i. h (suc k + (m + i))) (λ i j. ap (λ (x : ℕ). x * b (k + n - (suc k + (m + i)))) (Degrees.below_at n a ha (suc k + (m + i)) (omega arith)) ∙ zero-mul (b (k + n - (suc k + (m + i)))))

-- b and m - 1 times b make 0 beside x.
around : (m x b : ℕ) → 0 < m → (x + b + (m - 1) * b) % m ≡ x % m
around m x b h = ap (λ (y : ℕ). y % m) (omega (arith, ap (λ (y : ℕ). b * y) q)) ∙ add-mul-mod_self_right x b m
  where
    q : m ≡ suc (m - 1)
    q = omega arith

product-sum : (m : ℕ) (a b : Series) (j k : ℕ) → (mul m a b j + mul m a b k) % m ≡ (times a b j + times a b k) % m
unfolding mul
product-sum m a b j k = add_mods m (times a b j) (times a b k)

module _ (n m : ℕ) (two : 1 < m) (some : 0 < n) where
  pos : 0 < m
  pos = omega arith

  parts : (u : Series) (k : ℕ) → mul m (xn_minus_one n m) u k ≡ (times (term 1 n) u k + times (term (m - 1) 0) u k) % m
  unfolding xn_minus_one mul add
  parts u k = ap (λ (x : Series). x k) (SeriesRing.add-mul m (term 1 n) (term (m - 1) 0) u) ∙ add_mods m (times (term 1 n) u k) (times (term (m - 1) 0) u k)

  multiple_low : (u : Series) (k : ℕ) → k < n → mul m (xn_minus_one n m) u k ≡ (m - 1) * u k % m
  multiple_low u k l = parts u k ∙ ap (λ (x : ℕ). x % m) (omega (arith, times-term_low 1 n k u l, times-term (m - 1) 0 k k u (omega arith)))

  multiple_high : (u : Series) (k : ℕ) → mul m (xn_minus_one n m) u (k + n) ≡ (u k + (m - 1) * u (k + n)) % m
  multiple_high u k = parts u (k + n) ∙ ap (λ (x : ℕ). x % m) (omega (arith, times-term 1 n (k + n) k u refl, times-term (m - 1) 0 (k + n) (k + n) u (omega arith)))

  module _ (a c : Series) (ra : Reduced m a) (rc : Reduced m c) (ba : Below (n + n) a) (bc : Below n c) where
    folded_congruent : ((k : ℕ) → k < n → (a k + a (k + n)) % m ≡ c k) → Congruent n m a c
    unfolding Below Reduced add
    folded_congruent h = record { by = u; poly = record { bound = n; below = λ k l. ba (k + n) (omega arith) }; sum = Degrees.red_id m a ra ∙ (fun_ext λ k. elim (dec_lt k n) [ yes l ↦ sym (low k l) | no l ↦ sym (high k (omega arith)) ]) }
      where
        u : Series
        u k = a (k + n)

        low : (k : ℕ) → k < n → (c k + mul m (xn_minus_one n m) u k) % m ≡ a k
        low k l =
            ap (λ (x : ℕ). (c k + x) % m) (multiple_low u k l) ∙ ap (λ (x : ℕ). (x + (m - 1) * u k % m) % m) (sym (h k l)) ∙ add_mods m (a k + u k) ((m - 1) * u k)
            ∙ around m (a k) (u k) pos ∙ mod-eq_of_lt (ra k)

        at_high : (j : ℕ) → (c (j + n) + mul m (xn_minus_one n m) u (j + n)) % m ≡ a (j + n)
        at_high j =
            ap (λ (x : ℕ). (x + mul m (xn_minus_one n m) u (j + n)) % m) (bc (j + n) (omega arith)) ∙ ap (λ (x : ℕ). (0 + x) % m) (multiple_high u j)
            ∙ ap (λ (x : ℕ). (0 + (a (j + n) + (m - 1) * x) % m) % m) (ba (j + n + n) (omega arith)) ∙ add-mod-mod 0 (a (j + n) + (m - 1) * 0) m
            ∙ ap (λ (x : ℕ). x % m) {x = 0 + (a (j + n) + (m - 1) * 0)} {y = a (j + n)} (omega arith) ∙ mod-eq_of_lt (ra (j + n))

        high : (k : ℕ) → n ≤ k → (c k + mul m (xn_minus_one n m) u k) % m ≡ a k
        high k l = subst (λ (i : ℕ). (c i + mul m (xn_minus_one n m) u i) % m ≡ a i) (omega arith) (at_high (k - n))

    congruent_folded : Congruent n m a c → (k : ℕ) → k < n → (a k + a (k + n)) % m ≡ c k
    unfolding Below Reduced add red
    congruent_folded h k l =
        ap (λ (x : ℕ). (x + a (k + n)) % m) a_low ∙ ap (λ (x : ℕ). ((c k + (m - 1) * v k) % m + x) % m) a_high ∙ mod-add-mod (c k + (m - 1) * v k) m (v k)
        ∙ ap (λ (x : ℕ). x % m) {x = c k + (m - 1) * v k + v k} {y = c k + v k + (m - 1) * v k} (omega arith) ∙ around m (c k) (v k) pos ∙ mod-eq_of_lt (rc k)
      where
        v : Series
        v = red m h.by

        whole : a ≡ add m c (mul m (xn_minus_one n m) v)
        whole = sym (Degrees.red_id m a ra) ∙ h.sum ∙ ap (add m c) (sym (SeriesRing.mul_redʳ m (xn_minus_one n m) h.by))

        difference : mul m (xn_minus_one n m) v ≡ add m a (neg m c)
        difference = sym (SeriesRing.red-mul m (xn_minus_one n m) v) ∙ sym (SeriesRing.move m pos a (mul m (xn_minus_one n m) v) c (whole ∙ SeriesRing.add_comm m c (mul m (xn_minus_one n m) v)))

        -- The multiple has no more than n coefficients.
        bv : Below n v
        bv = Degrees.top_drop m n n 1 h.poly.bound (xn_minus_one n m) v (Cycle.cycle_below n m two some) (Cycle.cycle_monic n m two some) (Degrees.reduced_red m h.by pos) (Degrees.below_red m h.poly.bound h.by h.poly.below)
            (subst (Below (n + n)) (sym difference) (Degrees.below_add m (n + n) a (neg m c) ba (Degrees.below_neg m (n + n) c (Degrees.below_up n (n + n) c (omega arith) bc))))

        a_low : a k ≡ (c k + (m - 1) * v k) % m
        a_low = ap (λ (x : Series). x k) whole ∙ ap (λ (x : ℕ). (c k + x) % m) (multiple_low v k l) ∙ add-mod-mod (c k) ((m - 1) * v k) m

        a_high : a (k + n) ≡ v k
        a_high =
            ap (λ (x : Series). x (k + n)) whole ∙ ap (λ (x : ℕ). (c (k + n) + x) % m) (multiple_high v k) ∙ ap (λ (x : ℕ). (c (k + n) + (v k + (m - 1) * x) % m) % m) (bv (k + n) (omega arith))
            ∙ ap (λ (x : ℕ). (x + (v k + (m - 1) * 0) % m) % m) (bc (k + n) (omega arith)) ∙ add-mod-mod 0 (v k + (m - 1) * 0) m
            ∙ ap (λ (x : ℕ). x % m) {x = 0 + (v k + (m - 1) * 0)} {y = v k} (omega arith) ∙ mod-mod (h.by k) m

  -- A product is congruent to c exactly if, around n, it is c.
  pub product_cyclic : (a b c : Series) → Reduced m c → Below n a → Below n b → Below n c → Congruent n m (mul m a b) c ↔ ((k : ℕ) → k < n → cyclic n a b k % m ≡ c k)
  product_cyclic a b c rc ba bb bc = (
    (λ h k l. sym (folded k l) ∙ congruent_folded (mul m a b) c reduced rc below bc h k l),
    (λ h. folded_congruent (mul m a b) c reduced rc below bc (λ k l. folded k l ∙ h k l)),
  )
    where
      reduced : Reduced m (mul m a b)
      reduced = Degrees.reduced_mul m a b pos

      below : Below (n + n) (mul m a b)
      below = Degrees.below_mul m n n a b ba (Degrees.below_up n (suc n) b (omega arith) bb)

      folded : (k : ℕ) → k < n → (mul m a b k + mul m a b (k + n)) % m ≡ cyclic n a b k % m
      folded k l = product-sum m a b k (k + n) ∙ ap (λ (x : ℕ). x % m) (sym (cyclic_folds n a b k ba bb l))
