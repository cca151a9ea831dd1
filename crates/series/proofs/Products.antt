-- Laws of `times`, the product of series of numbers: commutative, associative, linear; degrees; products with c x^j.
-- Each by recursion on the place, through a = a_0 + x (tail a). Assumes nothing.
use Prim.Native.Nat.{ℕ, zero, suc, ◌+◌, ◌*◌, ◌-◌, ◌≤◌, ◌<◌}
use mathlib.Core.Path.{◌≡◌, refl, ◌∙◌, ap}
use native.Mathlib.Omega.{arith}
use native.Mathlib.Nat.{zero-mul}
use Rattle.sums.specs.Sum.{sum}
use Rattle.sums.proofs.Sums.{sum_step, sum-eq}
use Rattle.series.specs.Series.{Series, Below}
use Rattle.series.specs.Operations.{times, term}

abbrev pub tail : Series → Series
tail a = λ k. a (suc k)

pub times_zero : (a b : Series) → times a b 0 ≡ a 0 * b 0
unfolding times sum
times_zero a b = omega arith

pub times-suc : (a b : Series) (k : ℕ) → times a b (suc k) ≡ a 0 * b (suc k) + times (tail a) b k
unfolding times sum
times-suc a b k =
    let first : suc k - 0 ≡ suc k = omega arith in
    omega (
      arith,
      sum_step (suc k) (λ i. a i * b (suc k - i)),
      ap (λ (x : ℕ). a 0 * b x) first,
      sum-eq (suc k) (λ i. a (suc i) * b (suc k - suc i)) (λ i. a (suc i) * b (k - i)) (λ i l. ap (λ (x : ℕ). a (suc i) * b x) (omega arith)),
    )

times_sucʳ : (a b : Series) (k : ℕ) → times a b (suc k) ≡ a (suc k) * b 0 + times a (tail b) k
times_sucʳ a b zero = omega (arith, times-suc a b 0, times_zero (tail a) b, times_zero a (tail b))
times_sucʳ a b (suc k) = omega (arith, times-suc a b (suc k), times_sucʳ (tail a) b k, times-suc a (tail b) k)

-- ---- a commutative ring

pub times_comm : (a b : Series) (k : ℕ) → times a b k ≡ times b a k
times_comm a b zero = omega (arith, times_zero a b, times_zero b a)
times_comm a b (suc k) = omega (arith, times-suc a b k, times_comm (tail a) b k, times_sucʳ b a k)

pub times-add : (a b c : Series) (k : ℕ) → times (λ i. a i + b i) c k ≡ times a c k + times b c k
times-add a b c zero = omega (arith, times_zero (λ i. a i + b i) c, times_zero a c, times_zero b c)
times-add a b c (suc k) = omega (arith, times-suc (λ i. a i + b i) c k, times-suc a c k, times-suc b c k, times-add (tail a) (tail b) c k)

pub times-scale : (z : ℕ) (a c : Series) (k : ℕ) → times (λ i. z * a i) c k ≡ z * times a c k
times-scale z a c zero = omega (arith, times_zero (λ i. z * a i) c, ap (λ (x : ℕ). z * x) (times_zero a c))
times-scale z a c (suc k) = omega (arith, times-suc (λ i. z * a i) c k, ap (λ (x : ℕ). z * x) (times-suc a c k), times-scale z (tail a) c k)

-- Two factors that agree at every place.
times-eq : (a b c : Series) (k : ℕ) → ((i : ℕ) → a i ≡ b i) → times a c k ≡ times b c k
times-eq a b c zero h = omega (arith, times_zero a c, times_zero b c, ap (λ (x : ℕ). x * c 0) (h 0))
times-eq a b c (suc k) h = omega (arith, times-suc a c k, times-suc b c k, ap (λ (x : ℕ). x * c (suc k)) (h 0), times-eq (tail a) (tail b) c k (λ i. h (suc i)))

pub times_assoc : (a b c : Series) (k : ℕ) → times (times a b) c k ≡ times a (times b c) k
times_assoc a b c zero =
    omega (arith, times_zero (times a b) c, ap (λ (x : ℕ). x * c 0) (times_zero a b), times_zero a (times b c), ap (λ (x : ℕ). a 0 * x) (times_zero b c))
times_assoc a b c (suc k) =
    omega (
      arith,
      times-suc (times a b) c k,
      ap (λ (x : ℕ). x * c (suc k)) (times_zero a b),
      times-eq (tail (times a b)) (λ i. a 0 * b (suc i) + times (tail a) b i) c k (λ i. times-suc a b i),
      times-add (λ i. a 0 * b (suc i)) (times (tail a) b) c k,
      times-scale (a 0) (tail b) c k,
      times_assoc (tail a) b c k,
      times-suc a (times b c) k,
      ap (λ (x : ℕ). a 0 * x) (times-suc b c k),
    )

-- ---- degrees

below_tail : (D : ℕ) (a : Series) → Below (suc D) a → Below D (tail a)
unfolding Below
below_tail D a h k l = h (suc k) (omega arith)

pub times_none : (a b : Series) (k : ℕ) → Below 0 a → times a b k ≡ 0
unfolding Below
times_none a b zero h = omega (arith, times_zero a b, ap (λ (x : ℕ). x * b 0) (h 0 (omega arith)))
times_none a b (suc k) h = omega (arith, times-suc a b k, ap (λ (x : ℕ). x * b (suc k)) (h 0 (omega arith)), times_none (tail a) b k (λ i l. h (suc i) (omega arith)))

pub times_constant : (a b : Series) (k : ℕ) → Below 1 a → times a b k ≡ a 0 * b k
times_constant a b zero h = times_zero a b
times_constant a b (suc k) h = omega (arith, times-suc a b k, times_none (tail a) b k (below_tail 0 a h))

-- The product of i coefficients and j + 1 coefficients has i + j.
pub times_below : (i j k : ℕ) (a b : Series) → Below i a → Below (suc j) b → i + j ≤ k → times a b k ≡ 0
unfolding Below
times_below zero j k a b ha hb l = times_none a b k ha
times_below (suc i) j zero a b ha hb l = omega arith
times_below (suc i) j (suc k) a b ha hb l =
    omega (arith, times-suc a b k, ap (λ (x : ℕ). a 0 * x) (hb (suc k) (omega arith)), times_below i j k (tail a) b (below_tail i a ha) hb (omega arith))

-- Its top coefficient is the product of theirs.
pub times_top : (i j k : ℕ) (a b : Series) → Below (suc i) a → Below (suc j) b → k ≡ i + j → times a b k ≡ a i * b j
unfolding Below
times_top zero j k a b ha hb e = times_constant a b k ha ∙ ap (λ (x : ℕ). a 0 * b x) (omega arith)
times_top (suc i) j zero a b ha hb e = omega arith
times_top (suc i) j (suc k) a b ha hb e =
    omega (arith, times-suc a b k, ap (λ (x : ℕ). a 0 * x) (hb (suc k) (omega arith)), times_top i j k (tail a) b (below_tail (suc i) a ha) hb (omega arith))

-- ---- c x^j

pub term-at : (c j : ℕ) → term c j j ≡ c
unfolding term
term-at c zero = refl
term-at c (suc j) = term-at c j

pub term_other : (c j k : ℕ) → (k ≡ j → ⊥) → term c j k ≡ 0
unfolding term
term_other c zero zero h = absurd (h refl)
term_other c zero (suc k) h = refl
term_other c (suc j) zero h = refl
term_other c (suc j) (suc k) h = term_other c j k (λ e. h (ap suc e))

pub term_below : (c j : ℕ) → Below (suc j) (term c j)
unfolding Below
term_below c j k l = term_other c j k (λ e. omega arith)

pub times-term_low : (c j k : ℕ) (a : Series) → k < j → times (term c j) a k ≡ 0
unfolding term
times-term_low c zero k a l = omega arith
times-term_low c (suc j) zero a l = times_zero (term c (suc j)) a ∙ zero-mul (a 0)
times-term_low c (suc j) (suc k) a l = omega (arith, times-suc (term c (suc j)) a k, times-term_low c j k a (omega arith))

pub times-term : (c j k i : ℕ) (a : Series) → k ≡ i + j → times (term c j) a k ≡ c * a i
unfolding term
times-term c zero k i a e = times_constant (term c 0) a k (term_below c 0) ∙ ap (λ (x : ℕ). c * a x) (omega arith)
times-term c (suc j) zero i a e = omega arith
times-term c (suc j) (suc k) i a e = omega (arith, times-suc (term c (suc j)) a k, times-term c j k i a (omega arith))
