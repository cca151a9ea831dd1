-- Laws of `sum`: it is linear, two sums exchange, it may be cut into parts, and it is bounded by its terms. Each by recursion on the number of terms.
-- Assumes nothing.
use Prim.Native.Nat.{ℕ, zero, suc, ◌+◌, ◌*◌, ◌%◌, ◌≤◌, ◌<◌}
use mathlib.Core.Path.{◌≡◌, refl, sym, ap, ◌∙◌}
use mathlib.Core.Logic.{◌≢◌}
use native.Mathlib.Omega.{arith}
use native.Mathlib.Decide.{ℕ_discrete}
use native.Mathlib.Numerals.{add-one}
use native.Mathlib.Nat.{add-mod, add-zero, add-suc, add_comm, zero-mul, suc-mul}
use Rattle.sums.specs.Sum.{sum}

pub sum_none : (f : ℕ → ℕ) → sum 0 f ≡ 0
unfolding sum
sum_none f = refl

pub sum_last : (n : ℕ) (f : ℕ → ℕ) → sum (n + 1) f ≡ sum n f + f n
unfolding sum
sum_last n f = rw (add-one n)

-- ---- linear

pub sum-zero : (n : ℕ) → sum n (λ i. 0) ≡ 0
unfolding sum
sum-zero zero = refl
sum-zero (suc n) = omega (arith, sum-zero n)

pub sum-add : (n : ℕ) (f g : ℕ → ℕ) → sum n (λ i. f i + g i) ≡ sum n f + sum n g
unfolding sum
sum-add zero f g = refl
sum-add (suc n) f g = omega (arith, sum-add n f g)

pub sum-mul : (n c : ℕ) (f : ℕ → ℕ) → sum n (λ i. c * f i) ≡ c * sum n f
unfolding sum
sum-mul zero c f = omega arith
sum-mul (suc n) c f = omega (arith, sum-mul n c f)

pub sum_swap : (n p : ℕ) (f : ℕ → ℕ → ℕ) → sum n (λ i. sum p (f i)) ≡ sum p (λ j. sum n (λ i. f i j))
unfolding sum
sum_swap zero p f = sym (sum-zero p)
sum_swap (suc n) p f = rw (sum_swap n p f) (sym (sum-add p (λ j. sum n (λ i. f i j)) (f n)))

-- ---- term by term

pub sum-eq : (n : ℕ) (f g : ℕ → ℕ) → ((i : ℕ) → i < n → f i ≡ g i) → sum n f ≡ sum n g
unfolding sum
sum-eq zero f g h = refl
sum-eq (suc n) f g h = omega (arith, sum-eq n f g (λ i b. h i (omega arith)), h n (omega arith))

pub sum-mod : (n m : ℕ) (f g : ℕ → ℕ) → ((i : ℕ) → i < n → f i % m ≡ g i % m) → sum n f % m ≡ sum n g % m
unfolding sum
sum-mod zero m f g h = refl
sum-mod (suc n) m f g h =
    rw (add-mod (sum n f) (f n) m, add-mod (sum n g) (g n) m, sum-mod n m f g (λ i b. h i (omega arith)), h n (omega arith))

pub sum-le : (n : ℕ) (f : ℕ → ℕ) (c : ℕ) → ((i : ℕ) → f i ≤ c) → sum n f ≤ n * c
unfolding sum
sum-le zero f c h = omega arith
sum-le (suc n) f c h = omega (arith, sum-le n f c h, h n)

-- ---- few terms that count

pub sum-empty : (n : ℕ) (f : ℕ → ℕ) → ((i : ℕ) → i < n → f i ≡ 0) → sum n f ≡ 0
sum-empty n f h = sum-eq n f (λ _. 0) h ∙ sum-zero n

pub sum_only : (n k : ℕ) (f : ℕ → ℕ) → k < n → ((i : ℕ) → i < n → i ≢ k → f i ≡ 0) → sum n f ≡ f k
unfolding sum
sum_only zero k f h z = omega arith
sum_only (suc n) k f h z = go (ℕ_discrete k n) (sum_only n k f)
  where
    go : Dec (k ≡ n) → (k < n → ((i : ℕ) → i < n → i ≢ k → f i ≡ 0) → sum n f ≡ f k) → sum n f + f n ≡ f k
    go (yes e) r = omega (arith, ap f e, sum-empty n f (λ i b. z i (omega arith) (omega arith)))
    go (no e) r = omega (arith, r (omega arith) (λ i b. z i (omega arith)), z n (omega arith) (omega arith))

-- ---- in parts

pub sum-append : (x p : ℕ) (f : ℕ → ℕ) → sum (x + p) f ≡ sum x f + sum p (λ i. f (x + i))
unfolding sum
sum-append x zero f = rw (add-zero x) (omega arith)
sum-append x (suc p) f = rw (add-suc x p) (omega (arith, sum-append x p f))

-- c parts of p terms each.
pub sum_parts : (c p : ℕ) (f : ℕ → ℕ) → sum (c * p) f ≡ sum c (λ t. sum p (λ i. f (i + t * p)))
unfolding sum
sum_parts zero p f = rw (zero-mul p)
sum_parts (suc c) p f = rw (suc-mul c p, sum-append (c * p) p f, sum_parts c p f) (simp (add_comm (c * p)))

-- A sum of what stands one further on.
pub sum_step : (c : ℕ) (g : ℕ → ℕ) → sum c (λ t. g (suc t)) + g 0 ≡ sum c g + g c
unfolding sum
sum_step zero g = refl
sum_step (suc c) g = omega (arith, sum_step c g)
