-- A row plus terms: where the terms past the front are 0, a loop over the front is enough. Assumes nothing.
use Prim.Native.Nat.{ℕ, zero, suc, ◌+◌, ◌*◌, ◌%◌, ◌≤◌, ◌<◌}
use mathlib.Core.Path.{◌≡◌, ap, ◌∙◌}
use mathlib.Core.List.{List, ◌∷◌, ◌++◌}
use native.Mathlib.Omega.{arith}
use native.Mathlib.Nat.{mod-eq_of_lt, add-zero, mul-zero}
use native.Mathlib.Numerals.{add-one}
use lib.ListN.{length, drop}
use Rattle.sums.specs.Table.{at, table}
use Rattle.sums.proofs.Tables.{at_past}
use Rattle.sums.proofs.Fill.{fill_rest}
use Rattle.rows.specs.Row.{times, times_linear, plus}

-- Entry i of a row plus terms.
abbrev pub plus-at : ℕ → List ℕ → (ℕ → ℕ) → ℕ → ℕ
plus-at p d t i = (at d i + t i) % p

pub plus-value : (p : ℕ) {x y z t r : ℕ} → r ≡ (x + z) % p → x ≡ y → z ≡ t → r ≡ (y + t) % p
plus-value p e a b = e ∙ (λ i. (a i + b i) % p)

-- The loop is over when no term is left.
pub plus_all : (p : ℕ) (d : List ℕ) (t : ℕ → ℕ) (k : ℕ) → k ≤ length d → ((i : ℕ) → at d i < p) → ((i : ℕ) → k ≤ i → t i ≡ 0) → table k (plus-at p d t) ++ drop k d ≡ plus p d t
unfolding plus
plus_all p d t k l low none = fill_rest (plus-at p d t) d k l (λ i g. ap (λ (x : ℕ). (at d i + x) % p) (none i g) ∙ ap (λ (x : ℕ). x % p) (add-zero (at d i)) ∙ mod-eq_of_lt (low i))

-- Past its end a row has no terms.
times_past : (q : ℕ) (l : List ℕ) (i : ℕ) → length l ≤ i → times q l i ≡ 0
times_past q l i h = ap (λ (x : ℕ). q * x) (at_past l i h) ∙ mul-zero q

-- A row moved up by one place.
pub up_next : (l : List ℕ) (i : ℕ) → at (0 ∷ l) (i + 1) ≡ at l i
up_next l i = rw (add-one i)

pub up_low : (p : ℕ) (l : List ℕ) → 0 < p → ((i : ℕ) → at l i < p) → (i : ℕ) → at (0 ∷ l) i < p
up_low p l h low zero = h
up_low p l h low (suc i) = low i

pub times_linear_past : (q r : ℕ) (l : List ℕ) (i : ℕ) → length l < i → times_linear q r l i ≡ 0
times_linear_past q r l zero h = omega arith
times_linear_past q r l (suc i) h = omega (arith, times_past q l (suc i) (omega arith), times_past r l i (omega arith))

pub times_linear_last : (q r : ℕ) (l : List ℕ) → times_linear q r l (length l) ≡ times r (0 ∷ l) (length l)
times_linear_last q r l = omega (arith, times_past q l (length l) (omega arith))
