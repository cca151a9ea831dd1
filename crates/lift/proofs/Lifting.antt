-- What the rounds from p to p^k compute: "g becomes 2g - g²f modulo x^n - 1; each round doubles the power of p for which g is right, so the rounds are
-- the smallest count c with 2^c at least k" (document 01, How 000 gets there). After t rounds the power is p^min(2^t, k). Assumes nothing.
use Prim.Native.Nat.{ℕ, ◌+◌, ◌*◌, ◌-◌, ◌%◌, ◌^◌, ◌≤◌, ◌∣◌, min}
use mathlib.Core.Path.{◌≡◌, sym, ap, ◌∙◌, subst}
use mathlib.Core.List.{List}
use native.Mathlib.Omega.{arith}
use native.Mathlib.Nat.{mod-mod, mod-add-mod, pow-zero, dvd-mul_right}
use lib.Pow.{pow-add}
use Rattle.sums.specs.Table.{at, table}
use Rattle.sums.proofs.Tables.{at_table, table_eq}
use Rattle.ring.specs.Mix.{mix}
use Rattle.ring.specs.Entrywise.{sub, scale}
use Rattle.ring.proofs.Lift.{lifted}
use Rattle.modular.specs.Rounds.{Rounds}

-- 2 g - g² f, entry by entry.
pub lifted_table : (n m : ℕ) (f g : List ℕ) → lifted n m f g ≡ table n (λ k. (2 * at g k + (m - at (mix n m (mix n m g g) f) k)) % m)
unfolding lifted sub scale mix
lifted_table n m f g = table_eq n _ _ λ k h. simp (at_table, mod-mod, mod-add-mod)

pub power_divides : (p i j : ℕ) → i ≤ j → p ^ i ∣ p ^ j
power_divides p i j h = subst (λ (x : ℕ). p ^ i ∣ x) (sym (pow-add p i (j - i)) ∙ ap (λ (x : ℕ). p ^ x) (omega arith)) (dvd-mul_right (p ^ i) (p ^ (j - i)))

-- The exponent after t rounds.
abbrev pub reached : ℕ → ℕ → ℕ
reached k t = min (2 ^ t) k

pub reached_start : (k : ℕ) → 1 ≤ k → reached k 0 ≡ 1
reached_start k h = omega (arith, pow-zero 2)

pub reached_next : (k t : ℕ) → reached k (t + 1) ≡ min (reached k t + reached k t) k
reached_next k t = omega (arith, pow-add 2 t 1)

pub reached_end : (k c : ℕ) → Rounds k c → reached k c ≡ k
reached_end k c r = omega (arith, r.enough)
