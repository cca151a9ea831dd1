-- Two tests of one thing say the same, by cases of both; and what can be tested at each place holds at all places below n or fails at one of them, by
-- going through them. Assumes nothing.
use Prim.Native.Nat.{ℕ, zero, suc, ◌<◌}
use mathlib.Core.Path.{◌≡◌, refl, sym, subst}
use mathlib.Core.Logic.{◌↔◌, ◌⊎◌, inl, inr}
use mathlib.Core.Bool.{Bool, true, false}
use native.Mathlib.Decide.{ℕ_discrete}
use native.Mathlib.Omega.{arith}

pub one_saying : {A : Type 0} (x y : Bool) → (x ≡ true) ↔ A → (y ≡ true) ↔ A → x ≡ y
one_saying true y a b = sym (b.1 (a.0 refl))
one_saying false true a b = a.1 (b.0 refl)
one_saying false false a b = refl

pub all_or-one : (P : ℕ → Type 0) → ((i : ℕ) → Dec (P i)) → (n : ℕ) → ((i : ℕ) → i < n → P i) ⊎ ((i : ℕ) × (i < n) × ¬ P i)
all_or-one P test zero = inl (λ i h. absurd (omega arith))
all_or-one P test (suc n) = go (all_or-one P test n) (test n)
  where
    go : ((i : ℕ) → i < n → P i) ⊎ ((i : ℕ) × (i < n) × ¬ P i) → Dec (P n) → ((i : ℕ) → i < suc n → P i) ⊎ ((i : ℕ) × (i < suc n) × ¬ P i)
    go (inr (i, h, e)) here = inr (i, omega arith, e)
    go (inl h) (no e) = inr (n, omega arith, e)
    go (inl h) (yes e) = inl (λ i b. elim (ℕ_discrete i n) [ yes q ↦ subst P (sym q) e | no q ↦ h i (omega arith) ])
