-- Shoup's quotient: with w the whole part of B f / p, the whole part of w y / B is f y / p or one less; the same of a sum of such products, if its y add up to at most B.
-- So what is left of x + t is below 3 p, and has the remainder of x + t. Assumes nothing.
use Prim.Native.Nat.{ℕ, ◌+◌, ◌*◌, ◌/◌, ◌%◌, ◌^◌, ◌≤◌, ◌<◌}
use mathlib.Core.Path.{◌≡◌, sym, ap, ◌∙◌}
use native.Mathlib.Omega.{arith}
use native.Mathlib.Nat.{mul-zero, add-zero, mod-lt, mod-eq_of_lt, div-add-mod', le_of_lt, mul-le-mul, mul-le-mul_left, mul-lt-mul_of_pos_right, le_of_mul-le-mul_right, lt_of_mul-lt-mul_right, mul-add-mod_self_right}
use Rattle.rows.specs.Row.{Prepared, most_row_modulus}
use Rattle.rows.specs.Near.{Near}

-- What is left after q times p, if it is below p, is the remainder.
pub remains : (x q p r : ℕ) → x ≡ q * p + r → r < p → r ≡ x % p
remains x q p r e h = sym (ap (λ (z : ℕ). z % p) e ∙ mul-add-mod_self_right q p r ∙ mod-eq_of_lt h)

-- The law, over any B: s is what stands for B t / p, and e is what it leaves.
module _ (B p t s e : ℕ) (exact : B * t ≡ p * s + e) where
  whole : B * t ≡ s / B * p * B + p * (s % B) + e
  whole = omega (arith, exact, ap (λ (z : ℕ). p * z) (div-add-mod' s B))

  shoup_under : 0 < B → s / B * p ≤ t
  shoup_under pos = le_of_mul-le-mul_right {k = B} (omega (arith, whole)) pos

  shoup_over : 0 < B → 0 < p → e ≤ p * B → t < s / B * p + 2 * p
  shoup_over pos some small = lt_of_mul-lt-mul_right B (omega (arith, whole, mul-lt-mul_of_pos_right {k = p} (mod-lt s pos) some))

-- One product.
product : (B f p y : ℕ) → B * (f * y) ≡ p * (B * f / p * y) + B * f % p * y
product B f p y = omega (arith, ap (λ (z : ℕ). z * y) (div-add-mod' (B * f) p))

rest : (B f p y : ℕ) → 0 < p → B * f % p * y ≤ p * y
rest B f p y some = mul-le-mul (le_of_lt (mod-lt (B * f) some)) (omega arith)

-- Two products, and one.
pub near_two : {p : ℕ} {f w g v : ℕ} → p ≤ most_row_modulus → Prepared p f w → Prepared p g v → (x y z : ℕ) → x < p → y + z ≤ 2 ^ 32
    → Near x (f * y + g * z) (w * y + v * z) p
near_two {p} {f} {w} {g} {v} m pf pg x y z l h = record {
  modulus = m;
  low = l;
  under = shoup_under B p t s e exact (omega arith);
  over = shoup_over B p t s e exact (omega arith) some (omega (arith, rest B f p y some, rest B g p z some, mul-le-mul_left p h));
}
  where
    B : ℕ
    B = 2 ^ 32

    t : ℕ
    t = f * y + g * z

    s : ℕ
    s = w * y + v * z

    e : ℕ
    e = B * f % p * y + B * g % p * z

    some : 0 < p
    some = omega arith

    exact : B * t ≡ p * s + e
    exact =
        omega (arith, product B f p y, product B g p z, ap (λ (k : ℕ). p * (k * y)) pf.quotient, ap (λ (k : ℕ). p * (k * z)) pg.quotient)

pub near_one : {p : ℕ} {f w : ℕ} → p ≤ most_row_modulus → Prepared p f w → (x y : ℕ) → x < p → y ≤ 2 ^ 32 → Near x (f * y) (w * y) p
near_one m pf x y l h = simp (mul-zero, add-zero) at (near_two m pf pf x y 0 l (omega arith))
