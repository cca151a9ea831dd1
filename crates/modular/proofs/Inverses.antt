-- A number has at most one inverse, two numbers one greatest common divisor, and a number that has an inverse shares nothing with m: so only one answer fits.
-- Assumes nothing.
use Rattle.std.specs.Result.{result_unwrap_or}
use Prim.Native.Nat.{ℕ, ◌*◌, ◌%◌, ◌∣◌}
use mathlib.Core.Path.{◌≡◌, refl, sym, ap, ◌∙◌, subst}
use mathlib.Core.Logic.{⊎_elim}
use native.Mathlib.Omega.{arith}
use native.Mathlib.Nat.{dvd_antisymm, dvd-mod_iff, dvd-mul_right_of_dvd, eq-one_of_dvd-one, mod-eq_of_lt, mul-one, le_of_dvd}
use Rattle.sums.proofs.Remainders.{mul-mod}
use Rattle.modular.specs.Inverse.{InverseOf, Nonzero}
use Rattle.modular.specs.Gcd.{Gcd}
use Rattle.modular.specs.Finds.{Shared, Finds}
use Rattle.modular.specs.declared.inverse.Shares.{Shares}
use Rattle.std.proofs.Common.{Result, Ok, Err, IsOk}

-- z = z (y w) = w (y z) = w modulo m.
inverse_one : {m y z w : ℕ} → InverseOf m y z → InverseOf m y w → z ≡ w
inverse_one {m} {y} {z} {w} a b = sym (times z w a b) ∙ ap (λ (x : ℕ). x % m) (omega arith) ∙ times w z b a
  where
    times : (z w : ℕ) → InverseOf m y z → InverseOf m y w → z * (y * w) % m ≡ z
    times z w a b = sym (mul-mod z (y * w) m) ∙ ap (λ (x : ℕ). z * x % m) b.product ∙ ap (λ (x : ℕ). x % m) (mul-one z) ∙ mod-eq_of_lt a.low

gcd_one : {a b d e : ℕ} → Gcd a b d → Gcd a b e → d ≡ e
gcd_one {a} {b} {d} {e} g h = dvd_antisymm (h.greatest d g.left g.right) (g.greatest e h.left h.right)

pub inverse_shares : {m y z d : ℕ} → InverseOf m y z → Shared m y d → ⊥
inverse_shares {m} {y} {z} {d} i s =
    omega (arith, s.above, eq-one_of_dvd-one (subst (λ (x : ℕ). d ∣ x) i.product ((dvd-mod_iff d s.gcd.right).1 (dvd-mul_right_of_dvd d s.gcd.left z))))

-- The two answers.
pub finds_inverse : {m y z : ℕ} → InverseOf m y z → Finds m y (Ok z)
finds_inverse {m} {y} {z} i = record {
  inverse = λ w. ((λ e. subst (InverseOf m y) (let t : z ≡ w = cc in t) i), (λ j. ap Ok (inverse_one i j)));
  shares = λ d. ((λ e. absurd (cc)), (λ s. absurd (inverse_shares i s)));
}

pub finds_shares : {m y d : ℕ} → Shared m y d → Finds m y (Err (record { divisor = d }))
finds_shares {m} {y} {d} s = record {
  inverse = λ w. ((λ e. absurd (cc)), (λ j. absurd (inverse_shares j s)));
  shares = λ e. ((λ q. subst (Shared m y) (ap divisor_of q) s), (λ h. ap (λ (x : ℕ). Err (record { divisor = x })) (gcd_one s.gcd h.gcd)));
}
  where
    divisor_of : Result ℕ Shares → ℕ
    divisor_of (Ok z) = 0
    divisor_of (Err e) = e.divisor

-- Only one answer fits.
pub finds_one : {m y : ℕ} (r q : Result ℕ Shares) → Finds m y r → Finds m y q → r ≡ q
finds_one (Ok z) q f g = sym ((g.inverse z).1 ((f.inverse z).0 refl))
finds_one (Err d) q f g = sym ((g.shares d.divisor).1 ((f.shares d.divisor).0 refl))

-- Below a prime, nothing but 0 shares a factor with it.
pub prime_shares : {p y d : ℕ} → Nonzero p y → Shared p y d → ⊥
prime_shares {p} {y} {d} n s =
    ⊎_elim (λ (e : d ≡ 1). omega (arith, s.above)) (λ (e : d ≡ p). omega (arith, n.low, le_of_dvd n.some s.gcd.left)) (n.prime.only d s.gcd.right)

-- So where an inverse is sought below a prime, it is found.
pub prime_found : {p y : ℕ} {r : Result ℕ Shares} → Nonzero p y → Finds p y r → IsOk r
prime_found {r = Ok z} n f = refl
prime_found {r = Err s} n f = absurd (prime_shares n ((f.shares s.divisor).0 refl))

pub found_inverse : {m y z : ℕ} {r : Result ℕ Shares} → Finds m y r → r ≡ Ok z → InverseOf m y z
found_inverse {z = z} f e = (f.inverse z).0 e

-- Where there is one, no other number stands in for it.
pub inverse_there : {m y : ℕ} {r : Result ℕ Shares} (d : ℕ) → Finds m y r → IsOk r → InverseOf m y (result_unwrap_or r d)
inverse_there {r = Ok z} d f ok = (f.inverse z).0 refl
inverse_there {r = Err s} d f ok = absurd (cc ok)
