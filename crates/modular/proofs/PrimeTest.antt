-- The test of specs/PrimeTest.antt is true exactly for primes: a number is one where nothing from 2 to below it divides it. Assumes nothing.
use Prim.Native.Nat.{ℕ, zero, suc, ◌+◌, ◌-◌, ◌%◌}
use mathlib.Core.Path.{◌≡◌, refl, sym, ap, ◌∙◌}
use mathlib.Core.Logic.Iff
use mathlib.Core.Logic.{◌↔◌, ◌≢◌}
use mathlib.Core.Bool.{Bool, true, not, and-eq-true_iff}
use native.Mathlib.Omega.{arith}
use native.Mathlib.Decide.{ℕ_discrete}
use native.Mathlib.Nat.{mul-le-mul_left}
use borrow.Author.Tests.{leb-true, eqb-false, not-true, le-leb, ne_eqb}
use lib.Dec.{eqb, leb}
use Rattle.sums.proofs.Tests.{one_saying}
use Rattle.modular.specs.Prime.{Prime, TellsPrime}
use Rattle.modular.specs.PrimeTest.{undivided?, prime?}
use Rattle.modular.proofs.Trial.{Free, free_prime, composite}

undivided_exactly : (p k : ℕ) → (undivided? p k ≡ true) ↔ Free p (k + 2)
unfolding undivided?
undivided_exactly p zero = ((λ _ j a b e. omega arith), (λ _. refl))
undivided_exactly p (suc k) = Iff.trans (and-eq-true_iff (undivided? p k) (not (eqb (p % (k + 2)) 0))) (Iff.trans (Iff.and (undivided_exactly p k) divides_not) (next, back))
  where
    divides_not : (not (eqb (p % (k + 2)) 0) ≡ true) ↔ (p % (k + 2) ≢ 0)
    divides_not = ((λ n. eqb-false (p % (k + 2)) 0 (not-true _ n)), (λ h. ap not (ne_eqb (p % (k + 2)) 0 h)))

    next : Free p (k + 2) × (p % (k + 2) ≢ 0) → Free p (suc k + 2)
    next (f, n) j a b e = elim (ℕ_discrete j (k + 2)) [ yes s ↦ n (ap (λ (x : ℕ). p % x) (sym s) ∙ e) | no s ↦ f j a (omega arith) e ]

    back : Free p (suc k + 2) → Free p (k + 2) × (p % (k + 2) ≢ 0)
    back f = ((λ j a b e. f j a (omega arith) e), f (k + 2) (omega arith) (omega arith))

pub prime_exactly : (p : ℕ) → (prime? p ≡ true) ↔ Prime p
unfolding prime?
prime_exactly p = Iff.trans (and-eq-true_iff (leb 2 p) (undivided? p (p - 2))) (is, told)
  where
    is : (leb 2 p ≡ true) × (undivided? p (p - 2) ≡ true) → Prime p
    is (t, u) =
        let two = leb-true 2 p t in
        free_prime p p two (omega (arith, mul-le-mul_left p two)) λ j a b e. (undivided_exactly p (p - 2)).0 u j a (omega arith) e

    told : Prime p → (leb 2 p ≡ true) × (undivided? p (p - 2) ≡ true)
    told pr = (le-leb 2 p pr.two, (undivided_exactly p (p - 2)).1 λ j a b e. composite p j a (omega (arith, pr.two)) e pr)

-- What tells whether p is a prime is this test.
pub tells_prime : {p : ℕ} {r : Bool} → TellsPrime p r → r ≡ prime? p
tells_prime {p} {r} t = one_saying r (prime? p) (t.is, t.told) (prime_exactly p)
