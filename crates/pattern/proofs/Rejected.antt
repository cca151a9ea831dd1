-- "Check that these are rejected" (document 01, How tight each contract is): what invert's contract turns away, of [1,2] modulo 8. With Done the product is 1,
-- and where a legal pattern has an inverse the answer is Done. Assumes nothing.
use Rattle.std.specs.Prelude.{Ok}
use Prim.Native.Nat.{ℕ, zero, suc, ◌<◌}
use mathlib.Core.Path.{◌≡◌, refl, ap}
use mathlib.Core.List.{List, [], ◌∷◌}
use native.Mathlib.Omega.{arith}
use lib.ListN.{length}
use Rattle.sums.specs.Sum.{sum}
use Rattle.sums.specs.Table.{at, table}
use Rattle.ring.specs.Mix.{mix}
use Rattle.ring.specs.One.{one}
use Rattle.ring.proofs.Inverses.{inverse_unique, inverse_inverse}
use Rattle.modular.specs.PrimeTest.{undivided?, prime?}
use Rattle.answer.specs.First.{first}
use Rattle.answer.specs.Answer.{Answer}
use Rattle.checks.specs.Checks.{first_high}
use Rattle.checks.specs.Factors.{factors}
use Rattle.checks.specs.Order.{order}
use Rattle.factors.specs.Factored.{Factored, factored}
use Rattle.pattern.specs.Promises.{invert_order, Inverts}
use Rattle.pattern.proofs.Granted.{invert_granted}
use Rattle.pattern.proofs.Demand2.{invert_done}

abbrev eight : Factored
eight = factored 8 (2 ∷ []) (3 ∷ [])

abbrev pattern : List ℕ
pattern = 1 ∷ 2 ∷ []

-- With Done the product is 1.
product-one : (f : List ℕ) (M : Factored) (old new : List ℕ) → Inverts f M old (Ok tt) new → mix (length f) M.modulus f new ≡ one (length f) M.modulus
product-one f M old new h = h.meets.1.product

-- "The pattern handed back as its own inverse": [1,2] times itself is [5,4].
pub own_inverse : (old : List ℕ) → ¬ Inverts pattern eight old (Ok tt) pattern
unfolding mix one table sum
own_inverse old h = let e = ap (λ (l : List ℕ). at l 0) (product-one _ _ _ _ h) in omega (arith, e)

-- "One lifting round done and the rest pretended: the m 8 case": [1,6] is right modulo 4; modulo 8 its product with [1,2] is 5.
pub one_round : (old : List ℕ) → ¬ Inverts pattern eight old (Ok tt) (1 ∷ 6 ∷ [])
unfolding mix one table sum
one_round old h = let e = ap (λ (l : List ℕ). at l 0) (product-one _ _ _ _ h) in omega (arith, e)

-- "An untouched output".
pub untouched : ¬ Inverts pattern eight (0 ∷ 0 ∷ []) (Ok tt) (0 ∷ 0 ∷ [])
unfolding mix one table sum
untouched h = let e = ap (λ (l : List ℕ). at l 0) (product-one _ _ _ _ h) in omega (arith, e)

-- "A fixed ring": a ring is the inverse of one pattern only,
pub fixed_ring : (f₁ f₂ : List ℕ) (M : Factored) {o₁ o₂ g : List ℕ} → length f₂ ≡ length f₁ → Inverts f₁ M o₁ (Ok tt) g → Inverts f₂ M o₂ (Ok tt) g → f₁ ≡ f₂
fixed_ring f₁ f₂ M {o₁} {o₂} {g} n h k =
    let i = inverse_inverse (length f₁) M.modulus f₁ g (invert_granted f₁ M (length o₁) h.meets.0).0.legal.ring h.meets.1 in
    let j = inverse_inverse (length f₂) M.modulus f₂ g (invert_granted f₂ M (length o₂) k.meets.0).0.legal.ring k.meets.1 in
    inverse_unique (length f₁) M.modulus g i (rw n at j)

-- so not of [1,2] and of [3,2].
pub fixed_ring_8 : (o₁ o₂ g : List ℕ) → Inverts pattern eight o₁ (Ok tt) g → Inverts (3 ∷ 2 ∷ []) eight o₂ (Ok tt) g → ⊥
fixed_ring_8 o₁ o₂ g h k = let e = ap (λ (l : List ℕ). at l 0) (fixed_ring pattern (3 ∷ 2 ∷ []) eight refl h k) in omega (arith, e)

-- "A call that refuses all input": this call is legal and the pattern has the inverse [5,6], so only Done fits.
legal : first (invert_order pattern eight 2) ≡ Ok tt
unfolding order first_high factors prime? undivided?
legal = refl

pub refuses_all : (old : List ℕ) → length old ≡ 2 → (a : Answer) (new : List ℕ) → Inverts pattern eight old a new → a ≡ Ok tt
unfolding mix one table sum
refuses_all old n a new h = (invert_done pattern eight old (rw n legal) a new h).1 (record { inverse = 5 ∷ 6 ∷ []; is = record { ring = record { long = refl; low = low }; product = refl } })
  where
    low : (i : ℕ) → i < 2 → at (5 ∷ 6 ∷ []) i < 8
    low zero h = omega arith
    low (suc zero) h = omega arith
    low (suc (suc i)) h = absurd (omega arith)
