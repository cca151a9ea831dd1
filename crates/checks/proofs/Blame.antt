-- Each refusal of a factor list says what is wrong with it: 5 only of lists that are not so sized, 10, 11 and 12 what is wrong with the first bad entry, at its
-- place, and 13 only where all entries are right. A check that refuses is the first whose test holds, so the entries before it passed: by recursion on the lists,
-- from any place on. Assumes nothing.
use Rattle.std.specs.Prelude.{Ok, Err}
use Prim.Native.Nat.{ℕ, zero, suc, ◌+◌, ◌≤◌, ◌<◌}
use mathlib.Core.Path.{◌≡◌, refl, sym, ap, ◌∙◌, subst}
use mathlib.Core.Logic.{◌⊎◌, inl, inr}
use mathlib.Core.Bool.{Bool, true, false, not, ◌||◌, true≢false}
use mathlib.Core.List.{List, [], ◌∷◌}
use native.Mathlib.Omega.{arith}
use borrow.Author.Tests.{leb-true, leb-false, eqb-true, eqb-false, not-true, not-false, eq-eqb}
use lib.Dec.{eqb, leb, ltb}
use lib.ListN.{length}
use Rattle.sums.specs.Table.{at}
use Rattle.limits.specs.Limits.{most_factors}
use Rattle.modular.specs.PrimeTest.{prime?}
use Rattle.modular.specs.FactorList.{FactorEntry, powers}
use Rattle.modular.proofs.PrimeTest.{prime_exactly}
use Rattle.answer.specs.First.{or, first}
use Rattle.answer.specs.Refuse.{refuse_if}
use Rattle.answer.specs.declared.Case.{Case}
use Rattle.answer.specs.declared.Case.TheVariants as case
use Rattle.answer.specs.Check.{Check}
use Rattle.answer.specs.declared.Refusal.{Refusal}
use Rattle.answer.proofs.Firsts.{first_last, or_refused, passed_refused, passes, refuses}
use Rattle.checks.specs.Factors.{list_sizes, entries_order, product, factors}
use Rattle.checks.specs.Blames.{Sized, BadSizes, Fault, BadEntry, BadProduct, Blames}
use Rattle.checks.proofs.FactorCheck.{sized_exactly, entries_exactly}

-- A refusal comes from a check, whose test then holds, or its test fails and it comes from what stands after.
refused_by : (b : Bool) (k : Case) (ring place : ℕ) (next : Check) (r : Refusal) → or (refuse_if b k ring place) next ≡ Err r
    → ((b ≡ true) × (record { case = k; ring = ring; place = place } ≡ r)) ⊎ ((b ≡ false) × (next ≡ Err r))
refused_by b k ring place next r e = elim (or_refused (refuse_if b k ring place) next r e) [ inl h ↦ inl (refuses b k ring place r h) | inr (p, h) ↦ inr (passes b k ring place p, h) ]

refused_case : (b : Bool) (k : Case) (ring place : ℕ) (r : Refusal) → refuse_if b k ring place ≡ Err r → r.case ≡ k
refused_case b k ring place r e = sym (ap (λ (x : Refusal). x.case) (refuses b k ring place r e).1)

-- ---- the entries from place i on, after the prime `before`

record From (before i : ℕ) (ps es : List ℕ) (r : Refusal) : Type 0 where
  offset : ℕ
  place : r.place ≡ i + offset
  inside : offset < length ps
  right : (j : ℕ) → j < offset → FactorEntry (at (before ∷ ps) j) (at ps j) (at es j)
  fault : Fault r.case (at (before ∷ ps) offset) (at ps offset) (at es offset)

module _ (before i p e : ℕ) (ps es : List ℕ) (r : Refusal) where
  here : {k : Case} → record { case = k; ring = 0; place = i } ≡ r → Fault k before p e → From before i (p ∷ ps) (e ∷ es) r
  here q f = record {
    offset = 0;
    place = sym (ap (λ (x : Refusal). x.place) q) ∙ omega arith;
    inside = omega arith;
    right = λ j h. absurd (omega arith);
    fault = subst (λ (x : Refusal). Fault x.case before p e) q f;
  }

  later : FactorEntry before p e → From p (suc i) ps es r → From before i (p ∷ ps) (e ∷ es) r
  later entry rest = record { offset = suc rest.offset; place = omega (arith, rest.place); inside = omega (arith, rest.inside); right = right; fault = rest.fault }
    where
      right : (j : ℕ) → j < suc rest.offset → FactorEntry (at (before ∷ p ∷ ps) j) (at (p ∷ ps) j) (at (e ∷ es) j)
      right zero h = entry
      right (suc j) h = rest.right j (omega arith)

  -- One check of the entry after the other.
  module _ (go_on : first (entries_order p (suc i) ps es) ≡ Err r → From p (suc i) ps es r) where
    order : 1 ≤ e → prime? p ≡ true → or (refuse_if (leb p before) case.Order 0 i) (first (entries_order p (suc i) ps es)) ≡ Err r → From before i (p ∷ ps) (e ∷ es) r
    order some prime h = elim (refused_by (leb p before) case.Order 0 i _ r h) [
      | inl (t, q) ↦ here q (inr (inr (refl, some, (prime_exactly p).0 prime, leb-true p before t)))
      | inr (f, k) ↦ later (record { exponent = some; prime = (prime_exactly p).0 prime; above = leb-false p before f }) (go_on k)
    ]

    prime : 1 ≤ e → or (refuse_if (not (prime? p)) case.Prime 0 i) (or (refuse_if (leb p before) case.Order 0 i) (first (entries_order p (suc i) ps es))) ≡ Err r → From before i (p ∷ ps) (e ∷ es) r
    prime some h = elim (refused_by (not (prime? p)) case.Prime 0 i _ r h) [
      | inl (t, q) ↦ here q (inr (inl (refl, some, λ pr. true≢false (sym ((prime_exactly p).1 pr) ∙ not-true _ t))))
      | inr (f, k) ↦ order some (not-false _ f) k
    ]

    entry : first (entries_order before i (p ∷ ps) (e ∷ es)) ≡ Err r → From before i (p ∷ ps) (e ∷ es) r
    entry h = elim (refused_by (eqb e 0) case.Exponent 0 i _ r h) [
      | inl (t, q) ↦ here q (inl (refl, eqb-true e 0 t))
      | inr (f, k) ↦ let some = eqb-false e 0 f in prime (omega arith) k
    ]

from : (before i : ℕ) (ps es : List ℕ) (r : Refusal) → first (entries_order before i ps es) ≡ Err r → From before i ps es r
from before i [] es r h = absurd (passed_refused refl h)
from before i (p ∷ ps) [] r h = absurd (passed_refused refl h)
from before i (p ∷ ps) (e ∷ es) r h = entry before i p e ps es r (from p (suc i) ps es r) h

-- ---- the whole

pub blames : (m : ℕ) (ps es : List ℕ) (r : Refusal) → factors m ps es ≡ Err r → Blames m ps es r
unfolding factors
blames m ps es r h = elim (or_refused (list_sizes most_factors (length ps) (length es)) _ r h) [
  | inl k ↦ inl (bad_sizes k)
  | inr (passed, k) ↦ inr (bad_list ((sized_exactly ps es).0 passed) (or_refused (first (entries_order 0 0 ps es)) (product m ps es) r (sym (first_last (entries_order 0 0 ps es) (product m ps es)) ∙ k)))
]
  where
    bad_sizes : list_sizes most_factors (length ps) (length es) ≡ Err r → BadSizes ps es r
    bad_sizes k = record { case = refused_case ((not (eqb (length ps) (length es)) || eqb (length ps) 0) || ltb most_factors (length ps)) case.Factors 0 0 r k; unsized = λ s. passed_refused ((sized_exactly ps es).1 s) k }

    bad_list : Sized ps es → (first (entries_order 0 0 ps es) ≡ Err r) ⊎ ((first (entries_order 0 0 ps es) ≡ Ok tt) × (product m ps es ≡ Err r)) → BadEntry ps es r ⊎ BadProduct m ps es r
    bad_list s (inl k) =
        let f = from 0 0 ps es r k in
        let place : r.place ≡ f.offset = omega (arith, f.place) in
        inl (record { sized = s; inside = rw place f.inside; right = λ i l. f.right i (omega arith); fault = rw place f.fault })
    bad_list s (inr (passed, k)) = inr (record {
      case = refused_case (not (eqb (powers ps es) m)) case.Product 0 0 r k;
      sized = s;
      rising = (entries_exactly 0 0 ps es s.same).0 passed;
      product = λ e. passed_refused (rw (eq-eqb (powers ps es) m e)) k;
    })
