-- The checks of a factor list pass exactly for the factor list of m, for m in range; and each such m has a list that passes. Each check passes exactly where its
-- test fails, so those of an entry where it is one of a factor list, and by recursion those of all entries where the list rises. What 5 asks for holds of every
-- factor list: its lists are of one length, m is above 1 and so some prime stands in it, and for m to 1,000,000 seven entries suffice. Assumes nothing.
use Rattle.std.specs.Prelude.{Ok}
use Prim.Native.Nat.{ℕ, suc, ◌≤◌, ◌<◌}
use mathlib.Core.Path.{◌≡◌, refl, ap, ◌∙◌}
use mathlib.Core.Logic.{◌↔◌}
use mathlib.Core.Bool.{Bool, false, not, ◌||◌}
use mathlib.Core.List.{List, [], ◌∷◌, ◌++◌}
use native.Mathlib.Omega.{arith}
use borrow.Author.Tests.{ltb-false, leb-false, eqb-true, eqb-false, not-false, lt-leb, le-ltb, eq-eqb, ne_eqb}
use lib.Dec.{eqb, leb, ltb}
use lib.ListN.{length}
use Rattle.limits.specs.Limits.{most_factors, least_modulus, most_modulus}
use Rattle.modular.specs.FactorList.{FactorEntry, Rising, powers, FactorList}
use Rattle.modular.specs.PrimeTest.{prime?}
use Rattle.modular.proofs.PrimeTest.{prime_exactly}
use Rattle.modular.proofs.Factors.{rising_same}
use Rattle.modular.proofs.Entries.{seven_entries}
use Rattle.modular.proofs.HasList.{has_list}
use Rattle.answer.specs.First.{or, first}
use Rattle.answer.specs.Refuse.{refuse_if}
use Rattle.answer.specs.declared.Case.{Case}
use Rattle.answer.specs.declared.Case.TheVariants.{Factors, Exponent, Prime, Order, Product}
use Rattle.answer.specs.Check.{Check}
use Rattle.answer.proofs.Firsts.{first_last, both, cut, passes, neither}
use Rattle.checks.specs.Factors.{list_sizes, entry_order, entries_order, product, factors}
use Rattle.checks.specs.Blames.{Sized}

-- Where a check and what comes after it pass, its test fails and they pass.
passes_on : (b : Bool) (k : Case) (ring place : ℕ) (next : Check) → or (refuse_if b k ring place) next ≡ Ok tt → (b ≡ false) × (next ≡ Ok tt)
passes_on b k ring place next e = let x = both (refuse_if b k ring place) next e in (passes b k ring place x.0, x.1)

-- ---- 5

pub sized_exactly : (ps es : List ℕ) → (list_sizes most_factors (length ps) (length es) ≡ Ok tt) ↔ Sized ps es
sized_exactly ps es = (to, from)
  where
    k : ℕ
    k = length ps

    unequal : Bool
    unequal = not (eqb k (length es))

    to : list_sizes most_factors k (length es) ≡ Ok tt → Sized ps es
    to h =
        let few = neither (unequal || eqb k 0) (ltb most_factors k) (passes _ Factors 0 0 h) in
        let same = neither unequal (eqb k 0) few.0 in
        let some = eqb-false k 0 same.1 in
        record { same = eqb-true k (length es) (not-false _ same.0); some = omega arith; few = ltb-false most_factors k few.1 }

    from : Sized ps es → list_sizes most_factors k (length es) ≡ Ok tt
    from s = rw (eq-eqb k (length es) s.same, ne_eqb k 0 (λ z. omega (arith, s.some)), le-ltb most_factors k s.few)

-- ---- 10, 11 and 12

-- The checks of an entry, and what comes after them.
entry_exactly : (before i p e : ℕ) (l : List Check) → (first (entry_order before i p e ++ l) ≡ Ok tt) ↔ (FactorEntry before p e × (first l ≡ Ok tt))
entry_exactly before i p e l = (to, from)
  where
    to : first (entry_order before i p e ++ l) ≡ Ok tt → FactorEntry before p e × (first l ≡ Ok tt)
    to h =
        let x₁ = passes_on (eqb e 0) Exponent _ _ _ h in
        let x₂ = passes_on (not (prime? p)) Prime _ _ _ x₁.1 in
        let x₃ = passes_on (leb p before) Order _ _ (first l) x₂.1 in
        let some = eqb-false e 0 x₁.0 in
        (record { exponent = omega arith; prime = (prime_exactly p).0 (not-false _ x₂.0); above = leb-false p before x₃.0 }, x₃.1)

    from : FactorEntry before p e × (first l ≡ Ok tt) → first (entry_order before i p e ++ l) ≡ Ok tt
    from (h, rest) = rw (ne_eqb e 0 (λ z. omega (arith, h.exponent)), (prime_exactly p).1 h.prime, lt-leb p before h.above) rest

pub entries_exactly : (before i : ℕ) (ps es : List ℕ) → length ps ≡ length es → (first (entries_order before i ps es) ≡ Ok tt) ↔ Rising before ps es
entries_exactly before i [] [] n = ((λ _. tt), (λ _. refl))
entries_exactly before i [] (e ∷ es) n = absurd (omega arith)
entries_exactly before i (p ∷ ps) [] n = absurd (omega arith)
entries_exactly before i (p ∷ ps) (e ∷ es) n =
    let rest = entries_exactly p (suc i) ps es (omega arith) in
    let entry = entry_exactly before i p e (entries_order p (suc i) ps es) in
    ((λ h. let x = entry.0 h in (x.0, rest.0 x.1)), (λ r. entry.1 (r.0, rest.1 r.1)))

-- ---- the whole

-- As the code goes through it.
pub factors_in_parts : (m : ℕ) (ps es : List ℕ) → factors m ps es ≡ or (list_sizes most_factors (length ps) (length es)) (or (first (entries_order 0 0 ps es)) (product m ps es))
unfolding factors
factors_in_parts m ps es = ap (or (list_sizes most_factors (length ps) (length es))) (first_last (entries_order 0 0 ps es) (product m ps es))

pub rises : (ps es : List ℕ) → list_sizes most_factors (length ps) (length es) ≡ Ok tt → first (entries_order 0 0 ps es) ≡ Ok tt → Rising 0 ps es
rises ps es sized passed = (entries_exactly 0 0 ps es ((sized_exactly ps es).0 sized).same).0 passed

-- Only 1 has no prime.
some_entry : (ps es : List ℕ) → least_modulus ≤ powers ps es → 0 < length ps
some_entry [] es low = absurd (omega arith)
some_entry (p ∷ ps) es low = omega arith

module _ (m : ℕ) (ps es : List ℕ) where
  only_lists : factors m ps es ≡ Ok tt → FactorList m ps es
  unfolding factors
  only_lists h =
      let sizes = both (list_sizes most_factors (length ps) (length es)) _ h in
      let rest = cut (entries_order 0 0 ps es) (product m ps es ∷ []) sizes.1 in
      record {
        rising = (entries_exactly 0 0 ps es ((sized_exactly ps es).0 sizes.0).same).0 rest.0;
        product = eqb-true (powers ps es) m (not-false _ (passes_on _ Product _ _ (Ok tt) rest.1).0);
      }

  lists_pass : least_modulus ≤ m → m ≤ most_modulus → FactorList m ps es → factors m ps es ≡ Ok tt
  unfolding factors
  lists_pass low high l =
      let same = rising_same 0 ps es l.rising in
      let sizes = (sized_exactly ps es).1 (record { same = same; some = some_entry ps es (omega (arith, l.product)); few = seven_entries high l }) in
      let entries = (entries_exactly 0 0 ps es same).1 l.rising in
      rw sizes (first_last (entries_order 0 0 ps es) (product m ps es) ∙ rw (entries, eq-eqb (powers ps es) m l.product))

  pub factors_exactly : least_modulus ≤ m → m ≤ most_modulus → (factors m ps es ≡ Ok tt) ↔ FactorList m ps es
  factors_exactly low high = (only_lists, lists_pass low high)

pub some_list_passes : (m : ℕ) → least_modulus ≤ m → m ≤ most_modulus → (ps : List ℕ) × (es : List ℕ) × (factors m ps es ≡ Ok tt)
some_list_passes m low high = let l = has_list m (omega arith) in (l.0, l.1, (factors_exactly m l.0 l.1 low high).1 l.2)
