-- The checks of a factor list: 5, then 10, 11 and 12 of each entry, then 13 (document 02, first request). For m in range they pass exactly for the factor list
-- of m: `factors_exactly` in proofs/FactorCheck.antt.
use Rattle.std.specs.Prelude.{ℕ, suc, not, ◌||◌, List, [], ◌∷◌, ◌++◌, eqb, leb, ltb, length}
use Rattle.limits.specs.Limits.{most_factors}
use Rattle.modular.specs.FactorList.{powers}
use Rattle.modular.specs.PrimeTest.{prime?}
use Rattle.answer.specs.First.{first}
use Rattle.answer.specs.Refuse.{refuse_if}
use Rattle.answer.specs.Check.{Check}
use Rattle.answer.specs.declared.Case.TheVariants.{Factors, Exponent, Prime, Order, Product}

-- 5: "lists of unequal length, no entries, or more than seven". There are so many primes, and so many exponents.
abbrev pub list_sizes : (most primes exponents : ℕ) → Check
list_sizes most primes exponents = refuse_if ((not (eqb primes exponents) || eqb primes 0) || ltb most primes) Factors 0 0

-- "10 exponent zero, 11 not a prime, 12 not above the prime before, each with the entry's place". Nothing stands before the first prime: it has 0 for `before`,
-- which every prime is above.
abbrev pub entry_order : (before place p e : ℕ) → List Check
entry_order before i p e = refuse_if (eqb e 0) Exponent 0 i ∷ refuse_if (not (prime? p)) Prime 0 i ∷ refuse_if (leb p before) Order 0 i ∷ []

-- "entry by entry from the first": those from a place on.
abbrev pub entries_order : (before place : ℕ) (primes exponents : List ℕ) → List Check
entries_order before i [] es = []
entries_order before i (p ∷ ps) [] = []
entries_order before i (p ∷ ps) (e ∷ es) = entry_order before i p e ++ entries_order p (suc i) ps es

-- "13 when the powers don't multiply to m".
abbrev pub product : (m : ℕ) (primes exponents : List ℕ) → Check
product m ps es = refuse_if (not (eqb (powers ps es) m)) Product 0 0

abbrev pub factors_order : (m : ℕ) (primes exponents : List ℕ) → List Check
factors_order m ps es = list_sizes most_factors (length ps) (length es) ∷ (entries_order 0 0 ps es ++ (product m ps es ∷ []))

unfoldable pub factors : (m : ℕ) (primes exponents : List ℕ) → Check
factors m ps es = first (factors_order m ps es)
