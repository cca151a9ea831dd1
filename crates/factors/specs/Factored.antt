-- A modulus with what is lent as its factor list: "a list of primes .. and a list of exponents" (document 01, Ring, pattern, readings). Whether it is
-- the factor list is for its checks to say.
use Rattle.std.specs.Prelude.{ℕ, List}
use Rattle.answer.specs.Check.{Check}
use Rattle.checks.specs.Factors.{factors}
use Rattle.checks.specs.Order.{ring_order}
use Rattle.factors.specs.declared.Factored as code

pub record Factored : Type 0 where
  pub modulus : ℕ
  pub primes : List ℕ
  pub exponents : List ℕ

abbrev pub factored : (m : ℕ) (ps es : List ℕ) → Factored
factored m ps es = record { modulus = m; primes = ps; exponents = es }

-- What a call is lent in code.
abbrev pub factored_of : code.Factored → Factored
factored_of M = factored M.modulus M.primes.now M.exponents.now

-- What the checks of the factor list find.
abbrev pub listed : Factored → Check
listed M = factors M.modulus M.primes M.exponents

-- The order of a call on rings with a factor list.
abbrev pub listed_order : (f : List ℕ) (others : List (List ℕ)) (M : Factored) (rest : List Check) → List Check
listed_order f others M rest = ring_order f others M.modulus (listed M) rest
