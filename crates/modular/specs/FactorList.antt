-- "The factor list of m is a list of primes, strictly rising, and a list of exponents of the same length, each at least 1, whose powers multiply to m."
-- (document 01, Ring, pattern, readings) Its length has no bound here: for m to 1,000,000 seven entries suffice by `seven_entries` in proofs/Entries.antt.
use Rattle.std.specs.Prelude.{ℕ, ◌*◌, ◌^◌, ◌≤◌, ◌<◌, ◌≡◌, List, [], ◌∷◌}
use Rattle.modular.specs.Prime.{Prime}

-- One entry: a prime above the one before, with an exponent of at least 1.
pub record FactorEntry (before p e : ℕ) : Type 0 where
  pub exponent : 1 ≤ e
  pub prime : Prime p
  pub above : before < p

-- Such entries, one above the other; both lists end together.
abbrev pub Rising : ℕ → List ℕ → List ℕ → Type 0
Rising before [] [] = Unit {0}
Rising before [] (e ∷ es) = ⊥
Rising before (p ∷ ps) [] = ⊥
Rising before (p ∷ ps) (e ∷ es) = FactorEntry before p e × Rising p ps es

-- The product of the powers.
abbrev pub powers : List ℕ → List ℕ → ℕ
powers [] es = 1
powers (p ∷ ps) [] = 1
powers (p ∷ ps) (e ∷ es) = p ^ e * powers ps es

pub record FactorList (m : ℕ) (ps es : List ℕ) : Type 0 where
  pub rising : Rising 0 ps es
  pub product : powers ps es ≡ m
