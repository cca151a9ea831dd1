-- What the parts hold: the pattern and the readings "four bytes an entry", the factors "prime in four bytes, exponent in one, repeated"
-- (document 01, The pattern sheet). Entries are numbered from 0.
use Rattle.std.specs.Prelude.{ℕ, ◌+◌, ◌*◌, ◌/◌, ◌≤◌, List, length}
use Rattle.sums.specs.Table.{at, table}
use Rattle.octets.specs.Numbers.{big_endian}

-- Number i, where each stands `step` bytes after the one before.
abbrev pub number_of : (step : ℕ) (part : List ℕ) (i : ℕ) → ℕ
number_of step part i = big_endian 4 part (i * step)

abbrev pub exponent_of : (part : List ℕ) (i : ℕ) → ℕ
exponent_of part i = at part (i * 5 + 4)

-- All of them.
abbrev pub entries_of : (part : List ℕ) → List ℕ
entries_of part = table (length part / 4) (number_of 4 part)

abbrev pub primes_of : (part : List ℕ) → List ℕ
primes_of part = table (length part / 5) (number_of 5 part)

abbrev pub exponents_of : (part : List ℕ) → List ℕ
exponents_of part = table (length part / 5) (exponent_of part)

-- A part holds so many numbers.
pub record HoldsNumbers (part : List ℕ) (step count : ℕ) : Type 0 where
  pub wide : 4 ≤ step
  pub whole : count * step ≤ length part
