-- The extended Euclid on f and x^n - 1 modulo m: "modulo each p, extended Euclid on f and x^n - 1" (document 01, How 000 gets there). What it asks, and
-- what it answers: the inverse, or the shared factor's degree with the ghost polynomial; modulo a number that is not a prime it may find a divisor of that
-- number instead. That only one answer fits is `one_answer` in proofs/Answers.antt.
use Rattle.std.specs.Prelude.{ℕ, ◌≤◌, ◌<◌, ◌≡◌, List, length, Result, Ok, Err}
use Rattle.std.specs.Int.{◌∣◌}
use Rattle.sums.specs.Table.{at}
use Rattle.modular.specs.Prime.{Prime}
use Rattle.modular.specs.declared.inverse.Shares.{Shares}
use Rattle.rows.specs.Row.{most_row_modulus}
use Rattle.limits.specs.Limits.{most_entries}
use Rattle.series.specs.Series.{Series, Reduced}
use Rattle.series.specs.Inverse.{Inverse}
use Rattle.series.specs.Haunted.{Haunted}
use Rattle.euclid.specs.declared.Shared.{Shared}

-- A number n of entries in range.
pub record Entries (n : ℕ) : Type 0 where
  pub some : 0 < n
  pub most : n ≤ most_entries

-- The call over any modulus that rows of words take: f has n coefficients, whatever numbers, and out has n places.
pub record Attemptable (f out : List ℕ) : Type 0 where
  pub entries : Entries (length f)
  pub room : length out ≡ length f

-- The call modulo a prime.
pub record PrimeSizes (n p : ℕ) : Type 0 where
  pub prime : Prime p
  pub word : p ≤ most_row_modulus
  pub some : 0 < n
  pub most : n ≤ most_entries

pub record Solvable (p : ℕ) (f out : List ℕ) : Type 0 where
  pub sizes : PrimeSizes (length f) p
  pub room : length out ≡ length f

abbrev pub Outcome : Type 0
Outcome = Result (Unit {0}) Shared

-- The answer, by cases: g is the inverse of f, or the ghost.
abbrev pub Solves : ℕ → ℕ → Series → Series → Outcome → Type 0
Solves n m f g (Ok done) = Inverse n m f g
Solves n m f g (Err s) = Haunted n m f s.degree g

pub record Answers (n m : ℕ) (f : Series) (out : List ℕ) (o : Outcome) : Type 0 where
  pub long : length out ≡ n
  pub reduced : Reduced m (at out)
  pub means : Solves n m f (at out) o

-- d divides m, and is neither 1 nor m.
pub record Splits (m d : ℕ) : Type 0 where
  pub above : 1 < d
  pub below : d < m
  pub divides : d ∣ m

-- What is answered modulo any m: that, or a divisor of m.
abbrev pub Reaches : ℕ → ℕ → Series → List ℕ → Result Outcome Shares → Type 0
Reaches n m f out (Ok o) = Answers n m f out o
Reaches n m f out (Err s) = Splits m s.divisor

pub record Attempts (n m : ℕ) (f : Series) (out : List ℕ) (a : Result Outcome Shares) : Type 0 where
  pub long : length out ≡ n
  pub reaches : Reaches n m f out a
