-- The parts of the extended Euclid: what its small functions ask and answer.
use Rattle.std.specs.Prelude.{ℕ, ◌+◌, ◌<◌, ◌≡◌, List, length, Result, Ok, Err}
use Rattle.sums.specs.Table.{at}
use Rattle.modular.specs.Inverse.{InverseOf}
use Rattle.modular.specs.declared.inverse.Shares.{Shares}
use Rattle.series.specs.Series.{Series}
use Rattle.series.specs.Rows.{State}
use Rattle.series.specs.Operations.{mul, zeros, one, term, xn_minus_one}
use Rattle.division.specs.Limits.{places}
use Rattle.division.specs.Division.{Coefficients, Held, Divided}
use Rattle.division.specs.Terms.{Trimmed}
use Rattle.division.specs.declared.Row.{Row}
use Rattle.euclid.specs.Answer.{Outcome, Entries, Answers, Splits}
use Rattle.euclid.specs.declared.modulo.Modulus.{Modulus}

-- An array that holds a polynomial.
pub record HoldsPolynomial (a : List ℕ) (s : Series) : Type 0 where
  pub long : length a ≡ places
  pub is : at a ≡ s

-- The rows between two divisions.
pub record Standing (n m : ℕ) (f : Series) (a b : Row) : Type 0 where
  pub state : State n m f a.len b.len (at a.remainder) (at b.remainder) (at a.cofactor) (at b.cofactor)
  pub first : Held m a
  pub second : Held m b

-- What one division asks, whatever f is.
pub record Steppable (n : ℕ) (m : Modulus) (a b : Row) : Type 0 where
  pub entries : Entries n
  pub f : Series
  pub standing : Standing n m.value f a b
  pub some : 0 < b.len

-- What it leaves: the remainder of a, or a divisor of m, where the leading number of b has no inverse.
abbrev pub Leaves : ℕ → Row → Row → Row → Result (Unit {0}) Shares → Type 0
Leaves m a r b (Ok done) = Divided m a r b
Leaves m a r b (Err s) = Splits m s.divisor

pub record AfterStep (m : ℕ) (a r b : Row) (t : Result (Unit {0}) Shares) : Type 0 where
  pub leaves : Leaves m a r b t

-- What the whole descent asks: the rows as they begin, the first with x^n - 1 and the second with at most n coefficients.
pub record Beginning (n : ℕ) (m : Modulus) (a b : Row) : Type 0 where
  pub entries : Entries n
  pub cycle : HoldsPolynomial a.remainder (xn_minus_one n m.value)
  pub zero : HoldsPolynomial a.cofactor zeros
  pub whole : a.len ≡ n + 1
  pub pattern : Coefficients m.value b.remainder
  pub unit : HoldsPolynomial b.cofactor one
  pub trimmed : Trimmed b.remainder n b.len

-- The last divisor's row a, and the row b, whose remainder is 0.
pub record Last (n : ℕ) (m : Modulus) (a b : Row) : Type 0 where
  pub entries : Entries n
  pub f : Series
  pub standing : Standing n m.value f a b
  pub none : b.len ≡ 0

-- The answer is right for each f that the rows may be of.
pub record Finished (n m : ℕ) (a b : Row) (out : List ℕ) (o : Outcome) : Type 0 where
  pub answers : (f : Series) → Standing n m f a b → Answers n m f out o

-- A number from 1 to m - 1 that has an inverse.
pub record HasInverse (m y : ℕ) : Type 0 where
  pub some : 0 < y
  pub low : y < m
  pub inverse : ℕ
  pub is : InverseOf m y inverse

-- src over y: each coefficient times the inverse of y.
pub record Dividable (m : Modulus) (y : ℕ) (src out : List ℕ) : Type 0 where
  pub number : HasInverse m.value y
  pub low : (i : ℕ) → at src i < m.value
  pub room : length out ≡ length src

pub record Over (m y : ℕ) (src out : List ℕ) : Type 0 where
  pub z : ℕ
  pub inverse : InverseOf m y z
  pub long : length out ≡ length src
  pub is : at out ≡ mul m (term z 0) (at src)
