-- A division on arrays: what it asks, and that its result is the remainder, with the cofactors alongside. The modulus p is any above 1 that rows of words take;
-- that it is a prime is nowhere asked.
use Rattle.std.specs.Prelude.{ℕ, ◌+◌, ◌-◌, ◌≤◌, ◌<◌, ◌≡◌, List, length}
use Rattle.sums.specs.Table.{at}
use Rattle.modular.specs.Inverse.{InverseOf}
use Rattle.rows.specs.Row.{most_row_modulus}
use Rattle.division.specs.Limits.{places}
use Rattle.division.specs.declared.Row.{Row}
use Rattle.series.specs.Series.{Series, Below, Reduced, Length}
use Rattle.series.specs.Operations.{add, mul}
use Rattle.series.specs.Remainder.{Remainder}

pub record Modulus (p : ℕ) : Type 0 where
  pub two : 1 < p
  pub word : p ≤ most_row_modulus

-- An array of coefficients below p.
pub record Coefficients (p : ℕ) (a : List ℕ) : Type 0 where
  pub long : length a ≡ places
  pub reduced : Reduced p (at a)

-- A row of such arrays.
pub record Held (p : ℕ) (a : Row) : Type 0 where
  pub remainder : Coefficients p a.remainder
  pub cofactor : Coefficients p a.cofactor

-- A dividend a, of which the first l coefficients may be other than 0, and a divisor b, whose leading coefficient has the inverse z.
pub record Divisible (p l : ℕ) (a b : Row) (z : ℕ) : Type 0 where
  pub modulus : Modulus p
  pub dividend : Held p a
  pub divisor : Held p b
  pub below₀ : Below l (at a.remainder)
  pub below₁ : Below b.len (at b.remainder)
  pub some : 0 < b.len
  pub lead : InverseOf p (at b.remainder (b.len - 1)) z

-- The cofactors, done alongside: that of b has at most k coefficients, and that of a has room for the quotient times it.
pub record Cofactors (k : ℕ) (a b : Row) : Type 0 where
  pub below : Below k (at b.cofactor)
  pub room : a.len + 1 - b.len + k ≤ places

-- Both.
pub record Dividing (p k : ℕ) (a b : Row) (z : ℕ) : Type 0 where
  pub division : Divisible p a.len a b z
  pub order : b.len ≤ a.len
  pub room : a.len < places
  pub cofactors : Cofactors k a b

-- a has become r, which is a + q b, with a remainder of r.len coefficients, of smaller degree than that of b.
pub record Divided (p : ℕ) (a r b : Row) : Type 0 where
  pub quotient : Series
  pub short : Below (a.len + 1 - b.len) quotient
  pub remainder : Remainder p (b.len - 1) (at a.remainder) (at b.remainder) quotient (at r.remainder)
  pub cofactor : at r.cofactor ≡ add p (at a.cofactor) (mul p quotient (at b.cofactor))
  pub held : Held p r
  pub length : Length (at r.remainder) r.len
  pub less : r.len < b.len
