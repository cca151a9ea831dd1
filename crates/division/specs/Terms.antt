-- The parts of a division: what its small functions ask and answer.
use Rattle.std.specs.Prelude.{ℕ, ◌+◌, ◌-◌, ◌*◌, ◌%◌, ◌≤◌, ◌<◌, ◌≡◌, List, length}
use Rattle.sums.specs.Table.{at}
use Rattle.division.specs.Limits.{places}
use Rattle.series.specs.Series.{Below, Length}
use Rattle.division.specs.Division.{Modulus, Coefficients, Divisible}
use Rattle.series.specs.Operations.{add, mul, linear}
use Rattle.division.specs.declared.Row.{Row}
use Rattle.division.specs.declared.Terms.{Terms}

-- The first len places, past which all is 0.
pub record Front (a : List ℕ) (len : ℕ) : Type 0 where
  pub below : Below len (at a)
  pub inside : len ≤ length a

-- How many of the first len coefficients are left when the zeros at the top are dropped.
pub record Trimmed (a : List ℕ) (len l : ℕ) : Type 0 where
  pub length : Length (at a) l
  pub most : l ≤ len

-- Two numbers below p.
pub record Residues (p x z : ℕ) : Type 0 where
  pub left : x < p
  pub right : z < p

-- c is - x z.
pub record Digit (p x z c : ℕ) : Type 0 where
  pub low : c < p
  pub sum : (c + x * z) % p ≡ 0

-- The first l places of a list, at least one.
pub record Place (a : List ℕ) (l : ℕ) : Type 0 where
  pub some : 0 < l
  pub inside : l ≤ length a

-- The dividend's first top coefficients are more than the divisor's.
pub record Longer (p top : ℕ) (a b : Row) (z : ℕ) : Type 0 where
  pub division : Divisible p top a b z
  pub order : b.len < top
  pub most : top ≤ places

-- The next two terms of the quotient: they take the two top places of a away. The higher is 0 where there is nothing to take away.
pub record NextTerms (p top : ℕ) (a b : Row) (t : Terms) : Type 0 where
  pub low : t.low.modulus ≡ p
  pub high : t.high.modulus ≡ p
  pub shift : t.shift ≡ top - b.len - 1
  pub away : Below (top - 2) (add p (at a.remainder) (mul p (linear t.low.value t.high.value t.shift) (at b.remainder)))
  pub none : at a.remainder (top - 1) ≡ 0 → t.high.value ≡ 0

-- Terms that can be added to a, times b.
pub record AddableTerms (t : Terms) (len : ℕ) (a b : List ℕ) : Type 0 where
  pub modulus : Modulus t.low.modulus
  pub same : t.high.modulus ≡ t.low.modulus
  pub onto : Coefficients t.low.modulus a
  pub from : Coefficients t.low.modulus b
  pub below : Below len (at b)
  pub room : t.shift + len < places

-- a is a₀ and the terms times b.
pub record Added (t : Terms) (a₀ a b : List ℕ) : Type 0 where
  pub held : Coefficients t.low.modulus a
  pub sum : at a ≡ add t.low.modulus (at a₀) (mul t.low.modulus (linear t.low.value t.high.value t.shift) (at b))
