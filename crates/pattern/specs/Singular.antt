-- "A prime p of m is singular for f when f and x^n - 1 share a factor of degree 1 or more in polynomials modulo p." (document 01, When there is no
-- inverse) The ring f "stands for the polynomial whose x^i coefficient is entry i".
use Rattle.std.specs.Prelude.{ℕ, List}
use Rattle.sums.specs.Table.{at}
use Rattle.series.specs.SharedFactor as polynomials

abbrev pub Singular : ℕ → ℕ → List ℕ → Type 0
Singular n p f = polynomials.Singular n p (at f)
