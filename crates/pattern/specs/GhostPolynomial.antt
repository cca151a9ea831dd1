-- "w the monic polynomial of least degree with f times w zero modulo x^n - 1 and p, coefficients 0 to p-1. Its degree is below n."
-- (document 01, When there is no inverse) Of least degree: among all v, not zero, with f times v zero. That there is only one is `one_polynomial` in
-- proofs/Link.antt, and that it is the `Ghost` of crate series `ghost_series`.
use Rattle.std.specs.Prelude.{ℕ, ◌≤◌, ◌<◌, ◌≡◌, ◌≢◌, List}
use Rattle.sums.specs.Table.{at}
use Rattle.ring.specs.Ring.{Ring}
use Rattle.ring.specs.Mix.{mix}
use Rattle.ring.specs.One.{zeros}

-- The degree of a polynomial that is not zero.
pub record Degree (v : List ℕ) (d : ℕ) : Type 0 where
  pub last : at v d ≢ 0
  pub above : (i : ℕ) → d < i → at v i ≡ 0

pub record GhostPolynomial (n p : ℕ) (f w : List ℕ) : Type 0 where
  pub ring : Ring n p w
  pub degree : ℕ
  pub is : Degree w degree
  pub monic : at w degree ≡ 1
  pub zero : mix n p f w ≡ zeros n
  pub least : (v : List ℕ) (d : ℕ) → Ring n p v → Degree v d → mix n p f v ≡ zeros n → degree ≤ d
