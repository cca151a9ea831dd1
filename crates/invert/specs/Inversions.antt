-- Inverting where nothing is left to check: what `invert_legal` asks and gives, and the answer of a call that inverts a pattern.
use Rattle.std.specs.Prelude.{ℕ, ◌≡◌, List, [], length, Result, Ok, Err}
use Rattle.ring.specs.Inverse.{Inverse}
use Rattle.answer.specs.declared.Failure.{Failure}
use Rattle.answer.specs.declared.Failure.TheVariants.{Singular}
use Rattle.factors.specs.Factored.{Factored}
use Rattle.pattern.specs.Granted.{Granted}
use Rattle.pattern.specs.Smallest.{Smallest}
use Rattle.pattern.specs.Ghost as ghosts
use Rattle.invert.specs.declared.Ghost.{Ghost}

-- A legal pattern with the factor list of m, and an output of its length.
pub record CanInvert (f : List ℕ) (M : Factored) (out : List ℕ) : Type 0 where
  pub granted : Granted f [] M
  pub long : length out ≡ length f

-- What inverting comes to.
abbrev pub Inversion : Type 0
Inversion = Result (Unit {0}) Ghost

-- "One of the inverse, the ghost with its prime": what stands in the output.
abbrev pub InvertMeans : List ℕ → ℕ → List ℕ → Inversion → Type 0
InvertMeans f m out (Ok _) = Inverse (length f) m f out
InvertMeans f m out (Err g) = Smallest (length f) m f g.prime × ghosts.Ghost (length f) m f g.prime out

pub record Inverting (f : List ℕ) (m : ℕ) (out : List ℕ) (found : Inversion) : Type 0 where
  pub means : InvertMeans f m out found

-- Why the call fails, where the pattern is that ring of the call.
abbrev pub of_ring : Ghost → ℕ → Failure
of_ring g ring = Singular ring g.prime
