-- Unmixing where nothing is left to check: what `unmix_legal` asks and gives.
use Rattle.std.specs.Prelude.{ℕ, ◌≡◌, List, [], ◌∷◌, length, Ok, Err}
use Rattle.pattern.specs.Sent.{Sent, entries}
use Rattle.factors.specs.Factored.{Factored}
use Rattle.pattern.specs.Granted.{Granted}
use Rattle.pattern.specs.Counts.{Unmixed}
use Rattle.pattern.specs.Smallest.{Smallest}
use Rattle.invert.specs.Inversions.{Inversion, Inverting}

-- A legal pattern and legal readings with the factor list of m, and an output of their length for the counts.
pub record CanCount (s : Sent) (M : Factored) (out : List ℕ) : Type 0 where
  pub granted : Granted s.pattern (s.readings ∷ []) M
  pub long : length out ≡ entries s

-- And one for the inverse.
pub record CanUnmix (s : Sent) (M : Factored) (inverse out : List ℕ) : Type 0 where
  pub counts : CanCount s M out
  pub long : length inverse ≡ entries s

-- The counts stand in the output, or it is as it came.
abbrev pub CountMeans : Sent → ℕ → List ℕ → List ℕ → Inversion → Type 0
CountMeans s m old new (Ok _) = Unmixed m s new
CountMeans s m old new (Err g) = Smallest (entries s) m s.pattern g.prime × (new ≡ old)

pub record Counted (s : Sent) (m : ℕ) (old new : List ℕ) (found : Inversion) : Type 0 where
  pub means : CountMeans s m old new found

-- Besides, the inverse or the ghost stands in the output for it.
pub record Unmixing (s : Sent) (m : ℕ) (old inverse new : List ℕ) (found : Inversion) : Type 0 where
  pub inverting : Inverting s.pattern m inverse found
  pub counted : Counted s m old new found
