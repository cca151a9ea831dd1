-- What a legal call on rings has been given: rings of one length, 1 to 1,024, modulo m, and m from 2 to 1,000,000. That the checks let pass exactly such
-- calls are `legal` and `order_passes` in proofs/Orders.antt.
use Rattle.std.specs.Prelude.{ℕ, ◌≤◌, ◌<◌, List, [], ◌∷◌, length}
use Rattle.limits.specs.Limits.{most_entries, least_modulus, most_modulus}
use Rattle.ring.specs.Ring.{Ring}

-- Each of the lists is a ring.
abbrev pub Rings : ℕ → ℕ → List (List ℕ) → Type 0
Rings n m [] = Unit {0}
Rings n m (a ∷ l) = Ring n m a × Rings n m l

-- Ring 1 is a, the others follow it.
pub record Legal (a : List ℕ) (others : List (List ℕ)) (m : ℕ) : Type 0 where
  pub some : 0 < length a
  pub few : length a ≤ most_entries
  pub low : least_modulus ≤ m
  pub high : m ≤ most_modulus
  pub ring : Ring (length a) m a
  pub rings : Rings (length a) m others
