-- What the functions below `display` ask of each other, and what they give.
use Rattle.std.specs.Prelude.{ℕ, ◌≤◌, ◌≡◌, List, length, Option, Result, Ok, Err}
use Rattle.std.specs.Borrow.{Bor}
use Rattle.limits.specs.Limits.{most_entries}
use Rattle.ring.specs.Inverse.{Inverse}
use Rattle.answer.specs.First.{first}
use Rattle.pattern.specs.Granted.{Granted}
use Rattle.pattern.specs.Smallest.{Smallest}
use Rattle.pattern.specs.Ghost as ghosts
use Rattle.invert.specs.declared.Ghost.{Ghost}
use Rattle.sheet.specs.Held.{Held, lent}
use Rattle.page.specs.Outcome.{CountsBehind, listed, ring_2, held_order}
use Rattle.page.specs.Report.{text_room}

-- A sheet that holds h and that no check refuses, with room for the text.
pub record LegalSheet (h : Held) (text : List ℕ) : Type 0 where
  pub passes : first (held_order h) ≡ Ok tt
  pub few : length h.pattern ≤ most_entries
  pub room : text_room ≤ length text

-- Legal rings with the factor list, and outputs of their length.
pub record CanSolve (h : Held) (inverse counts : List ℕ) : Type 0 where
  pub granted : Granted h.pattern (ring_2 h.readings) (listed h)
  pub long : length inverse ≡ length h.pattern
  pub counts_long : length counts ≡ length h.pattern

-- The inverse, with the counts where there are readings, or the ghost with its prime.
abbrev pub SolvingMeans : Held → List ℕ → Result (Option (Bor (List ℕ))) Ghost → Type 0
SolvingMeans h g (Ok counts) = Inverse (length h.pattern) h.modulus h.pattern g × CountsBehind h.modulus h.pattern h.readings (lent counts)
SolvingMeans h g (Err why) = Smallest (length h.pattern) h.modulus h.pattern why.prime × ghosts.Ghost (length h.pattern) h.modulus h.pattern why.prime g

pub record Solving (h : Held) (g : List ℕ) (found : Result (Option (Bor (List ℕ))) Ghost) : Type 0 where
  pub means : SolvingMeans h g found
