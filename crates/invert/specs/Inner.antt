-- What the functions behind invert ask of each other, and what they give.
use Rattle.std.specs.Prelude.{ℕ, ◌*◌, ◌%◌, ◌≤◌, ◌<◌, ◌≡◌, ◌≢◌, List, length, Result, Ok, Err}
use Rattle.limits.specs.Limits.{most_entries, most_modulus}
use Rattle.modular.specs.Prime.{Prime}
use Rattle.modular.specs.Finds as finds
use Rattle.ring.specs.Ring.{Ring}
use Rattle.ring.specs.Inverse.{Inverse}
use Rattle.euclid.specs.declared.Shared.{Shared}
use Rattle.lift.specs.declared.power.Power.{Power}
use Rattle.pattern.specs.Singular.{Singular}
use Rattle.pattern.specs.Smallest.{Smallest}
use Rattle.pattern.specs.GhostPolynomial.{GhostPolynomial}
use Rattle.invert.specs.Inversions.{Inversion}
use Rattle.invert.specs.declared.Ghost.{Ghost}

-- A pattern of n entries, a power of a prime, and an output of n entries.
pub record PrimePower (f : List ℕ) (power : Power) (out : List ℕ) : Type 0 where
  pub prime : Prime power.prime
  pub some : 0 < length f
  pub few : length f ≤ most_entries
  pub long : length out ≡ length f

-- The inverse modulo the power, or the ghost polynomial modulo the prime, for which there is none.
abbrev pub PowerMeans : List ℕ → Power → List ℕ → Result (Unit {0}) Shared → Type 0
PowerMeans f power out (Ok _) = Inverse (length f) power.value f out
PowerMeans f power out (Err _) = Singular (length f) power.prime f × GhostPolynomial (length f) power.prime f out

pub record PowerFound (f : List ℕ) (power : Power) (out : List ℕ) (found : Result (Unit {0}) Shared) : Type 0 where
  pub means : PowerMeans f power out found

-- Rings g modulo q and acc modulo big, which share no factor.
pub record Apart (g acc : List ℕ) (q big : ℕ) : Type 0 where
  pub above : 1 < q
  pub limit : q * big ≤ most_modulus
  pub some : 0 < big
  pub apart : (d : ℕ) → finds.Shared q big d → ⊥
  pub ring : Ring (length g) q g
  pub ring' : Ring (length g) big acc

-- acc is the inverse of f modulo big, which the prime does not divide, and its power is what comes next.
pub record NextPower (f : List ℕ) (power : Power) (big : ℕ) (acc : List ℕ) : Type 0 where
  pub prime : Prime power.prime
  pub limit : power.value * big ≤ most_modulus
  pub some : 0 < length f
  pub few : length f ≤ most_entries
  pub positive : 0 < big
  pub apart : big % power.prime ≢ 0
  pub inverse : Inverse (length f) big f acc

-- The inverse modulo the product that is told, or the prime, which is singular, with its ghost polynomial.
abbrev pub ProgressMeans : List ℕ → Power → ℕ → List ℕ → Result ℕ Ghost → Type 0
ProgressMeans f power big acc (Ok next) = (next ≡ power.value * big) × Inverse (length f) (power.value * big) f acc
ProgressMeans f power big acc (Err g) = (g.prime ≡ power.prime) × Singular (length f) power.prime f × GhostPolynomial (length f) power.prime f acc

pub record Progressed (f : List ℕ) (power : Power) (big : ℕ) (acc : List ℕ) (made : Result ℕ Ghost) : Type 0 where
  pub means : ProgressMeans f power big acc made

-- The inverse modulo m, or the smallest singular prime with its ghost polynomial.
abbrev pub SolveMeans : List ℕ → ℕ → List ℕ → Inversion → Type 0
SolveMeans f m out (Ok _) = Inverse (length f) m f out
SolveMeans f m out (Err g) = Smallest (length f) m f g.prime × GhostPolynomial (length f) g.prime f out

pub record Solved (f : List ℕ) (m : ℕ) (out : List ℕ) (found : Inversion) : Type 0 where
  pub means : SolveMeans f m out found
