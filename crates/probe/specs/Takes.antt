-- What the extended Euclid takes: n coefficients below a prime p, n and p within the limits, and an output of n places.
use Rattle.std.specs.Prelude.{ℕ, ◌≤◌, ◌<◌, ◌≡◌, Bool, true, List, length}
use Rattle.sums.specs.Table.{at}
use Rattle.limits.specs.Limits.{most_entries, most_modulus}
use Rattle.modular.specs.Prime.{Prime}

abbrev pub AllBelow : ℕ → List ℕ → Type 0
AllBelow p f = (i : ℕ) → i < length f → at f i < p

pub record Takes (f : List ℕ) (p room : ℕ) : Type 0 where
  pub some : 0 < length f
  pub few : length f ≤ most_entries
  pub same : room ≡ length f
  pub limit : p ≤ most_modulus
  pub prime : Prime p
  pub low : AllBelow p f

-- r tells whether A holds.
pub record Tells (A : Type 0) (r : Bool) : Type 0 where
  pub is : r ≡ true → A
  pub told : A → r ≡ true
