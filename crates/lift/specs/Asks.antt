-- What lifting and joining ask of their callers, and what they give.
use Rattle.std.specs.Prelude.{ℕ, ◌+◌, ◌*◌, ◌^◌, ◌≤◌, ◌<◌, ◌≡◌, List, length}
use Rattle.std.specs.Int.{◌∣◌}
use Rattle.sums.specs.Table.{at}
use Rattle.limits.specs.Limits.{most_entries, most_modulus}
use Rattle.modular.specs.Inverse.{InverseOf}
use Rattle.ring.specs.Ring.{Ring}
use Rattle.ring.specs.Inverse.{Inverse}
use Rattle.lift.specs.declared.power.Power.{Power}

-- Two rings of one length modulo q.
pub record Lessened (g h : List ℕ) (q : ℕ) : Type 0 where
  pub positive : 0 < q
  pub limit : q ≤ most_modulus
  pub long : length h ≡ length g
  pub low_g : (k : ℕ) → at g k < q
  pub low_h : (k : ℕ) → at h k < q

-- A round modulo q: g is a ring modulo q, and the three slices lent for what lies between have n entries.
pub record Round (f g : List ℕ) (q : ℕ) (pattern square product : List ℕ) : Type 0 where
  pub positive : 0 < q
  pub limit : q ≤ most_modulus
  pub some : 1 ≤ length f
  pub few : length f ≤ most_entries
  pub ring : Ring (length f) q g
  pub pattern_long : length pattern ≡ length f
  pub square_long : length square ≡ length f
  pub product_long : length product ≡ length f

-- "Each round doubles the power of p for which g is right" (document 01, How 000 gets there): where g was the inverse of f modulo some r, with r a
-- divisor of q and q one of r², it becomes the inverse modulo q.
pub record Rounded (f g : List ℕ) (q : ℕ) (new : List ℕ) : Type 0 where
  pub inverse : (r : ℕ) → r ∣ q → q ∣ r * r → Inverse (length f) r f g → Inverse (length f) q f new

-- From a prime to its power: g is the inverse of f modulo the prime.
pub record Liftable (f g : List ℕ) (power : Power) : Type 0 where
  pub some : 1 ≤ length f
  pub few : length f ≤ most_entries
  pub inverse : Inverse (length f) power.prime f g

pub record Blendable (x y first second m : ℕ) : Type 0 where
  pub positive : 0 < m
  pub word : m ≤ 2 ^ 32
  pub fits : first * x + second * y < 2 ^ 64

pub record Blends (g acc : List ℕ) (first second m : ℕ) : Type 0 where
  pub long : length acc ≡ length g
  pub each : (k : ℕ) → Blendable (at g k) (at acc k) first second m

-- Rings g modulo q and acc modulo M, and z the inverse of M modulo q.
pub record Joinable (g acc : List ℕ) (q M z : ℕ) : Type 0 where
  pub limit : q * M ≤ most_modulus
  pub some : 0 < M
  pub inverse : InverseOf q M z
  pub ring : Ring (length g) q g
  pub ring' : Ring (length g) M acc

-- "The prime powers are joined by Chinese remaindering, entry by entry" (document 01, How 000 gets there): where g and acc were inverses of one
-- pattern, modulo q and modulo M, it becomes the inverse modulo their product.
pub record Joined (g acc : List ℕ) (q M : ℕ) (new : List ℕ) : Type 0 where
  pub inverse : (f : List ℕ) → Inverse (length g) q f g → Inverse (length g) M f acc → Inverse (length g) (q * M) f new
