-- The divisions of extended Euclid, two to a turn: what they keep, what they end in, and that they end. So every number modulo m has an inverse or shares a factor with m.
-- Assumes nothing.
use Prim.Native.Nat.{ℕ, zero, suc, ◌+◌, ◌*◌, ◌-◌, ◌/◌, ◌%◌, ◌≤◌, ◌<◌}
use mathlib.Core.Path.{◌≡◌, refl}
use native.Mathlib.Omega.{arith}
use native.Mathlib.Decide.{ℕ_discrete}
use native.Mathlib.Nat.{mod-lt}
use Rattle.modular.specs.Inverse.{InverseOf, Nonzero}
use Rattle.modular.specs.Finds.{Finds}
use Rattle.modular.specs.declared.inverse.Shares.{Shares}
use Rattle.std.proofs.Common.{Result, Ok, Err}
use Rattle.modular.proofs.Euclid.{Rows, rows_start, rows_swap, rows_turn, rows_low, rows_below, rows_gcd, rows_inverse, rows_opposite, rows_some}
use Rattle.modular.proofs.Inverses.{finds_inverse, finds_shares, prime_shares}

pub record Dividing (m y a b s t : ℕ) : Type 0 where
  pub rows : Rows m y 1 (m - 1) a b s t
  pub modulus : 1 < m
  pub below : b < a
  pub above : 1 < a

pub dividing_start : (m y : ℕ) → 1 < m → Dividing m y m (y % m) 1 0
dividing_start m y h = record { rows = rows_start m y (m - 1) (omega arith) (omega arith); modulus = h; below = mod-lt y (omega arith); above = h }

module _ {m y a b s t : ℕ} (v : Dividing m y a b s t) where
  -- The turn is over before it begins.
  pub end_inverse : b ≡ 1 → Finds m y (Ok s)
  end_inverse e = finds_inverse (rows_inverse v.rows e refl v.modulus (rows_below (rows_swap v.rows) v.above (omega (arith, v.modulus))))

  pub end_shares : b ≡ 0 → Finds m y (Err (record { divisor = a }))
  end_shares e = finds_shares (record { above = v.above; gcd = rows_gcd (rows_swap v.rows) e })

  -- After the first division.
  half : Rows m y 1 (m - 1) (a % b) b s (t + a / b * s)
  half = rows_turn v.rows

  pub half_low : 0 < b → t + a / b * s ≤ m
  half_low h = rows_low half h

  pub half_inverse : 1 < b → a % b ≡ 1 → Finds m y (Ok (m - (t + a / b * s)))
  half_inverse h e =
      finds_inverse (rows_opposite (rows_swap half) (m - (t + a / b * s)) e refl v.modulus (omega (arith, half_low (omega arith))) (omega (arith, v.modulus, rows_some (rows_swap half) e v.modulus)))

  pub half_shares : 1 < b → a % b ≡ 0 → Finds m y (Err (record { divisor = b }))
  half_shares h e = finds_shares (record { above = h; gcd = rows_gcd half e })

  -- After the second.
  full : Rows m y 1 (m - 1) (a % b) (b % (a % b)) (s + b / (a % b) * (t + a / b * s)) (t + a / b * s)
  full = rows_swap (rows_turn (rows_swap half))

  pub full_low : 0 < a % b → s + b / (a % b) * (t + a / b * s) ≤ m
  full_low h = rows_low (rows_swap full) h

  pub full_next : 1 < a % b → Dividing m y (a % b) (b % (a % b)) (s + b / (a % b) * (t + a / b * s)) (t + a / b * s)
  full_next h = record { rows = full; modulus = v.modulus; below = mod-lt b (omega arith); above = h }

  pub full_less : 0 < b → 0 < a % b → b % (a % b) < b
  full_less h k = omega (arith, mod-lt a {m = b} h, mod-lt b {m = a % b} k)

-- By the size of b.
pub found : (m y : ℕ) → 1 < m → (r : Result ℕ Shares) × Finds m y r
found m y h = go m m (y % m) 1 0 (dividing_start m y h) (mod-lt y (omega arith))
  where
    go : (n a b s t : ℕ) → Dividing m y a b s t → b < n → (r : Result ℕ Shares) × Finds m y r
    go zero a b s t v l = absurd (omega arith)
    go (suc n) a b s t v l = turn (ℕ_discrete b 0) (ℕ_discrete b 1) (ℕ_discrete (a % b) 0) (ℕ_discrete (a % b) 1) (go n (a % b) (b % (a % b)) _ (t + a / b * s))
      where
        turn : Dec (b ≡ 0) → Dec (b ≡ 1) → Dec (a % b ≡ 0) → Dec (a % b ≡ 1)
            → (Dividing m y (a % b) (b % (a % b)) (s + b / (a % b) * (t + a / b * s)) (t + a / b * s) → b % (a % b) < n → (r : Result ℕ Shares) × Finds m y r) → (r : Result ℕ Shares) × Finds m y r
        turn (yes e) o z u next = (Err (record { divisor = a }), end_shares v e)
        turn (no e) (yes o) z u next = (Ok s, end_inverse v o)
        turn (no e) (no o) (yes z) u next = (Err (record { divisor = b }), half_shares v (omega arith) z)
        turn (no e) (no o) (no z) (yes u) next = (Ok _, half_inverse v (omega arith) u)
        turn (no e) (no o) (no z) (no u) next = next (full_next v (omega arith)) (omega (arith, full_less v (omega arith) (omega arith)))

-- Modulo a prime there is always an inverse.
pub prime_inverse : (p y : ℕ) → Nonzero p y → (z : ℕ) × InverseOf p y z
prime_inverse p y n = pick (found p y (omega (arith, n.prime.two)))
  where
    pick : (r : Result ℕ Shares) × Finds p y r → (z : ℕ) × InverseOf p y z
    pick (Ok z, f) = (z, (f.inverse z).0 refl)
    pick (Err d, f) = absurd (prime_shares n ((f.shares d.divisor).0 refl))
