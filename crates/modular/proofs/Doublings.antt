-- With m the digits of k - 1 in binary, k is above 2^(m-1) and at most 2^m: m doublings are enough, and no fewer. Assumes nothing.
use Prim.Native.Nat.{ℕ, ◌+◌, ◌-◌, ◌*◌, ◌^◌, ◌≤◌, ◌<◌}
use mathlib.Core.Path.{subst}
use native.Mathlib.Omega.{arith}
use native.Mathlib.Decide.{dec_le}
use lib.Pow.{pow_mono, pow-add}
use lib.Count.{count_leading_zeros, leading_length}
use Rattle.modular.specs.Rounds.{Rounds}

pub rounds_digits : (k : ℕ) → 1 ≤ k → k - 1 < 2 ^ 32 → Rounds k (32 - count_leading_zeros 32 (k - 1))
rounds_digits k p h =
    let l = leading_length 32 (k - 1) h in
    subst (Rounds k) (omega (arith, l.1)) (rounds_of l.0 (omega (arith, l.2)) (omega (arith, l.3)))
  where
    -- m is the smallest, since one less falls short.
    rounds_of : (m : ℕ) → k ≤ 2 ^ m → 2 ^ m < 2 * k → Rounds k m
    rounds_of m enough short = record {
      enough = enough;
      least = λ d g. elim (dec_le m d) [ yes l ↦ l | no l ↦ absurd (omega (arith, pow_mono {i = d + 1} {j = m} (omega arith), pow-add 2 d 1)) ];
    }
