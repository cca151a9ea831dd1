-- The only facts that know the values of `BLOCK` and `most_modulus`: each is a comparison of numbers, and computed.
-- Assumes nothing.
use Prim.Native.Nat.{ℕ, ◌+◌, ◌*◌, ◌-◌, ◌^◌, ◌≤◌, ◌<◌}
use lib.Dec.{lit<, lit≤}
use Rattle.limits.specs.Limits.{most_modulus}
use Rattle.along.specs.declared.TheConstants.{BLOCK}

-- B (M - 1)² + (M - 1): a block of the largest products, and a remainder beside it.
abbrev pub largest : ℕ
largest = (most_modulus - 1) * (most_modulus - 1)

pub block_fits : BLOCK * largest + (most_modulus - 1) < 2 ^ 64
block_fits = lit< tt

pub modulus_fits : most_modulus ≤ 2 ^ 32
modulus_fits = lit≤ tt
