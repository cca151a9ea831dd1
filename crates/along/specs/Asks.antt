-- What the functions of this crate ask of their callers.
use Rattle.std.specs.Prelude.{ℕ, ◌+◌, ◌*◌, ◌^◌, ◌≤◌, ◌<◌, List, length}
use Rattle.sums.specs.Table.{at}
use Rattle.limits.specs.Limits.{most_modulus}
use Rattle.along.specs.declared.TheConstants.{BLOCK}

-- Factors of 32 bits, and room for their product on top of s.
pub record ProductFits (s x y : ℕ) : Type 0 where
  pub word_x : x < 2 ^ 32
  pub word_y : y < 2 ^ 32
  pub fits : s + x * y < 2 ^ 64

-- Every entry is below some modulus that is allowed.
abbrev pub Low : List ℕ → Type 0
Low l = (i : ℕ) → at l i < most_modulus

-- c reaches three places further than x; x is at most a block long.
pub record OneBlock (x c : List ℕ) : Type 0 where
  pub short : length x ≤ BLOCK
  pub reach : length x + 3 ≤ length c
  pub low_x : Low x
  pub low_c : Low c

-- The same with x of any length, and a modulus.
pub record AnyLength (x c : List ℕ) (m : ℕ) : Type 0 where
  pub reach : length x + 3 ≤ length c
  pub low_x : Low x
  pub low_c : Low c
  pub positive : 0 < m
  pub limit : m ≤ most_modulus
