-- "The smallest count c with 2^c at least k." (document 01, How 000 gets there)
use Rattle.std.specs.Prelude.{ℕ, ◌^◌, ◌≤◌}

pub record Rounds (k c : ℕ) : Type 0 where
  pub enough : k ≤ 2 ^ c
  pub least : (d : ℕ) → k ≤ 2 ^ d → c ≤ d
