-- What is told of the inverse of y modulo m: kind 0 and the inverse, kind 1 and the greatest common divisor, or kind 2 where m is below 2. That only one
-- answer fits is `one_number` in proofs/OneAnswer.antt.
use Rattle.std.specs.Prelude.{ℕ, ◌≤◌, ◌<◌, ◌≡◌, ◌⊎◌, Result, Ok, Err}
use Rattle.modular.specs.Finds.{Finds}
use Rattle.modular.specs.declared.inverse.Shares.{Shares}
use Rattle.probe.specs.declared.Number.{Number}

abbrev pub number_of : Result ℕ Shares → Number
number_of (Ok z) = record { kind = 0; value = z }
number_of (Err s) = record { kind = 1; value = s.divisor }

pub record NumberFound (y m : ℕ) (r : Number) : Type 0 where
  pub taken : 2 ≤ m
  pub found : Result ℕ Shares
  pub finds : Finds m y found
  pub told : r ≡ number_of found

pub record NumberRefused (m : ℕ) (r : Number) : Type 0 where
  pub small : m < 2
  pub told : r ≡ record { kind = 2; value = 0 }

abbrev pub TellsInverse : ℕ → ℕ → Number → Type 0
TellsInverse y m r = NumberFound y m r ⊎ NumberRefused m r
