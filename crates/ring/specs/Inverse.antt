-- "The g with f times g equal to 1 modulo x^n - 1 and m" (demand 2): a ring g that mixed with f gives one.
use Rattle.std.specs.Prelude.{ℕ, ◌≡◌, List}
use Rattle.ring.specs.Ring.{Ring}
use Rattle.ring.specs.Mix.{mix}
use Rattle.ring.specs.One.{one}

pub record Inverse (n m : ℕ) (f g : List ℕ) : Type 0 where
  pub ring : Ring n m g
  pub product : mix n m f g ≡ one n m

-- f has an inverse.
pub record Invertible (n m : ℕ) (f : List ℕ) : Type 0 where
  pub inverse : List ℕ
  pub is : Inverse n m f inverse
