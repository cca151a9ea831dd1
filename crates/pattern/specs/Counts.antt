-- "Pattern and readings give the counts" (document 01, The calls, Unmix): the ring c that is heard as the readings that were sent.
-- That it "is the inverse mixed with the readings", and the only one, are theorems in proofs/Unmixing.antt.
use Rattle.std.specs.Prelude.{ℕ, ◌≡◌, List}
use Rattle.ring.specs.Ring.{Ring}
use Rattle.ring.specs.Inverse.{Invertible}
use Rattle.pattern.specs.Sent.{Sent, entries}
use Rattle.pattern.specs.Heard.{heard}

pub record Counts (m : ℕ) (s : Sent) (c : List ℕ) : Type 0 where
  pub ring : Ring (entries s) m c
  pub readings : heard m s c ≡ s.readings

-- They can be told: the pattern has an inverse.
pub record Unmixed (m : ℕ) (s : Sent) (c : List ℕ) : Type 0 where
  pub invertible : Invertible (entries s) m s.pattern
  pub counts : Counts m s c
