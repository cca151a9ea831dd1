-- What a legal call with a factor list has been given: legal rings (f is ring 1, the others follow it), and the factor list of m. That the checks let pass
-- exactly such calls are `granted` and `grants` in proofs/Granted.antt.
use Rattle.std.specs.Prelude.{ℕ, ◌≡◌, List, [], ◌∷◌}
use Rattle.modular.specs.FactorList.{FactorList}
use Rattle.checks.specs.Legal.{Legal}
use Rattle.factors.specs.Factored.{Factored}
use Rattle.pattern.specs.Sent.{Sent, entries}

pub record Granted (f : List ℕ) (others : List (List ℕ)) (M : Factored) : Type 0 where
  pub legal : Legal f others M.modulus
  pub factors : FactorList M.modulus M.primes M.exponents

-- Same feeding: "one n, one m". Each side by itself, and that they have as many entries.
pub record BothGranted (s₁ s₂ : Sent) (M : Factored) : Type 0 where
  pub one_size : entries s₂ ≡ entries s₁
  pub first_side : Granted s₁.pattern (s₁.readings ∷ []) M
  pub second_side : Granted s₂.pattern (s₂.readings ∷ []) M
