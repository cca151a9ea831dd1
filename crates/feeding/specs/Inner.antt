-- What the functions behind same feeding give.
use Rattle.std.specs.Prelude.{ℕ, false, []}
use Rattle.answer.specs.Contract.{Meets}
use Rattle.pattern.specs.Sent.{Sent}
use Rattle.pattern.specs.Promises.{Compared, NamesRing}
use Rattle.feeding.specs.Told.{Verdict, answer_in, yes}

-- The contract of same feeding, with no check left.
pub record Judged (m : ℕ) (s₁ s₂ : Sent) (v : Verdict) : Type 0 where
  pub meets : Meets [] (Compared m s₁ s₂) (NamesRing m s₁ s₂) false (answer_in v) (yes v)
