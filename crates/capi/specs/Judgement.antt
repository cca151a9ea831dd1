-- The answer of same feeding in numbers: the reply in document 01's numbers, and 1 for yes, 0 for no and where there is neither.
use Rattle.std.specs.Prelude.{ℕ, ◌≡◌, Bool, Result}
use Rattle.answer.specs.Reply.{reply}
use Rattle.answer.specs.Answer.{Answer}
use Rattle.answer.specs.declared.Reply.{Reply}
use Rattle.pattern.specs.Sent.{Sent}
use Rattle.factors.specs.Factored.{Factored}
use Rattle.pattern.specs.Promises.{SameFeeding}
use Rattle.answer.specs.declared.Failure.{Failure}
use Rattle.feeding.specs.Told.{answer_in, yes}
use Rattle.capi.specs.Flag.{flag}
use Rattle.capi.specs.declared.Judgement as declared

abbrev pub judgement : Reply → ℕ → declared.Judgement
judgement r same = record { number = r.number; prime = r.prime; ring = r.ring; place = r.place; same = same }

-- What same feeding tells in code.
abbrev pub judgement_of : Result Bool Failure → declared.Judgement
judgement_of told = judgement (reply (answer_in told)) (flag (yes told))

pub record Judges (s₁ s₂ : Sent) (M : Factored) (r : declared.Judgement) : Type 0 where
  pub answer : Answer
  pub same : Bool
  pub fits : SameFeeding s₁ s₂ M answer same
  pub is : r ≡ judgement (reply answer) (flag same)
