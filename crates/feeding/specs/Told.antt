-- The two parts of what same feeding tells: its answer, and beside it whether the feedings are the same, which an answer that is not done leaves open.
use Rattle.std.specs.Prelude.{Bool, false, Result, Ok, Err}
use Rattle.answer.specs.Answer.{Answer}
use Rattle.answer.specs.declared.Failure.{Failure}

abbrev pub Verdict : Type 0
Verdict = Result Bool Failure

abbrev pub answer_in : Verdict → Answer
answer_in (Ok _) = Ok tt
answer_in (Err e) = Err e

abbrev pub yes : Verdict → Bool
yes (Ok same) = same
yes (Err _) = false
