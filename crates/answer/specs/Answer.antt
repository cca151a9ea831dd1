-- The answer of a call that fills an output: done, or why not.
use Rattle.std.specs.Prelude.{Result}
use Rattle.answer.specs.declared.Failure.{Failure}

abbrev pub Answer : Type 0
Answer = Result (Unit {0}) Failure
