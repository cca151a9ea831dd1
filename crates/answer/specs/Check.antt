-- What a check finds: nothing, or a refusal.
use Rattle.std.specs.Prelude.{Result}
use Rattle.answer.specs.declared.Refusal.{Refusal}

abbrev pub Check : Type 0
Check = Result (Unit {0}) Refusal
