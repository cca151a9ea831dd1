-- A check of one case: "given when" its test holds (document 01, Numbers a call can answer with).
use Rattle.std.specs.Prelude.{ℕ, Bool, true, false, Ok, Err}
use Rattle.answer.specs.declared.Case.{Case}
use Rattle.answer.specs.Check.{Check}

-- The case is refused where the test holds, and tells a ring and a place; 0 where it tells none.
abbrev pub refuse_if : Bool → Case → ℕ → ℕ → Check
refuse_if true c ring place = Err (record { case = c; ring = ring; place = place })
refuse_if false c ring place = Ok tt
