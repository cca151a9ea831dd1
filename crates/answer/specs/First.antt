-- "The first that applies is given, and none is given otherwise." (document 01, Numbers a call can answer with)
use Rattle.std.specs.Prelude.{List, [], ◌∷◌, Ok, Err}
use Rattle.answer.specs.Check.{Check}

-- What a check finds, or else what the next one finds.
abbrev pub or : Check → Check → Check
or (Ok _) next = next
or (Err r) next = Err r

-- The first of a list of checks that finds something.
abbrev pub first : List Check → Check
first [] = Ok tt
first (c ∷ l) = or c (first l)
