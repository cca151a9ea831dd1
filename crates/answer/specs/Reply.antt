-- An answer in document 01's numbers: 0 for done, else the number of its row of the table, with the values that the row tells and 0 for those that it does not.
use Rattle.std.specs.Prelude.{ℕ, ◌≡◌, Ok, Err}
use Rattle.answer.specs.Numbers.{row, refusal_row, singular_row}
use Rattle.answer.specs.declared.Row.{Row}
use Rattle.answer.specs.declared.Told.{Told}
use Rattle.answer.specs.declared.Told.TheVariants.{Nothing, Ring, RingAndPlace, RingAndPrime, Place}
use Rattle.answer.specs.declared.Refusal.{Refusal}
use Rattle.answer.specs.Check.{Check}
use Rattle.answer.specs.Answer.{Answer}
use Rattle.answer.specs.declared.Failure.TheVariants.{Singular, Refused}
use Rattle.answer.specs.declared.Reply.{Reply}

abbrev pub tell_values : (told : Told) (number ring place prime : ℕ) → Reply
tell_values Nothing k r i p = record { number = k; prime = 0; ring = 0; place = 0 }
tell_values Ring k r i p = record { number = k; prime = 0; ring = r; place = 0 }
tell_values RingAndPlace k r i p = record { number = k; prime = 0; ring = r; place = i }
tell_values RingAndPrime k r i p = record { number = k; prime = p; ring = r; place = 0 }
tell_values Place k r i p = record { number = k; prime = 0; ring = 0; place = i }

abbrev pub tell : Row → (ring place prime : ℕ) → Reply
tell row = tell_values row.told row.number

abbrev pub refusal_reply : Refusal → Reply
refusal_reply r = tell (refusal_row r.case) r.ring r.place 0

abbrev pub reply : Answer → Reply
reply (Ok _) = tell (row 0 Nothing) 0 0 0
reply (Err (Singular r p)) = tell singular_row r 0 p
reply (Err (Refused r)) = refusal_reply r

-- What a check finds, alone.
abbrev pub check_reply : Check → Reply
check_reply (Ok _) = reply (Ok tt)
check_reply (Err r) = refusal_reply r

-- A reply that is the number of an answer which fits.
pub record Replied (Fits : Answer → Type 0) (r : Reply) : Type 0 where
  pub answer : Answer
  pub fits : Fits answer
  pub is : r ≡ reply answer
