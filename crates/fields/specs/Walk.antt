-- What a sheet is, for every run of bytes: fields one after another up to its end, or a refusal. (document 01, The pattern sheet)
use Rattle.std.specs.Prelude.{ℕ, zero, suc, cond, List, [], ◌∷◌, leb, length, Ok, Err}
use Rattle.answer.specs.First.{first}
use Rattle.answer.specs.Check.{Check}
use Rattle.answer.specs.declared.Refusal.{Refusal}
use Rattle.fields.specs.Fields.{Field, field_at, next_at}
use Rattle.fields.specs.Checks.{field_order, end_check}

pub data Reading : Type 0 where
  accepted : (come : List Field) → Reading
  refused : Refusal → Reading

-- What a check leaves of a reading.
abbrev pub unless : Check → Reading → Reading
unless (Ok _) reading = reading
unless (Err r) reading = refused r

-- The fields from offset o on, after those that have come. A field takes three bytes or more, so there are no more fields than bytes; `most` counts down.
unfoldable pub walk : (most : ℕ) (s : List ℕ) (come : List Field) (o : ℕ) → Reading
walk zero s come o = unless (end_check s come) (accepted come)
walk (suc most) s come o =
    cond (leb (length s) o) (unless (end_check s come) (accepted come))
    (unless (first (field_order s come o)) (walk most s (field_at s o ∷ come) (next_at s o)))

unfoldable pub reading : List ℕ → Reading
reading s = walk (length s) s [] 0
