-- What the walk over a sheet finds.
use Rattle.std.specs.Prelude.{ℕ, ◌≡◌, List, Result, Ok, Err}
use Rattle.answer.specs.declared.Refusal.{Refusal}
use Rattle.fields.specs.Fields.{Field}
use Rattle.fields.specs.Walk.{accepted, refused, reading}
use Rattle.fields.specs.Kept.{kept}
use Rattle.fields.specs.declared.Fields as declared

-- The fields that the sheet s is, as the code keeps them.
pub record Whole (s : List ℕ) (found : declared.Fields) : Type 0 where
  pub come : List Field
  pub found_is : found ≡ kept come
  pub reads : reading s ≡ accepted come

-- Those, or the refusal that it gets.
abbrev pub Walked : (s : List ℕ) → Result declared.Fields Refusal → Type 0
Walked s (Ok found) = Whole s found
Walked s (Err r) = reading s ≡ refused r
