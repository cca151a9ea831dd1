-- The text that the program unmix prints for a sheet, in a lent buffer.
use Rattle.std.specs.Prelude.{ℕ, ◌+◌, ◌*◌, ◌≤◌, ◌<◌, ◌≡◌, List, length, Result}
use Rattle.limits.specs.Limits.{most_entries, most_digits}
use Rattle.lines.specs.Puts.{Puts}
use Rattle.answer.specs.declared.Refusal.{Refusal}
use Rattle.sheet.specs.Held.{Held, held_of}
use Rattle.page.specs.Outcome.{Outcome, AfterReading}
use Rattle.page.specs.Page.{page_of}

-- Room for every text: two rings with a blank before each entry, and the words.
abbrev pub text_room : ℕ
text_room = 2 * most_entries * (1 + most_digits) + 128

-- The page of what may be shown of a sheet that holds so much stands at the start of the buffer and ends at `end`; the rest is as it came.
pub record Displays (found : Result Held Refusal) (old new : List ℕ) (end : ℕ) : Type 0 where
  pub outcome : Outcome
  pub fits : AfterReading found outcome
  pub puts : Puts (page_of found outcome) 0 old new end

-- The text of a sheet. In a buffer without room for every text nothing is written.
pub record Reports (s old new : List ℕ) (end : ℕ) : Type 0 where
  pub prints : text_room ≤ length old → Displays (held_of s) old new end
  pub leaves : length old < text_room → (end ≡ 0) × (new ≡ old)
