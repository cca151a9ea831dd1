-- What a sheet holds, as the code has it, and what is shown of it.
use Rattle.std.specs.Prelude.{ℕ, List, Ok}
use Rattle.sheet.specs.Held.{Held, lent}
use Rattle.page.specs.Report.{Displays}
use Rattle.display.specs.declared.Held as code

abbrev pub decoded : code.Held → Held
decoded h = record {
  modulus = h.list.modulus;
  primes = h.list.primes.now;
  exponents = h.list.exponents.now;
  pattern = h.pattern.now;
  readings = lent h.readings;
}

-- The page of what is shown of a sheet that holds h stands in the buffer.
abbrev pub ShowsHeld : Held → (old new : List ℕ) (end : ℕ) → Type 0
ShowsHeld h old new end = Displays (Ok h) old new end
