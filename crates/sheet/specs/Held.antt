-- What an accepted sheet holds, in numbers (document 01, The pattern sheet).
use Rattle.std.specs.Prelude.{ℕ, List, Option as std-Option, Some, None, Result, Ok, Err, option_map}
use Rattle.std.specs.Borrow.{Bor}
use mathlib.Core.Option.{Option, none, some}
use Rattle.answer.specs.declared.Refusal.{Refusal}
use Rattle.fields.specs.Fields.{bytes_of}
use Rattle.sheet.specs.Sheets.{sheet_of}
use Rattle.sheet.specs.Entries.{entries_of, primes_of, exponents_of}
use Rattle.sheet.specs.declared.Sheet.{Sheet}

pub record Held : Type 0 where
  pub modulus : ℕ
  pub primes : List ℕ
  pub exponents : List ℕ
  pub pattern : List ℕ
  pub readings : Option (List ℕ)

-- Entries that the code has or has not.
abbrev pub given : std-Option (List ℕ) → Option (List ℕ)
given None = none
given (Some entries) = some entries

-- Entries that it has been lent or has not.
abbrev pub lent : std-Option (Bor (List ℕ)) → Option (List ℕ)
lent entries = given (option_map (λ b. b.now) entries)

abbrev pub held : (s : List ℕ) → Sheet → Held
held s sheet = record {
  modulus = sheet.modulus;
  primes = primes_of (bytes_of s sheet.factors);
  exponents = exponents_of (bytes_of s sheet.factors);
  pattern = entries_of (bytes_of s sheet.pattern);
  readings = given (option_map (λ part. entries_of (bytes_of s part)) sheet.readings);
}

-- What the bytes s hold, or their refusal.
abbrev pub held_by : (s : List ℕ) → Result Sheet Refusal → Result Held Refusal
held_by s (Ok sheet) = Ok (held s sheet)
held_by s (Err r) = Err r

abbrev pub held_of : List ℕ → Result Held Refusal
held_of s = held_by s (sheet_of s)
