-- What the functions below `report` ask of each other.
use Rattle.std.specs.Prelude.{ℕ, ◌≤◌, ◌≡◌, List, length, Option, IfSome, option_map, Ok}
use Rattle.std.specs.Borrow.{Bor}
use Rattle.limits.specs.Limits.{most_factor_bytes, most_entry_bytes}
use Rattle.sheet.specs.Sheets.{sheet_of}
use Rattle.sheet.specs.Entries.{entries_of, primes_of, exponents_of}
use Rattle.sheet.specs.declared.Sheet.{Sheet}
use Rattle.sheet.specs.Held.{Held, given}
use Rattle.page.specs.Report.{text_room}

-- What a sheet holds in its parts.
abbrev pub in_parts : (factors pattern : List ℕ) (readings : Option (Bor (List ℕ))) (m : ℕ) → Held
in_parts factors pattern readings m = record {
  modulus = m;
  primes = primes_of factors;
  exponents = exponents_of factors;
  pattern = entries_of pattern;
  readings = given (option_map (λ part. entries_of part.now) readings);
}

-- Parts that are no longer than a sheet's, with room for the text.
pub record Parts (factors pattern : List ℕ) (readings : Option (Bor (List ℕ))) (text : List ℕ) : Type 0 where
  pub factors_short : length factors ≤ most_factor_bytes
  pub pattern_short : length pattern ≤ most_entry_bytes
  pub readings_short : IfSome readings (λ part. length part.now ≤ most_entry_bytes)
  pub room : text_room ≤ length text

-- A sheet that was read, with room for the text.
pub record Accepted (s : List ℕ) (sheet : Sheet) (text : List ℕ) : Type 0 where
  pub read : sheet_of s ≡ Ok sheet
  pub room : text_room ≤ length text
