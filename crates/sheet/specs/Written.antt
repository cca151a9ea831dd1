-- A version 1 sheet that is written from its values, and what reads back (document 01, The pattern sheet).
use Rattle.std.specs.Prelude.{ℕ, ◌%◌, ◌≤◌, ◌≡◌, List, [], ◌∷◌, length, Option as std-Option, Some, None, option_map, Result, Ok}
use mathlib.Core.Option.{Option, none, some}
use Rattle.limits.specs.Limits.{modulus_bytes, factor_bytes, entry_bytes, most_factor_bytes, most_entry_bytes}
use Rattle.octets.specs.Numbers.{big_endian}
use Rattle.answer.specs.declared.Refusal.{Refusal}
use Rattle.fields.specs.Fields.{bytes_of}
use Rattle.fields.specs.Joined.{Value}
use Rattle.fields.specs.declared.Part.{Part}
use Rattle.sheet.specs.declared.Sheet.{Sheet}

-- The fields of a version 1 sheet with these values, in their order; the readings are optional.
abbrev pub readings_field : Option (List ℕ) → List Value
readings_field none = []
readings_field (some readings) = record { tag = 5; bytes = readings } ∷ []

abbrev pub version_1 : (modulus factors pattern : List ℕ) (readings : Option (List ℕ)) → List Value
version_1 modulus factors pattern readings =
    record { tag = 1; bytes = 1 ∷ [] }
    ∷ record { tag = 2; bytes = modulus }
    ∷ record { tag = 3; bytes = factors }
    ∷ record { tag = 4; bytes = pattern }
    ∷ readings_field readings

-- The lengths of document 01's table.
abbrev pub ReadingsFit : (pattern : List ℕ) → Option (List ℕ) → Type 0
ReadingsFit pattern none = Unit {0}
ReadingsFit pattern (some readings) = length readings ≡ length pattern

pub record Lengths (modulus factors pattern : List ℕ) (readings : Option (List ℕ)) : Type 0 where
  pub four : length modulus ≡ modulus_bytes
  pub fives : length factors % factor_bytes ≡ 0
  pub few : length factors ≤ most_factor_bytes
  pub fours : length pattern % entry_bytes ≡ 0
  pub small : length pattern ≤ most_entry_bytes
  pub same : ReadingsFit pattern readings

-- What reads back.
abbrev pub ReadingsBack : (s : List ℕ) → std-Option Part → Option (List ℕ) → Type 0
ReadingsBack s part none = part ≡ None
ReadingsBack s part (some readings) = option_map (bytes_of s) part ≡ Some readings

pub record Back (s : List ℕ) (read : Result Sheet Refusal) (modulus factors pattern : List ℕ) (readings : Option (List ℕ)) : Type 0 where
  pub sheet : Sheet
  pub accepted : read ≡ Ok sheet
  pub modulus_is : sheet.modulus ≡ big_endian 4 modulus 0
  pub factors_are : bytes_of s sheet.factors ≡ factors
  pub pattern_is : bytes_of s sheet.pattern ≡ pattern
  pub readings_are : ReadingsBack s sheet.readings readings
