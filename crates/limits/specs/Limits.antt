-- "n is 1 to 1,024. m is 2 to 1,000,000." (document 01, Ring, pattern, readings) The same names stand in src/lib.rt for the code.
use Rattle.std.specs.Prelude.{ℕ, ◌+◌, ◌*◌}

abbrev pub most_entries : ℕ
most_entries = 1024

abbrev pub least_modulus : ℕ
least_modulus = 2

abbrev pub most_modulus : ℕ
most_modulus = 1000000

-- The most decimal digits of a modulus, and so of an entry.
abbrev pub most_digits : ℕ
most_digits = 7

-- "One to seven entries suffice." (The most entries of a factor list.)
abbrev pub most_factors : ℕ
most_factors = 7

-- ---- The pattern sheet, in bytes

-- "Tagged fields: tag one byte, length two bytes, value."
abbrev pub header_bytes : ℕ
header_bytes = 3

abbrev pub version_bytes : ℕ
version_bytes = 1

abbrev pub modulus_bytes : ℕ
modulus_bytes = 4

-- "prime in four bytes, exponent in one, repeated"
abbrev pub factor_bytes : ℕ
factor_bytes = 5

-- "four bytes an entry"
abbrev pub entry_bytes : ℕ
entry_bytes = 4

abbrev pub most_factor_bytes : ℕ
most_factor_bytes = most_factors * factor_bytes

abbrev pub most_entry_bytes : ℕ
most_entry_bytes = most_entries * entry_bytes

-- "no valid sheet is longer than 8,247": the five fields of the table of tags, each with its header and its longest value; readings are as long as the pattern.
abbrev pub most_sheet_bytes : ℕ
most_sheet_bytes = 5 * header_bytes + version_bytes + modulus_bytes + most_factor_bytes + most_entry_bytes + most_entry_bytes

-- "and three more show why a longer one is refused": the first bytes of a sheet that decide what it means.
abbrev pub deciding_bytes : ℕ
deciding_bytes = most_sheet_bytes + header_bytes
