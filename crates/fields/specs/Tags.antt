-- The table of document 01, "The pattern sheet": the tags that a version knows, which of them a sheet must have, and their lengths.
use Rattle.std.specs.Prelude.{ℕ, ◌%◌, Bool, false, not, cond, ◌&&◌, ◌||◌, List, [], ◌∷◌, eqb, ltb, leb, is_some}
use Rattle.limits.specs.Limits.{version_bytes, modulus_bytes, factor_bytes, entry_bytes, most_factor_bytes, most_entry_bytes}
use Rattle.fields.specs.Fields.{Field, part_of, or_empty}

pub data Presence : Type 0 where
  required : Presence
  optional : Presence

pub data Rule : Type 0 where
  exactly : (n : ℕ) → Rule
  multiple_of : (step : ℕ) (most : ℕ) → Rule
  that_of : (tag : ℕ) → Rule

pub data Row : Type 0 where
  row : (tag : ℕ) → Presence → Rule → Row

-- The rows of a version; 0 stands for a version that is not told yet.
unfoldable pub tags : (version : ℕ) → List Row
tags version =
    row 1 required (exactly version_bytes)
    ∷ row 2 required (exactly modulus_bytes)
    ∷ row 3 required (multiple_of factor_bytes most_factor_bytes)
    ∷ row 4 required (multiple_of entry_bytes most_entry_bytes)
    ∷ row 5 optional (that_of 4)
    ∷ []

-- "24 if the version isn't 1".
abbrev pub known_version : ℕ → Bool
known_version version = eqb version 1

-- ---- what a table says, whatever its rows

abbrev pub right : (come : List Field) → Rule → (len : ℕ) → Bool
right come (exactly n) len = eqb len n
right come (multiple_of step most) len = eqb (len % step) 0 && leb len most
right come (that_of tag) len = eqb len (or_empty (part_of come tag)).len

-- How a tag and a length stand to the table.
pub data Fit : Type 0 where
  Unknown : Fit
  Wrong : Fit
  Right : Fit

-- Whether the tag is known, and the length right, after the fields that have come.
abbrev pub fit : List Row → (come : List Field) (tag len : ℕ) → Fit
fit [] come tag len = Unknown
fit (row t presence rule ∷ rows) come tag len = cond (eqb tag t) (cond (right come rule len) Right Wrong) (fit rows come tag len)

-- Whether a required tag below the bound has not come.
abbrev pub lacks : List Row → (come : List Field) (bound : ℕ) → Bool
lacks [] come bound = false
lacks (row t required rule ∷ rows) come bound = (ltb t bound && not (is_some (part_of come t))) || lacks rows come bound
lacks (row t optional rule ∷ rows) come bound = lacks rows come bound
