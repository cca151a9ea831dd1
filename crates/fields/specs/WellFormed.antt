-- Fields that may be written one after another as a sheet of a version, by the table of tags (document 01, The pattern sheet).
use Rattle.std.specs.Prelude.{ℕ, ◌+◌, ◌*◌, ◌<◌, ◌≡◌, false, cond, List, [], ◌∷◌, length, is_some}
use Rattle.limits.specs.Limits.{header_bytes}
use Rattle.fields.specs.Fields.{Field, last_tag, part_of}
use Rattle.fields.specs.Tags.{tags, Right, fit, lacks}
use Rattle.fields.specs.Checks.{above_tags}
use Rattle.fields.specs.Joined.{Value, placed}

-- The version that is told once tag 1 has come.
abbrev pub told_version : (version : ℕ) (come : List Field) → ℕ
told_version version come = cond (is_some (part_of come 1)) version 0

-- Fields of a version that may stand one after another from offset o on, after those that have come, and lack no required tag.
pub record Fits (version : ℕ) (come : List Field) (f : Value) : Type 0 where
  pub fits : fit (tags (told_version version come)) come f.tag (length f.bytes) ≡ Right
  pub above : last_tag come < f.tag
  pub complete : lacks (tags (told_version version come)) come f.tag ≡ false
  pub short : length f.bytes < 256 * 256
  pub tells : f.tag ≡ 1 → f.bytes ≡ version ∷ []

abbrev pub WellFormed : (version : ℕ) (come : List Field) (o : ℕ) → List Value → Type 0
WellFormed version come o [] = lacks (tags (told_version version come)) come above_tags ≡ false
WellFormed version come o (f ∷ fs) = Fits version come f × WellFormed version (placed f o ∷ come) (o + header_bytes + length f.bytes) fs
