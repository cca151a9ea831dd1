-- What the code has of a sheet: the tags by name, the header of a field, and what it keeps of the fields that have come.
use Rattle.std.specs.Prelude.{ℕ, ◌-◌, ◌≡◌, ◌≢◌, cond, List, ltb, length, Option, Some, None, Result, MatchResult}
use Rattle.limits.specs.Limits.{header_bytes}
use Rattle.fields.specs.Fields.{Field, tag_at, length_at, last_tag, part_of}
use Rattle.fields.specs.declared.Tag.{Tag}
use Rattle.fields.specs.declared.Tag.TheVariants.{Version, Modulus, Factors, Pattern, Readings}
use Rattle.fields.specs.declared.UnknownTag.{UnknownTag}
use Rattle.fields.specs.declared.Header.{Header}
use Rattle.fields.specs.declared.Fields as declared

-- The byte that stands for a tag.
abbrev pub number : Tag → ℕ
number Version = 1
number Modulus = 2
number Factors = 3
number Pattern = 4
number Readings = 5

-- The tag that a byte stands for, or that it stands for none.
abbrev pub Names : (byte : ℕ) → Result Tag UnknownTag → Type 0
Names byte named = MatchResult named (λ tag. number tag ≡ byte) (λ e. (tag : Tag) → number tag ≢ byte)

-- The header of the field at offset o, where it is whole.
abbrev pub header : (s : List ℕ) (o : ℕ) → Option Header
header s o = cond (ltb (length s - o) header_bytes) None (Some (record { tag = tag_at s o; len = length_at s o }))

-- Fields that have come, as the code keeps them.
abbrev pub kept : List Field → declared.Fields
kept come = record {
  last = last_tag come;
  version = part_of come 1;
  modulus = part_of come 2;
  factors = part_of come 3;
  pattern = part_of come 4;
  readings = part_of come 5;
}

-- What holds whichever fields have come that the code keeps so.
abbrev pub WhenKept : declared.Fields → (List Field → Type 0) → Type 0
WhenKept found holds = (come : List Field) → found ≡ kept come → holds come
