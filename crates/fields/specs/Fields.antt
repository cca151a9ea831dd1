-- "Tagged fields: tag one byte, length two bytes, value" (document 01, The pattern sheet).
use Rattle.std.specs.Prelude.{ℕ, ◌+◌, ◌≡◌, cond, List, [], ◌∷◌, take, drop, eqb, Option, Some, None, is_some}
use Rattle.std.specs.Borrow.{Bor}
use Rattle.limits.specs.Limits.{header_bytes}
use Rattle.sums.specs.Table.{at}
use Rattle.octets.specs.Numbers.{big_endian}
use Rattle.fields.specs.declared.Part.{Part}

-- A field of a sheet: its tag, the offset of its value's first byte, and its value's length.
pub record Field : Type 0 where
  pub tag : ℕ
  pub from : ℕ
  pub len : ℕ

-- The field that starts at offset o of the sheet s.
abbrev pub tag_at : (s : List ℕ) (o : ℕ) → ℕ
tag_at s o = at s o

abbrev pub length_at : (s : List ℕ) (o : ℕ) → ℕ
length_at s o = big_endian 2 s (o + 1)

abbrev pub field_at : (s : List ℕ) (o : ℕ) → Field
field_at s o = record { tag = tag_at s o; from = o + header_bytes; len = length_at s o }

-- The field after it starts here.
abbrev pub next_at : (s : List ℕ) (o : ℕ) → ℕ
next_at s o = o + header_bytes + length_at s o

-- Fields that have come stand in a list, the last one first.
abbrev pub last_tag : (come : List Field) → ℕ
last_tag [] = 0
last_tag (f ∷ come) = f.tag

-- The part that holds the value of the field with this tag, where such a field has come.
unfoldable pub part_of : (come : List Field) (tag : ℕ) → Option Part
part_of [] tag = None
part_of (f ∷ come) tag = cond (eqb f.tag tag) (Some (record { from = f.from; len = f.len })) (part_of come tag)

-- Where none has come, an empty part.
abbrev pub or_empty : Option Part → Part
or_empty None = record { from = 0; len = 0 }
or_empty (Some part) = part

-- The version that the sheet has told so far; 0 before it tells one.
abbrev pub version_of : (s : List ℕ) (come : List Field) → ℕ
version_of s come = cond (is_some (part_of come 1)) (at s (or_empty (part_of come 1)).from) 0

-- ---- the bytes of a part

abbrev pub bytes_of : (s : List ℕ) → Part → List ℕ
bytes_of s part = take part.len (drop part.from s)

-- The slice r is that part of the slice s: these of its bytes, where they lie in memory.
pub record IsPart (s : Bor (List ℕ)) (part : Part) (r : Bor (List ℕ)) : Type 0 where
  pub bytes : r.now ≡ bytes_of s.now part
  pub place : r.ref_ptr ≡ (s.ref_ptr.0, part.from + s.ref_ptr.1)
