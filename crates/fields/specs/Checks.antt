-- "Per field, in this order: 20 if fewer than three header bytes are left; 21 if the tag isn't 1 to 5 or isn't above the one before; 23 if a lower
-- required tag hasn't come; 22 if the length is wrong; 20 if the value is cut; 24 if the version isn't 1. At the end of the sheet, 23 if tag 1, 2, 3
-- or 4 is missing. Each tells the offset of the field's first byte, or for 23 at the end the sheet's length." (document 01, The pattern sheet)
use Rattle.std.specs.Prelude.{ℕ, ◌+◌, ◌-◌, Bool, true, false, not, ◌&&◌, ◌||◌, List, [], ◌∷◌, eqb, ltb, leb, length}
use Rattle.limits.specs.Limits.{header_bytes}
use Rattle.sums.specs.Table.{at}
use Rattle.answer.specs.Refuse.{refuse_if}
use Rattle.answer.specs.declared.Case.TheVariants.{Cut, Tag, Length, Missing, Version}
use Rattle.answer.specs.Check.{Check}
use Rattle.fields.specs.Fields.{Field, tag_at, length_at, last_tag, version_of}
use Rattle.fields.specs.Tags.{tags, known_version, Fit, Unknown, Wrong, Right, fit, lacks}

abbrev pub is_unknown : Fit → Bool
is_unknown Unknown = true
is_unknown Wrong = false
is_unknown Right = false

abbrev pub is_wrong : Fit → Bool
is_wrong Unknown = false
is_wrong Wrong = true
is_wrong Right = false

-- A bound above every tag, since a tag is one byte.
abbrev pub above_tags : ℕ
above_tags = 256

-- A field at offset o of the sheet s with this tag and length, after the fields that have come: 21, 23, 22, 20, 24.
unfoldable pub value_order : (s : List ℕ) (come : List Field) (o tag len : ℕ) → List Check
value_order s come o tag len =
    let rows = tags (version_of s come) in
    refuse_if (is_unknown (fit rows come tag len) || leb tag (last_tag come)) Tag 0 o
    ∷ refuse_if (lacks rows come tag) Missing 0 o
    ∷ refuse_if (is_wrong (fit rows come tag len)) Length 0 o
    ∷ refuse_if (ltb (length s - (o + header_bytes)) len) Cut 0 o
    ∷ refuse_if (eqb tag 1 && not (known_version (at s (o + header_bytes)))) Version 0 o
    ∷ []

-- The same of the field that stands there, after 20 for its header.
unfoldable pub field_order : (s : List ℕ) (come : List Field) (o : ℕ) → List Check
field_order s come o = refuse_if (ltb (length s - o) header_bytes) Cut 0 o ∷ value_order s come o (tag_at s o) (length_at s o)

-- At the end of the sheet.
abbrev pub end_check : (s : List ℕ) (come : List Field) → Check
end_check s come = refuse_if (lacks (tags (version_of s come)) come above_tags) Missing 0 (length s)
