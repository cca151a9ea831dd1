-- Fields written one after another: "tag one byte, length two bytes, value; all numbers high byte first" (document 01, The pattern sheet).
use Rattle.std.specs.Prelude.{ℕ, ◌+◌, ◌/◌, ◌%◌, List, [], ◌∷◌, ◌++◌, length}
use Rattle.limits.specs.Limits.{header_bytes}
use Rattle.fields.specs.Fields.{Field}

pub record Value : Type 0 where
  pub tag : ℕ
  pub bytes : List ℕ

abbrev pub field_bytes : Value → List ℕ
field_bytes f = f.tag ∷ (length f.bytes / 256) ∷ (length f.bytes % 256) ∷ f.bytes

unfoldable pub joined : List Value → List ℕ
joined [] = []
joined (f ∷ fs) = field_bytes f ++ joined fs

-- The fields of a sheet so written from offset o on, after those that have come.
abbrev pub placed : Value → (o : ℕ) → Field
placed f o = record { tag = f.tag; from = o + header_bytes; len = length f.bytes }

unfoldable pub all_placed : List Value → (come : List Field) (o : ℕ) → List Field
all_placed [] come o = come
all_placed (f ∷ fs) come o = all_placed fs (placed f o ∷ come) (o + header_bytes + length f.bytes)
