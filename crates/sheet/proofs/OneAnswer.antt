-- One answer for each sheet: whatever the reader may answer for the same bytes is the same, and so are the parts cut out by it, byte for byte and
-- by their place in memory. Assumes nothing.
use Rattle.std.specs.Prelude.{Result}
use Prim.Native.Nat.{ℕ}
use mathlib.Core.Path.{◌≡◌, sym, ◌∙◌}
use mathlib.Core.List.{List}
use denote.Ref.{Bor}
use Rattle.fields.specs.Fields.{IsPart}
use Rattle.sheet.specs.Sheets.{sheet_of}
use Rattle.answer.specs.declared.Refusal.{Refusal}
use Rattle.fields.specs.declared.Part.{Part}
use Rattle.sheet.specs.declared.Sheet.{Sheet}

pub one_sheet : (s : List ℕ) {a b : Result Sheet Refusal} → a ≡ sheet_of s → b ≡ sheet_of s → a ≡ b
one_sheet s e d = e ∙ sym d

pub one_part : (s : Bor (List ℕ)) (part : Part) {a b : Bor (List ℕ)} → IsPart s part a → IsPart s part b → (a.now ≡ b.now) × (a.ref_ptr ≡ b.ref_ptr)
one_part s part h k = (h.bytes ∙ sym k.bytes, h.place ∙ sym k.place)
