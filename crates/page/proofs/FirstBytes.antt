-- "at most 8,250 bytes (no valid sheet is longer than 8,247, and three more show why a longer one is refused)" (document 01): the text of the first 8,250
-- bytes is the text of them all. A sheet that is accepted is no longer, and of one that is refused only the refusal is printed. Assumes nothing.
use Rattle.std.specs.Prelude.{Result}
use Prim.Native.Nat.{ℕ}
use mathlib.Core.Path.{◌≡◌, refl, ap, subst}
use mathlib.Core.List.{List}
use native.Mathlib.Omega.{arith}
use lib.ListN.{take}
use lib.Seq.{take_all}
use Rattle.limits.specs.Limits.{deciding_bytes}
use Rattle.answer.specs.declared.Refusal.{Refusal}
use Rattle.fields.specs.Walk.{Reading, accepted, refused, reading}
use Rattle.fields.proofs.Beyond.{same_reading, accepted_short}
use Rattle.sheet.specs.Held.{Held, held_of}
use Rattle.page.specs.Report.{Displays, Reports}

-- They hold the same, or are refused alike.
same_held : (s : List ℕ) → held_of (take deciding_bytes s) ≡ held_of s
same_held s = by_reading (reading s) refl
  where
    by_reading : (r : Reading) → reading s ≡ r → held_of (take deciding_bytes s) ≡ held_of s
    by_reading (accepted fields) e = let k = accepted_short s fields e in ap held_of (take_all deciding_bytes s (omega arith))
    by_reading (refused r) e = rw (same_reading s, e) refl

pub first-bytes_print : (s old : List ℕ) {new : List ℕ} {end : ℕ} → Reports (take deciding_bytes s) old new end → Reports s old new end
first-bytes_print s old {new} {end} x = record { prints = λ room. subst (λ (found : Result Held Refusal). Displays found old new end) (same_held s) (x.prints room); leaves = x.leaves }
