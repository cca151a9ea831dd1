-- "no valid sheet is longer than 8,247, and three more show why a longer one is refused" (document 01): the first 8,250 bytes, deciding-bytes of `limits`,
-- say what the sheet means. One that is accepted has no more, and one that is refused is refused by its first bytes alone. Assumes nothing.
use Prim.Native.Nat.{ℕ}
use mathlib.Core.Path.{◌≡◌, refl, ap}
use mathlib.Core.List.{List}
use native.Mathlib.Omega.{arith}
use lib.ListN.{take}
use lib.Seq.{take_all}
use Rattle.limits.specs.Limits.{deciding_bytes}
use Rattle.fields.specs.Walk.{Reading, accepted, refused, reading}
use Rattle.fields.proofs.Beyond.{same_reading, accepted_short}
use Rattle.sheet.specs.Sheets.{sheet_of}

pub first-bytes_decide : (s : List ℕ) → sheet_of (take deciding_bytes s) ≡ sheet_of s
first-bytes_decide s = by_reading (reading s) refl
  where
    by_reading : (r : Reading) → reading s ≡ r → sheet_of (take deciding_bytes s) ≡ sheet_of s
    by_reading (accepted fields) e = let k = accepted_short s fields e in ap sheet_of (take_all deciding_bytes s (omega arith))
    by_reading (refused r) e = rw (same_reading s, e)
