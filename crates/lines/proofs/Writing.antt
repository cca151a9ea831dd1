-- What is written to a text one after another is written all together. Assumes nothing.
use mathlib.Core.Path.{◌≡◌, ◌∙◌}
use mathlib.Core.List.{List, ◌++◌}
use Prim.Native.Nat.{ℕ}
use Rattle.lines.specs.declared.Text.{Text}
use Rattle.lines.specs.Items.{Item}
use Rattle.lines.specs.Puts.{Room}
use Rattle.lines.specs.Writes.{Writes}
use Rattle.lines.proofs.Putting.{puts_append}

pub writes_append : {items more : List Item} {s t u : Text} → Writes items s t → Writes more t u → Writes (items ++ more) s u
writes_append w v = record { same_buffer = v.same_buffer ∙ w.same_buffer; puts = puts_append w.puts v.puts }

-- The room for what is written to an empty text.
pub room_new : {items : List Item} {old bytes : List ℕ} {start : ℕ} → bytes ≡ old → start ≡ 0 → Room items 0 old → Room items start bytes
room_new same empty r = rw (same, empty) r
