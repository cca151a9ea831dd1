-- Entries that were read one by one are a table, and what stands in the bytes of one entry. Assumes nothing.
use Rattle.std.proofs.Common.{slice_get, slice_range, IfSome}
use Rattle.std.proofs.lemmas.Option.{slice_get-get_or, MatchOption-at_some}
use Prim.Native.Nat.{ℕ, ◌+◌, ◌*◌, ◌≤◌, ◌<◌}
use mathlib.Core.Path.{◌≡◌, sym, ◌∙◌}
use mathlib.Core.List.{List}
use native.Mathlib.Omega.{arith}
use native.Mathlib.Nat.{add-sub_cancel_left, mul-le-mul_right}
use lib.ListN.{length, drop}
use lib.Seq.{ext_get_or, get_or-take, get_or-drop}
use Rattle.sums.specs.Table.{at, table}
use Rattle.sums.proofs.Tables.{length-table, at_table}
use Rattle.octets.specs.Numbers.{big_endian}
use Rattle.octets.proofs.Numbers.{in_part}
use Rattle.sheet.specs.Entries.{number_of, exponent_of, HoldsNumbers}

module _ (f : ℕ → ℕ) (out new : List ℕ) (long : length new ≡ length out) where
  pub are_table : (P : ℕ → ℕ → Type 0) → ((i : ℕ) → IfSome (slice_get new i) (P i)) → ((i x : ℕ) → i < length out → P i x → x ≡ f i) → new ≡ table (length out) f
  are_table P reads gives =
      ext_get_or 0 new (table (length out) f) (long ∙ sym (length-table (length out) f)) (λ i h.
      let k : i < length out = omega arith in
      gives i (at new i) k (MatchOption-at_some _ (P i) (at new i) (slice_get-get_or new i 0 h) (reads i)) ∙ sym (at_table (length out) f i k))

-- Number i lies in a part that holds more than i.
pub holds_entry : {part : List ℕ} {step count : ℕ} (i : ℕ) → HoldsNumbers part step count → i < count → i * step + step ≤ length part
holds_entry {step = step} i h k = omega (arith, h.whole, mul-le-mul_right step k)

-- ---- the bytes of one entry

pub number_in : (part : List ℕ) (step i : ℕ) → 4 ≤ step → big_endian 4 (slice_range part (i * step) (i * step + step)) 0 ≡ number_of step part i
number_in part step i wide = rw (add-sub_cancel_left (i * step) step) (in_part 4 step part (i * step) wide)

pub exponent_in : (part : List ℕ) (i : ℕ) → at (slice_range part (i * 5) (i * 5 + 5)) 4 ≡ exponent_of part i
exponent_in part i = let last : 4 < 5 = omega arith in rw (add-sub_cancel_left (i * 5) 5, get_or-take 5 (drop (i * 5) part) 4 0, get_or-drop (i * 5) part 4 0)
