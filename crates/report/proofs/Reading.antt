-- What is known of a sheet that was read: its parts lie in it, and are no longer than the rooms. A refusal is the text of the sheet that gets it.
-- Assumes nothing.
use Rattle.std.specs.Prelude.{Some, Result, Ok, Err}
use Prim.Native.Nat.{ℕ, ◌+◌, ◌/◌, ◌≤◌}
use mathlib.Core.Path.{◌≡◌, refl, sym, ◌∙◌}
use mathlib.Core.List.{List}
use native.Mathlib.Omega.{arith}
use lib.ListN.{length, take}
use lib.Seq.{length-take-le}
use Rattle.limits.specs.Limits.{factor_bytes, entry_bytes, most_factor_bytes, most_entry_bytes}
use Rattle.answer.specs.declared.Refusal.{Refusal}
use Rattle.fields.specs.Fields.{bytes_of}
use Rattle.fields.specs.declared.Part.{Part}
use Rattle.lines.specs.Puts.{Puts}
use Rattle.sheet.specs.Entries.{HoldsNumbers}
use Rattle.sheet.specs.Sheets.{sheet_of}
use Rattle.sheet.specs.declared.Sheet.{Sheet}
use Rattle.sheet.proofs.Parts.{Inside, SizedSheet, sheet_inside, sheet_sized}
use Rattle.page.specs.Outcome.{refused}
use Rattle.page.specs.Page.{refusal_line}
use Rattle.page.specs.Report.{text_room, Reports}
use Rattle.page.proofs.Parts.{part_long}

-- A room cut to what a part holds.
pub holds_primes : (part room : List ℕ) → length part / factor_bytes ≤ length room → HoldsNumbers part factor_bytes (length (take (length part / factor_bytes) room))
holds_primes part room h = record { wide = omega arith; whole = omega (arith, length-take-le (length part / factor_bytes) room h) }

pub holds_entries : (part room : List ℕ) → length part / entry_bytes ≤ length room → HoldsNumbers part entry_bytes (length (take (length part / entry_bytes) room))
holds_entries part room h = record { wide = omega arith; whole = omega (arith, length-take-le (length part / entry_bytes) room h) }

module _ (s : List ℕ) {sheet : Sheet} (read : sheet_of s ≡ Ok sheet) where
  inside : Inside s sheet
  inside = sheet_inside s read

  sized : SizedSheet sheet
  sized = sheet_sized s read

  pub factors_lie : sheet.factors.from + sheet.factors.len ≤ length s
  factors_lie = inside.factors

  pub pattern_lies : sheet.pattern.from + sheet.pattern.len ≤ length s
  pattern_lies = inside.pattern

  pub factors_short : length (bytes_of s sheet.factors) ≤ most_factor_bytes
  factors_short = omega (arith, part_long s sheet.factors inside.factors, sized.few)

  pub pattern_short : length (bytes_of s sheet.pattern) ≤ most_entry_bytes
  pattern_short = omega (arith, part_long s sheet.pattern inside.pattern, sized.small)

  module _ {part : Part} (here : sheet.readings ≡ Some part) where
    pub readings_lie : part.from + part.len ≤ length s
    readings_lie = rw here at inside.readings

    same : part.len ≡ sheet.pattern.len
    same = rw here at sized.same

    pub readings_short : length (bytes_of s part) ≤ most_entry_bytes
    readings_short = omega (arith, part_long s part readings_lie, same, sized.small)

pub ruleset parts = (factors_lie, pattern_lies, readings_lie, factors_short, pattern_short, readings_short)

-- The text of a sheet that is refused.
pub reports_refused : (s : List ℕ) {found : Result Sheet Refusal} {r : Refusal} {old new : List ℕ} {end : ℕ} → found ≡ sheet_of s → found ≡ Err r → text_room ≤ length old
    → Puts (refusal_line r) 0 old new end → Reports s old new end
reports_refused s {found} {r} e d room p =
    record { prints = λ h. record { outcome = refused r; fits = rw (sym e ∙ d) refl; puts = rw (sym e ∙ d) p }; leaves = λ h. absurd (omega (arith, room, h)) }
