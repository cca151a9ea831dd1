-- What a sheet tells of its parts: they lie in it, and their lengths are right. Assumes nothing.
use Rattle.std.specs.Prelude.{Option, Some, None, Ok, IfSome}
use Prim.Native.Nat.{ℕ, ◌+◌, ◌≤◌}
use mathlib.Core.Path.{◌≡◌, refl, subst}
use mathlib.Core.List.{List}
use lib.ListN.{length}
use Rattle.octets.specs.Numbers.{big_endian}
use Rattle.fields.specs.Fields.{Field, part_of, or_empty}
use Rattle.fields.specs.Walk.{Reading, accepted, refused, reading}
use Rattle.fields.specs.declared.Part.{Part}
use Rattle.fields.proofs.Sound.{accepted_whole, part_inside}
use Rattle.fields.proofs.Table.{Sized, accepted_sized}
use Rattle.sheet.specs.Sheets.{told, sheet_of}
use Rattle.sheet.specs.declared.Sheet.{Sheet}

abbrev pub Lies : (s : List ℕ) → Part → Type 0
Lies s part = part.from + part.len ≤ length s

-- The parts that a sheet tells lie in it.
pub record Inside (s : List ℕ) (sheet : Sheet) : Type 0 where
  pub factors : Lies s sheet.factors
  pub pattern : Lies s sheet.pattern
  pub readings : IfSome sheet.readings (Lies s)

-- And their lengths are right.
abbrev pub SizedSheet : Sheet → Type 0
SizedSheet sheet = Sized sheet.factors sheet.pattern sheet.readings

where_come : (s : List ℕ) (part : Option Part) → Lies s (or_empty part) → IfSome part (Lies s)
where_come s None h = tt
where_come s (Some part) h = h

module _ (s : List ℕ) where
  abbrev of_fields : List Field → Sheet
  of_fields come = record { modulus = big_endian 4 s (or_empty (part_of come 2)).from; factors = or_empty (part_of come 3); pattern = or_empty (part_of come 4); readings = part_of come 5 }

module _ (s : List ℕ) {sheet : Sheet} where
  told_inside : (r : Reading) → reading s ≡ r → told s r ≡ Ok sheet → Inside s sheet
  told_inside (accepted come) e d =
      let whole = accepted_whole s come e in
      let lies = λ (tag : ℕ). part_inside s come tag whole.sound in
      let same : of_fields s come ≡ sheet = cc in
      subst (Inside s) same (record { factors = lies 3; pattern = lies 4; readings = where_come s (part_of come 5) (lies 5) })
  told_inside (refused r) e d = cc

  pub sheet_inside : sheet_of s ≡ Ok sheet → Inside s sheet
  sheet_inside d = told_inside (reading s) refl d

  told_sized : (r : Reading) → reading s ≡ r → told s r ≡ Ok sheet → SizedSheet sheet
  told_sized (accepted come) e d = let same : of_fields s come ≡ sheet = cc in subst SizedSheet same (accepted_sized s come e)
  told_sized (refused r) e d = cc

  pub sheet_sized : sheet_of s ≡ Ok sheet → SizedSheet sheet
  sheet_sized d = told_sized (reading s) refl d
