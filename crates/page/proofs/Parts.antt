-- The bytes of a part that lies in a sheet are as many as it says. Assumes nothing.
use Prim.Native.Nat.{ℕ, ◌+◌, ◌≤◌}
use mathlib.Core.Path.{◌≡◌}
use mathlib.Core.List.{List}
use native.Mathlib.Omega.{arith}
use lib.ListN.{length, drop, length-take, length-drop}
use Rattle.fields.specs.declared.Part.{Part}
use Rattle.fields.specs.Fields.{bytes_of}

pub part_long : (s : List ℕ) (part : Part) → part.from + part.len ≤ length s → length (bytes_of s part) ≡ part.len
part_long s part h = omega (arith, length-take part.len (drop part.from s), length-drop part.from s)
