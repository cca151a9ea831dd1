-- Numbers of two and of four bytes, written out, and a number in a part of the bytes. Assumes nothing.
use Prim.Native.Nat.{ℕ, zero, suc, ◌+◌, ◌*◌, ◌≤◌}
use mathlib.Core.Path.{◌≡◌, refl}
use mathlib.Core.List.{List}
use native.Mathlib.Omega.{arith}
use native.Mathlib.Nat.{add-zero, zero-add}
use lib.ListN.{take, drop}
use lib.Seq.{get_or-take, get_or-drop}
use Rattle.sums.specs.Table.{at}
use Rattle.octets.specs.Numbers.{big_endian}

pub two_bytes : (s : List ℕ) (o : ℕ) → big_endian 2 s o ≡ at s o * 256 + at s (o + 1)
unfolding big_endian
two_bytes s o = rw (add-zero o) (omega arith)

pub four_bytes : (s : List ℕ) (o : ℕ) → big_endian 4 s o ≡ ((at s o * 256 + at s (o + 1)) * 256 + at s (o + 2)) * 256 + at s (o + 3)
unfolding big_endian
four_bytes s o = rw (add-zero o) (omega arith)

-- A number is the same in a part that holds it.
pub in_part : (width n : ℕ) (s : List ℕ) (o : ℕ) → width ≤ n → big_endian width (take n (drop o s)) 0 ≡ big_endian width s o
unfolding big_endian
in_part zero n s o h = refl
in_part (suc width) n s o h =
    let e : at (take n (drop o s)) (0 + width) ≡ at s (o + width) = rw (zero-add width, get_or-take n (drop o s) width 0, get_or-drop o s width 0) in
    rw (e, in_part width n s o (omega arith))
