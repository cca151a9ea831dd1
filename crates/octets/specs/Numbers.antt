-- "all numbers high byte first" (document 01, The pattern sheet): the number in the `width` bytes of s from offset o on.
use Rattle.std.specs.Prelude.{ℕ, zero, suc, ◌+◌, ◌*◌, List}
use Rattle.sums.specs.Table.{at}

unfoldable pub big_endian : (width : ℕ) → (s : List ℕ) → (o : ℕ) → ℕ
big_endian zero s o = 0
big_endian (suc width) s o = big_endian width s o * 256 + at s (o + width)
