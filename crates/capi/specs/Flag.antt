-- Yes and no in numbers.
use Rattle.std.specs.Prelude.{ℕ, Bool, true, false}

abbrev pub flag : Bool → ℕ
flag true = 1
flag false = 0
