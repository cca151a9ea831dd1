-- x^n - 1 has n + 1 coefficients, and an array one place more, since a quotient's terms are taken two at a time: `places`, which is PLACES in
-- src/lib.rt.
use Rattle.std.specs.Prelude.{ℕ, ◌+◌}
use Rattle.limits.specs.Limits.{most_entries}

abbrev pub places : ℕ
places = most_entries + 2
