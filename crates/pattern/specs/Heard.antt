-- "Pattern times counts gives readings." (document 01, Ring, pattern, readings) What the logger that sends s hears of the counts c: its pattern decides,
-- and not the readings that it sends.
use Rattle.std.specs.Prelude.{ℕ, List}
use Rattle.ring.specs.Mix.{mix}
use Rattle.pattern.specs.Sent.{Sent, entries}

unfoldable pub heard : ℕ → Sent → List ℕ → List ℕ
heard m s c = mix (entries s) m s.pattern c
