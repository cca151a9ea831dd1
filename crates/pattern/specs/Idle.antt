-- An idle tank: "every count is zero" (document 02, request 2), modulo m, which is all that a counter can tell.
use Rattle.std.specs.Prelude.{ℕ, ◌%◌, ◌<◌, ◌≡◌, List}
use Rattle.sums.specs.Table.{at}
use Rattle.pattern.specs.Sent.{Sent, entries}
use Rattle.pattern.specs.Heard.{heard}

pub record Idle (n m : ℕ) (c : List ℕ) : Type 0 where
  pub entries : (i : ℕ) → i < n → at c i % m ≡ 0

-- What a logger sends of one: readings behind which there are such counts.
pub record SentIdle (m : ℕ) (s : Sent) : Type 0 where
  pub counts : List ℕ
  pub idle : Idle (entries s) m counts
  pub readings : s.readings ≡ heard m s counts
