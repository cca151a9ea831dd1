-- `lines::put_digits` meets its contract: a number from 10 on is its tenth, written before, and one more digit; a tenth is smaller. Assumes nothing.
use Rattle.lines.proofs.+put_digits.Given as goal

abbrev pub decreases-put_digits : goal.decreases-put_digits
decreases-put_digits l = l.x
