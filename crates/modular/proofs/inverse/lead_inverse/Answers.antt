-- `modular::inverse::lead_inverse` meets its contract: what is known to be a prime leaves an inverse, and any other modulus is asked. Assumes nothing.
use Rattle.modular.proofs.Inverses.{finds_inverse}
use Rattle.modular.proofs.inverse.lead_inverse.Goals as goal

pub returns-then-prime : goal.returns-then-prime
returns-then-prime c = finds_inverse c.inverse_mod_prime.ensures
